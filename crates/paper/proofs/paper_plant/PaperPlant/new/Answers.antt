use Rattle.std.proofs.Common.{sym, refl, ◌∙◌}
use Rattle.paper.proofs.Making.{good, bad, nothing}
use Rattle.paper.proofs.paper_plant.PaperPlant.new.Goals as goal

pub returns-in_default : goal.returns-in_default
returns-in_default c = nothing _ refl ∙ sym (bad c.args.paper.now c.in_default.field-0 c.in_default.ensures)

pub invariant_of-result-2 : goal.invariant_of-result-2
invariant_of-result-2 c = let g = good c.args.paper.now c.in-Ok.counts c.in-Ok.ensures in record { few_tanks = g.few_tanks; few_valves = g.few_valves; sided = g.sided; rises = g.rises }

pub returns : goal.returns
returns c = (good c.args.paper.now c.in-Ok.counts c.in-Ok.ensures).made
