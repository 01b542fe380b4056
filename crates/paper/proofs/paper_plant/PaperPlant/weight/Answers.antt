use Rattle.std.proofs.Common.{Some, None, ap, ◌∙◌}
use Rattle.words.specs.Words.{words}
use Rattle.words.specs.Kinds.{number_of}
use Rattle.paper.specs.Plants.{find_arc}
use Rattle.paper.proofs.Searching.{weighs_found}
use Rattle.paper.proofs.paper_plant.PaperPlant.weight.Goals as goal

pub returns-in-Some : goal.returns-in-Some
returns-in-Some c gives e =
    let x = c.args.self.now in
    let ws = words x.arcs.now in
    c.field.ensures
    ∙ weighs_found gives c.args.valve c.args.tank x.counts.tanks x.counts.valves (number_of c.args.kind) ws (Some c.in-Some.arc.bits) c.if-valve-self.false c.if-tank-self.false x.few_valves x.few_tanks x.sided e (c.in-Some.ensures ∙ ap (λ k. find_arc k ws) c.key_of.ensures)

pub returns-in-None : goal.returns-in-None
returns-in-None c gives e =
    let x = c.args.self.now in
    let ws = words x.arcs.now in
    weighs_found gives c.args.valve c.args.tank x.counts.tanks x.counts.valves (number_of c.args.kind) ws None c.if-valve-self.false c.if-tank-self.false x.few_valves x.few_tanks x.sided e (c.in-None.ensures ∙ ap (λ k. find_arc k ws) c.key_of.ensures)
