use Rattle.std.proofs.Common.{Ok, sym, ap, ◌∙◌}
use Rattle.paper.proofs.Rises.{never_head}
use Rattle.paper.proofs.Making.{form_counts}
use Rattle.paper.proofs.paper_plant.check_plant.Goals as goal

pub unreachable-requires : goal.unreachable-requires
unreachable-requires c = never_head c.args.paper.now (sym c.in_ok-counts.ensures ∙ ap Ok c.in-Head.is)

pub returns : goal.returns
returns c = sym (form_counts c.args.paper.now c.in-Arcs.counts.tanks c.in-Arcs.counts.valves c.in-Arcs.least (sym c.in_ok-counts.ensures ∙ ap Ok c.in-Arcs.is))
