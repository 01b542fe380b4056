use Rattle.weighing.proofs.Accepting.{accepted_totals_have_a_walk}
use Rattle.weighing.proofs.laws.accepted_totals_have_a_walk.Goals as goal

pub returns : goal.returns
returns c = accepted_totals_have_a_walk
