use Rattle.weighing.proofs.Accepting.{totals_of_walks_are_accepted}
use Rattle.weighing.proofs.laws.totals_of_walks_are_accepted.Goals as goal

pub returns : goal.returns
returns c = totals_of_walks_are_accepted
