use Rattle.walks.proofs.Sufficient.{sufficient}
use Rattle.walks.proofs.totals_give_a_walk.Goals as goal

pub returns : goal.returns
returns c = sufficient
