use Rattle.weighing.proofs.Accepting.{totals_are_weighed_exactly}
use Rattle.weighing.proofs.laws.totals_are_weighed_exactly.Goals as goal

pub returns : goal.returns
returns c = totals_are_weighed_exactly
