use Rattle.barriers.proofs.Separates.{locally_closed_invariant}
use Rattle.barriers.proofs.closed_barriers_stay.Goals as goal

pub returns : goal.returns
returns c = locally_closed_invariant
