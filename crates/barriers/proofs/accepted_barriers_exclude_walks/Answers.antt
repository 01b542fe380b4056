use Rattle.barriers.proofs.Separates.{accepted_excludes}
use Rattle.barriers.proofs.accepted_barriers_exclude_walks.Goals as goal

pub returns : goal.returns
returns c = accepted_excludes
