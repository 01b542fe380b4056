use Rattle.barriers.proofs.Separates.{accepted_separates}
use Rattle.barriers.proofs.accepted_barriers_separate.Goals as goal

pub returns : goal.returns
returns c = accepted_separates
