use Rattle.barriers.proofs.Scaling.{homogeneous}
use Rattle.barriers.proofs.lines_are_homogeneous.Goals as goal

pub returns : goal.returns
returns c = homogeneous
