use Rattle.walks.proofs.Wider.{walk_wider}
use Rattle.walks.proofs.walks_carry_over.Goals as goal

pub returns : goal.returns
returns c = walk_wider
