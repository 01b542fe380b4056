use Rattle.walks.proofs.Wider.{walk_widened}
use Rattle.walks.proofs.closing_adds_no_walk.Goals as goal

pub returns : goal.returns
returns c = walk_widened
