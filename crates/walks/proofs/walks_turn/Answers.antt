use Rattle.walks.proofs.Runs.{walk_turned}
use Rattle.walks.proofs.walks_turn.Goals as goal

pub returns : goal.returns
returns c = walk_turned
