use Rattle.barriers.proofs.Matches.{good_implies}
use Rattle.barriers.proofs.good_matches_imply.Goals as goal

pub returns : goal.returns
returns c = good_implies
