use Rattle.walks.proofs.Closure.{starts_all, all_starts}
use Rattle.walks.proofs.sets_start_whole.Goals as goal

pub returns : goal.returns
returns c = record { all_in = starts_all; from_all = all_starts }
