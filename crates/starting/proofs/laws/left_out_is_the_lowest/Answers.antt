use Rattle.starting.proofs.LeftOut.{left_none, none_left, left_some, some_left}
use Rattle.starting.proofs.laws.left_out_is_the_lowest.Goals as goal

pub returns : goal.returns
returns c = record { none_starts = left_none; starts_none = none_left; some_lowest = left_some; lowest_some = some_left }
