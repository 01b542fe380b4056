-- How large the numbers of a line can be.
use Rattle.std.specs.Prelude.{ℕ}

-- a weight, as the sum of a line's words for one tank: at most 8,192 words of a size below 2 ^ 14
abbrev pub most_weight_sum : ℕ
most_weight_sum = 134217728

-- a side of a valve's weights: 64 tanks, each with a line's weight times a valve's weight, which is at most 1,023
abbrev pub most_valve_side : ℕ
most_valve_side = 8787503087616
