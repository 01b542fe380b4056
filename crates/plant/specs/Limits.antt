-- The limits of plants, fillings and totals; src/limits.rt has the same numbers.
use Rattle.std.specs.Prelude.{ℕ}

abbrev pub most_tanks : ℕ
most_tanks = 64

abbrev pub most_valves : ℕ
most_valves = 64

-- the largest intake or outlet weight
abbrev pub most_weight : ℕ
most_weight = 1023

-- the largest amount of one tank in a filling
abbrev pub most_amount : ℕ
most_amount = 1000000

abbrev pub most_divisor : ℕ
most_divisor = 1000000

abbrev pub most_total : ℕ
most_total = 1000000

-- the fewest tanks of a ring main
abbrev pub least_ring : ℕ
least_ring = 2
