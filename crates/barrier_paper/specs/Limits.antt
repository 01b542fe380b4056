-- The limits of barrier papers; src/limits.rt has the same numbers.
use Rattle.std.specs.Prelude.{ℕ}

abbrev pub most_cases : ℕ
most_cases = 16

-- of one case
abbrev pub most_lines : ℕ
most_lines = 16

-- the largest size of a line's weight
abbrev pub most_line_weight : ℕ
most_line_weight = 10000

-- the largest factor of a match
abbrev pub most_factor : ℕ
most_factor = 4095
