-- A table of amounts or weights, one for each tank that a plant can have.
use Rattle.std.specs.Prelude.{◌≡◌, ℕ, ◌<◌, List, ℤ, pos, slice_index, slice_index_or}
use Rattle.plant.specs.Limits.{most_tanks}
use Rattle.plant.specs.Walk.{Marking}

-- the table has what the marking has in each of these tanks
abbrev pub Tabulates : List ℕ → Marking → Type 0
Tabulates xs m = (r : ℕ) → r < most_tanks → slice_index xs r ≡ m r

-- the weight of a tank; beyond the table there is none
abbrev pub weight_at : List ℤ → ℕ → ℤ
weight_at ws r = slice_index_or ws r (pos 0)
