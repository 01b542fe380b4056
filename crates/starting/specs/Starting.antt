-- The first valve of a set outside its greatest starting part, and what the code that finds it keeps of the valves that went.
use Rattle.std.specs.Prelude.{◌≡◌, ℕ, zero, suc, ◌<◌, Bool, true, false, cond, not, ◌&&◌, List, Some, None, Option, slice_index_or, nat_lt}
use Rattle.std.specs.Option.{option_or}
use Rattle.plant.specs.Net.{Net}
use Rattle.plant.specs.Walk.{Marking}
use Rattle.walks.specs.Rounds.{some_below, greatest}

-- the places of a table that hold true: the set that it stands for
abbrev pub marked : List Bool → ℕ → Bool
marked xs k = slice_index_or xs k false

-- the least number below n that passes
abbrev pub first_below : ℕ → (ℕ → Bool) → Option ℕ
first_below zero p = None
first_below (suc n) p = option_or (first_below n p) (cond (p n) (Some n) None)

-- the first valve of S outside its greatest starting part
abbrev pub left_out : Net → Marking → (ℕ → Bool) → Option ℕ
left_out N m S = first_below N.valves (λ t. S t && not (greatest N m S t))

-- of the valves E that went: the table G has, of each tank, whether one of them gives to it
abbrev pub TellsGiven : Net → (ℕ → Bool) → (ℕ → Bool) → Type 0
TellsGiven N E G = (r : ℕ) → r < N.tanks → G r ≡ some_below N.valves (λ u. E u && nat_lt 0 (N.outlet u r))

-- and all of them are valves of the plant, and in the greatest starting part of S
abbrev pub Within : Net → Marking → (ℕ → Bool) → (ℕ → Bool) → Type 0
Within N m S E = (t : ℕ) → E t ≡ true → (t < N.valves) × (greatest N m S t ≡ true)
