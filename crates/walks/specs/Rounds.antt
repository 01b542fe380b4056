-- The greatest starting part of a set, computed: round after round, the valves that what is in so far lets go.
use Rattle.std.specs.Prelude.{ℕ, zero, suc, Bool, true, false, ◌&&◌, ◌||◌, ◌==◌, nat_lt}
use Rattle.plant.specs.Net.{Net}
use Rattle.plant.specs.Walk.{Marking}

-- some, and all, of the numbers below n pass
abbrev pub some_below : ℕ → (ℕ → Bool) → Bool
some_below zero p = false
some_below (suc n) p = some_below n p || p n

abbrev pub all_below : ℕ → (ℕ → Bool) → Bool
all_below zero p = true
all_below (suc n) p = all_below n p && p n

-- a tank holds something, or a valve of E gives to it
abbrev pub filled : Net → Marking → (ℕ → Bool) → ℕ → Bool
filled N m E r = nat_lt 0 (m r) || some_below N.valves (λ u. E u && nat_lt 0 (N.outlet u r))

-- a valve of S that takes only from such tanks
abbrev pub next : Net → Marking → (ℕ → Bool) → (ℕ → Bool) → ℕ → Bool
next N m S E t = S t && all_below N.tanks (λ r. (N.intake t r == 0) || filled N m E r)

-- the valves in after k rounds
abbrev pub rounds : Net → Marking → (ℕ → Bool) → ℕ → ℕ → Bool
rounds N m S zero t = false
rounds N m S (suc k) t = next N m S (rounds N m S k) t

-- as many rounds as there are valves
abbrev pub greatest : Net → Marking → (ℕ → Bool) → ℕ → Bool
greatest N m S t = rounds N m S N.valves t
