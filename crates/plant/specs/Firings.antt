-- What a list of firings comes to: how much each valve is fired in all, and what is taken from and given to each tank.
use Rattle.std.specs.Prelude.{◌≡◌, ℕ, zero, suc, ◌+◌, ◌*◌, Bool, true, false, cond, ◌||◌, List, [], ◌∷◌, ◌==◌, nat_lt}
use Rattle.plant.specs.Net.{Net}
use Rattle.plant.specs.Walk.{Firing, Walk}

-- the sum over the firings of amount times weight, at one tank
abbrev pub weighed : (ℕ → ℕ → ℕ) → List Firing → ℕ → ℕ
weighed W [] r = 0
weighed W (f ∷ fs) r = f.amount * W f.valve r + weighed W fs r

-- what the firings take from a tank, and what they give to it
abbrev pub taken : Net → List Firing → ℕ → ℕ
taken N fs r = weighed N.intake fs r

abbrev pub given : Net → List Firing → ℕ → ℕ
given N fs r = weighed N.outlet fs r

-- how much a valve is fired in all
abbrev pub total : List Firing → ℕ → ℕ
total [] t = 0
total (f ∷ fs) t = cond (f.valve == t) f.amount 0 + total fs t

-- whether the firings name a valve
abbrev pub named : List Firing → ℕ → Bool
named [] t = false
named (f ∷ fs) t = f.valve == t || named fs t

-- the valves below n with v t > 0, in rising order, each with its amount v t, before what comes after
abbrev pub upto : ℕ → (ℕ → ℕ) → List Firing → List Firing
upto zero v after = after
upto (suc n) v after = upto n v (cond (nat_lt 0 (v n)) (record { valve = n; amount = v n } ∷ after) after)

-- the totals of a list of firings of a plant: each fired valve once, rising, with its summed amounts
abbrev pub totals : Net → List Firing → List Firing
totals N fs = upto N.valves (total fs) []

-- a walk that fires only valves of a set
pub record WalkBy (N : Net) (A B : List ℕ) (S : ℕ → Bool) : Type 0 where
  pub walk : Walk N A B
  pub only : (t : ℕ) → named walk.firings t ≡ true → S t ≡ true
