-- When a divisor and a total for each of some valves account for a walk.
use Rattle.std.specs.Prelude.{◌≡◌, ℕ, suc, ◌+◌, ◌*◌, ◌<◌, ◌≤◌, true, List, [], ◌∷◌}
use Rattle.plant.specs.Net.{Net, turned}
use Rattle.plant.specs.Walk.{Firing, held}
use Rattle.plant.specs.Firings.{taken, given, named}
use Rattle.plant.specs.Starting.{Starts}

-- each total is at least 1
abbrev pub Positive : List Firing → Type 0
Positive [] = Unit {0}
Positive (f ∷ fs) = (1 ≤ f.amount) × Positive fs

-- the valves rise strictly, and none is below n
abbrev pub Rising : ℕ → List Firing → Type 0
Rising n [] = Unit {0}
Rising n (f ∷ fs) = (n ≤ f.valve) × Rising (suc f.valve) fs

-- a divisor and totals as a totals paper gives them
pub record Tallied (w : ℕ) (vs : List Firing) : Type 0 where
  pub divisor : 1 ≤ w
  pub positive : Positive vs
  pub rising : Rising 0 vs

-- the four conditions under which totals are accepted for source A and target B
pub record Meets (N : Net) (A B : List ℕ) (w : ℕ) (vs : List Firing) : Type 0 where
  pub opened : (t : ℕ) → named vs t ≡ true → N.opens t ≡ true
  pub balance : (r : ℕ) → r < N.tanks → w * held A r + given N vs r ≡ w * held B r + taken N vs r
  pub begins : Starts N (held A) (named vs)
  pub ends : Starts (turned N) (held B) (named vs)
