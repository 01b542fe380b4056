-- Which valve of a set is left out, in terms of the subsets that start.
use Rattle.std.specs.Prelude.{◌≡◌, ℕ, ◌<◌, Bool, true, Some, None}
use Rattle.plant.specs.Net.{Net}
use Rattle.plant.specs.Walk.{Marking}
use Rattle.plant.specs.Starting.{Starts, InGreatest}
use Rattle.walks.specs.Theorems.{Inside}
use Rattle.starting.specs.Starting.{left_out}

-- t is the lowest valve of S outside the greatest starting part of S
pub record FirstOut (N : Net) (m : Marking) (S : ℕ → Bool) (t : ℕ) : Type 0 where
  pub member : S t ≡ true
  pub outside : InGreatest N m S t → ⊥
  pub lowest : (u : ℕ) → u < t → S u ≡ true → InGreatest N m S u

-- no valve is left out exactly when the set starts, and the one that is left out is the lowest outside the greatest starting part
pub record LeftOutIsTheLowest : Type 0 where
  pub none_starts : (N : Net) (m : Marking) (S : ℕ → Bool) → Inside N S → left_out N m S ≡ None → Starts N m S
  pub starts_none : (N : Net) (m : Marking) (S : ℕ → Bool) → Inside N S → Starts N m S → left_out N m S ≡ None
  pub some_lowest : (N : Net) (m : Marking) (S : ℕ → Bool) → Inside N S → (t : ℕ) → left_out N m S ≡ Some t → FirstOut N m S t
  pub lowest_some : (N : Net) (m : Marking) (S : ℕ → Bool) → Inside N S → (t : ℕ) → FirstOut N m S t → left_out N m S ≡ Some t
