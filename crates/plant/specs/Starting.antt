-- Which sets of valves can be set going, one valve after another, from a filling. A set of valves is a test on valve numbers.
use Rattle.std.specs.Prelude.{◌≡◌, ℕ, ◌<◌, ◌≤◌, Bool, true, ◌⊎◌, List, [], ◌∷◌}
use Rattle.plant.specs.Net.{Net}
use Rattle.plant.specs.Walk.{Marking}

abbrev pub Among : ℕ → List ℕ → Type 0
Among t [] = ⊥
Among t (u ∷ us) = (u ≡ t) ⊎ Among t us

abbrev pub Distinct : List ℕ → Type 0
Distinct [] = Unit {0}
Distinct (t ∷ ts) = (Among t ts → ⊥) × Distinct ts

-- one of the valves gives to the tank
pub record Given (N : Net) (us : List ℕ) (r : ℕ) : Type 0 where
  pub giver : ℕ
  pub among : Among giver us
  pub gives : 1 ≤ N.outlet giver r

-- after the earlier valves, each next one takes only from tanks that hold something, or that a valve before it gives to
abbrev pub InOrder : Net → Marking → List ℕ → List ℕ → Type 0
InOrder N m earlier [] = Unit {0}
InOrder N m earlier (t ∷ ts) =
    ((r : ℕ) → r < N.tanks → 1 ≤ N.intake t r → (1 ≤ m r) ⊎ Given N earlier r) × InOrder N m (t ∷ earlier) ts

-- the members of a set can be put in such an order; in the literature a firing set
pub record Starts (N : Net) (m : Marking) (S : ℕ → Bool) : Type 0 where
  pub order : List ℕ
  pub distinct : Distinct order
  pub whole : (t : ℕ) → S t ≡ true → Among t order
  pub only : (t : ℕ) → Among t order → S t ≡ true
  pub fed : InOrder N m [] order

-- a valve of the greatest starting part of a set: the union of its subsets that start
pub record InGreatest (N : Net) (m : Marking) (S : ℕ → Bool) (t : ℕ) : Type 0 where
  pub part : ℕ → Bool
  pub within : (u : ℕ) → part u ≡ true → S u ≡ true
  pub starts : Starts N m part
  pub member : part t ≡ true
