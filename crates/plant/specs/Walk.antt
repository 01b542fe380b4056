-- Walks: what firing valves by whole amounts does to a scaled filling.
use Rattle.std.specs.Prelude.{◌≡◌, ℕ, ◌+◌, ◌*◌, ◌<◌, ◌≤◌, true, List, [], ◌∷◌, slice_index}
use Rattle.plant.specs.Net.{Net}

-- what each tank holds, by tank number; in the literature a marking
abbrev pub Marking : Type 0
Marking = ℕ → ℕ

-- the marking that a filling gives: what is not listed is empty
abbrev pub held : List ℕ → Marking
held A r = slice_index A r

-- a filling k times over
abbrev pub times : ℕ → List ℕ → Marking
times k A r = k * held A r

-- a valve and the whole amount by which it is fired, or is to be fired in all
pub record Firing : Type 0 where
  pub valve : ℕ
  pub amount : ℕ

-- one firing: the valve is open, the amount at least 1, each tank holds what is taken, loses that, and gains what is given
pub record Fires (N : Net) (m : Marking) (f : Firing) (m' : Marking) : Type 0 where
  pub is_open : N.opens f.valve ≡ true
  pub some : 1 ≤ f.amount
  pub holds : (r : ℕ) → r < N.tanks → f.amount * N.intake f.valve r ≤ m r
  pub moves : (r : ℕ) → r < N.tanks → m' r + f.amount * N.intake f.valve r ≡ m r + f.amount * N.outlet f.valve r

-- firing after firing; only the plant's own tanks count
pub data Leads (N : Net) : Marking → List Firing → Marking → Type 0 where
  stays : {m m' : Marking} → ((r : ℕ) → r < N.tanks → m r ≡ m' r) → Leads N m [] m'
  fires : {m m₁ m' : Marking} {f : Firing} {fs : List Firing} → Fires N m f m₁ → Leads N m₁ fs m' → Leads N m (f ∷ fs) m'

-- a walk from filling A to filling B: at some scale k it leads from k times A to k times B
pub record Walk (N : Net) (A B : List ℕ) : Type 0 where
  pub scale : ℕ
  pub positive : 1 ≤ scale
  pub firings : List Firing
  pub leads : Leads N (times scale A) firings (times scale B)
