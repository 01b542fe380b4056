-- The theorems on walks, totals and starting.
use Rattle.std.specs.Prelude.{◌≡◌, ℕ, ◌<◌, Bool, true, List, reverse}
use Rattle.plant.specs.Net.{Net, Bounded, turned, narrowed}
use Rattle.plant.specs.Walk.{Firing, Marking, Walk}
use Rattle.plant.specs.Firings.{named, totals, WalkBy}
use Rattle.plant.specs.Starting.{Starts, InGreatest}
use Rattle.plant.specs.Totals.{Tallied, Meets}
use Rattle.walks.specs.Rounds.{greatest}

-- two plants with the same tanks and the same weights
pub record SameWeights (N N' : Net) : Type 0 where
  pub tanks : N'.tanks ≡ N.tanks
  pub intake : (t r : ℕ) → N'.intake t r ≡ N.intake t r
  pub outlet : (t r : ℕ) → N'.outlet t r ≡ N.outlet t r

-- a set has valves of the plant only
abbrev pub Inside : Net → (ℕ → Bool) → Type 0
Inside N S = (t : ℕ) → S t ≡ true → t < N.valves

-- totals that meet the four conditions account for a walk, which fires only the totalled valves
abbrev pub TotalsGiveAWalk : Type 0
TotalsGiveAWalk = (N : Net) → Bounded N → (A B : List ℕ) (w : ℕ) (vs : List Firing) → Tallied w vs → Meets N A B w vs → WalkBy N A B (named vs)

-- the totals of every walk meet the four conditions, with the walk's scale for the divisor
abbrev pub WalksGiveTotals : Type 0
WalksGiveTotals = (N : Net) → Bounded N → (A B : List ℕ) (x : Walk N A B) → Tallied x.scale (totals N x.firings) × Meets N A B x.scale (totals N x.firings)

-- a walk read backwards is a walk of the turned plant, from its end to its beginning
abbrev pub WalksTurn : Type 0
WalksTurn = (N : Net) (A B : List ℕ) (x : Walk N A B) → (y : Walk (turned N) B A) × (y.scale ≡ x.scale) × (y.firings ≡ reverse x.firings)

-- a walk is a walk of every plant with the same weights in which the fired valves are open: the same scale and the same firings
abbrev pub WalksCarryOver : Type 0
WalksCarryOver = (N N' : Net) → SameWeights N N' → (A B : List ℕ) (x : Walk N A B) → ((t : ℕ) → named x.firings t ≡ true → N'.opens t ≡ true) → (y : Walk N' A B) × (y.scale ≡ x.scale) × (y.firings ≡ x.firings)

-- a walk of a plant with fewer open valves is a walk of the plant, so closing valves adds none
abbrev pub ClosingAddsNoWalk : Type 0
ClosingAddsNoWalk = (shut : ℕ → Bool) (N : Net) (A B : List ℕ) (x : Walk (narrowed shut N) A B) → (y : Walk N A B) × (y.scale ≡ x.scale) × (y.firings ≡ x.firings)

-- the rounds compute the greatest starting part: the union of the subsets that start, which starts itself
pub record RoundsFindTheGreatestPart : Type 0 where
  pub starts : (N : Net) (m : Marking) (S : ℕ → Bool) → Inside N S → Starts N m (greatest N m S)
  pub sound : (N : Net) (m : Marking) (S : ℕ → Bool) → Inside N S → (t : ℕ) → greatest N m S t ≡ true → InGreatest N m S t
  pub complete : (N : Net) (m : Marking) (S : ℕ → Bool) → Inside N S → (t : ℕ) → InGreatest N m S t → greatest N m S t ≡ true

-- a set of the plant's valves starts exactly when its greatest starting part is all of it
pub record SetsStartWhole : Type 0 where
  pub all_in : (N : Net) (m : Marking) (S : ℕ → Bool) → Inside N S → Starts N m S → (t : ℕ) → S t ≡ true → greatest N m S t ≡ true
  pub from_all : (N : Net) (m : Marking) (S : ℕ → Bool) → Inside N S → ((t : ℕ) → S t ≡ true → greatest N m S t ≡ true) → Starts N m S
