-- What is proved of barriers.
use Rattle.std.specs.Prelude.{◌≡◌, ℕ, ◌*◌, ◌≤◌, true, ◌↔◌, List, Decides}
use Rattle.plant.specs.Net.{Net, Bounded}
use Rattle.plant.specs.Walk.{Marking, Walk}
use Rattle.walks.specs.Theorems.{SameWeights}
use Rattle.barriers.specs.Lines.{Line, Barrier, HoldsLine, HoldsBarrier}
use Rattle.barriers.specs.Steps.{Way, Step, Good, Accepts}
use Rattle.barriers.specs.Tests.{holds_line?, holds_barrier?, good?, accepts?}
use Rattle.barriers.specs.Separator.{Implies, LocallyClosed, LocallyClosedBy, BiInvariant, BiSeparator}

-- a good match is an implication of the published, semantic kind
abbrev pub GoodImplies : Type 0
GoodImplies = (N : Net) (way : Way) (t : ℕ) (ψ ψ' : Line) (p q : ℕ) → Good N way t ψ ψ' p q → Implies N way t ψ ψ'

-- a line holds of k times two markings exactly if it holds of the two
abbrev pub Homogeneous : Type 0
Homogeneous = (n : ℕ) (ψ : Line) (m m' : Marking) (k : ℕ) → 1 ≤ k → HoldsLine n ψ (λ r. k * m r) (λ r. k * m' r) ↔ HoldsLine n ψ m m'

abbrev pub LocallyClosedInvariant : Type 0
LocallyClosedInvariant = (N : Net) (β : Barrier) → LocallyClosed N β → BiInvariant N β

-- what an accepted barrier is
pub record Separates (N : Net) (β : Barrier) (steps : List Step) (A B : List ℕ) : Type 0 where
  pub by_steps : LocallyClosedBy N β steps
  pub locally_closed : LocallyClosed N β
  pub separator : BiSeparator N β A B

abbrev pub AcceptedSeparates : Type 0
AcceptedSeparates = (N : Net) (β : Barrier) (steps : List Step) (A B : List ℕ) → Bounded N → Accepts N β steps A B → Separates N β steps A B

abbrev pub SeparatorExcludes : Type 0
SeparatorExcludes = (N : Net) (β : Barrier) (A B : List ℕ) → BiSeparator N β A B → Walk N A B → ⊥

-- no walk of the plant, nor of any plant with the same weights and fewer open valves
abbrev pub AcceptedExcludes : Type 0
AcceptedExcludes = (N₁ N : Net) (β : Barrier) (steps : List Step) (A B : List ℕ) → Bounded N → Accepts N β steps A B → SameWeights N₁ N → ((t : ℕ) → N₁.opens t ≡ true → N.opens t ≡ true) → Walk N₁ A B → ⊥

-- the tests compute the rule
abbrev pub LineDecided : Type 0
LineDecided = (n : ℕ) (ψ : Line) (m m' : Marking) → Decides (holds_line? n ψ m m') (HoldsLine n ψ m m')

abbrev pub BarrierDecided : Type 0
BarrierDecided = (n : ℕ) (β : Barrier) (m m' : Marking) → Decides (holds_barrier? n β m m') (HoldsBarrier n β m m')

abbrev pub GoodDecided : Type 0
GoodDecided = (N : Net) (way : Way) (t : ℕ) (ψ ψ' : Line) (p q : ℕ) → Decides (good? N way t ψ ψ' p q) (Good N way t ψ ψ' p q)

abbrev pub AcceptanceDecided : Type 0
AcceptanceDecided = (N : Net) (β : Barrier) (steps : List Step) (A B : List ℕ) → Decides (accepts? N β steps A B) (Accepts N β steps A B)
