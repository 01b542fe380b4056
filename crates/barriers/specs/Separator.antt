-- What a barrier is meant to be: a formula over pairs of markings that stays true under firings at either end, and so keeps one
-- filling apart from another. None of this speaks of factors. Markings are whole amounts, and since lines are homogeneous a fact
-- about all markings is one at every scale.
use Rattle.std.specs.Prelude.{◌≡◌, ℕ, ◌+◌, ◌*◌, ◌<◌, ◌≤◌, true, List, length}
use Rattle.plant.specs.Net.{Net}
use Rattle.plant.specs.Walk.{Marking, Firing, Fires}
use Rattle.barriers.specs.Lines.{Line, Case, Barrier, line_at, case_at, HoldsLine, HoldsBarrier, HoldsOf}
use Rattle.barriers.specs.Steps.{Way, forward, backward, Step, step_at}

-- valve t, taken as open, fired by an amount leads from m to m'
pub record Takes (N : Net) (t amount : ℕ) (m m' : Marking) : Type 0 where
  pub some : 1 ≤ amount
  pub holds : (r : ℕ) → r < N.tanks → amount * N.intake t r ≤ m r
  pub moves : (r : ℕ) → r < N.tanks → m' r + amount * N.intake t r ≡ m r + amount * N.outlet t r

-- ψ implies ψ' across a firing of valve t, of all markings and for every amount; backward, across one that leads to the first marking
abbrev pub Implies : Net → Way → ℕ → Line → Line → Type 0
Implies N forward t ψ ψ' = (m m' m'' : Marking) (amount : ℕ) → HoldsLine N.tanks ψ m m' → Takes N t amount m' m'' → HoldsLine N.tanks ψ' m m''
Implies N backward t ψ ψ' = (m₀ m m' : Marking) (amount : ℕ) → Takes N t amount m₀ m → HoldsLine N.tanks ψ m m' → HoldsLine N.tanks ψ' m₀ m'

-- each line of the second case is implied by some line of the first
abbrev pub CaseImplies : Net → Way → ℕ → Case → Case → Type 0
CaseImplies N way t φ φ' = (k : ℕ) → k < length φ' → (l : ℕ) × (l < length φ) × Implies N way t (line_at φ l) (line_at φ' k)

-- every case and open valve, in both directions, has a case that it implies line by line
abbrev pub LocallyClosed : Net → Barrier → Type 0
LocallyClosed N β = (way : Way) (i : ℕ) → i < length β → (t : ℕ) → N.opens t ≡ true → (j : ℕ) × (j < length β) × CaseImplies N way t (case_at β i) (case_at β j)

-- the same, where a step names the case reached
pub record LeadsTo (N : Net) (β : Barrier) (way : Way) (i t : ℕ) (s : Step) : Type 0 where
  pub its_way : s.way ≡ way
  pub its_case : s.from ≡ i
  pub its_valve : s.valve ≡ t
  pub reaches : s.to < length β
  pub implies : CaseImplies N way t (case_at β i) (case_at β s.to)

abbrev pub LocallyClosedBy : Net → Barrier → List Step → Type 0
LocallyClosedBy N β steps = (way : Way) (i : ℕ) → i < length β → (t : ℕ) → N.opens t ≡ true → (k : ℕ) × (k < length steps) × LeadsTo N β way i t (step_at steps k)

-- what holds stays true under firings at either end
pub record BiInvariant (N : Net) (β : Barrier) : Type 0 where
  pub ahead : (m m' m'' : Marking) (f : Firing) → HoldsBarrier N.tanks β m m' → Fires N m' f m'' → HoldsBarrier N.tanks β m m''
  pub back : (m₀ m m' : Marking) (f : Firing) → Fires N m₀ f m → HoldsBarrier N.tanks β m m' → HoldsBarrier N.tanks β m₀ m'

-- it holds of (source, source) and of (target, target), and not of (source, target)
pub record BiSeparator (N : Net) (β : Barrier) (A B : List ℕ) : Type 0 where
  pub invariant : BiInvariant N β
  pub at_source : HoldsOf N β A A
  pub at_target : HoldsOf N β B B
  pub apart : HoldsOf N β A B → ⊥
