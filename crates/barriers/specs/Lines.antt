-- Barriers: a barrier is a list of cases, a case a list of lines. A line compares a weighted sum of one marking's amounts with a
-- weighted sum of another's. In the literature a formula in disjunctive form over homogeneous atomic propositions.
use Rattle.std.specs.Prelude.{ℕ, zero, suc, ◌<◌, Bool, true, false, List, [], length, ℤ, pos, ◌+ℤ◌, ◌*ℤ◌, ◌≤ℤ◌, ◌<ℤ◌, slice_index_or}
use Rattle.plant.specs.Net.{Net}
use Rattle.plant.specs.Walk.{Marking, held}

-- f 0 + … + f (n - 1)
abbrev pub sum_below : (ℕ → ℤ) → ℕ → ℤ
sum_below f zero = pos 0
sum_below f (suc n) = sum_below f n +ℤ f n

-- the sum of weight times amount over the first n tanks
abbrev pub side : (ℕ → ℤ) → Marking → ℕ → ℤ
side c m n = sum_below (λ r. c r *ℤ pos (m r)) n

-- a left and a right weight for each tank
pub record Line : Type 0 where
  pub left : ℕ → ℤ
  pub right : ℕ → ℤ
  pub strict : Bool

abbrev pub Case : Type 0
Case = List Line

abbrev pub Barrier : Type 0
Barrier = List Case

-- what stands beyond the end of a case
abbrev pub no_line : Line
no_line = record { left = λ _. pos 0; right = λ _. pos 0; strict = false }

abbrev pub line_at : Case → ℕ → Line
line_at φ k = slice_index_or φ k no_line

abbrev pub case_at : Barrier → ℕ → Case
case_at β i = slice_index_or β i []

-- at most, or less where strict
abbrev pub Compares : Bool → ℤ → ℤ → Type 0
Compares true u v = u <ℤ v
Compares false u v = u ≤ℤ v

-- a line holds of a pair of markings of n tanks when its left side of the first is at most, or less than, its right side of the second
abbrev pub HoldsLine : ℕ → Line → Marking → Marking → Type 0
HoldsLine n ψ m m' = Compares ψ.strict (side ψ.left m n) (side ψ.right m' n)

-- a case holds when all its lines do
abbrev pub HoldsCase : ℕ → Case → Marking → Marking → Type 0
HoldsCase n φ m m' = (k : ℕ) → k < length φ → HoldsLine n (line_at φ k) m m'

-- a barrier holds when some case does
abbrev pub HoldsBarrier : ℕ → Barrier → Marking → Marking → Type 0
HoldsBarrier n β m m' = (i : ℕ) × (i < length β) × HoldsCase n (case_at β i) m m'

-- of a pair of fillings
abbrev pub HoldsOf : Net → Barrier → List ℕ → List ℕ → Type 0
HoldsOf N β A B = HoldsBarrier N.tanks β (held A) (held B)
