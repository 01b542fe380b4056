-- Steps, their matches, and when a barrier with its steps is accepted.
use Rattle.std.specs.Prelude.{◌≡◌, ℕ, ◌<◌, ◌≤◌, true, false, ◌⊎◌, List, [], length, ℤ, pos, ◌-ℤ◌, ◌*ℤ◌, ◌≤ℤ◌, ◌<ℤ◌, slice_index_or}
use Rattle.plant.specs.Net.{Net}
use Rattle.barriers.specs.Lines.{side, Line, Barrier, line_at, case_at, HoldsOf}

-- forward: a firing changes the second marking of a pair; backward: it leads to the first
pub data Way : Type 0 where
  forward backward : Way

-- for one line of the case reached: a line of the case left, and two factors; in the literature Farkas multipliers
pub record Match : Type 0 where
  pub line : ℕ
  pub p : ℕ
  pub q : ℕ

-- from a case, by a valve, to a case, with a match for each line of the case reached, in order
pub record Step : Type 0 where
  pub way : Way
  pub from : ℕ
  pub valve : ℕ
  pub to : ℕ
  pub matches : List Match

abbrev pub no_match : Match
no_match = record { line = 0; p = 0; q = 0 }

abbrev pub match_at : Step → ℕ → Match
match_at s k = slice_index_or s.matches k no_match

abbrev pub no_step : Step
no_step = record { way = forward; from = 0; valve = 0; to = 0; matches = [] }

abbrev pub step_at : List Step → ℕ → Step
step_at steps k = slice_index_or steps k no_step

-- the flow number of valve t, for a line ψ of the case left and a line ψ' of the case reached
abbrev pub flow : Net → Way → ℕ → Line → Line → ℕ → ℕ → ℤ
flow N forward t ψ ψ' p q = pos q *ℤ side ψ'.right (N.outlet t) N.tanks -ℤ pos p *ℤ side ψ.right (N.intake t) N.tanks
flow N backward t ψ ψ' p q = pos p *ℤ side ψ.left (N.outlet t) N.tanks -ℤ pos q *ℤ side ψ'.left (N.intake t) N.tanks

-- for a tank with the weights a, b of ψ and a', b' of ψ': p·a - q·a' and q·b' - p·b are at least 0
pub record TankGood (ψ ψ' : Line) (p q r : ℕ) : Type 0 where
  pub left_drops : pos 0 ≤ℤ (pos p *ℤ ψ.left r -ℤ pos q *ℤ ψ'.left r)
  pub right_grows : pos 0 ≤ℤ (pos q *ℤ ψ'.right r -ℤ pos p *ℤ ψ.right r)

-- why the line reached holds as sharply as it says: the flow number is above 0; the line left is strict and p is at least 1;
-- or the line reached is not strict and q is at least 1
abbrev pub Marked : ℤ → Line → Line → ℕ → ℕ → Type 0
Marked flowing ψ ψ' p q = (pos 0 <ℤ flowing) ⊎ (((ψ.strict ≡ true) × (1 ≤ p)) ⊎ ((ψ'.strict ≡ false) × (1 ≤ q)))

pub record Good (N : Net) (way : Way) (t : ℕ) (ψ ψ' : Line) (p q : ℕ) : Type 0 where
  pub tanks_good : (r : ℕ) → r < N.tanks → TankGood ψ ψ' p q r
  pub flows : pos 0 ≤ℤ flow N way t ψ ψ' p q
  pub marked : Marked (flow N way t ψ ψ' p q) ψ ψ' p q

-- the match of line k of the case reached names a line of the case left, and is good
pub record MatchGood (N : Net) (β : Barrier) (s : Step) (k : ℕ) : Type 0 where
  pub named : (match_at s k).line < length (case_at β s.from)
  pub good : Good N s.way s.valve (line_at (case_at β s.from) (match_at s k).line) (line_at (case_at β s.to) k) (match_at s k).p (match_at s k).q

-- s is a step from case i by valve t in this direction, and its matches are all good
pub record Closes (N : Net) (β : Barrier) (way : Way) (i t : ℕ) (s : Step) : Type 0 where
  pub its_way : s.way ≡ way
  pub its_case : s.from ≡ i
  pub its_valve : s.valve ≡ t
  pub reaches : s.to < length β
  pub all_good : (k : ℕ) → k < length (case_at β s.to) → MatchGood N β s k

-- every direction, case and open valve has a step whose matches are all good
abbrev pub ClosedBy : Net → Barrier → List Step → Type 0
ClosedBy N β steps = (way : Way) (i : ℕ) → i < length β → (t : ℕ) → t < N.valves → N.opens t ≡ true → (k : ℕ) × (k < length steps) × Closes N β way i t (step_at steps k)

-- the barrier with its steps is accepted for source A and target B
pub record Accepts (N : Net) (β : Barrier) (steps : List Step) (A B : List ℕ) : Type 0 where
  pub at_source : HoldsOf N β A A
  pub at_target : HoldsOf N β B B
  pub apart : HoldsOf N β A B → ⊥
  pub closed : ClosedBy N β steps
