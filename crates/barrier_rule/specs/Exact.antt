-- What the judgement of a barrier comes to: it is accepted exactly when the rule holds of it, and each refusal says what is so, at its
-- lowest place, with all that comes before it in order.
use Rattle.std.specs.Prelude.{◌≡◌, ℕ, suc, ◌+◌, ◌*◌, ◌<◌, true, List, length, take, Ok, Err}
use Rattle.plant.specs.Net.{Net, Bounded}
use Rattle.plant.specs.Walk.{held}
use Rattle.barriers.specs.Lines.{Barrier, case_at, HoldsOf}
use Rattle.barriers.specs.Steps.{Way, Step, step_at, MatchGood, Closes, Accepts}
use Rattle.barrier_paper.specs.Document.{BarrierDocument, BarrierFormed, barrier_of, way_bit, joined, case_words, step_words}
use Rattle.barrier_rule.specs.declared.faults.BarrierFault.{BarrierFault}
use Rattle.barrier_rule.specs.declared.faults.BarrierFault.TheVariants.{FailsSource, FailsTarget, HoldsAcross, Missing, BadMatch}
use Rattle.barrier_rule.specs.Judgement.{barrier_judged}

-- the place of a direction, a case and a valve
abbrev pub place : Way → ℕ → ℕ → ℕ
place way i t = 1024 * way_bit way + 64 * i + t

-- a step has to lead from case i by valve t
pub record Wanted (N : Net) (β : Barrier) (i t : ℕ) : Type 0 where
  pub case_there : i < length β
  pub valve_open : N.opens t ≡ true

-- a step leads from case i by valve t in this direction
pub record Leaves (s : Step) (way : Way) (i t : ℕ) : Type 0 where
  pub its_way : s.way ≡ way
  pub its_case : s.from ≡ i
  pub its_valve : s.valve ≡ t

-- wherever a step has to stand before place k, there is one whose matches are all good
abbrev pub ClosedBefore : Net → Barrier → List Step → ℕ → Type 0
ClosedBefore N β steps k = (way : Way) (i t : ℕ) → Wanted N β i t → place way i t < k → (n : ℕ) × (n < length steps) × Closes N β way i t (step_at steps n)

-- k is the first place at which a step has to stand and none does
pub record FirstMissing (N : Net) (β : Barrier) (steps : List Step) (k : ℕ) : Type 0 where
  pub way : Way
  pub case : ℕ
  pub valve : ℕ
  pub is : k ≡ place way case valve
  pub wants : Wanted N β case valve
  pub missing : (n : ℕ) → n < length steps → Leaves (step_at steps n) way case valve → ⊥
  pub closed_before : ClosedBefore N β steps k

-- match k of step n stands after the cases, the steps before n, and the word of step n
abbrev pub match_place : BarrierDocument → ℕ → ℕ → ℕ
match_place d n k = length (joined case_words d.cases) + length (joined step_words (take n d.steps)) + suc k

-- word w is the first match that is not good, in the first step of an open valve that has one
pub record FirstBad (N : Net) (d : BarrierDocument) (w : ℕ) : Type 0 where
  pub step : ℕ
  pub match : ℕ
  pub is : w ≡ match_place d step match
  pub step_there : step < length d.steps
  pub match_there : match < length (case_at (barrier_of d) (step_at d.steps step).to)
  pub valve_open : N.opens (step_at d.steps step).valve ≡ true
  pub bad : MatchGood N (barrier_of d) (step_at d.steps step) match → ⊥
  pub good_before : (j : ℕ) → j < match → MatchGood N (barrier_of d) (step_at d.steps step) j
  pub closed_before : ClosedBefore N (barrier_of d) d.steps (place (step_at d.steps step).way (step_at d.steps step).from (step_at d.steps step).valve)

-- the barrier holds where it has to, and not where it must not
pub record PartsThem (N : Net) (β : Barrier) (A B : List ℕ) : Type 0 where
  pub at_source : HoldsOf N β A A
  pub at_target : HoldsOf N β B B
  pub apart : HoldsOf N β A B → ⊥

-- the barrier is refused by a fault
abbrev pub Refused : Net → List ℕ → List ℕ → BarrierDocument → BarrierFault → Type 0
Refused N A B d FailsSource = HoldsOf N (barrier_of d) A A → ⊥
Refused N A B d FailsTarget = HoldsOf N (barrier_of d) A A × (HoldsOf N (barrier_of d) B B → ⊥)
Refused N A B d HoldsAcross = HoldsOf N (barrier_of d) A A × HoldsOf N (barrier_of d) B B × HoldsOf N (barrier_of d) A B
Refused N A B d (Missing k) = PartsThem N (barrier_of d) A B × FirstMissing N (barrier_of d) d.steps k
Refused N A B d (BadMatch w) = PartsThem N (barrier_of d) A B × FirstBad N d w

pub record BarriersAreJudgedExactly : Type 0 where
  pub accepted_keeps : (N : Net) → Bounded N → (A B : List ℕ) (d : BarrierDocument) → BarrierFormed N.tanks N.valves d → barrier_judged N (held A) (held B) d ≡ Ok tt → Accepts N (barrier_of d) d.steps A B
  pub keeps_accepted : (N : Net) → Bounded N → (A B : List ℕ) (d : BarrierDocument) → BarrierFormed N.tanks N.valves d → Accepts N (barrier_of d) d.steps A B → barrier_judged N (held A) (held B) d ≡ Ok tt
  pub refused_so : (N : Net) → Bounded N → (A B : List ℕ) (d : BarrierDocument) → BarrierFormed N.tanks N.valves d → (e : BarrierFault) → barrier_judged N (held A) (held B) d ≡ Err e → Refused N A B d e
