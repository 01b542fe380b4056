-- The question that a weighing answers: two fillings of the plant, each amount within the limit.
use Rattle.std.specs.Prelude.{◌≡◌, ℕ, ◌≤◌, cond, List, length, Ok, Err, Option, Result, ◌==◌, nat_lt}
use Rattle.plant.specs.Limits.{most_amount}
use Rattle.plant.specs.Walk.{held}
use Rattle.words.specs.Faults.{refusing}
use Rattle.starting.specs.Starting.{first_below}
use Rattle.weighing.specs.declared.faults.Side.TheVariants.{Source, Target}
use Rattle.weighing.specs.declared.faults.QuestionFault.{QuestionFault}
use Rattle.weighing.specs.declared.faults.QuestionFault.TheVariants.{Length, Amount}

-- the first tank of a filling with more than the limit
abbrev pub over : List ℕ → Option ℕ
over A = first_below (length A) (λ r. nat_lt most_amount (held A r))

-- both lengths come before any amount, the source before the target
abbrev pub asked : ℕ → List ℕ → List ℕ → Result (Unit {0}) QuestionFault
asked tanks A B =
    cond (length A == tanks) (
    cond (length B == tanks) (
    refusing (over A) (Amount Source) (
    refusing (over B) (Amount Target) (
    Ok tt)))
    (Err (Length Target)))
    (Err (Length Source))

-- a filling of a plant with so many tanks, within the limits
pub record Filling (tanks : ℕ) (A : List ℕ) : Type 0 where
  pub listed : length A ≡ tanks
  pub small : (r : ℕ) → held A r ≤ most_amount
