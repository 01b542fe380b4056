-- A paper is refused at its first fault: the words before it pass, each taken in turn, and the word at its place does not.
use Rattle.std.specs.Prelude.{◌≡◌, ℕ, ◌+◌, List, [], ◌∷◌, ◌++◌, length, Ok, Err, Result}
use Rattle.words.specs.declared.faults.PaperFault.{PaperFault}
use Rattle.paper.specs.Runs.{run}
use Rattle.paper.specs.PlantForm.{plant_step}
use Rattle.paper.specs.TotalsForm.{totals_step}

-- the words lead from one state to another without a fault
pub data Passes {S : Type 0} (step : S → ℕ → ℕ → Result S PaperFault) : S → ℕ → List ℕ → S → Type 0 where
  none : {s : S} {at : ℕ} → Passes step s at [] s
  more : {s t u : S} {at w : ℕ} {ws : List ℕ} → step s at w ≡ Ok t → Passes step t (at + 1) ws u → Passes step s at (w ∷ ws) u

-- the fault e is that of a word that is reached
pub record Reached {S : Type 0} (step : S → ℕ → ℕ → Result S PaperFault) (s : S) (at : ℕ) (ws : List ℕ) (e : PaperFault) : Type 0 where
  pub front : List ℕ
  pub word : ℕ
  pub back : List ℕ
  pub state : S
  pub split : ws ≡ front ++ word ∷ back
  pub passes : Passes step s at front state
  pub faulty : step state (at + length front) word ≡ Err e

abbrev pub First : {S : Type 0} → (S → ℕ → ℕ → Result S PaperFault) → Type 0
First {S} step = (s : S) (at : ℕ) (ws : List ℕ) (e : PaperFault) → run step s at ws ≡ Err e → Reached step s at ws e

pub record PapersAreRefusedAtTheFirstFault : Type 0 where
  pub plants : First plant_step
  pub totals : First totals_step
