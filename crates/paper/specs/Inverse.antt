-- Writing and reading papers are inverse to each other: a paper is read without fault exactly when it is the writing of a
-- well-formed document, and then reading gives that document.
use Rattle.std.specs.Prelude.{◌≡◌, ℕ, List, Ok}
use Rattle.words.specs.Inverse.{Bytes}
use Rattle.paper.specs.Arcs.{PlantDocument, PlantFormed, plant_paper}
use Rattle.paper.specs.PlantForm.{plant_read}
use Rattle.paper.specs.Totals.{TotalsDocument, TotalsFormed, totals_paper}
use Rattle.paper.specs.TotalsForm.{totals_read}

pub record PlantPapersAreExact : Type 0 where
  pub written_is_read : (d : PlantDocument) → PlantFormed d → plant_read (plant_paper d) ≡ Ok d
  pub read_is_written : (bs : List ℕ) → Bytes bs → (d : PlantDocument) → plant_read bs ≡ Ok d → PlantFormed d × (bs ≡ plant_paper d)

pub record TotalsPapersAreExact : Type 0 where
  pub written_is_read : (valves : ℕ) (d : TotalsDocument) → TotalsFormed valves d → totals_read valves (totals_paper d) ≡ Ok d
  pub read_is_written : (valves : ℕ) (bs : List ℕ) → Bytes bs → (d : TotalsDocument) → totals_read valves bs ≡ Ok d → TotalsFormed valves d × (bs ≡ totals_paper d)
