-- A dossier whose parts are all read comes to the weighing.
use Rattle.std.proofs.Common.{◌≡◌, ℕ, List, MatchResult, Ok, Err, Result, sym, refl, ap, ◌∙◌}
use Rattle.plant.specs.Net.{Net}
use Rattle.plant.specs.declared.question.Counts.{Counts}
use Rattle.words.specs.Words.{words}
use Rattle.words.specs.Faults.{raised}
use Rattle.words.specs.declared.faults.PaperFault.{PaperFault}
use Rattle.paper.specs.Arcs.{PlantDocument, plant_of}
use Rattle.paper.specs.PlantForm.{plant_read, plant_made, plant_counts}
use Rattle.weighing.specs.Weighing.{weighs}
use Rattle.dossier.specs.declared.faults.DossierFault.{DossierFault}
use Rattle.dossier.specs.declared.faults.DossierFault.TheVariants.{Weighing}
use Rattle.dossier.specs.Faults.{sized}
use Rattle.dossier.specs.Parts.{plant_part, source_part, target_part, evidence_part}
use Rattle.dossier.specs.Fillings.{fill_read}
use Rattle.dossier.specs.Judging.{judged}

pub weighed : (bs A B : List ℕ) (d : PlantDocument) → sized bs ≡ Ok tt → plant_read (plant_part bs) ≡ Ok d → fill_read 0 (words (source_part bs)) ≡ Ok A → fill_read 0 (words (target_part bs)) ≡ Ok B → judged bs ≡ raised Weighing (weighs (plant_of d) A B (evidence_part bs))
weighed bs A B d size plant source target = rw (size, plant, source, target)

-- what a reading gave whose fault, were there one, is carried up
pub gave : {A E : Type 0} (x : A) (r : Result A E) → MatchResult r (λ y. ◌≡◌ {A = Result A DossierFault} (Ok x) (Ok y)) (λ e. ⊥) → Ok x ≡ r
gave x (Ok y) h = cc
gave x (Err e) h = absurd h

-- a plant paper with counts has a document
document : (r : Result PlantDocument PaperFault) (counts : Counts) → Ok counts ≡ plant_counts r → (d : PlantDocument) × (r ≡ Ok d)
document (Ok d) counts e = (d, refl)
document (Err x) counts e = absurd (cc)

-- what was found of each part, and what was weighed
pub record Found (bs plant source target evidence A B : List ℕ) (counts : Counts) (N : Net) : Type 0 where
  pub size : Ok tt ≡ sized bs
  pub plant_is : plant ≡ plant_part bs
  pub source_is : source ≡ source_part bs
  pub target_is : target ≡ target_part bs
  pub evidence_is : evidence ≡ evidence_part bs
  pub counted : Ok counts ≡ plant_counts (plant_read plant)
  pub source_read : Ok A ≡ fill_read 0 (words source)
  pub target_read : Ok B ≡ fill_read 0 (words target)
  pub made : N ≡ plant_made (plant_read plant)

pub weighed_of : (bs plant source target evidence A B : List ℕ) (counts : Counts) (N : Net) → Found bs plant source target evidence A B counts N → raised Weighing (weighs N A B evidence) ≡ judged bs
weighed_of bs plant source target evidence A B counts N f =
    let d = document (plant_read plant) counts f.counted in
    ap (λ M. raised Weighing (weighs M A B evidence)) (f.made ∙ ap plant_made d.1)
    ∙ (ap (λ bs. raised Weighing (weighs (plant_of d.0) A B bs)) f.evidence_is
    ∙ sym (weighed bs A B d.0 (sym f.size) (ap plant_read (sym f.plant_is) ∙ d.1)
    (ap (λ x. fill_read 0 (words x)) (sym f.source_is) ∙ sym f.source_read)
    (ap (λ x. fill_read 0 (words x)) (sym f.target_is) ∙ sym f.target_read)))
