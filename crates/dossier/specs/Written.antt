-- A dossier that is written part by part.
use Rattle.std.specs.Prelude.{◌≡◌, ℕ, ◌+◌, ◌*◌, ◌%◌, ◌^◌, ◌<◌, ◌≤◌, List, [], ◌∷◌, ◌++◌, length}
use Rattle.std.specs.List.{AllByRecursion}
use Rattle.plant.specs.Limits.{most_tanks}
use Rattle.words.specs.Words.{words, bytes}
use Rattle.words.specs.Faults.{raised}
use Rattle.paper.specs.Arcs.{PlantDocument, PlantFormed, plant_paper, plant_of}
use Rattle.weighing.specs.Weighing.{weighs}
use Rattle.dossier.specs.declared.faults.DossierFault.TheVariants.{Weighing}
use Rattle.dossier.specs.Limits.{most_input_bytes}
use Rattle.dossier.specs.Parts.{source_kind, target_kind}
use Rattle.dossier.specs.Kinds.{OpensOtherwise}
use Rattle.dossier.specs.Judging.{judged}

-- a word of a kind, with a tank and its amount
abbrev pub fill_word : ℕ → ℕ → ℕ → ℕ
fill_word k tank amount = k * 2 ^ 28 + tank * 2 ^ 22 + amount

-- the amounts of the tanks from `tank` on, each by a word
abbrev pub fill_words : ℕ → ℕ → List ℕ → List ℕ
fill_words k tank [] = []
fill_words k tank (amount ∷ more) = fill_word k tank amount ∷ fill_words k (tank + 1) more

abbrev pub fill_paper : ℕ → List ℕ → List ℕ
fill_paper k A = bytes (fill_words k 0 A)

-- amounts that can be written: no more than there can be tanks, each of 20 bits
pub record Fillable (A : List ℕ) : Type 0 where
  pub few : length A ≤ most_tanks
  pub small : AllByRecursion (λ amount. amount < 2 ^ 20) A

abbrev pub dossier_paper : PlantDocument → List ℕ → List ℕ → List ℕ → List ℕ
dossier_paper d A B evidence = plant_paper d ++ (fill_paper source_kind A ++ (fill_paper target_kind B ++ evidence))

-- parts that can be written as a dossier: the source ends the plant paper, so it is not empty; and the evidence, any bytes that are
-- whole words, does not go on with the source or with the target
pub record Writable (d : PlantDocument) (A B evidence : List ℕ) : Type 0 where
  pub plant : PlantFormed d
  pub source : Fillable A
  pub some_source : 1 ≤ length A
  pub target : Fillable B
  pub whole_words : length evidence % 4 ≡ 0
  pub no_source_word : OpensOtherwise source_kind (words evidence)
  pub no_target_word : OpensOtherwise target_kind (words evidence)
  pub few_bytes : length (dossier_paper d A B evidence) ≤ most_input_bytes

-- a dossier that is written so is answered by the weighing of its evidence on its plant, from its source to its target
abbrev pub AWrittenDossierIsWeighed : Type 0
AWrittenDossierIsWeighed = (d : PlantDocument) (A B evidence : List ℕ) → Writable d A B evidence → judged (dossier_paper d A B evidence) ≡ raised Weighing (weighs (plant_of d) A B evidence)
