-- What the four parts of a dossier have to do with the kinds of its words.
use Rattle.std.specs.Prelude.{◌≡◌, ℕ, ◌≢◌, List, [], ◌∷◌, ◌++◌}
use Rattle.std.specs.List.{AllByRecursion}
use Rattle.words.specs.Words.{words, kind}
use Rattle.dossier.specs.Parts.{source_kind, target_kind, plant_part, source_part, target_part, evidence_part, from_source, from_target}

-- the parts joined again are the input
abbrev pub PartsAreTheInput : Type 0
PartsAreTheInput = (bs : List ℕ) → plant_part bs ++ (source_part bs ++ (target_part bs ++ evidence_part bs)) ≡ bs

-- words that do not open with one of a kind
abbrev pub OpensOtherwise : ℕ → List ℕ → Type 0
OpensOtherwise k [] = Unit {0}
OpensOtherwise k (w ∷ ws) = kind w ≢ k

-- words that open with one of a kind, if there are any
abbrev pub OpensWith : ℕ → List ℕ → Type 0
OpensWith k [] = Unit {0}
OpensWith k (w ∷ ws) = kind w ≡ k

-- no source word stands in the plant paper, and it goes up to one; the source words are all that come there, and so the target words
pub record Parted (bs : List ℕ) : Type 0 where
  pub plant_words : AllByRecursion (λ w. kind w ≢ source_kind) (words (plant_part bs))
  pub plant_ends : OpensWith source_kind (words (from_source bs))
  pub source_words : AllByRecursion (λ w. kind w ≡ source_kind) (words (source_part bs))
  pub source_ends : OpensOtherwise source_kind (words (from_target bs))
  pub target_words : AllByRecursion (λ w. kind w ≡ target_kind) (words (target_part bs))
  pub target_ends : OpensOtherwise target_kind (words (evidence_part bs))

abbrev pub PartsGoByKind : Type 0
PartsGoByKind = (bs : List ℕ) → Parted bs
