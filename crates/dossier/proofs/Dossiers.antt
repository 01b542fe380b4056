-- A written dossier is cut into the parts that it was written of, and weighed.
use Rattle.std.proofs.Common.{◌≡◌, ℕ, ◌+◌, ◌%◌, ◌<◌, ◌≤◌, List, [], ◌∷◌, ◌++◌, length, Ok, sym, ap, ◌∙◌, subst, arith}
use Rattle.std.proofs.lemmas.List.{length-append}
use Rattle.std.proofs.lemmas.Bool.{eq-eqb, ne_eqb, not_from_true, le-ltb}
use Rattle.words.specs.Words.{words}
use Rattle.words.specs.Faults.{raised}
use Rattle.words.proofs.Inverses.{words_of_bytes}
use Rattle.paper.specs.Arcs.{PlantDocument, plant_paper, plant_words, plant_of}
use Rattle.paper.specs.PlantForm.{plant_read}
use Rattle.paper.proofs.PlantExact.{plant_papers_are_exact}
use Rattle.weighing.specs.Weighing.{weighs}
use Rattle.dossier.specs.declared.faults.DossierFault.TheVariants.{Weighing}
use Rattle.dossier.specs.Limits.{most_input_bytes}
use Rattle.dossier.specs.Faults.{sized}
use Rattle.dossier.specs.Parts.{before, of_kind, run_of, after, source_kind, target_kind, source_part, target_part, evidence_part}
use Rattle.dossier.specs.Kinds.{OpensOtherwise}
use Rattle.dossier.specs.Fillings.{fill_read}
use Rattle.dossier.specs.Written.{Fillable, Writable, fill_words, fill_paper, dossier_paper, AWrittenDossierIsWeighed}
use Rattle.dossier.proofs.Cutting.{Stops}
use Rattle.paper.proofs.Steps.{length_bytes}
use Rattle.dossier.proofs.Writing.{IsCutOff, cut_off, words_before, goes_before, goes_with, stops_otherwise, plant_small, plant_kinds, fill_small, fill_kinds, fill_back}
use Rattle.dossier.proofs.Judged.{weighed}

-- a filling that is read from its own paper
filled_back : (k : ℕ) → k < 16 → (A : List ℕ) → Fillable A → fill_read 0 (words (fill_paper k A)) ≡ Ok A
filled_back k hk A f =
    let few : 0 + length A ≤ 64 = omega (arith, f.few) in
    ap (fill_read 0) (words_of_bytes (fill_words k 0 A) (fill_small k hk 0 A few f.small)) ∙ fill_back k hk 0 A few f.small

-- a filling is cut off before other words
filling_off : (k : ℕ) → k < 16 → (A bs : List ℕ) → Fillable A → Stops (of_kind k) (words bs) → IsCutOff (of_kind k) (fill_paper k A) bs
filling_off k hk A bs f s =
    let few : 0 + length A ≤ 64 = omega (arith, f.few) in
    cut_off (of_kind k) (fill_words k 0 A) bs (fill_small k hk 0 A few f.small) (goes_with k _ (fill_kinds k hk 0 A few f.small)) s

words_filled : (k : ℕ) → k < 16 → (A bs : List ℕ) → Fillable A → words (fill_paper k A ++ bs) ≡ fill_words k 0 A ++ words bs
words_filled k hk A bs f = words_before (fill_words k 0 A) bs (fill_small k hk 0 A (omega (arith, f.few)) f.small)

-- a plant paper ends at the first source word
stops_at_source : (A vs : List ℕ) → Fillable A → 1 ≤ length A → Stops (before source_kind) (fill_words source_kind 0 A ++ vs)
stops_at_source [] vs f some = absurd (omega arith)
stops_at_source (a ∷ A) vs f some = not_from_true _ (eq-eqb _ source_kind (fill_kinds source_kind (omega arith) 0 (a ∷ A) (omega (arith, f.few)) f.small).0)

-- source words end at the first target word, or at the evidence
stops_at_target : (B vs : List ℕ) → Fillable B → OpensOtherwise source_kind vs → Stops (of_kind source_kind) (fill_words target_kind 0 B ++ vs)
stops_at_target [] vs f o = stops_otherwise source_kind vs o
stops_at_target (b ∷ B) vs f o = ne_eqb _ source_kind (λ e. omega (arith, e, (fill_kinds target_kind (omega arith) 0 (b ∷ B) (omega (arith, f.few)) f.small).0))

module _ (d : PlantDocument) (A B evidence : List ℕ) (f : Writable d A B evidence) where
  abbrev from_b : List ℕ
  from_b = fill_paper target_kind B ++ evidence

  abbrev from_a : List ℕ
  from_a = fill_paper source_kind A ++ from_b

  abbrev whole : List ℕ
  whole = plant_paper d ++ from_a

  plant_off : IsCutOff (before source_kind) (plant_paper d) from_a
  plant_off =
      cut_off (before source_kind) (plant_words d) from_a (plant_small d f.plant) (goes_before source_kind (plant_words d) (plant_kinds source_kind (omega arith) d f.plant))
      (subst (Stops (before source_kind)) (sym (words_filled source_kind (omega arith) A from_b f.source)) (stops_at_source A (words from_b) f.source f.some_source))

  source_off : IsCutOff (of_kind source_kind) (fill_paper source_kind A) from_b
  source_off =
      filling_off source_kind (omega arith) A from_b f.source
      (subst (Stops (of_kind source_kind)) (sym (words_filled target_kind (omega arith) B evidence f.target)) (stops_at_target B (words evidence) f.target f.no_source_word))

  target_off : IsCutOff (of_kind target_kind) (fill_paper target_kind B) evidence
  target_off = filling_off target_kind (omega arith) B evidence f.target (stops_otherwise target_kind (words evidence) f.no_target_word)

  source_is : source_part whole ≡ fill_paper source_kind A
  source_is = ap (run_of (of_kind source_kind)) plant_off.rest_is ∙ source_off.run_is

  after_source : after (of_kind source_kind) (after (before source_kind) whole) ≡ from_b
  after_source = ap (after (of_kind source_kind)) plant_off.rest_is ∙ source_off.rest_is

  target_is : target_part whole ≡ fill_paper target_kind B
  target_is = ap (run_of (of_kind target_kind)) after_source ∙ target_off.run_is

  evidence_is : evidence_part whole ≡ evidence
  evidence_is = ap (after (of_kind target_kind)) after_source ∙ target_off.rest_is

  whole_fours : length whole % 4 ≡ 0
  whole_fours =
      omega (arith, f.whole_words, length-append (plant_paper d) from_a, length-append (fill_paper source_kind A) from_b, length-append (fill_paper target_kind B) evidence, length_bytes (plant_words d), length_bytes (fill_words source_kind 0 A), length_bytes (fill_words target_kind 0 B))

  size : sized whole ≡ Ok tt
  size = rw (le-ltb most_input_bytes (length whole) f.few_bytes, eq-eqb (length whole % 4) 0 whole_fours)

pub a_written_dossier_is_weighed : AWrittenDossierIsWeighed
a_written_dossier_is_weighed d A B evidence f =
    weighed (dossier_paper d A B evidence) A B d (size d A B evidence f)
    (ap plant_read (plant_off d A B evidence f).run_is ∙ plant_papers_are_exact.written_is_read d f.plant)
    (ap (λ bs. fill_read 0 (words bs)) (source_is d A B evidence f) ∙ filled_back source_kind (omega arith) A f.source)
    (ap (λ bs. fill_read 0 (words bs)) (target_is d A B evidence f) ∙ filled_back target_kind (omega arith) B f.target)
    ∙ ap (λ bs. raised Weighing (weighs (plant_of d) A B bs)) (evidence_is d A B evidence f)
