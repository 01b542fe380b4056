-- The runs that a dossier is cut into.
use Rattle.std.proofs.Common.{◌≡◌, ℕ, ◌+◌, ◌*◌, Bool, true, false, cond, ◌≢◌, List, [], ◌∷◌, ◌++◌, take, drop, sym, refl, ap, ◌∙◌, subst, one-add}
use Rattle.std.specs.List.{prefix_len, AllByRecursion}
use Rattle.std.proofs.lemmas.List.{take-append-drop}
use Rattle.std.proofs.ByRecursion.{All-weaker}
use Rattle.std.proofs.lemmas.Bool.{eqb-true, eqb-false, not-true, not-false}
use Rattle.words.specs.Words.{words, kind}
use Rattle.words.proofs.Laws.{words_take, words_drop}
use Rattle.dossier.specs.Parts.{before, of_kind, run_of, after, source_kind, target_kind, from_source, from_target}
use Rattle.dossier.specs.Kinds.{PartsAreTheInput, OpensWith, OpensOtherwise, PartsGoByKind}

-- words that do not go on with a run
abbrev pub Stops : (ℕ → Bool) → List ℕ → Type 0
Stops p [] = Unit {0}
Stops p (w ∷ ws) = p w ≡ false

module _ (p : ℕ → Bool) where
  lead_all : (ws : List ℕ) → AllByRecursion (λ w. p w ≡ true) (take (prefix_len p ws) ws)
  lead_all [] = tt
  lead_all (w ∷ ws) = by (p w) refl (lead_all ws)
    where
      by : (b : Bool) → p w ≡ b → AllByRecursion (λ v. p v ≡ true) (take (prefix_len p ws) ws) → AllByRecursion (λ v. p v ≡ true) (take (cond b (1 + prefix_len p ws) 0) (w ∷ ws))
      by true e more = rw one-add (e, more)
      by false e more = tt

  lead_stops : (ws : List ℕ) → Stops p (drop (prefix_len p ws) ws)
  lead_stops [] = tt
  lead_stops (w ∷ ws) = by (p w) refl (lead_stops ws)
    where
      by : (b : Bool) → p w ≡ b → Stops p (drop (prefix_len p ws) ws) → Stops p (drop (cond b (1 + prefix_len p ws) 0) (w ∷ ws))
      by true e more = rw one-add more
      by false e more = e

module _ (test : ℕ → Bool) (bs : List ℕ) where
  run_joined : run_of test bs ++ after test bs ≡ bs
  run_joined = take-append-drop (4 * prefix_len test (words bs)) bs

  run_all : AllByRecursion (λ w. test w ≡ true) (words (run_of test bs))
  run_all = subst (AllByRecursion (λ w. test w ≡ true)) (sym (words_take (prefix_len test (words bs)) bs)) (lead_all test (words bs))

  run_stops : Stops test (words (after test bs))
  run_stops = subst (Stops test) (sym (words_drop (prefix_len test (words bs)) bs)) (lead_stops test (words bs))

pub parts_are_the_input : PartsAreTheInput
parts_are_the_input bs =
    ap (λ rest. run_of (before source_kind) bs ++ rest)
    (ap (λ rest. run_of (of_kind source_kind) (from_source bs) ++ rest) (run_joined (of_kind target_kind) (from_target bs)) ∙ run_joined (of_kind source_kind) (from_source bs))
    ∙ run_joined (before source_kind) bs

opens_with : (k : ℕ) (ws : List ℕ) → Stops (before k) ws → OpensWith k ws
opens_with k [] s = tt
opens_with k (w ∷ ws) s = eqb-true (kind w) k (not-false _ s)

opens_otherwise : (k : ℕ) (ws : List ℕ) → Stops (of_kind k) ws → OpensOtherwise k ws
opens_otherwise k [] s = tt
opens_otherwise k (w ∷ ws) s = eqb-false (kind w) k s

all_of : (k : ℕ) (ws : List ℕ) → AllByRecursion (λ w. of_kind k w ≡ true) ws → AllByRecursion (λ w. kind w ≡ k) ws
all_of k ws = All-weaker (λ w. of_kind k w ≡ true) (λ w. kind w ≡ k) (λ w. eqb-true (kind w) k) ws

none_of : (k : ℕ) (ws : List ℕ) → AllByRecursion (λ w. before k w ≡ true) ws → AllByRecursion (λ w. kind w ≢ k) ws
none_of k ws = All-weaker (λ w. before k w ≡ true) (λ w. kind w ≢ k) (λ w e. eqb-false (kind w) k (not-true _ e)) ws

pub parts_go_by_kind : PartsGoByKind
parts_go_by_kind bs = record {
  plant_words = none_of source_kind _ (run_all (before source_kind) bs);
  plant_ends = opens_with source_kind _ (run_stops (before source_kind) bs);
  source_words = all_of source_kind _ (run_all (of_kind source_kind) (from_source bs));
  source_ends = opens_otherwise source_kind _ (run_stops (of_kind source_kind) (from_source bs));
  target_words = all_of target_kind _ (run_all (of_kind target_kind) (from_target bs));
  target_ends = opens_otherwise target_kind _ (run_stops (of_kind target_kind) (from_target bs));
}
