-- The words of what is still to be said: one more word stands before the words of the front after it.
use Rattle.std.proofs.Common.{◌≡◌, ℕ, ◌+◌, List, ◌∷◌, ◌++◌, map, length}
use Rattle.std.proofs.lemmas.List.{append_assoc}
use Rattle.words.specs.Words.{field}
use Rattle.barrier_paper.specs.declared.form.Pending.{Pending}
use Rattle.barrier_paper.specs.declared.form.Phase.TheVariants.{Case, Right}
use Rattle.barrier_paper.specs.declared.form.BarrierForm.{BarrierForm}
use Rattle.barrier_paper.specs.Document.{weight_word, line_words, joined, case_words, match_word, step_words, Said, say}
use Rattle.barrier_paper.specs.Form.{counts_of, waiting, after_step, after_match}
use Rattle.barrier_paper.proofs.WordParts.{CaseWord, LineWord, WeightWord, StepWord, MatchWord, weight_written, line_written, case_written, match_written, step_written}
use Rattle.barrier_paper.proofs.Taking.{pending, Taken, a_case, a_line, a_left, a_right, a_step, a_match}
use Rattle.barrier_paper.proofs.Fronts.{Front, bare}

-- weights first, then lines, cases, matches and steps
abbrev pub front_words : Said → List ℕ
front_words d = map (weight_word 8) d.lefts ++ (map (weight_word 9) d.rights ++ (joined line_words d.lines ++ (joined case_words d.cases ++ (map match_word d.matches ++ joined step_words d.steps))))

words_line : (w : ℕ) (d : Said) → LineWord w → front_words (say w d) ≡ w ∷ front_words d
words_line w d h = rw (h.kind_is, ← line_written w h) (simp append_assoc)

words_left : (tanks least w : ℕ) (d : Said) → WeightWord 8 tanks least w → front_words (say w d) ≡ w ∷ front_words d
words_left tanks least w d h = rw (h.kind_is, ← weight_written 8 tanks least w h)

module _ {counts : List ℕ} {s : BarrierForm} (w : ℕ) (d : Said) where
  pub words_case : CaseWord w → Front counts Case s d → front_words (say w d) ≡ w ∷ front_words d
  words_case h f = rw (h.kind_is, f.lefts_fit, f.rights_fit, append_assoc, ← case_written w h)

  words_right : (tanks least n : ℕ) → WeightWord 9 tanks least w → Front counts (Right n) s d → front_words (say w d) ≡ w ∷ front_words d
  words_right tanks least n h f = rw (h.kind_is, f.lefts_fit, ← weight_written 9 tanks least w h)

  words_step : (cases valves least : ℕ) (p : Pending) → StepWord cases valves least w → Front counts (waiting p) s d → front_words (say w d) ≡ w ∷ front_words d
  words_step cases valves least p h f =
      let no = bare counts s d p f in
      rw (h.kind_is, no.0, no.1, no.2, no.3, ← step_written cases valves least w d.matches h)

  words_match : (p : Pending) (lines : ℕ) → MatchWord lines w → Front counts (waiting p) s d → front_words (say w d) ≡ w ∷ front_words d
  words_match p lines h f =
      let no = bare counts s d p f in
      rw (h.kind_is, no.0, no.1, no.2, no.3, ← match_written lines w h)

pub words_more : (counts : List ℕ) (s : BarrierForm) (w : ℕ) (t : BarrierForm) (d : Said) → Taken s.phase s w t → Front counts t.phase t d → front_words (say w d) ≡ w ∷ front_words d
words_more counts s w t d (a_case i h few e) f = words_case w d h (rw e at f)
words_more counts s w t d (a_line i h few e) f = words_line w d h
words_more counts s w t d (a_left least i h e) f = words_left s.counts.tanks least w d h
words_more counts s w t d (a_right least i h e) f = words_right w d s.counts.tanks least (field w 22 6 + 1) h (rw e at f)
words_more counts s w t d (a_step b h e) f = words_step w d (length (counts_of s.lines)) s.counts.valves (pending s.phase).least (after_step s w) h (rw e at f)
words_more counts s w t d (a_match b h e) f = words_match w d (after_match (pending s.phase)) (pending s.phase).lines h (rw e at f)
