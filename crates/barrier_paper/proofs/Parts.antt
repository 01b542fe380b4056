-- The parts of a paper that is the writing of a document are the cases, the lines and the steps of that document.
use Rattle.std.proofs.Common.{◌≡◌, ℕ, zero, suc, ◌*◌, ◌^◌, ◌<◌, ◌≤◌, true, false, cond, eqb, List, [], ◌∷◌, ◌++◌, map, length, get_or, ℤ, pos, ◌+ℤ◌, sym, refl, ap, ◌∙◌, inl, inr, ⊎_elim, arith}
use Rattle.std.specs.List.{AllByRecursion}
use Rattle.std.proofs.lemmas.List.{append-nil, get_or-map, get_or_past, length-map}
use Rattle.std.proofs.ByRecursion.{All-get_or}
use Rattle.std.proofs.lemmas.Bool.{cond_both, ne_eqb, cases_lt}
use Rattle.std.proofs.lemmas.Int.{ints}
use Rattle.words.specs.Words.{words, kind}
use Rattle.words.proofs.Inverses.{words_of_bytes}
use Rattle.barriers.specs.Lines.{no_line, line_at, case_at}
use Rattle.barriers.specs.Steps.{Step}
use Rattle.lines.specs.OfLine.{line_meant}
use Rattle.lines.specs.declared.line.LineWeights.{LineWeights}
use Rattle.barrier_paper.specs.Document.{Weight, LineText, CaseText, BarrierDocument, signed, weight_of, line_of, barrier_of, WeightFits, LineFits, CaseFits, StepFits, BarrierFormed, lines_in, weight_word, line_words, joined, case_words, step_words, barrier_words, barrier_paper, weight_said}
use Rattle.barrier_paper.specs.Windows.{from_nth, part, count_kind, case_part, line_part, steps_part, before_steps, word_weight, part_weight, part_strict, part_line, line_said}
use Rattle.barrier_paper.proofs.Seeking.{before_le, seek_pass, seek_found}
use Rattle.barrier_paper.proofs.Summing.{same_line, said_short}
use Rattle.barrier_paper.proofs.WordParts.{line_head, line_good, weight_kind, weight_says, weights_of_line, lines_of_case, cases_kinds, step_says, steps_kinds, words_small}
use Rattle.barrier_paper.proofs.Blocks.{Blocks, Stops, skip, go_on, stop, nth_block, past_blocks, count_blocks}

-- ---- sums of weight words

append_weight : (k : ℕ) (xs ys : List ℕ) (r : ℕ) → part_weight k (xs ++ ys) r ≡ part_weight k xs r +ℤ part_weight k ys r
append_weight k [] ys r = before_none (part_weight k ys r)
  where
    before_none : (z : ℤ) → z ≡ pos 0 +ℤ z
    before_none z = omega (arith, ints)
append_weight k (x ∷ xs) ys r = ap (λ z. word_weight k x r +ℤ z) (append_weight k xs ys r) ∙ regroup (word_weight k x r) (part_weight k xs r) (part_weight k ys r)
  where
    regroup : (a b c : ℤ) → a +ℤ (b +ℤ c) ≡ (a +ℤ b) +ℤ c
    regroup a b c = omega (arith, ints)

module _ (tanks : ℕ) where
  -- weights written as words of a kind are the weights of that kind, and no weights of another
  weights_given : (k j : ℕ) (ws : List Weight) (r : ℕ) → AllByRecursion (WeightFits tanks) ws → part_weight k (map (weight_word j) ws) r ≡ cond (eqb j k) (weight_of ws r) (pos 0)
  weights_given k j [] r h = elim (eqb j k) as (λ b. pos 0 ≡ cond b (pos 0) (pos 0)) [ true ↦ refl | false ↦ refl ]
  weights_given k j (w ∷ ws) r h =
      let one : word_weight k (weight_word j w) r ≡ cond (eqb j k) (cond (eqb w.tank r) (signed w) (pos 0)) (pos 0) =
      ap (λ m. cond (eqb m k) (cond (eqb (weight_said (weight_word j w)).tank r) (signed (weight_said (weight_word j w))) (pos 0)) (pos 0)) (weight_kind tanks j w h.0)
      ∙ ap (λ (x : Weight). cond (eqb j k) (cond (eqb x.tank r) (signed x) (pos 0)) (pos 0)) (weight_says tanks j w h.0) in
      rw (one, weights_given k j ws r h.1)
      (elim (eqb j k) as (λ b. cond b (cond (eqb w.tank r) (signed w) (pos 0)) (pos 0) +ℤ cond b (weight_of ws r) (pos 0) ≡ cond b (cond (eqb w.tank r) (signed w) (pos 0) +ℤ weight_of ws r) (pos 0)) [ true ↦ refl | false ↦ refl ])

  -- ---- lines

  line_weights : (k : ℕ) (t : LineText) → LineFits tanks t → (7 ≡ k → ⊥) → (r : ℕ) → part_weight k (line_words t) r ≡ cond (eqb 8 k) (weight_of t.lefts r) (pos 0) +ℤ cond (eqb 9 k) (weight_of t.rights r) (pos 0)
  line_weights k t h ne r =
      let head : word_weight k (line_head t.strict) r ≡ pos 0 = rw ((line_good t.strict).0.kind_is, ne_eqb 7 k ne) in
      rw (head, append_weight k (map (weight_word 8) t.lefts) (map (weight_word 9) t.rights) r, weights_given k 8 t.lefts r h.lefts_fit, weights_given k 9 t.rights r h.rights_fit)
      (omega (arith, ints))

  pub strict_bit : (t : LineText) → part_strict (line_words t) ≡ t.strict
  strict_bit t = (line_good t.strict).1

  -- the words of a line say the line
  pub line_says : (t : LineText) → LineFits tanks t → part_line (line_words t) ≡ line_of t
  line_says t h = same_line _ _ (λ r. line_weights 8 t h (λ e. omega arith) r ∙ omega (arith, ints)) (λ r. line_weights 9 t h (λ e. omega arith) r ∙ omega (arith, ints)) (strict_bit t)

  line_blocks : Blocks 7 9 line_words (LineFits tanks)
  line_blocks = record {
    head = λ t. line_head t.strict;
    tail = λ t. map (weight_word 8) t.lefts ++ map (weight_word 9) t.rights;
    made = λ t. refl;
    head_kind = λ t _. (line_good t.strict).0.kind_is;
    tail_kinds = weights_of_line tanks;
    no_step = λ j a b e. omega arith;
  }

  -- a search for a line passes the case's word
  past_head : (c : CaseText) (l : ℕ) → from_nth 7 l (case_words c) ≡ from_nth 7 l (joined line_words c ++ [])
  past_head c l = seek_pass 7 l (6 * 2 ^ 28) (joined line_words c) (λ e. omega arith) ∙ ap (from_nth 7 l) (sym (append-nil (joined line_words c)))

  -- line l of a case
  pub line_of_case : (c : CaseText) → CaseFits tanks c → (l : ℕ) (z : LineText) → l < length c → line_part l (case_words c) ≡ line_words (get_or c l z)
  line_of_case c h l z inside = ap (part 7) (past_head c l) ∙ nth_block line_blocks c [] l z h.lines_fit tt inside

  -- there is no line beyond the last
  pub past_lines : (c : CaseText) → CaseFits tanks c → (l : ℕ) → length c ≤ l → line_part l (case_words c) ≡ []
  past_lines c h l past = ap (part 7) (past_head c l ∙ past_blocks line_blocks c 0 0 [] l h.lines_fit tt (λ j a b e. omega arith) past)

  -- what the words of a case say of line l, where there is one and where there is none
  pub line_of_case_says : (c : CaseText) → CaseFits tanks c → (l : ℕ) → part_line (line_part l (case_words c)) ≡ line_at (map line_of c) l
  line_of_case_says c h l =
      ⊎_elim
      (λ (in' : l < length c).
      ap part_line (line_of_case c h l no_text in')
      ∙ (line_says (get_or c l no_text) (All-get_or (LineFits tanks) c l no_text in' h.lines_fit)
      ∙ sym (get_or-map line_of c l no_text no_line in')))
      (λ (past : length c ≤ l).
      ap part_line (past_lines c h l past)
      ∙ sym (get_or_past (map line_of c) l no_line (omega (arith, length-map c line_of))))
      (cases_lt l (length c))
    where
      no_text : LineText
      no_text = record { strict = false; lefts = []; rights = [] }

  pub lines_counted : (c : CaseText) → CaseFits tanks c → count_kind 7 (case_words c) ≡ length c
  lines_counted c h = count_blocks line_blocks c h.lines_fit

  -- ---- cases

  case_blocks : Blocks 6 9 case_words (CaseFits tanks)
  case_blocks = record {
    head = λ _. 6 * 2 ^ 28;
    tail = joined line_words;
    made = λ c. refl;
    head_kind = λ c _. refl;
    tail_kinds = λ c h. lines_of_case tanks c h.lines_fit;
    no_step = λ j a b e. omega arith;
  }

-- a barrier has as many cases as its document, and each as many lines
pub cases_kept : (d : BarrierDocument) → length (barrier_of d) ≡ length d.cases
cases_kept d = length-map d.cases (map line_of)

pub lines_kept : (d : BarrierDocument) (i : ℕ) → length (case_at (barrier_of d) i) ≡ lines_in d.cases i
lines_kept d i = at d.cases i
  where
    at : (cs : List CaseText) (i : ℕ) → length (case_at (map (map line_of) cs) i) ≡ lines_in cs i
    at [] i = refl
    at (c ∷ cs) zero = length-map c line_of
    at (c ∷ cs) (suc i) = at cs i

-- ---- the lengths of parts

from_nth_le : (k n : ℕ) (ws : List ℕ) → length (from_nth k n ws) ≤ length ws
from_nth_le k n [] = omega arith
from_nth_le k zero (w ∷ ws) =
    let more = from_nth_le k zero ws in
    cond_both (eqb (kind w) k) (w ∷ ws) (from_nth k zero ws) (λ vs. length vs ≤ suc (length ws)) (λ _. omega arith) (λ _. omega arith)
from_nth_le k (suc n) (w ∷ ws) =
    let found = from_nth_le k n ws in
    let more = from_nth_le k (suc n) ws in
    cond_both (eqb (kind w) k) (from_nth k n ws) (from_nth k (suc n) ws) (λ vs. length vs ≤ suc (length ws)) (λ _. omega arith) (λ _. omega arith)

part_le : (k : ℕ) (ws : List ℕ) → length (part k ws) ≤ length ws
part_le k [] = omega arith
part_le k (w ∷ ws) = omega (arith, before_le k ws)

-- a line of a case is no longer than the paper
pub line_part_le : (i l : ℕ) (ws : List ℕ) → length (line_part l (case_part i ws)) ≤ length ws
line_part_le i l ws =
    omega (arith, part_le 7 (from_nth 7 l (case_part i ws)), from_nth_le 7 l (case_part i ws), part_le 6 (from_nth 6 i ws), from_nth_le 6 i ws)

-- ---- a paper that is the writing of a well-formed document

steps_stop : (tanks valves : ℕ) (d : BarrierDocument) → BarrierFormed tanks valves d → (k : ℕ) → Stops k (joined step_words d.steps)
steps_stop tanks valves d f k = at d.steps f.steps_fit
  where
    at : (ss : List Step) → AllByRecursion (StepFits valves d.cases) ss → Stops k (joined step_words ss)
    at [] h = tt
    at (s ∷ ss) h = inr (step_says valves d.cases f.few_cases s h.0).kind_is

module _ (tanks valves : ℕ) (d : BarrierDocument) (f : BarrierFormed tanks valves d) (bs : List ℕ) (is : bs ≡ barrier_paper d) where
  pub paper_words : words bs ≡ barrier_words d
  paper_words = ap words is ∙ words_of_bytes (barrier_words d) (words_small tanks valves d f)

  -- case i
  pub case_found : (i : ℕ) → i < length d.cases → case_part i (words bs) ≡ case_words (get_or d.cases i [])
  case_found i h =
      ap (case_part i) paper_words
      ∙ nth_block (case_blocks tanks) d.cases (joined step_words d.steps) i [] f.cases_fit (steps_stop tanks valves d f 6) h

  -- there is no case beyond the last
  pub past_cases : (i : ℕ) → length d.cases ≤ i → case_part i (words bs) ≡ []
  past_cases i h =
      ap (case_part i) paper_words
      ∙ ap (part 6) (past_blocks (case_blocks tanks) d.cases 10 11 (joined step_words d.steps) i f.cases_fit (steps_kinds tanks valves d.cases f.few_cases f.cases_fit d.steps f.steps_fit) (λ j a b e. omega arith) h)

  -- what the paper says of line l of case i is that line of the barrier
  pub line_read : (i l : ℕ) → line_said (line_part l (case_part i (words bs))) ≡ line_at (case_at (barrier_of d) i) l
  line_read i l =
      said_short (line_part l (case_part i (words bs))) (omega (arith, line_part_le i l (words bs), ap length paper_words, f.few_words))
      ∙ ⊎_elim
      (λ (in' : i < length d.cases).
      ap (λ ws. part_line (line_part l ws)) (case_found i in')
      ∙ (line_of_case_says tanks (get_or d.cases i []) (All-get_or (CaseFits tanks) d.cases i [] in' f.cases_fit) l
      ∙ ap (λ c. line_at c l) (sym (get_or-map (map line_of) d.cases i [] [] in'))))
      (λ (past : length d.cases ≤ i).
      ap (λ ws. part_line (line_part l ws)) (past_cases i past)
      ∙ ap (λ c. line_at c l) (sym (get_or_past (barrier_of d) i [] (omega (arith, length-map d.cases (map line_of))))))
      (cases_lt i (length d.cases))

  -- so the weights that are read there are those of that line
  pub weights_read : (i l : ℕ) (case line : List ℕ) (x : LineWeights) → words case ≡ case_part i (words bs) → words line ≡ line_part l (words case) → line_meant x ≡ line_said (words line) → line_meant x ≡ line_at (case_at (barrier_of d) i) l
  weights_read i l case line x a b e = e ∙ (ap line_said (b ∙ ap (line_part l) a) ∙ line_read i l)

  -- how many lines case i has
  pub lines_found : (i : ℕ) → count_kind 7 (case_part i (words bs)) ≡ lines_in d.cases i
  lines_found i =
      ⊎_elim
      (λ (in' : i < length d.cases). ap (count_kind 7) (case_found i in') ∙ lines_counted tanks (get_or d.cases i []) (All-get_or (CaseFits tanks) d.cases i [] in' f.cases_fit))
      (λ (past : length d.cases ≤ i). ap (count_kind 7) (past_cases i past) ∙ ap length (sym (get_or_past d.cases i [] past)))
      (cases_lt i (length d.cases))

  -- the steps, and where they begin
  pub steps_found : steps_part (words bs) ≡ joined step_words d.steps
  steps_found =
      ap steps_part paper_words
      ∙ (skip 10 0 6 9 (joined case_words d.cases) (joined step_words d.steps) (cases_kinds tanks d.cases f.cases_fit) (λ j a b e. omega arith)
      ∙ first (joined step_words d.steps) (steps_stop tanks valves d f 10))
    where
      first : (ws : List ℕ) → Stops 10 ws → from_nth 10 0 ws ≡ ws
      first [] h = refl
      first (w ∷ ws) (inl e) = seek_found 10 w ws e
      first (w ∷ ws) (inr e) = seek_found 10 w ws e

  pub before_steps_found : before_steps (words bs) ≡ joined case_words d.cases
  before_steps_found =
      ap before_steps paper_words
      ∙ (go_on 10 6 9 (joined case_words d.cases) (joined step_words d.steps) (cases_kinds tanks d.cases f.cases_fit) (λ j a b e. omega arith) (λ j a b e. omega arith)
      ∙ (ap (λ ws. joined case_words d.cases ++ ws) (stop 10 (joined step_words d.steps) (steps_stop tanks valves d f 10))
      ∙ append-nil (joined case_words d.cases)))
