-- The matches of a step, each with the line of the case reached that it stands for.
use Rattle.std.proofs.Common.{◌≡◌, ℕ, zero, suc, ◌+◌, ◌<◌, Bool, true, false, not, List, [], ◌∷◌, map, length, get_or, Some, None, Option, MatchOption, sym, refl, ap, ◌∙◌, subst, arith}
use Rattle.std.specs.List.{zip, AllWithin, HoldsAt}
use Rattle.std.proofs.lemmas.List.{get_or-map}
use Rattle.std.proofs.lemmas.Bool.{cond-true}
use Rattle.std.proofs.lemmas.Slice.Zip.{length-zip, get_or-zip}
use Rattle.plant.specs.Net.{Net}
use Rattle.words.specs.declared.word.Word.{Word}
use Rattle.words.specs.Placed.{placed}
use Rattle.words.proofs.Placing.{length_placed}
use Rattle.barriers.specs.Lines.{Case, Barrier, no_line, line_at, case_at}
use Rattle.barriers.specs.Steps.{Way, Match, Step, no_match}
use Rattle.barriers.specs.Tests.{good?}
use Rattle.starting.specs.Starting.{first_below}
use Rattle.starting.proofs.Firsts.{Found, first_is}
use Rattle.lines.specs.OfLine.{line_meant}
use Rattle.lines.specs.OfValve.{ReadFrom, valve_meant}
use Rattle.lines.specs.declared.line.LineWeights.{LineWeights}
use Rattle.lines.specs.declared.valve.ValveWeights.{ValveWeights}
use Rattle.lines.proofs.OfValve.{good}
use Rattle.barrier_paper.specs.Document.{match_said}
use Rattle.barrier_rule.specs.Judgement.{first_bad}

placed_at : (at : ℕ) (ws : List ℕ) (k : ℕ) (v : Word) → k < length ws → (get_or (placed at ws) k v).bits ≡ get_or ws k 0
placed_at at [] k v h = absurd (omega arith)
placed_at at (w ∷ ws) zero v h = refl
placed_at at (w ∷ ws) (suc k) v h = placed_at (at + 1) ws k v (omega arith)

first_of : {X : Type 0} (xs : List X) → 0 < length xs → X
first_of [] h = absurd (omega arith)
first_of (x ∷ xs) h = x

module _ (N : Net) (way : Way) (t : ℕ) (φ : Case) where
  -- whether match k of several is good
  abbrev pub good_match : Case → List Match → ℕ → Bool
  good_match φ' ms k = good? N way t (line_at φ (get_or ms k no_match).line) (line_at φ' k) (get_or ms k no_match).p (get_or ms k no_match).q

  -- what is known of a match by its word and its line
  abbrev pub Told : Bool → Word × LineWeights → Type 0
  Told b p = (match_said p.0.bits).line < length φ → good? N way t (line_at φ (match_said p.0.bits).line) (line_meant p.1) (match_said p.0.bits).p (match_said p.0.bits).q ≡ b

  module _ (ws : List ℕ) (xs : List LineWeights) (matched : length ws ≡ length xs) (named : (k : ℕ) → k < length ws → (get_or (map match_said ws) k no_match).line < length φ) where
    abbrev pairs : List (Word × LineWeights)
    pairs = zip (placed 0 ws) xs

    length_pairs : length pairs ≡ length ws
    length_pairs = omega (arith, length-zip (placed 0 ws) xs, length_placed 0 ws, matched)

    told : (k : ℕ) (b : Bool) → k < length ws → HoldsAt (Told b) pairs k → good_match (map line_meant xs) (map match_said ws) k ≡ b
    told k b h says =
        let v : Word = record { place = 0; bits = 0 } in
        let x = first_of xs (omega (arith, matched)) in
        let m = get_or-map match_said ws k 0 no_match h ∙ ap match_said (sym (placed_at 0 ws k v h)) in
        let line = get_or-map line_meant xs k x no_line (omega (arith, matched)) in
        let at = subst (Told b) (get_or-zip (placed 0 ws) xs k (v, x) (omega (arith, length_placed 0 ws)) (omega (arith, matched))) (says (v, x)) in
        rw (m, line) (at (rw m at (named k h)))

    pub searched : (r : Option ℕ) → MatchOption r (AllWithin (Told true) pairs 0 (length pairs)) (λ i. (i < length pairs) × HoldsAt (Told false) pairs i × AllWithin (Told true) pairs 0 i)
        → r ≡ first_below (length ws) (λ k. not (good_match (map line_meant xs) (map match_said ws) k))
    searched r h = first_is _ _ r (answers r h)
      where
        answers : (r : Option ℕ) → MatchOption r (AllWithin (Told true) pairs 0 (length pairs)) (λ i. (i < length pairs) × HoldsAt (Told false) pairs i × AllWithin (Told true) pairs 0 i) → Found (λ k. not (good_match (map line_meant xs) (map match_said ws) k)) (length ws) r
        answers None h = λ k l. ap not (told k true l (λ d. h k d (omega arith) (omega (arith, length_pairs))))
        answers (Some i) h =
            let inside : i < length ws = omega (arith, h.0, length_pairs) in
            record { below = inside; passes = ap not (told i false inside h.1); least = λ k l. ap not (told k true (omega arith) (λ d. h.2 k d (omega arith) l)) }

-- what is known by the weights that are read from a valve is known by the plant
pub read_told : {v : ValveWeights} {N : Net} {t : ℕ} → ReadFrom v N t → (way : Way) (φ : Case) (b : Bool) (p : Word × LineWeights) → Told (valve_meant v) way 0 φ b p → Told N way t φ b p
read_told {v} {N} {t} read way φ b p says l = let m = match_said p.0.bits in sym (good v N t read way (line_at φ m.line) (line_meant p.1) m.p m.q) ∙ says l

-- in an open valve's step, the first match that is not good
pub bad_is : (N : Net) (β : Barrier) (s : Step) {way : Way} {t n : ℕ} {φ φ' : Case} → way ≡ s.way → t ≡ s.valve → n ≡ length s.matches → φ ≡ case_at β s.from → φ' ≡ case_at β s.to → N.opens s.valve ≡ true
    → first_below n (λ k. not (good_match N way t φ φ' s.matches k)) ≡ first_bad N β s
bad_is N β s b c e f f' o = rw (b, c, e, f, f') (sym (cond-true (N.opens s.valve) _ _ o))
