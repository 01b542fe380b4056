-- What the word of a step and the words of its matches say.
use Rattle.std.proofs.Common.{◌≡◌, ℕ, suc, ◌+◌, ◌<◌, Bool, true, false, cond, not, eqb, List, [], map, length, get_or, Some, None, Option, Ok, Err, Result, sym, refl, ap, ◌∙◌, arith, add-one}
use Rattle.std.proofs.lemmas.Bool.Decides.{nat_tests}
use Rattle.std.proofs.lemmas.List.{length-map, get_or-map}
use Rattle.std.proofs.ByRecursion.{All-get_or}
use Rattle.arrayvec.specs.ArrayVec.{ArrayVec}
use Rattle.plant.specs.Net.{Net}
use Rattle.words.specs.Words.{field}
use Rattle.words.specs.Faults.{refusing}
use Rattle.barriers.specs.Lines.{Case, Barrier, case_at}
use Rattle.barriers.specs.Steps.{forward, backward, Step, no_match}
use Rattle.starting.specs.Starting.{first_below}
use Rattle.starting.proofs.Firsts.{some_first}
use Rattle.barrier_paper.specs.Document.{BarrierDocument, StepFits, MatchFits, barrier_of, lines_in, way_bit, match_said, way_said, step_key}
use Rattle.barrier_paper.proofs.WordParts.{way_back}
use Rattle.barrier_paper.proofs.Parts.{cases_kept, lines_kept}
use Rattle.barrier_rule.specs.declared.faults.BarrierFault.{BarrierFault}
use Rattle.barrier_rule.specs.declared.faults.BarrierFault.TheVariants.{Missing, BadMatch}
use Rattle.barrier_rule.specs.Judgement.{gap, matches?, first_bad, step_judged}
use Rattle.lines.specs.OfLine.{line_meant}
use Rattle.lines.specs.declared.line.LineWeights.{LineWeights}
use Rattle.barrier_weighing.specs.OfCases.{case_meant, barrier_meant}
use Rattle.barrier_weighing.specs.OfMatches.{whole_step}

-- the place of a step is the field of its word that has its direction, case and valve
pub key_is : (w : ℕ) (ws : List ℕ) → field w 17 11 ≡ step_key (whole_step w ws)
key_is w ws =
    let b : way_bit (way_said w) ≡ field w 27 1 = way_back (field w 27 1) (omega arith) in
    omega (arith, b)

module _ (x : ArrayVec (ArrayVec LineWeights)) (d : BarrierDocument) (meant : barrier_meant x ≡ barrier_of d) {j i : ℕ} (is : j ≡ i) (h : i < length d.cases) where
  -- a case of the document is in the vector
  pub there : j < length x.items
  there = omega (arith, is, h, ap length meant, length-map x.items case_meant, cases_kept d)

  -- and means that case
  pub case_is : (z : ArrayVec LineWeights) → case_meant (get_or x.items j z) ≡ case_at (barrier_of d) i
  case_is z = rw is (sym (get_or-map case_meant x.items i z [] (omega (arith, there, is))) ∙ ap (λ β. case_at β i) meant)

  pub lines_are : (z : ArrayVec LineWeights) → length (get_or x.items j z).items ≡ lines_in d.cases i
  lines_are z = sym (length-map (get_or x.items j z).items line_meant) ∙ ap length (case_is z) ∙ lines_kept d i

-- what the matches of a step keep that fits
module _ {valves : ℕ} (d : BarrierDocument) (w : ℕ) (ws : List ℕ) (fits : StepFits valves d.cases (whole_step w ws)) where
  pub matched : (xs : List LineWeights) → map line_meant xs ≡ case_at (barrier_of d) (whole_step w ws).to → length ws ≡ length xs
  matched xs e = omega (arith, fits.matched, length-map ws match_said, length-map xs line_meant, ap length e, lines_kept d (whole_step w ws).to)

  pub named : {φ : Case} → φ ≡ case_at (barrier_of d) (whole_step w ws).from → (k : ℕ) → k < length ws → (get_or (map match_said ws) k no_match).line < length φ
  named e k h =
      let m = All-get_or (MatchFits (lines_in d.cases (whole_step w ws).from)) (map match_said ws) k no_match (omega (arith, length-map ws match_said)) fits.matches_fit in
      omega (arith, m.line_there, ap length e, lines_kept d (whole_step w ws).from)

-- a bad match is one of the step's
pub bad_below : (N : Net) (β : Barrier) (s : Step) (k : ℕ) → Some k ≡ first_bad N β s → k < length s.matches
bad_below N β s k e = at (N.opens s.valve) e
  where
    at : (b : Bool) → Some k ≡ cond b (first_below (length s.matches) (λ j. not (matches? N β s j))) None → k < length s.matches
    at true e = (some_first _ (length s.matches) k (sym e)).below
    at false e = absurd (let z : ◌≡◌ {A = ℕ} 0 1 = cc in omega arith)

-- the answer to one step by what the two searches find; the code has the numbers with 1 added
pub step_answer : (N : Net) (β : Barrier) (next at w : ℕ) (ws : List ℕ) (place : ℕ) (o o' : Option ℕ) → place ≡ field w 17 11 → o ≡ gap N (length β) next place → o' ≡ first_bad N β (whole_step w ws)
    → refusing o Missing (refusing o' (λ k. BadMatch (at + (k + 1))) (Ok (place + 1))) ≡ step_judged N β next at (whole_step w ws)
step_answer N β next at w ws place o o' is e e' = ap (refusing o Missing) (later o') ∙ rw (e, e', is, key_is w ws) refl
  where
    later : (o' : Option ℕ) → ◌≡◌ {A = Result ℕ BarrierFault} (refusing o' (λ k. BadMatch (at + (k + 1))) (Ok (place + 1))) (refusing o' (λ k. BadMatch (at + suc k)) (Ok (suc place)))
    later None = ap Ok (add-one place)
    later (Some k) = ap (λ n. Err (BadMatch (at + n))) (add-one k)
