-- The search for a match that is not good, against what it looks for.
use Rattle.std.proofs.Common.{◌≡◌, ℕ, ◌<◌, Bool, true, false, not, length, Some, None, Decides, sym, ◌∙◌, ⊎_elim, arith}
use Rattle.std.proofs.ByRecursion.{All-get_or}
use Rattle.std.proofs.lemmas.Bool.{cases_Bool, cond-true, cond-false, not-true, not-false}
use Rattle.std.proofs.lemmas.Bool.Decides.{Decides-like, not_from_Decides}
use Rattle.plant.specs.Net.{Net}
use Rattle.starting.specs.Starting.{first_below}
use Rattle.starting.proofs.Firsts.{none_first, some_first}
use Rattle.barriers.specs.Lines.{Barrier, line_at, case_at}
use Rattle.barriers.specs.Steps.{Step, no_match, match_at, MatchGood}
use Rattle.barriers.proofs.Decided.{good_decided}
use Rattle.barrier_paper.specs.Document.{BarrierDocument, barrier_of, lines_in, MatchFits, StepFits}
use Rattle.barrier_paper.proofs.Parts.{lines_kept}
use Rattle.barrier_rule.specs.Judgement.{matches?, first_bad}

-- match k of a step is the first that is not good, and the step's valve is open
pub record BadAt (N : Net) (β : Barrier) (s : Step) (k : ℕ) : Type 0 where
  pub valve_open : N.opens s.valve ≡ true
  pub match_there : k < length (case_at β s.to)
  pub bad : MatchGood N β s k → ⊥
  pub good_before : (j : ℕ) → j < k → MatchGood N β s j

module _ (N : Net) (d : BarrierDocument) (s : Step) (fits : StepFits N.valves d.cases s) where
  abbrev β : Barrier
  β = barrier_of d

  -- the test of one match fails
  abbrev fails : ℕ → Bool
  fails k = not (matches? N β s k)

  lines_matched : length s.matches ≡ length (case_at β s.to)
  lines_matched = fits.matched ∙ sym (lines_kept d s.to)

  match_decided : (k : ℕ) → k < length s.matches → Decides (matches? N β s k) (MatchGood N β s k)
  match_decided k l =
      let fit = All-get_or (MatchFits (lines_in d.cases s.from)) s.matches k no_match l fits.matches_fit in
      Decides-like (matches? N β s k) (λ g. record { named = omega (arith, fit.line_there, lines_kept d s.from); good = g }) (λ m. m.good)
      (good_decided N s.way s.valve (line_at (case_at β s.from) (match_at s k).line) (line_at (case_at β s.to) k) (match_at s k).p (match_at s k).q)

  passing : (k : ℕ) → k < length s.matches → fails k ≡ false → MatchGood N β s k
  passing k l e = (match_decided k l).0 (not-false (matches? N β s k) e)

  weighed : N.opens s.valve ≡ true → first_bad N β s ≡ first_below (length s.matches) fails
  weighed o = cond-true (N.opens s.valve) (first_below (length s.matches) fails) None o

  -- nothing is found: the matches of an open valve's step are all good
  pub none_bad : N.opens s.valve ≡ true → first_bad N β s ≡ None → (k : ℕ) → k < length (case_at β s.to) → MatchGood N β s k
  none_bad o e k l =
      let there : k < length s.matches = omega (arith, lines_matched) in
      passing k there (none_first fails (length s.matches) (sym (weighed o) ∙ e) k there)

  pub some_bad : (k : ℕ) → first_bad N β s ≡ Some k → BadAt N β s k
  some_bad k e =
      ⊎_elim
      (λ (o : N.opens s.valve ≡ true).
      let first = some_first fails (length s.matches) k (sym (weighed o) ∙ e) in
      record {
        valve_open = o;
        match_there = omega (arith, first.below, lines_matched);
        bad = not_from_Decides (matches? N β s k) (match_decided k first.below) (not-true (matches? N β s k) first.passes);
        good_before = λ j l. passing j (omega (arith, first.below)) (first.least j l);
      })
      (λ (c : N.opens s.valve ≡ false).
      let none = cond-false (N.opens s.valve) (first_below (length s.matches) fails) None c in
      absurd (let z : ◌≡◌ {A = ℕ} 0 1 = cc in omega arith))
      (cases_Bool (N.opens s.valve))
