-- What the judgement of a list of steps comes to, by induction over the list: the steps before it are judged, and every place
-- before `low` with them.
use Rattle.std.proofs.Common.{◌≡◌, ℕ, zero, suc, ◌+◌, ◌/◌, ◌%◌, ◌<◌, ◌≤◌, List, [], ◌∷◌, length, take, Some, None, Ok, Err, Option, Result, refl, ap, ◌∙◌, ⊎_elim, arith}
use Rattle.std.specs.List.{AllByRecursion}
use Rattle.std.proofs.lemmas.List.{length-append, length-map}
use Rattle.std.proofs.lemmas.Bool.{cases_order}
use Rattle.plant.specs.Net.{Net, Bounded}
use Rattle.words.specs.Faults.{refusing, onward}
use Rattle.barriers.specs.Lines.{Barrier}
use Rattle.barriers.specs.Steps.{Way, Step, step_at, Closes}
use Rattle.barrier_paper.specs.Document.{BarrierDocument, barrier_of, step_key, RisingSteps, StepFits, joined, step_words, match_word}
use Rattle.barrier_paper.proofs.Parts.{cases_kept}
use Rattle.barrier_rule.specs.declared.faults.BarrierFault.{BarrierFault}
use Rattle.barrier_rule.specs.declared.faults.BarrierFault.TheVariants.{FailsSource, FailsTarget, HoldsAcross, Missing, BadMatch}
use Rattle.barrier_rule.specs.Judgement.{most_places, gap, first_bad, steps_judged}
use Rattle.barrier_rule.specs.Exact.{place, Wanted}
use Rattle.barrier_rule.proofs.Places.{Small, key_below, key_leaving, Gap, wanted_small, gap_none, gap_some}
use Rattle.barrier_rule.proofs.Matches.{BadAt, none_bad, some_bad}

-- ---- rising keys

rising_least : (low : ℕ) (ss : List Step) → RisingSteps low ss → (n : ℕ) → n < length ss → low ≤ step_key (step_at ss n)
rising_least low [] r n l = absurd (omega arith)
rising_least low (s ∷ ss) r zero l = r.0
rising_least low (s ∷ ss) r (suc n) l = omega (arith, rising_least (suc (step_key s)) ss r.1 n (omega arith))

-- no two steps have one key
pub rising_apart : (low : ℕ) (ss : List Step) → RisingSteps low ss → (m n : ℕ) → m < length ss → n < length ss → step_key (step_at ss m) ≡ step_key (step_at ss n) → m ≡ n
rising_apart low [] r m n l l' e = absurd (omega arith)
rising_apart low (s ∷ ss) r zero zero l l' e = refl
rising_apart low (s ∷ ss) r zero (suc n) l l' e = absurd (omega (arith, rising_least (suc (step_key s)) ss r.1 n (omega arith)))
rising_apart low (s ∷ ss) r (suc m) zero l l' e = absurd (omega (arith, rising_least (suc (step_key s)) ss r.1 m (omega arith)))
rising_apart low (s ∷ ss) r (suc m) (suc n) l l' e = ap suc (rising_apart (suc (step_key s)) ss r.1 m n (omega arith) (omega arith) e)

-- ---- what the judgement comes to

-- wherever a step has to stand from place `low` on and before `high`, one of these does whose matches are all good
abbrev pub ClosedFrom : Net → Barrier → List Step → ℕ → ℕ → Type 0
ClosedFrom N β ss low high = (way : Way) (i t : ℕ) → Wanted N β i t → low ≤ place way i t → place way i t < high → (n : ℕ) × (n < length ss) × Closes N β way i t (step_at ss n)

-- k is the first place from `low` on at which a step has to stand and none of these does
pub record MissingFrom (N : Net) (β : Barrier) (ss : List Step) (low k : ℕ) : Type 0 where
  pub from : low ≤ k
  pub to : k < most_places
  pub wants : Wanted N β (k / 64 % 16) (k % 64)
  pub missing : (n : ℕ) → n < length ss → step_key (step_at ss n) ≡ k → ⊥
  pub closed : ClosedFrom N β ss low k

-- word w is the first match that is not good, where the first of these steps is word `at`
pub record BadFrom (N : Net) (β : Barrier) (ss : List Step) (low at w : ℕ) : Type 0 where
  pub step : ℕ
  pub match : ℕ
  pub is : w ≡ at + length (joined step_words (take step ss)) + suc match
  pub there : step < length ss
  pub bad : BadAt N β (step_at ss step) match
  pub closed : ClosedFrom N β ss low (step_key (step_at ss step))

-- what is so of these steps by each result
abbrev pub ComesTo : Net → Barrier → List Step → ℕ → ℕ → Result (Unit {0}) BarrierFault → Type 0
ComesTo N β ss low at (Ok x) = ClosedFrom N β ss low most_places
ComesTo N β ss low at (Err FailsSource) = ⊥
ComesTo N β ss low at (Err FailsTarget) = ⊥
ComesTo N β ss low at (Err HoldsAcross) = ⊥
ComesTo N β ss low at (Err (Missing k)) = MissingFrom N β ss low k
ComesTo N β ss low at (Err (BadMatch w)) = BadFrom N β ss low at w

-- a search refuses what it finds, or else what comes after is the answer
refusing_both : {A E : Type 0} (P : Result A E → Type 0) (o : Option ℕ) (fault : ℕ → E) (after : Result A E) → ((k : ℕ) → o ≡ Some k → P (Err (fault k))) → (o ≡ None → P after) → P (refusing o fault after)
refusing_both P None fault after found none = none refl
refusing_both P (Some k) fault after found none = found k refl

-- a step is one word and a word for each match
step_length : (s : Step) (ss : List Step) → length (joined step_words (s ∷ ss)) ≡ suc (length s.matches) + length (joined step_words ss)
step_length s ss = length-append (step_words s) (joined step_words ss) ∙ ap (λ n. suc n + length (joined step_words ss)) (length-map s.matches match_word)

-- the barrier has no more cases than a place has room for
pub cases_small : (d : BarrierDocument) → length d.cases ≤ 16 → length (barrier_of d) ≤ 16
cases_small d few = omega (arith, cases_kept d)

module _ (N : Net) (b : Bounded N) (d : BarrierDocument) (few : length d.cases ≤ 16) where
  abbrev β : Barrier
  β = barrier_of d

  abbrev Fits : Step → Type 0
  Fits = StepFits N.valves d.cases

  step_small : (s : Step) → Fits s → Small s.from s.valve
  step_small s fits = record { case_small = omega (arith, fits.from_there); valve_small = fits.valve_small }

  -- a step with no bad match closes its own place
  closes_own : (s : Step) → Fits s → first_bad N β s ≡ None → (way : Way) (i t : ℕ) → Wanted N β i t → step_key s ≡ place way i t → Closes N β way i t s
  closes_own s fits e way i t w same =
      let leaves = key_leaving s way i t (step_small s fits) (wanted_small N b β (cases_small d few) i t w) same in
      record {
        its_way = leaves.its_way;
        its_case = leaves.its_case;
        its_valve = leaves.its_valve;
        reaches = omega (arith, fits.to_there, cases_kept d);
        all_good = none_bad N d s fits (rw leaves.its_valve w.valve_open) e;
      }

  -- where no step has to stand, any steps do
  closed_none : (ss : List Step) (low high : ℕ) → gap N (length β) low high ≡ None → ClosedFrom N β ss low high
  closed_none ss low high e way i t w from to = absurd (gap_none N b β (cases_small d few) low high e way i t w from to)

  -- one more step in front, with no gap before it and no bad match
  closed_more : (s : Step) (ss : List Step) (low high : ℕ) → Fits s → gap N (length β) low (step_key s) ≡ None → first_bad N β s ≡ None → ClosedFrom N β ss (suc (step_key s)) high → ClosedFrom N β (s ∷ ss) low high
  closed_more s ss low high fits none good h way i t w from to =
      ⊎_elim
      (λ (here : step_key s ≡ place way i t). (zero, omega arith, closes_own s fits good way i t w here))
      (⊎_elim
      (λ (past : step_key s < place way i t). let (n, l, c) = h way i t w past to in (suc n, omega arith, c))
      (λ (before : place way i t < step_key s). absurd (gap_none N b β (cases_small d few) low (step_key s) none way i t w from before)))
      (cases_order (step_key s) (place way i t))

  -- a gap is a missing step where the steps that are left stand beyond it
  missing_here : (ss : List Step) (low high k : ℕ) → RisingSteps high ss → high ≤ most_places → Gap N β low high k → MissingFrom N β ss low k
  missing_here ss low high k rise small g = record {
    from = g.from;
    to = omega (arith, g.to);
    wants = g.wants;
    missing = λ n l e. omega (arith, rising_least high ss rise n l, g.to);
    closed = closed_none ss low k g.none_before;
  }

  -- the same for each result: what the others come to, all the steps do
  comes_more : (s : Step) (ss : List Step) (low at : ℕ) → Fits s → gap N (length β) low (step_key s) ≡ None → first_bad N β s ≡ None → low ≤ step_key s → (r : Result (Unit {0}) BarrierFault) → ComesTo N β ss (suc (step_key s)) (at + suc (length s.matches)) r → ComesTo N β (s ∷ ss) low at r
  comes_more s ss low at fits none good rise (Ok x) h = closed_more s ss low most_places fits none good h
  comes_more s ss low at fits none good rise (Err FailsSource) h = h
  comes_more s ss low at fits none good rise (Err FailsTarget) h = h
  comes_more s ss low at fits none good rise (Err HoldsAcross) h = h
  comes_more s ss low at fits none good rise (Err (Missing k)) h = record {
    from = omega (arith, h.from);
    to = h.to;
    wants = h.wants;
    missing = not_here;
    closed = closed_more s ss low k fits none good h.closed;
  }
    where
      not_here : (n : ℕ) → n < length (s ∷ ss) → step_key (step_at (s ∷ ss) n) ≡ k → ⊥
      not_here zero l e = omega (arith, h.from)
      not_here (suc n) l e = h.missing n (omega arith) e
  comes_more s ss low at fits none good rise (Err (BadMatch w)) h = record {
    step = suc h.step;
    match = h.match;
    is = omega (arith, h.is, step_length s (take h.step ss));
    there = omega (arith, h.there);
    bad = h.bad;
    closed = closed_more s ss low (step_key (step_at ss h.step)) fits none good h.closed;
  }

  pub steps_come_to : (ss : List Step) (low at : ℕ) → RisingSteps low ss → AllByRecursion Fits ss → ComesTo N β ss low at (steps_judged N β low at ss)
  steps_come_to [] low at r fits =
      refusing_both (ComesTo N β [] low at) (gap N (length β) low most_places) Missing (Ok tt)
      (λ k e. missing_here [] low most_places k tt (omega arith) (gap_some N b β (cases_small d few) low most_places k e))
      (λ e. closed_none [] low most_places e)
  steps_come_to (s ∷ ss) low at r fits =
      refusing_both (λ x. ComesTo N β (s ∷ ss) low at (onward x rest)) (gap N (length β) low (step_key s)) Missing (refusing (first_bad N β s) (λ k. BadMatch (at + suc k)) (Ok (suc (step_key s))))
      (λ k e. missing_here (s ∷ ss) low (step_key s) k (omega arith, r.1) (omega (arith, key_below s (step_small s fits.0))) (gap_some N b β (cases_small d few) low (step_key s) k e))
      (λ none. refusing_both (λ x. ComesTo N β (s ∷ ss) low at (onward x rest)) (first_bad N β s) (λ k. BadMatch (at + suc k)) (Ok (suc (step_key s)))
      (λ k e. record { step = zero; match = k; is = omega arith; there = omega arith; bad = some_bad N d s fits.0 k e; closed = closed_none (s ∷ ss) low (step_key s) none })
      (λ good. comes_more s ss low at fits.0 none good r.0 (rest (suc (step_key s))) (steps_come_to ss (suc (step_key s)) (at + suc (length s.matches)) r.1 fits.1)))
    where
      rest : ℕ → Result (Unit {0}) BarrierFault
      rest after = steps_judged N β after (at + suc (length s.matches)) ss
