-- A weighing answers JOINED exactly when the totals are accepted; accepted totals have a walk, and the totals of a walk are accepted.
use Rattle.std.proofs.Common.{◌≡◌, ℕ, zero, suc, ◌<◌, ◌≤◌, Bool, true, false, cond, eqb, ltb, List, [], ◌∷◌, length, None, Ok, Err, Result, refl, ⊎_elim, arith}
use Rattle.std.specs.List.{AllByRecursion}
use Rattle.std.proofs.ByRecursion.{All-weaker}
use Rattle.std.proofs.lemmas.List.{get_or_past}
use Rattle.std.proofs.lemmas.Bool.{cases_lt, eqb-true, eq-eqb, le-ltb, ltb-false}
use Rattle.plant.specs.Limits.{most_amount}
use Rattle.plant.specs.Net.{Net, Bounded}
use Rattle.plant.specs.Walk.{Firing, Walk, held}
use Rattle.plant.specs.Firings.{named, total, totals, upto, WalkBy}
use Rattle.walks.proofs.Named.{upto_either}
use Rattle.walks.proofs.Sufficient.{sufficient}
use Rattle.walks.proofs.Necessary as Necessary
use Rattle.words.specs.Faults.{raised}
use Rattle.words.specs.Inverse.{Bytes}
use Rattle.paper.specs.Totals.{TotalFits, TotalsFormed, totals_paper}
use Rattle.paper.specs.TotalsForm.{totals_read}
use Rattle.paper.proofs.Steps.{through, unraised}
use Rattle.paper.proofs.TotalsExact.{formed_of_read, totals_papers_are_exact, tallied, rising_few}
use Rattle.starting.proofs.Firsts.{first_none, none_first}
use Rattle.weighing.specs.declared.faults.Verdict.TheVariants.{Joined}
use Rattle.weighing.specs.declared.faults.Side.TheVariants.{Source, Target}
use Rattle.weighing.specs.declared.faults.QuestionFault.TheVariants.{Amount}
use Rattle.weighing.specs.declared.faults.WeighingFault.TheVariants.{Question, Paper, Totals}
use Rattle.weighing.specs.Question.{over, asked, Filling}
use Rattle.weighing.specs.Judgement.{judged}
use Rattle.weighing.specs.Weighing.{weighs}
use Rattle.weighing.specs.Accepted.{Accepted, WithinLimits, totals_of_walk, TotalsAreWeighedExactly, AcceptedTotalsHaveAWalk, TotalsOfWalksAreAccepted}
use Rattle.weighing.proofs.Conditions.{Search, search_of, found_none, meets_joined, joined_meets}

-- no amount is over the limit exactly when the search finds none
small_none : (A : List ℕ) → ((r : ℕ) → held A r ≤ most_amount) → over A ≡ None
small_none A h = first_none (λ r. ltb most_amount (held A r)) (length A) (λ r l. le-ltb most_amount (held A r) (h r))

none_small : (A : List ℕ) → over A ≡ None → (r : ℕ) → held A r ≤ most_amount
none_small A e r =
    ⊎_elim
    (λ (l : r < length A). ltb-false most_amount (held A r) (none_first (λ r. ltb most_amount (held A r)) (length A) e r l))
    (λ (l : length A ≤ r). omega (arith, get_or_past A r 0 l))
    (cases_lt r (length A))

over_found : (A : List ℕ) → Search ((r : ℕ) → held A r ≤ most_amount) (λ k. Unit {0}) (over A)
over_found A = search_of (over A) (none_small A) (λ k e. tt)

-- a test before an answer
pub cond_ok : {X E : Type 0} (t : Bool) (r : Result X E) (f : E) (x : X) → cond t r (Err f) ≡ Ok x → (t ≡ true) × (r ≡ Ok x)
cond_ok true r f x p = (refl, p)
cond_ok false r f x p = absurd (cc)

asked_fillings : (tanks : ℕ) (A B : List ℕ) → asked tanks A B ≡ Ok tt → Filling tanks A × Filling tanks B
asked_fillings tanks A B p =
    let one = cond_ok (eqb (length A) tanks) _ _ _ p in
    let two = cond_ok (eqb (length B) tanks) _ _ _ one.1 in
    let three = found_none (Amount Source) _ _ (over_found A) two.1 in
    let four = found_none (Amount Target) _ _ (over_found B) three.1 in
    (record { listed = eqb-true _ _ one.0; small = three.0 }, record { listed = eqb-true _ _ two.0; small = four.0 })

fillings_asked : (tanks : ℕ) (A B : List ℕ) → Filling tanks A → Filling tanks B → asked tanks A B ≡ Ok tt
fillings_asked tanks A B a b = rw (eq-eqb (length A) tanks a.listed, eq-eqb (length B) tanks b.listed, small_none A a.small, small_none B b.small)

module _ (N : Net) (b : Bounded N) (A B bs : List ℕ) where
  pub only_accepted : Bytes bs → weighs N A B bs ≡ Ok Joined → Accepted N A B bs
  only_accepted small p =
      let one = through (raised Question (asked N.tanks A B)) _ _ p in
      let two = through (raised Paper (totals_read N.valves bs)) _ _ one.2 in
      let fillings = asked_fillings N.tanks A B (unraised Question (asked N.tanks A B) one.0 one.1) in
      let read = formed_of_read N.valves bs two.0 (unraised Paper (totals_read N.valves bs) two.0 two.1) small in
      record {
        source = fillings.0;
        target = fillings.1;
        document = two.0;
        formed = read.0;
        written = read.1;
        meets = joined_meets N b A B two.0 (unraised Totals (judged N A B two.0) Joined two.2);
      }

  pub all_accepted : Accepted N A B bs → weighs N A B bs ≡ Ok Joined
  all_accepted a =
      rw (fillings_asked N.tanks A B a.source a.target, a.written, totals_papers_are_exact.written_is_read N.valves a.document a.formed, meets_joined N b A B a.document a.meets)

  pub accepted_walk : (a : Accepted N A B bs) → WalkBy N A B (named a.document.totals)
  accepted_walk a = sufficient N b A B a.document.divisor a.document.totals (tallied N.valves a.document a.formed) a.meets

-- a listing of totals fits where each of them does
listed_fit : (P : Firing → Type 0) (n : ℕ) (v : ℕ → ℕ) (after : List Firing) → ((t : ℕ) → t < n → 1 ≤ v t → P (record { valve = t; amount = v t })) → AllByRecursion P after → AllByRecursion P (upto n v after)
listed_fit P zero v after h a = a
listed_fit P (suc n) v after h a =
    upto_either n v after (AllByRecursion P)
    (λ k. listed_fit P n v (record { valve = n; amount = v n } ∷ after) (λ t l. h t (omega arith)) (h n (omega arith) k, a))
    (λ z. listed_fit P n v after (λ t l. h t (omega arith)) a)

module _ (N : Net) (b : Bounded N) (A B : List ℕ) (x : Walk N A B) (w : WithinLimits N A B x) where
  fit : AllByRecursion (TotalFits N.valves) (totals N x.firings)
  fit =
      listed_fit (TotalFits N.valves) N.valves (total x.firings) []
      (λ t l k. record { valve_there = l; valve_small = omega (arith, b.few_valves); some = k; few = w.small_totals t })
      tt

  walk_formed : TotalsFormed N.valves (totals_of_walk N A B x)
  walk_formed =
      let t = Necessary.tallied N b A B x in
      let few = rising_few 0 N.valves (totals N x.firings) (omega arith) t.rising (All-weaker (TotalFits N.valves) (λ f. f.valve < N.valves) (λ f y. y.valve_there) (totals N x.firings) fit) in
      record {
        some_divisor = x.positive;
        small_divisor = w.small_scale;
        totals_fit = fit;
        totals_rise = t.rising;
        few_words = omega (arith, b.few_valves);
      }

  pub walk_accepted : Accepted N A B (totals_paper (totals_of_walk N A B x))
  walk_accepted = record {
    source = w.source;
    target = w.target;
    document = totals_of_walk N A B x;
    formed = walk_formed;
    written = refl;
    meets = Necessary.necessary N b A B x;
  }

pub totals_are_weighed_exactly : TotalsAreWeighedExactly
totals_are_weighed_exactly = record { only_accepted = only_accepted; all_accepted = all_accepted }

pub accepted_totals_have_a_walk : AcceptedTotalsHaveAWalk
accepted_totals_have_a_walk = accepted_walk

pub totals_of_walks_are_accepted : TotalsOfWalksAreAccepted
totals_of_walks_are_accepted N b A B x w = all_accepted N b A B (totals_paper (totals_of_walk N A B x)) (walk_accepted N b A B x w)
