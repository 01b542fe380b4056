-- The totals of a walk meet the rule.
use Rattle.std.proofs.Common.{◌≡◌, ℕ, ◌*◌, ◌<◌, ◌≤◌, Bool, true, false, eqb, ◌⊎◌, List, [], ◌∷◌, reverse, refl, inl, inr, ⊎_elim, mul-le-mul, mul-zero, arith}
use Rattle.std.proofs.lemmas.Bool.{eqb-true, eq-eqb, or_cases, or_left, or_right, false≢true, cases_lt}
use Rattle.plant.specs.Net.{Net, Bounded, turned}
use Rattle.plant.specs.Walk.{Firing, Marking, Leads, stays, fires, times, Walk, held}
use Rattle.plant.specs.Firings.{weighed, total, named, totals}
use Rattle.plant.specs.Starting.{Among, Given, InOrder, Starts}
use Rattle.plant.specs.Totals.{Tallied, Meets}
use Rattle.walks.specs.Theorems.{Inside}
use Rattle.walks.proofs.Orders.{given_later}
use Rattle.walks.proofs.Closure.{starts_from}
use Rattle.walks.proofs.Runs.{state, leads_reversed}
use Rattle.walks.proofs.Named.{named_upto, upto_names, positive_upto, rising_upto, named_reverse, reverse_named}
use Rattle.walks.proofs.Sums.{Below, regroup, weighed_upto, total_named, named_total}
use Rattle.walks.proofs.Wider.{run_open, run_positive}
use Rattle.walks.proofs.Sufficient.{open_below}

-- the fired valves, in the order of firing
abbrev fired : List Firing → List ℕ
fired [] = []
fired (f ∷ fs) = f.valve ∷ fired fs

fired_named : (fs : List Firing) (t : ℕ) → Among t (fired fs) → named fs t ≡ true
fired_named [] t a = absurd a
fired_named (f ∷ fs) t a = ⊎_elim (λ (e : f.valve ≡ t). or_left _ _ (eq-eqb f.valve t e)) (λ (k : Among t (fired fs)). or_right _ _ (fired_named fs t k)) a

named_fired : (fs : List Firing) (t : ℕ) → named fs t ≡ true → Among t (fired fs)
named_fired [] t h = absurd (false≢true h)
named_fired (f ∷ fs) t h = ⊎_elim (λ (e : eqb f.valve t ≡ true). inl (eqb-true f.valve t e)) (λ (k : named fs t ≡ true). inr (named_fired fs t k)) (or_cases (eqb f.valve t) (named fs t) h)

-- where a product is positive, so is its second factor
pub factor : (a x : ℕ) → 1 ≤ a * x → 1 ≤ x
factor a x h = ⊎_elim (λ (l : 0 < x). l) (λ (l : x ≤ 0). absurd (let z : x ≡ 0 = omega arith in let y : a * x ≡ 0 = rw z (mul-zero a) in omega arith)) (cases_lt 0 x)

-- a run fires its valves in an order in which they start
run_order : (N : Net) (start : Marking) {m m' : Marking} {fs : List Firing} → Leads N m fs m' → (earlier : List ℕ) → ((r : ℕ) → r < N.tanks → 1 ≤ m r → (1 ≤ start r) ⊎ Given N earlier r) → InOrder N start earlier (fired fs)
run_order N start (stays h) earlier from = tt
run_order N start (fires {m} {m₁ = m₁} {f = f} h u) earlier from = (
  λ r l k. from r l (omega (arith, h.holds r l, mul-le-mul h.some k)),
  run_order N start u (f.valve ∷ earlier) (λ r l k. ⊎_elim
      (λ (g : 0 < m r). given_later N earlier f.valve r (from r l g))
      (λ (g : m r ≤ 0). inr (record { giver = f.valve; among = inl refl; gives = factor f.amount (N.outlet f.valve r) (omega (arith, h.moves r l)) }))
      (cases_lt 0 (m r))),
)

pub run_starts : (N : Net) (k : ℕ) (A : List ℕ) {m' : Marking} (fs : List Firing) → Leads N (times k A) fs m' → (S : ℕ → Bool) → Inside N S → ((t : ℕ) → S t ≡ true → named fs t ≡ true) → ((t : ℕ) → named fs t ≡ true → S t ≡ true) → Starts N (held A) S
run_starts N k A fs h S inside to from =
    starts_from N (held A) S inside (fired fs) (λ t s. named_fired fs t (to t s)) (λ t a. from t (fired_named fs t a))
    (run_order N (held A) h [] (λ r l p. inl (factor k (held A r) p)))

module _ (N : Net) (b : Bounded N) (A B : List ℕ) (x : Walk N A B) where
  below : Below N.valves x.firings
  below t h = open_below N b t (run_open N x.leads t h)

  of_total : (t : ℕ) → named (totals N x.firings) t ≡ true → named x.firings t ≡ true
  of_total t h =
      ⊎_elim
      (λ (p : 1 ≤ total x.firings t). named_total x.firings t p)
      (λ (k : false ≡ true). absurd (false≢true k))
      (named_upto N.valves (total x.firings) [] t h)

  to_total : (t : ℕ) → named x.firings t ≡ true → named (totals N x.firings) t ≡ true
  to_total t h = upto_names N.valves (total x.firings) [] t (below t h) (total_named x.firings t (run_positive N x.leads) h)

  inside : Inside N (named (totals N x.firings))
  inside t h = below t (of_total t h)

  same_sum : (W : ℕ → ℕ → ℕ) (r : ℕ) → weighed W (totals N x.firings) r ≡ weighed W x.firings r
  same_sum W r = omega (arith, weighed_upto N.valves (total x.firings) W [] r, regroup N.valves W x.firings r below)

  pub tallied : Tallied x.scale (totals N x.firings)
  tallied = record {
    divisor = x.positive;
    positive = positive_upto N.valves (total x.firings) [] tt;
    rising = rising_upto N.valves (total x.firings) [] tt;
  }

  pub necessary : Meets N A B x.scale (totals N x.firings)
  necessary = record {
    opened = λ t h. run_open N x.leads t (of_total t h);
    balance = λ r l. omega (arith, state N x.leads r l, same_sum N.intake r, same_sum N.outlet r);
    begins = run_starts N x.scale A x.firings x.leads (named (totals N x.firings)) inside of_total to_total;
    ends = run_starts (turned N) x.scale B (reverse x.firings) (leads_reversed N _ _ _ x.leads) (named (totals N x.firings)) inside
        (λ t h. reverse_named x.firings t (of_total t h))
        (λ t h. to_total t (named_reverse x.firings t h));
  }
