-- Each of the searches of a judgement against the condition that it looks for.
use Rattle.std.proofs.Common.{◌≡◌, ℕ, ◌+◌, ◌<◌, Bool, true, false, cond, not, eqb, List, [], ◌∷◌, Some, None, Ok, Err, Option, Result, sym, refl, ap, ◌∙◌, ⊎_elim, arith}
use Rattle.std.proofs.lemmas.Bool.{cond-true, or_cases, or_left, or_right, eqb-true, eq-eqb, not-false, not_from_true, false≢true, true≢false}
use Rattle.plant.specs.Net.{Net, Bounded, turned}
use Rattle.plant.specs.Walk.{Firing, Marking, held}
use Rattle.plant.specs.Firings.{named}
use Rattle.plant.specs.Starting.{Starts}
use Rattle.plant.specs.Totals.{Meets}
use Rattle.walks.specs.Theorems.{Inside}
use Rattle.walks.proofs.Sufficient.{open_below}
use Rattle.starting.specs.Starting.{left_out}
use Rattle.starting.specs.LeftOut.{FirstOut}
use Rattle.starting.proofs.Firsts.{first_none, none_first, some_first}
use Rattle.starting.proofs.LeftOut.{left_none, none_left, left_some}
use Rattle.words.specs.Faults.{refusing}
use Rattle.paper.specs.Totals.{TotalsDocument}
use Rattle.weighing.specs.declared.faults.Verdict.TheVariants.{Joined}
use Rattle.weighing.specs.declared.faults.TotalsFault.{TotalsFault}
use Rattle.weighing.specs.declared.faults.TotalsFault.TheVariants.{Closed, Unbalanced, NoStart, NoEnd}
use Rattle.weighing.specs.Judgement.{closed_at, balance_side, unbalanced, judged}
use Rattle.weighing.specs.Refused.{AllOpen, FirstClosed, Balances, FirstUnbalanced, Refused}

-- a search that finds none where P is so, and k where Q k is so
pub data Search (P : Type 0) (Q : ℕ → Type 0) : Option ℕ → Type 0 where
  nothing : P → Search P Q None
  found : (k : ℕ) → Q k → Search P Q (Some k)

pub search_of : {P : Type 0} {Q : ℕ → Type 0} (o : Option ℕ) → (o ≡ None → P) → ((k : ℕ) → o ≡ Some k → Q k) → Search P Q o
search_of None none some = nothing (none refl)
search_of (Some k) none some = found k (some k refl)

-- a search before an answer
pub found_none : {A E P : Type 0} {Q : ℕ → Type 0} {o : Option ℕ} (f : ℕ → E) (r : Result A E) (x : A) → Search P Q o → refusing o f r ≡ Ok x → P × (r ≡ Ok x)
found_none f r x (nothing p) e = (p, e)
found_none f r x (found k q) e = absurd (cc)

found_fault : {A E P : Type 0} {Q : ℕ → Type 0} {o : Option ℕ} {f : ℕ → E} {r : Result A E} (R : E → Type 0) → Search P Q o → ((k : ℕ) → Q k → R (f k)) → (P → (x : E) → r ≡ Err x → R x) → (x : E) → refusing o f r ≡ Err x → R x
found_fault R (nothing p) some none x e = none p x e
found_fault {f = f} R (found k q) some none x e = let same : f k ≡ x = cc in rw (← same) (some k q)

-- the totalled valves are open exactly when the search for a closed one finds none
open_none : (N : Net) (at : ℕ) (fs : List Firing) → AllOpen N fs → closed_at N at fs ≡ None
open_none N at [] h = refl
open_none N at (f ∷ fs) h =
    cond-true (N.opens f.valve) _ _ (h f.valve (or_left _ _ (eq-eqb f.valve f.valve refl)))
    ∙ open_none N (at + 1) fs (λ t k. h t (or_right (eqb f.valve t) _ k))

open_more : (N : Net) (f : Firing) (fs : List Firing) → N.opens f.valve ≡ true → AllOpen N fs → AllOpen N (f ∷ fs)
open_more N f fs o h t k =
    ⊎_elim (λ (e : eqb f.valve t ≡ true). rw (eqb-true f.valve t e) at o) (λ (e : named fs t ≡ true). h t e) (or_cases (eqb f.valve t) (named fs t) k)

-- the k-th of the firings is the first whose valve is closed, where the first of them is number at + 1
abbrev ClosedFrom : Net → ℕ → List Firing → ℕ → Type 0
ClosedFrom N at fs k = (j : ℕ) × (k ≡ at + j) × FirstClosed N fs (j + 1)

module _ (N : Net) where
  closed_step : (at : ℕ) (f : Firing) (fs : List Firing) (b : Bool) → N.opens f.valve ≡ b → {o : Option ℕ} → Search (AllOpen N fs) (ClosedFrom N (at + 1) fs) o → Search (AllOpen N (f ∷ fs)) (ClosedFrom N at (f ∷ fs)) (cond b o (Some at))
  closed_step at f fs true e (nothing h) = nothing (open_more N f fs e h)
  closed_step at f fs true e (found k (j, p, x)) = found k (
    j + 1,
    omega arith,
    record {
      before = f ∷ x.before;
      here = x.here;
      after = x.after;
      split = ap (λ l. f ∷ l) x.split;
      place = omega (arith, x.place);
      opened = open_more N f x.before e x.opened;
      closed = x.closed;
    },
  )
  closed_step at f fs false e h = found at (0, omega arith, record { before = []; here = f; after = fs; split = refl; place = omega arith; opened = λ t k. absurd (false≢true k); closed = e })

  closed_cases : (at : ℕ) (fs : List Firing) → Search (AllOpen N fs) (ClosedFrom N at fs) (closed_at N at fs)
  closed_cases at [] = nothing (λ t k. absurd (false≢true k))
  closed_cases at (f ∷ fs) = closed_step at f fs (N.opens f.valve) refl (closed_cases (at + 1) fs)

  left_cases : (m : Marking) (S : ℕ → Bool) → Inside N S → Search (Starts N m S) (FirstOut N m S) (left_out N m S)
  left_cases m S h = search_of (left_out N m S) (left_none N m S h) (left_some N m S h)

module _ (N : Net) (A B : List ℕ) (d : TotalsDocument) where
  abbrev differ : ℕ → Bool
  differ r = not (eqb (balance_side N A d r) (balance_side (turned N) B d r))

  same_balances : (r : ℕ) → differ r ≡ false → Balances N A B d r
  same_balances r e = eqb-true _ _ (not-false _ e)

  balances_same : (r : ℕ) → Balances N A B d r → differ r ≡ false
  balances_same r e = not_from_true _ (eq-eqb _ _ e)

  balance_none : ((r : ℕ) → r < N.tanks → Balances N A B d r) → unbalanced N A B d ≡ None
  balance_none h = first_none differ N.tanks (λ r l. balances_same r (h r l))

  balance_cases : Search ((r : ℕ) → r < N.tanks → Balances N A B d r) (FirstUnbalanced N A B d) (unbalanced N A B d)
  balance_cases = search_of (unbalanced N A B d)
      (λ e r l. same_balances r (none_first differ N.tanks e r l))
      (λ r e. let f = some_first differ N.tanks r e in record {
        there = f.below;
        differs = λ b. true≢false (sym f.passes ∙ balances_same r b);
        lowest = λ s l. same_balances s (f.least s l);
      })

-- open valves are the plant's own
inside : (N : Net) → Bounded N → (fs : List Firing) → AllOpen N fs → Inside N (named fs)
inside N b fs h t k = open_below N b t (h t k)

module _ (N : Net) (b : Bounded N) (A B : List ℕ) (d : TotalsDocument) where
  pub meets_joined : Meets N A B d.divisor d.totals → judged N A B d ≡ Ok Joined
  meets_joined m =
      let within = inside N b d.totals m.opened in
      rw (open_none N 1 d.totals m.opened, balance_none N A B d m.balance, none_left N (held A) (named d.totals) within m.begins, none_left (turned N) (held B) (named d.totals) within m.ends)

  pub joined_meets : judged N A B d ≡ Ok Joined → Meets N A B d.divisor d.totals
  joined_meets e =
      let opened = found_none Closed _ _ (closed_cases N 1 d.totals) e in
      let within = inside N b d.totals opened.0 in
      let balance = found_none Unbalanced _ _ (balance_cases N A B d) opened.1 in
      let begins = found_none NoStart _ _ (left_cases N (held A) (named d.totals) within) balance.1 in
      let ends = found_none NoEnd _ _ (left_cases (turned N) (held B) (named d.totals) within) begins.1 in
      record { opened = opened.0; balance = balance.0; begins = begins.0; ends = ends.0 }

  pub refused_so : (e : TotalsFault) → judged N A B d ≡ Err e → Refused N A B d e
  refused_so =
      let R = Refused N A B d in
      found_fault R (closed_cases N 1 d.totals) (λ k q. let same : q.0 + 1 ≡ k = omega (arith, q.1) in rw (← same) q.2)
      (λ o. found_fault R (balance_cases N A B d) (λ r q. (o, q))
      (λ h. found_fault R (left_cases N (held A) (named d.totals) (inside N b d.totals o)) (λ t q. (o, h, q))
      (λ s. found_fault R (left_cases (turned N) (held B) (named d.totals) (inside N b d.totals o)) (λ t q. (o, h, s, q)) (λ q x e. absurd (cc)))))
