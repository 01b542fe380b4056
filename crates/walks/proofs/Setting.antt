-- From a set that starts: a run that fires its valves and leaves something in every tank that they touch.
use Rattle.std.proofs.Common.{◌≡◌, ℕ, ◌+◌, ◌-◌, ◌*◌, ◌<◌, ◌≤◌, Bool, true, ◌⊎◌, List, [], ◌∷◌, ◌++◌, map, sym, refl, ◌∙◌, inl, inr, ⊎_elim, arith}
use mathlib.Core.List.{reverse_aux}
use Rattle.std.proofs.lemmas.Bool.{false≢true, cases_lt}
use Rattle.plant.specs.Net.{Net, Bounded}
use Rattle.plant.specs.Walk.{Firing, Marking, Leads, stays, fires}
use Rattle.plant.specs.Firings.{named}
use Rattle.plant.specs.Starting.{Among, Given, InOrder, Starts}
use Rattle.walks.proofs.Orders.{among_cases, among_from}
use Rattle.walks.proofs.Named.{named_append, named_scaled, named_single}
use Rattle.walks.proofs.Runs.{leads_on, leads_scaled, leads_between, same, scaled}

-- a valve takes from the tank or gives to it
abbrev pub Touches : Net → ℕ → ℕ → Type 0
Touches N t r = (1 ≤ N.intake t r) ⊎ (1 ≤ N.outlet t r)

-- a run from a multiple of m that fires only valves of P, and leaves something in every tank that m has something in or that a valve of P touches
pub record Set (N : Net) (m : Marking) (P : ℕ → Type 0) : Type 0 where
  pub scale : ℕ
  pub positive : 1 ≤ scale
  pub firings : List Firing
  pub after : Marking
  pub leads : Leads N (λ r. scale * m r) firings after
  pub only : (t : ℕ) → named firings t ≡ true → P t
  pub kept : (r : ℕ) → r < N.tanks → 1 ≤ m r → 1 ≤ after r
  pub wet : (r : ℕ) → r < N.tanks → (t : ℕ) → P t → Touches N t r → 1 ≤ after r

module _ (N : Net) (b : Bounded N) (m : Marking) where
  set_none : Set N m (λ t. Among t [])
  set_none = record {
    scale = 1;
    positive = omega arith;
    firings = [];
    after = m;
    leads = stays (λ r l. omega arith);
    only = λ t h. absurd (false≢true h);
    kept = λ r l h. h;
    wet = λ r l t a. absurd a;
  }

  -- one more valve, which takes only from tanks that hold something by then: everything 1024 times over, and then the valve once
  set_more : (us : List ℕ) (t : ℕ) → N.opens t ≡ true → ((r : ℕ) → r < N.tanks → 1 ≤ N.intake t r → (1 ≤ m r) ⊎ Given N us r) → Set N m (λ u. Among u us) → Set N m (λ u. Among u (t ∷ us))
  set_more us t o fed s = record {
    scale = 1024 * s.scale;
    positive = omega (arith, s.positive);
    firings = map (scaled 1024) s.firings ++ (last ∷ []);
    after = after;
    leads = leads_on N (leads_between N (λ r l. omega arith) (same N _) (leads_scaled N 1024 (omega arith) s.leads)) (fires (record { is_open = o; some = omega arith; holds = λ r l. omega (arith, enough r l); moves = λ r l. omega (arith, enough r l) }) (stays (λ r l. refl)));
    only = λ u h. ⊎_elim (λ (k : named (map (scaled 1024) s.firings) u ≡ true). inr (s.only u (sym (named_scaled 1024 s.firings u) ∙ k))) (λ (k : named (last ∷ []) u ≡ true). inl (named_single t 1 u k)) (named_append (map (scaled 1024) s.firings) (last ∷ []) u h);
    kept = λ r l h. omega (arith, s.kept r l h, b.intake_small t r);
    wet = λ r l u a h. ⊎_elim (λ (e : t ≡ u). ours r l (rw (← e) at h)) (λ (k : Among u us). omega (arith, s.wet r l u k h, b.intake_small t r)) a;
  }
    where
      last : Firing
      last = record { valve = t; amount = 1 }

      after : Marking
      after r = 1024 * s.after r + N.outlet t r - N.intake t r

      there : (r : ℕ) → r < N.tanks → 1 ≤ N.intake t r → 1 ≤ s.after r
      there r l h = ⊎_elim (λ (k : 1 ≤ m r). s.kept r l k) (λ (g : Given N us r). s.wet r l g.giver g.among (inr g.gives)) (fed r l h)

      enough : (r : ℕ) → r < N.tanks → N.intake t r ≤ 1024 * s.after r
      enough r l = ⊎_elim (λ (h : 0 < N.intake t r). omega (arith, there r l h, b.intake_small t r)) (λ (h : N.intake t r ≤ 0). omega arith) (cases_lt 0 (N.intake t r))

      ours : (r : ℕ) → r < N.tanks → Touches N t r → 1 ≤ after r
      ours r l h = ⊎_elim (λ (k : 1 ≤ N.intake t r). omega (arith, there r l k, b.intake_small t r)) (λ (k : 1 ≤ N.outlet t r). omega (arith, enough r l)) h

  set_onto : (us ts : List ℕ) → InOrder N m us ts → ((t : ℕ) → Among t ts → N.opens t ≡ true) → Set N m (λ u. Among u us) → Set N m (λ u. Among u (reverse_aux ts us))
  set_onto us [] f o s = s
  set_onto us (t ∷ ts) f o s = set_onto (t ∷ us) ts f.1 (λ u a. o u (inr a)) (set_more us t (o t (inl refl)) f.0 s)

  pub set_by : (S : ℕ → Bool) → ((t : ℕ) → S t ≡ true → N.opens t ≡ true) → Starts N m S → Set N m (λ t. S t ≡ true)
  set_by S o st =
      let s = set_onto [] st.order st.fed (λ t a. o t (st.only t a)) set_none in
      record {
        scale = s.scale;
        positive = s.positive;
        firings = s.firings;
        after = s.after;
        leads = s.leads;
        kept = s.kept;
        only = λ t h. ⊎_elim (λ (a : Among t []). absurd a) (λ (a : Among t st.order). st.only t a) (among_cases [] st.order t (s.only t h));
        wet = λ r l t h. s.wet r l t (among_from [] st.order t (inr (st.whole t h)));
      }
