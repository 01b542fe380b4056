-- Runs: composed, scaled, put on top of something, turned round.
use Rattle.std.proofs.Common.{◌≡◌, ℕ, ◌+◌, ◌-◌, ◌*◌, ◌<◌, ◌≤◌, true, List, [], ◌∷◌, ◌++◌, map, reverse, sym, refl, ap, mul-le-mul_left, arith}
use mathlib.Core.List.{reverse_aux}
use native.Mathlib.Nat.{one-le-mul}
use Rattle.std.specs.List.{AllByRecursion}
use Rattle.plant.specs.Net.{Net, turned}
use Rattle.plant.specs.Walk.{Firing, Marking, Fires, Leads, stays, fires, Walk}
use Rattle.plant.specs.Firings.{taken, given}

-- a marking c times over, a firing c times over, and one marking on top of another
abbrev pub fold : ℕ → Marking → Marking
fold c m r = c * m r

abbrev pub scaled : ℕ → Firing → Firing
scaled c f = record { valve = f.valve; amount = c * f.amount }

abbrev pub on : Marking → Marking → Marking
on m x r = m r + x r

module _ (N : Net) where
  -- two markings that agree on the plant's tanks
  abbrev pub Same : Marking → Marking → Type 0
  Same m m' = (r : ℕ) → r < N.tanks → m r ≡ m' r

  pub fires_from : {m n m' : Marking} {f : Firing} → Same m n → Fires N m f m' → Fires N n f m'
  fires_from e h = record {
    is_open = h.is_open;
    some = h.some;
    holds = λ r l. omega (arith, e r l, h.holds r l);
    moves = λ r l. omega (arith, e r l, h.moves r l);
  }

  pub leads_between : {m n m' n' : Marking} {fs : List Firing} → Same m n → Same m' n' → Leads N m fs m' → Leads N n fs n'
  leads_between e e' (stays h) = stays (λ r l. omega (arith, e r l, e' r l, h r l))
  leads_between e e' (fires h t) = fires (fires_from e h) (leads_between (λ r l. refl) e' t)

  pub same : (m : Marking) → Same m m
  same m r l = refl

  pub leads_on : {m m' m'' : Marking} {fs gs : List Firing} → Leads N m fs m' → Leads N m' gs m'' → Leads N m (fs ++ gs) m''
  leads_on (stays h) t = leads_between (λ r l. sym (h r l)) (same _) t
  leads_on (fires h t) u = fires h (leads_on t u)

  pub fires_scaled : (c : ℕ) {m m' : Marking} {f : Firing} → 1 ≤ c → Fires N m f m' → Fires N (fold c m) (scaled c f) (fold c m')
  fires_scaled c {m} {m'} {f} p h = record {
    is_open = h.is_open;
    some = one-le-mul p h.some;
    holds = λ r l. omega (arith, mul-le-mul_left c (h.holds r l));
    moves = λ r l. omega (arith, ap (λ x. c * x) (h.moves r l));
  }

  pub leads_scaled : (c : ℕ) {m m' : Marking} {fs : List Firing} → 1 ≤ c → Leads N m fs m' → Leads N (fold c m) (map (scaled c) fs) (fold c m')
  leads_scaled c p (stays h) = stays (λ r l. ap (λ x. c * x) (h r l))
  leads_scaled c p (fires h t) = fires (fires_scaled c p h) (leads_scaled c p t)

  pub leads_above : (x : Marking) {m m' : Marking} {fs : List Firing} → Leads N m fs m' → Leads N (on m x) fs (on m' x)
  leads_above x (stays h) = stays (λ r l. omega (arith, h r l))
  leads_above x (fires h t) = fires (record { is_open = h.is_open; some = h.some; holds = λ r l. omega (arith, h.holds r l); moves = λ r l. omega (arith, h.moves r l) }) (leads_above x t)

  -- what a run leaves, with what it took, is what was there with what it gave
  pub state : {m m' : Marking} {fs : List Firing} → Leads N m fs m' → (r : ℕ) → r < N.tanks → m' r + taken N fs r ≡ m r + given N fs r
  state (stays h) r l = omega (arith, h r l)
  state (fires h t) r l = omega (arith, h.moves r l, state t r l)

  -- a whole list of firings is fired where there is enough for all of it
  pub record Ready (f : Firing) : Type 0 where
    pub is_open : N.opens f.valve ≡ true
    pub some : 1 ≤ f.amount

  pub leads_whole : (m m' : Marking) (fs : List Firing) → AllByRecursion Ready fs → ((r : ℕ) → r < N.tanks → taken N fs r ≤ m r) → ((r : ℕ) → r < N.tanks → m' r + taken N fs r ≡ m r + given N fs r) → Leads N m fs m'
  leads_whole m m' [] ok enough e = stays (λ r l. omega (arith, e r l))
  leads_whole m m' (f ∷ fs) ok enough e =
      fires
      (record { is_open = ok.0.is_open; some = ok.0.some; holds = λ r l. omega (arith, enough r l); moves = λ r l. omega (arith, enough r l) })
      (leads_whole (λ r. m r + f.amount * N.outlet f.valve r - f.amount * N.intake f.valve r) m' fs ok.1 (λ r l. omega (arith, enough r l)) (λ r l. omega (arith, enough r l, e r l)))

-- read backwards
pub leads_back : (N : Net) {m m' m'' : Marking} {fs gs : List Firing} → Leads N m fs m' → Leads (turned N) m gs m'' → Leads (turned N) m' (reverse_aux fs gs) m''
leads_back N (stays h) t = leads_between (turned N) h (same (turned N) _) t
leads_back N (fires {m} {m₁ = m₁} {f = f} h t) u =
    leads_back N t (fires (record { is_open = h.is_open; some = h.some; holds = λ r l. omega (arith, h.moves r l, h.holds r l); moves = λ r l. sym (h.moves r l) }) u)

pub leads_reversed : (N : Net) (m m' : Marking) (fs : List Firing) → Leads N m fs m' → Leads (turned N) m' (reverse fs) m
leads_reversed N m m' fs h = leads_back N h (stays (λ r l. refl))

pub walk_turned : (N : Net) (A B : List ℕ) (x : Walk N A B) → (y : Walk (turned N) B A) × (y.scale ≡ x.scale) × (y.firings ≡ reverse x.firings)
walk_turned N A B x =
    (record { scale = x.scale; positive = x.positive; firings = reverse x.firings; leads = leads_reversed N _ _ _ x.leads }, refl, refl)
