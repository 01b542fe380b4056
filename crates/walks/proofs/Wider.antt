-- A walk of a plant is a walk of every plant with the same weights in which its valves are open.
use Rattle.std.proofs.Common.{◌≡◌, ℕ, Bool, true, not, eqb, List, refl, ⊎_elim}
use Rattle.std.proofs.lemmas.Bool.{eqb-true, or_right, or_cases, and_parts, false≢true}
use Rattle.plant.specs.Net.{Net, narrowed}
use Rattle.plant.specs.Walk.{Firing, Marking, Leads, stays, fires, Walk}
use Rattle.plant.specs.Firings.{named}
use Rattle.plant.specs.Totals.{Positive}
use Rattle.walks.specs.Theorems.{SameWeights}
use Rattle.walks.proofs.Named.{named_head}

-- every valve that a run fires is open, and every amount is positive
pub run_open : (N : Net) {m m' : Marking} {fs : List Firing} → Leads N m fs m' → (t : ℕ) → named fs t ≡ true → N.opens t ≡ true
run_open N (stays h) t k = absurd (false≢true k)
run_open N (fires {f = f} {fs = fs} h u) t k =
    ⊎_elim
    (λ (e : eqb f.valve t ≡ true). rw (eqb-true f.valve t e) at h.is_open)
    (λ (e : named fs t ≡ true). run_open N u t e)
    (or_cases (eqb f.valve t) (named fs t) k)

pub run_positive : (N : Net) {m m' : Marking} {fs : List Firing} → Leads N m fs m' → Positive fs
run_positive N (stays h) = tt
run_positive N (fires h u) = (h.some, run_positive N u)

pub leads_wider : (N N' : Net) → SameWeights N N' → {m m' : Marking} {fs : List Firing} → Leads N m fs m' → ((t : ℕ) → named fs t ≡ true → N'.opens t ≡ true) → Leads N' m fs m'
leads_wider N N' w (stays h) o = stays (λ r l. h r (rw w.tanks at l))
leads_wider N N' w (fires {f = f} {fs = fs} h u) o =
    fires
    (record {
      is_open = o f.valve (named_head f fs);
      some = h.some;
      holds = λ r l. rw w.intake (h.holds r (rw w.tanks at l));
      moves = λ r l. rw (w.intake, w.outlet) (h.moves r (rw w.tanks at l));
    })
    (leads_wider N N' w u (λ t k. o t (or_right _ _ k)))

pub walk_wider : (N N' : Net) → SameWeights N N' → (A B : List ℕ) (x : Walk N A B) → ((t : ℕ) → named x.firings t ≡ true → N'.opens t ≡ true) → (y : Walk N' A B) × (y.scale ≡ x.scale) × (y.firings ≡ x.firings)
walk_wider N N' w A B x o = (record { scale = x.scale; positive = x.positive; firings = x.firings; leads = leads_wider N N' w x.leads o }, refl, refl)

pub walk_widened : (shut : ℕ → Bool) (N : Net) (A B : List ℕ) (x : Walk (narrowed shut N) A B) → (y : Walk N A B) × (y.scale ≡ x.scale) × (y.firings ≡ x.firings)
walk_widened shut N A B x =
    walk_wider (narrowed shut N) N
    (record { tanks = refl; intake = λ t r. refl; outlet = λ t r. refl })
    A B x
    (λ t k. (and_parts (N.opens t) (not (shut t)) (run_open (narrowed shut N) x.leads t k)).0)
