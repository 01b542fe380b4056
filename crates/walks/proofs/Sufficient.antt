-- Totals that meet the rule account for a walk.
use Rattle.std.proofs.Common.{◌≡◌, ℕ, zero, suc, ◌+◌, ◌-◌, ◌*◌, ◌<◌, ◌≤◌, true, false, List, [], ◌∷◌, ◌++◌, map, reverse, sym, ap, ◌∙◌, inl, inr, ⊎_elim, mul_assoc, add-mul, mul-le-mul_left, mul-zero, arith}
use native.Mathlib.Nat.{one-le-mul}
use Rattle.std.specs.List.{AllByRecursion}
use Rattle.std.proofs.lemmas.Bool.{cases_lt, cases_Bool, false≢true, true≢false}
use Rattle.plant.specs.Net.{Net, Bounded, turned}
use Rattle.plant.specs.Bounds.{turned_bounded}
use Rattle.plant.specs.Walk.{Firing, Marking, Leads, stays, times, held}
use Rattle.plant.specs.Firings.{weighed, taken, given, total, named, upto, WalkBy}
use Rattle.plant.specs.Totals.{Positive, Tallied, Meets}
use Rattle.walks.proofs.Runs.{fold, on, scaled, leads_on, leads_between, leads_scaled, leads_above, leads_whole, leads_reversed, same, state, Ready}
use Rattle.walks.proofs.Named.{named_append, named_scaled, named_reverse, named_upto, positive_upto, named_head, named_tail}
use Rattle.walks.proofs.Sums.{sum_ext, sum_add, sum_times, Below, regroup, weighed_upto, weighed_append, weighed_le, weighed_by, amounts, total_le, total_named, total_unnamed}
use Rattle.walks.proofs.Setting.{Set, set_by}

-- only valves of the plant are open
pub open_below : (N : Net) → Bounded N → (t : ℕ) → N.opens t ≡ true → t < N.valves
open_below N b t o = ⊎_elim (λ (l : t < N.valves). l) (λ (l : N.valves ≤ t). absurd (true≢false (sym o ∙ b.closed_beyond t l))) (cases_lt t N.valves)

ready : (N : Net) (fs : List Firing) → Positive fs → ((t : ℕ) → named fs t ≡ true → N.opens t ≡ true) → AllByRecursion (Ready N) fs
ready N [] p o = tt
ready N (f ∷ fs) p o = (record { is_open = o f.valve (named_head f fs); some = p.0 }, ready N fs p.1 (λ t h. o t (named_tail f fs t h)))

-- a list of firings a times over
abbrev copies : ℕ → List Firing → List Firing
copies zero fs = []
copies (suc a) fs = fs ++ copies a fs

named_copies : (a : ℕ) (fs : List Firing) (t : ℕ) → named (copies a fs) t ≡ true → named fs t ≡ true
named_copies zero fs t h = absurd (false≢true h)
named_copies (suc a) fs t h = ⊎_elim (λ (k : named fs t ≡ true). k) (λ (k : named (copies a fs) t ≡ true). named_copies a fs t k) (named_append fs (copies a fs) t h)

-- from n times M to n times M', by firing fs n times, each time by the same small step
module _ (N : Net) (M M' : Marking) (fs : List Firing) (n : ℕ)
    (ok : AllByRecursion (Ready N) fs)
    (small : (r : ℕ) → r < N.tanks → taken N fs r ≤ n)
    (wet : (r : ℕ) → r < N.tanks → 1 ≤ taken N fs r → (1 ≤ M r) × (1 ≤ M' r))
    (moved : (r : ℕ) → r < N.tanks → M' r + taken N fs r ≡ M r + given N fs r) where
  crossing : (a c : ℕ) → a + c ≡ n → Leads N (λ r. a * M r + c * M' r) (copies a fs) (λ r. n * M' r)
  crossing zero c e = stays (λ r l. rw (← e) (omega arith))
  crossing (suc a) c e =
      leads_on N
      (leads_whole N (λ r. suc a * M r + c * M' r) (λ r. a * M r + suc c * M' r) fs ok
      (λ r l. ⊎_elim (λ (h : 0 < taken N fs r). omega (arith, small r l, mul-le-mul_left (suc a) (wet r l h).0, mul-le-mul_left c (wet r l h).1)) (λ (h : taken N fs r ≤ 0). omega arith) (cases_lt 0 (taken N fs r)))
      (λ r l. omega (arith, moved r l)))
      (crossing a (suc c) (omega arith))

-- what is left of K times the totals once g is fired
abbrev rest : ℕ → ℕ → List Firing → List Firing → List Firing
rest n K vs g = upto n (λ t. K * total vs t - total g t) []

rest_weighed : (n K : ℕ) (vs g : List Firing) (W : ℕ → ℕ → ℕ) (r : ℕ) → Below n vs → Below n g → ((t : ℕ) → total g t ≤ K * total vs t) → weighed W (rest n K vs g) r + weighed W g r ≡ K * weighed W vs r
rest_weighed n K vs g W r bv bg le =
    let left = weighed_upto n (λ t. K * total vs t - total g t) W [] r in
    let spent = regroup n W g r bg in
    let all = regroup n W vs r bv in
    let together = sum_add n (λ t. (K * total vs t - total g t) * W t r) (λ t. total g t * W t r) in
    let times = sum_times n K (λ t. total vs t * W t r) in
    let same = sum_ext n (λ t. (K * total vs t - total g t) * W t r + total g t * W t r) (λ t. K * (total vs t * W t r)) (λ t l. left_over t) in
    let more = ap (λ x. K * x) all in
    omega arith
  where
    left_over : (t : ℕ) → (K * total vs t - total g t) * W t r + total g t * W t r ≡ K * (total vs t * W t r)
    left_over t =
        let e : K * total vs t - total g t + total g t ≡ K * total vs t = omega (arith, le t) in
        sym (add-mul (K * total vs t - total g t) (total g t) (W t r)) ∙ (ap (λ z. z * W t r) e ∙ mul_assoc K (total vs t) (W t r))

module _ (N : Net) (b : Bounded N) (A B : List ℕ) (w : ℕ) (vs : List Firing) (tally : Tallied w vs) (ok : Meets N A B w vs) where
  -- set going from A; set going from B on the turned plant, and read backwards
  forth : Set N (held A) (λ t. named vs t ≡ true)
  forth = set_by N b (held A) (named vs) ok.opened ok.begins

  back : Set (turned N) (held B) (λ t. named vs t ≡ true)
  back = set_by (turned N) (turned_bounded b) (held B) (named vs) ok.opened ok.ends

  last : List Firing
  last = reverse back.firings

  last_leads : Leads N back.after last (λ r. back.scale * held B r)
  unfolding last
  last_leads = leads_reversed (turned N) _ _ _ back.leads

  spent : List Firing
  spent = forth.firings ++ last

  spent_only : (t : ℕ) → named spent t ≡ true → named vs t ≡ true
  unfolding spent last
  spent_only t h = ⊎_elim (λ (k : named forth.firings t ≡ true). forth.only t k) (λ (k : named last t ≡ true). back.only t (named_reverse back.firings t k)) (named_append forth.firings last t h)

  weighed_spent : (W : ℕ → ℕ → ℕ) (r : ℕ) → weighed W spent r ≡ weighed W forth.firings r + weighed W last r
  unfolding spent
  weighed_spent W r = weighed_append W forth.firings last r

  K : ℕ
  K = forth.scale + back.scale + amounts spent

  covers : (t : ℕ) → total spent t ≤ K * total vs t
  unfolding K
  covers t =
      ⊎_elim
      (λ (h : named spent t ≡ true). let one = total_named vs t tally.positive (spent_only t h) in omega (arith, total_le spent t, mul-le-mul_left K one))
      (λ (h : named spent t ≡ false). omega (arith, total_unnamed spent t h))
      (cases_Bool (named spent t))

  below : Below N.valves vs
  below t h = open_below N b t (ok.opened t h)

  bulk : List Firing
  bulk = rest N.valves K vs spent

  bulk_only : (t : ℕ) → named bulk t ≡ true → named vs t ≡ true
  unfolding bulk
  bulk_only t h =
      ⊎_elim
      (λ (e : named vs t ≡ true). e)
      (λ (e : named vs t ≡ false). ⊎_elim
      (λ (g : 1 ≤ K * total vs t - total spent t). absurd (let z : K * total vs t ≡ 0 = rw (total_unnamed vs t e) (mul-zero K) in omega arith))
      (λ (g : false ≡ true). absurd (false≢true g))
      (named_upto N.valves (λ u. K * total vs u - total spent u) [] t h))
      (cases_Bool (named vs t))

  bulk_weighed : (W : ℕ → ℕ → ℕ) (r : ℕ) → weighed W bulk r + weighed W spent r ≡ K * weighed W vs r
  unfolding bulk
  bulk_weighed W r = rest_weighed N.valves K vs spent W r below (λ t h. below t (spent_only t h)) covers

  -- what tops the two runs up to k times the fillings
  k : ℕ
  k = K * w

  balanced : (r : ℕ) → r < N.tanks → k * held A r + K * given N vs r ≡ k * held B r + K * taken N vs r
  unfolding k
  balanced r l = omega (arith, ap (λ x. K * x) (ok.balance r l))

  d : ℕ
  d = k - forth.scale

  d' : ℕ
  d' = k - back.scale

  k_large : K ≤ k
  unfolding k
  k_large = omega (arith, mul-le-mul_left K tally.divisor)

  tops : forth.scale + d ≡ k
  unfolding K d
  tops = omega (arith, k_large)

  tops' : back.scale + d' ≡ k
  unfolding K d'
  tops' = omega (arith, k_large)

  M : Marking
  M = on forth.after (fold d (held A))

  M' : Marking
  M' = on back.after (fold d' (held B))

  first_run : Leads N (times k A) forth.firings M
  unfolding M
  first_run = leads_between N (λ r l. omega (arith, ap (λ x. x * held A r) tops)) (same N _) (leads_above N (fold d (held A)) forth.leads)

  last_run : Leads N M' last (times k B)
  unfolding M'
  last_run = leads_between N (same N _) (λ r l. omega (arith, ap (λ x. x * held B r) tops')) (leads_above N (fold d' (held B)) last_leads)

  moved : (r : ℕ) → r < N.tanks → M' r + taken N bulk r ≡ M r + given N bulk r
  moved r l =
      let a = state N first_run r l in
      let z = state N last_run r l in
      let i = bulk_weighed N.intake r in
      let o = bulk_weighed N.outlet r in
      let si = weighed_spent N.intake r in
      let so = weighed_spent N.outlet r in
      let e = balanced r l in
      omega arith

  wet : (r : ℕ) → r < N.tanks → 1 ≤ taken N bulk r → (1 ≤ M r) × (1 ≤ M' r)
  unfolding M M'
  wet r l h =
      let (t, a, g) = weighed_by N.intake bulk r h in
      (omega (arith, forth.wet r l t (bulk_only t a) (inl g)), omega (arith, back.wet r l t (bulk_only t a) (inr g)))

  n : ℕ
  n = 1 + 1023 * amounts bulk

  bulk_small : (r : ℕ) → taken N bulk r ≤ n
  unfolding n
  bulk_small r = omega (arith, weighed_le N.intake b.intake_small bulk r)

  n_positive : 1 ≤ n
  unfolding n
  n_positive = omega arith

  bulk_ready : AllByRecursion (Ready N) bulk
  unfolding bulk
  bulk_ready = ready N bulk (positive_upto N.valves (λ t. K * total vs t - total spent t) [] tt) (λ t h. ok.opened t (bulk_only t h))

  bulk_run : Leads N (fold n M) (copies n bulk) (fold n M')
  bulk_run = leads_between N (λ r l. omega arith) (same N _) (crossing N M M' bulk n bulk_ready (λ r l. bulk_small r) wet moved n 0 (omega arith))

  path : List Firing
  path = map (scaled n) forth.firings ++ (copies n bulk ++ map (scaled n) last)

  path_leads : Leads N (times (n * k) A) path (times (n * k) B)
  unfolding path
  path_leads =
      leads_between N (λ r l. omega arith) (λ r l. omega arith)
      (leads_on N (leads_scaled N n n_positive first_run) (leads_on N bulk_run (leads_scaled N n n_positive last_run)))

  path_only : (t : ℕ) → named path t ≡ true → named vs t ≡ true
  unfolding path last
  path_only t h =
      ⊎_elim
      (λ (e : named (map (scaled n) forth.firings) t ≡ true). forth.only t (sym (named_scaled n forth.firings t) ∙ e))
      (λ (e : named (copies n bulk ++ map (scaled n) last) t ≡ true). ⊎_elim
      (λ (g : named (copies n bulk) t ≡ true). bulk_only t (named_copies n bulk t g))
      (λ (g : named (map (scaled n) last) t ≡ true). back.only t (named_reverse back.firings t (sym (named_scaled n last t) ∙ g)))
      (named_append (copies n bulk) (map (scaled n) last) t e))
      (named_append (map (scaled n) forth.firings) (copies n bulk ++ map (scaled n) last) t h)

  k_positive : 1 ≤ k
  unfolding K
  k_positive = omega (arith, k_large, forth.positive)

  pub sufficient : WalkBy N A B (named vs)
  sufficient = record {
    walk = record { scale = n * k; positive = one-le-mul n_positive k_positive; firings = path; leads = path_leads };
    only = path_only;
  }
