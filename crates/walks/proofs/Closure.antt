-- The rounds compute the greatest starting part.
use Rattle.std.proofs.Common.{◌≡◌, ℕ, zero, suc, ◌+◌, ◌<◌, ◌≤◌, Bool, true, false, cond, not, ◌&&◌, ◌||◌, eqb, ltb, ◌⊎◌, List, [], ◌∷◌, ◌++◌, sym, refl, ap, ◌∙◌, inl, inr, ⊎_elim, arith}
use mathlib.Core.List.{reverse_aux}
use Rattle.std.proofs.lemmas.Bool.{eqb-true, eq-eqb, or_cases, or_left, or_right, or_from, and_parts, and_from, not-true, not_from_false, false≢true, true≢false, ltb-true, lt-ltb, cases_eq, cases_lt, cases_Bool, cond-true, cond-false, cond_both}
use Rattle.std.proofs.lemmas.Bool.Decides.{same_from_decides}
use Rattle.plant.specs.Net.{Net}
use Rattle.plant.specs.Walk.{Marking}
use Rattle.plant.specs.Starting.{Among, Distinct, Given, InOrder, Starts, InGreatest}
use Rattle.walks.specs.Rounds.{some_below, all_below, filled, next, rounds, greatest}
use Rattle.walks.proofs.Orders.{among_from, among_append, among_left, among_right, distinct_append, in_order_append, in_order_all}

pub some_below_at : (n : ℕ) (p : ℕ → Bool) (t : ℕ) → t < n → p t ≡ true → some_below n p ≡ true
some_below_at zero p t l h = absurd (omega arith)
some_below_at (suc n) p t l h =
    ⊎_elim
    (λ (e : t ≡ n). or_right (some_below n p) (p n) (rw e at h))
    (λ (ne : t ≡ n → ⊥). or_left (some_below n p) (p n) (some_below_at n p t (omega arith) h))
    (cases_eq t n)

pub some_below_has : (n : ℕ) (p : ℕ → Bool) → some_below n p ≡ true → (t : ℕ) × (t < n) × (p t ≡ true)
some_below_has zero p h = absurd (false≢true h)
some_below_has (suc n) p h =
    ⊎_elim
    (λ (e : some_below n p ≡ true). let (t, l, k) = some_below_has n p e in (t, omega arith, k))
    (λ (e : p n ≡ true). (n, omega arith, e))
    (or_cases (some_below n p) (p n) h)

pub all_below_at : (n : ℕ) (p : ℕ → Bool) → all_below n p ≡ true → (t : ℕ) → t < n → p t ≡ true
all_below_at zero p h t l = absurd (omega arith)
all_below_at (suc n) p h t l =
    let parts = and_parts (all_below n p) (p n) h in
    ⊎_elim (λ (e : t ≡ n). rw e parts.1) (λ (ne : t ≡ n → ⊥). all_below_at n p parts.0 t (omega arith)) (cases_eq t n)

pub all_below_from : (n : ℕ) (p : ℕ → Bool) → ((t : ℕ) → t < n → p t ≡ true) → all_below n p ≡ true
all_below_from zero p h = refl
all_below_from (suc n) p h = and_from (all_below n p) (p n) (all_below_from n p (λ t l. h t (omega arith))) (h n (omega arith))

pub all_below_not : (n : ℕ) (p : ℕ → Bool) (t : ℕ) → t < n → p t ≡ false → all_below n p ≡ false
all_below_not n p t l h =
    ⊎_elim
    (λ (e : all_below n p ≡ true). absurd (true≢false (sym (all_below_at n p e t l) ∙ h)))
    (λ (e : all_below n p ≡ false). e)
    (cases_Bool (all_below n p))

pub some_below_not : (n : ℕ) (p : ℕ → Bool) → ((t : ℕ) → t < n → p t ≡ false) → some_below n p ≡ false
some_below_not zero p h = refl
some_below_not (suc n) p h = or_from (some_below n p) (p n) (some_below_not n p (λ t l. h t (omega arith))) (h n (omega arith))

pub some_below_none : (n : ℕ) (p : ℕ → Bool) → some_below n p ≡ false → (t : ℕ) → t < n → p t ≡ false
some_below_none n p h t l =
    ⊎_elim (λ (e : p t ≡ true). absurd (true≢false (sym (some_below_at n p t l e) ∙ h))) (λ (e : p t ≡ false). e) (cases_Bool (p t))

pub all_below_same : (n : ℕ) (p q : ℕ → Bool) → ((t : ℕ) → t < n → p t ≡ q t) → all_below n p ≡ all_below n q
all_below_same zero p q h = refl
all_below_same (suc n) p q h = rw (all_below_same n p q (λ t l. h t (omega arith)), h n (omega arith)) refl

-- E is part of E', as far as numbers below n go
abbrev pub Part : ℕ → (ℕ → Bool) → (ℕ → Bool) → Type 0
Part n E E' = (t : ℕ) → t < n → E t ≡ true → E' t ≡ true

-- how many numbers below n are in E
abbrev count : ℕ → (ℕ → Bool) → ℕ
count zero E = 0
count (suc n) E = count n E + cond (E n) 1 0

count_le : (n : ℕ) (E : ℕ → Bool) → count n E ≤ n
count_le zero E = omega arith
count_le (suc n) E = omega (arith, count_le n E, one (E n))
  where
    one : (b : Bool) → cond b 1 0 ≤ 1
    one true = omega arith
    one false = omega arith

count_full : (n : ℕ) (E : ℕ → Bool) → n ≤ count n E → (t : ℕ) → t < n → E t ≡ true
count_full zero E h t l = absurd (omega arith)
count_full (suc n) E h t l =
    ⊎_elim
    (λ (e : E n ≡ true). let one = cond-true {A = ℕ} (E n) 1 0 e in ⊎_elim (λ (k : t ≡ n). rw k e) (λ (ne : t ≡ n → ⊥). count_full n E (omega arith) t (omega arith)) (cases_eq t n))
    (λ (e : E n ≡ false). let none = cond-false {A = ℕ} (E n) 1 0 e in absurd (omega (arith, count_le n E)))
    (cases_Bool (E n))

part_more : (n : ℕ) (E E' : ℕ → Bool) → Part n E E' → (E n ≡ true → E' n ≡ true) → Part (suc n) E E'
part_more n E E' p h t l k = ⊎_elim (λ (e : t ≡ n). rw e (h (rw e at k))) (λ (ne : t ≡ n → ⊥). p t (omega arith) k) (cases_eq t n)

-- a part has as many or fewer, and if not fewer it is the whole
count_part : (n : ℕ) (E E' : ℕ → Bool) → Part n E E' → (Part n E' E × (count n E ≡ count n E')) ⊎ (count n E < count n E')
count_part zero E E' h = inl (λ t l k. absurd (omega arith), refl)
count_part (suc n) E E' h = step (count_part n E E' (λ t l. h t (omega arith))) (cases_Bool (E n)) (cases_Bool (E' n))
  where
    step : (Part n E' E × (count n E ≡ count n E')) ⊎ (count n E < count n E') → (E n ≡ true) ⊎ (E n ≡ false) → (E' n ≡ true) ⊎ (E' n ≡ false)
        → (Part (suc n) E' E × (count (suc n) E ≡ count (suc n) E')) ⊎ (count (suc n) E < count (suc n) E')
    step (inl (p, e)) (inl a) (inl c) = rw (a, c) (inl (part_more n E' E p (λ k. a), omega arith))
    step (inl (p, e)) (inr a) (inr c) = rw (a, c) (inl (part_more n E' E p (λ k. absurd (true≢false (sym k ∙ c))), omega arith))
    step (inl (p, e)) (inr a) (inl c) = rw (a, c) (inr (omega arith))
    step (inl (p, e)) (inl a) (inr c) = absurd (true≢false (sym (h n (omega arith) a) ∙ c))
    step (inr e) (inl a) (inl c) = rw (a, c) (inr (omega arith))
    step (inr e) (inr a) (inr c) = rw (a, c) (inr (omega arith))
    step (inr e) (inr a) (inl c) = rw (a, c) (inr (omega arith))
    step (inr e) (inl a) (inr c) = absurd (true≢false (sym (h n (omega arith) a) ∙ c))

-- what a valve needs, so that the valves of E let it go
abbrev pub Fed : Net → Marking → (ℕ → Bool) → ℕ → Type 0
Fed N m E t = (r : ℕ) → r < N.tanks → 1 ≤ N.intake t r → (1 ≤ m r) ⊎ ((u : ℕ) × (u < N.valves) × (E u ≡ true) × (1 ≤ N.outlet u r))

-- the numbers below n that are in E
abbrev picked : ℕ → (ℕ → Bool) → List ℕ
picked zero E = []
picked (suc n) E = cond (E n) (n ∷ picked n E) (picked n E)

picked_has : (n : ℕ) (E : ℕ → Bool) (t : ℕ) → t < n → E t ≡ true → Among t (picked n E)
picked_has zero E t l h = absurd (omega arith)
picked_has (suc n) E t l h =
    cond_both (E n) (n ∷ picked n E) (picked n E) (Among t)
    (λ e. ⊎_elim (λ (k : t ≡ n). inl (sym k)) (λ (ne : t ≡ n → ⊥). inr (picked_has n E t (omega arith) h)) (cases_eq t n))
    (λ e. ⊎_elim (λ (k : t ≡ n). absurd (true≢false (sym h ∙ (ap E k ∙ e)))) (λ (ne : t ≡ n → ⊥). picked_has n E t (omega arith) h) (cases_eq t n))

picked_in : (n : ℕ) (E : ℕ → Bool) (t : ℕ) → Among t (picked n E) → E t ≡ true
picked_in zero E t = λ a. absurd a
picked_in (suc n) E t =
    cond_both (E n) (n ∷ picked n E) (picked n E) (λ l. Among t l → E t ≡ true)
    (λ e a. ⊎_elim (λ (k : n ≡ t). rw (← k) e) (λ (k : Among t (picked n E)). picked_in n E t k) a)
    (λ e a. picked_in n E t a)

picked_below : (n : ℕ) (E : ℕ → Bool) (t : ℕ) → Among t (picked n E) → t < n
picked_below zero E t = λ a. absurd a
picked_below (suc n) E t =
    cond_both (E n) (n ∷ picked n E) (picked n E) (λ l. Among t l → t < suc n)
    (λ e a. ⊎_elim (λ (k : n ≡ t). omega arith) (λ (k : Among t (picked n E)). omega (arith, picked_below n E t k)) a)
    (λ e a. omega (arith, picked_below n E t a))

picked_distinct : (n : ℕ) (E : ℕ → Bool) → Distinct (picked n E)
picked_distinct zero E = tt
picked_distinct (suc n) E =
    cond_both (E n) (n ∷ picked n E) (picked n E) Distinct
    (λ e. (λ a. omega (arith, picked_below n E n a), picked_distinct n E))
    (λ e. picked_distinct n E)

module _ (N : Net) (m : Marking) (S : ℕ → Bool) where
  pub next_in : (E : ℕ → Bool) (t : ℕ) → next N m S E t ≡ true → S t ≡ true
  next_in E t h = (and_parts (S t) _ h).0

  pub next_fed : (E : ℕ → Bool) (t : ℕ) → next N m S E t ≡ true → Fed N m E t
  next_fed E t h r l k =
      ⊎_elim
      (λ (e : eqb (N.intake t r) 0 ≡ true). absurd (omega (arith, eqb-true (N.intake t r) 0 e)))
      (λ (e : filled N m E r ≡ true). ⊎_elim
      (λ (g : ltb 0 (m r) ≡ true). inl (ltb-true 0 (m r) g))
      (λ (g : some_below N.valves (λ u. E u && ltb 0 (N.outlet u r)) ≡ true).
      let (u, lu, x) = some_below_has N.valves (λ u. E u && ltb 0 (N.outlet u r)) g in
      let both = and_parts (E u) (ltb 0 (N.outlet u r)) x in
      inr (u, lu, both.0, ltb-true 0 (N.outlet u r) both.1))
      (or_cases (ltb 0 (m r)) (some_below N.valves (λ u. E u && ltb 0 (N.outlet u r))) e))
      (or_cases (eqb (N.intake t r) 0) (filled N m E r) (all_below_at N.tanks (λ r. eqb (N.intake t r) 0 || filled N m E r) (and_parts (S t) _ h).1 r l))

  pub next_from : (E : ℕ → Bool) (t : ℕ) → S t ≡ true → Fed N m E t → next N m S E t ≡ true
  next_from E t s f = and_from (S t) _ s (all_below_from N.tanks (λ r. eqb (N.intake t r) 0 || filled N m E r) each)
    where
      each : (r : ℕ) → r < N.tanks → (eqb (N.intake t r) 0 || filled N m E r) ≡ true
      each r l =
          ⊎_elim
          (λ (k : 0 < N.intake t r). or_right (eqb (N.intake t r) 0) (filled N m E r) (⊎_elim
          (λ (g : 1 ≤ m r). or_left (ltb 0 (m r)) _ (lt-ltb 0 (m r) g))
          (λ (g : (u : ℕ) × (u < N.valves) × (E u ≡ true) × (1 ≤ N.outlet u r)). or_right (ltb 0 (m r)) _ (some_below_at N.valves (λ u. E u && ltb 0 (N.outlet u r)) g.0 g.1 (and_from (E g.0) _ g.2 (lt-ltb 0 _ g.3))))
          (f r l k)))
          (λ (k : N.intake t r ≤ 0). or_left (eqb (N.intake t r) 0) (filled N m E r) (eq-eqb (N.intake t r) 0 (omega arith)))
          (cases_lt 0 (N.intake t r))

  pub next_more : (E E' : ℕ → Bool) → Part N.valves E E' → (t : ℕ) → next N m S E t ≡ true → next N m S E' t ≡ true
  next_more E E' p t h =
      next_from E' t (next_in E t h)
      (λ r l k. ⊎_elim (λ (g : 1 ≤ m r). inl g) (λ (g : (u : ℕ) × (u < N.valves) × (E u ≡ true) × (1 ≤ N.outlet u r)). inr (g.0, g.1, p g.0 g.1 g.2, g.3)) (next_fed E t h r l k))

  pub next_same : (E E' : ℕ → Bool) → ((u : ℕ) → u < N.valves → E u ≡ E' u) → (t : ℕ) → next N m S E t ≡ next N m S E' t
  next_same E E' e t =
      same_from_decides (next N m S E t) (next N m S E' t)
      (next_more E E' (λ u l h. sym (e u l) ∙ h) t, next_more E' E (λ u l h. e u l ∙ h) t)
      (λ h. h, λ h. h)

  pub rounds_in : (k t : ℕ) → rounds N m S k t ≡ true → S t ≡ true
  rounds_in zero t h = absurd (false≢true h)
  rounds_in (suc k) t h = next_in (rounds N m S k) t h

  rounds_more : (k t : ℕ) → rounds N m S k t ≡ true → rounds N m S (suc k) t ≡ true
  rounds_more zero t h = absurd (false≢true h)
  rounds_more (suc k) t h = next_more (rounds N m S k) (rounds N m S (suc k)) (λ u l. rounds_more k u) t h

  -- after k rounds nothing is added any more, or there are k valves in
  settled : (k : ℕ) → Part N.valves (rounds N m S (suc k)) (rounds N m S k) ⊎ (k ≤ count N.valves (rounds N m S k))
  settled zero = inr (omega arith)
  settled (suc k) =
      ⊎_elim
      (λ (p : Part N.valves (rounds N m S (suc k)) (rounds N m S k)). inl (still p))
      (λ (c : k ≤ count N.valves (rounds N m S k)). ⊎_elim
      (λ (g : Part N.valves (rounds N m S (suc k)) (rounds N m S k) × (count N.valves (rounds N m S k) ≡ count N.valves (rounds N m S (suc k)))). inl (still g.0))
      (λ (g : count N.valves (rounds N m S k) < count N.valves (rounds N m S (suc k))). inr (omega arith))
      (count_part N.valves (rounds N m S k) (rounds N m S (suc k)) (λ t l. rounds_more k t)))
      (settled k)
    where
      still : Part N.valves (rounds N m S (suc k)) (rounds N m S k) → Part N.valves (rounds N m S (suc (suc k))) (rounds N m S (suc k))
      still p t l h = next_more (rounds N m S (suc k)) (rounds N m S k) p t h

  -- what the greatest starting part lets go is in it
  greatest_closed : (t : ℕ) → t < N.valves → next N m S (greatest N m S) t ≡ true → greatest N m S t ≡ true
  greatest_closed t l h =
      ⊎_elim
      (λ (p : Part N.valves (rounds N m S (suc N.valves)) (rounds N m S N.valves)). p t l h)
      (λ (c : N.valves ≤ count N.valves (rounds N m S N.valves)). count_full N.valves (rounds N m S N.valves) c t l)
      (settled N.valves)

  -- for code: whatever is reached by letting valves go, and lets no more go, is the greatest starting part
  pub greatest_grows : (E : ℕ → Bool) → Part N.valves E (greatest N m S) → (t : ℕ) → t < N.valves → next N m S E t ≡ true → greatest N m S t ≡ true
  greatest_grows E p t l h = greatest_closed t l (next_more E (greatest N m S) p t h)

  pub greatest_least : (E : ℕ → Bool) → Part N.valves (next N m S E) E → Part N.valves (greatest N m S) E
  greatest_least E c = within N.valves
    where
      within : (k : ℕ) → Part N.valves (rounds N m S k) E
      within zero t l h = absurd (false≢true h)
      within (suc k) t l h = c t l (next_more (rounds N m S k) E (within k) t h)

  pub greatest_is : (E : ℕ → Bool) → Part N.valves E (greatest N m S) → Part N.valves (next N m S E) E → (t : ℕ) → t < N.valves → E t ≡ greatest N m S t
  greatest_is E sound closed t l =
      ⊎_elim
      (λ (e : greatest N m S t ≡ true). greatest_least E closed t l e ∙ sym e)
      (λ (e : greatest N m S t ≡ false). ⊎_elim (λ (k : E t ≡ true). absurd (true≢false (sym (sound t l k) ∙ e))) (λ (k : E t ≡ false). k ∙ sym e) (cases_Bool (E t)))
      (cases_Bool (greatest N m S t))

  -- the order: round by round, what each round adds
  abbrev new : ℕ → ℕ → Bool
  new k t = rounds N m S (suc k) t && not (rounds N m S k t)

  abbrev order : ℕ → List ℕ
  order zero = []
  order (suc k) = order k ++ picked N.valves (new k)

  new_in : (k t : ℕ) → Among t (picked N.valves (new k)) → (rounds N m S (suc k) t ≡ true) × (rounds N m S k t ≡ false)
  new_in k t a =
      let both = and_parts (rounds N m S (suc k) t) (not (rounds N m S k t)) (picked_in N.valves (new k) t a) in
      (both.0, not-true (rounds N m S k t) both.1)

  order_in : (k t : ℕ) → Among t (order k) → rounds N m S k t ≡ true
  order_in zero t a = absurd a
  order_in (suc k) t a =
      ⊎_elim
      (λ (j : Among t (order k)). rounds_more k t (order_in k t j))
      (λ (j : Among t (picked N.valves (new k))). (new_in k t j).0)
      (among_append (order k) (picked N.valves (new k)) t a)

  order_has : (k t : ℕ) → t < N.valves → rounds N m S k t ≡ true → Among t (order k)
  order_has zero t l h = absurd (false≢true h)
  order_has (suc k) t l h =
      ⊎_elim
      (λ (e : rounds N m S k t ≡ true). among_left (order k) (picked N.valves (new k)) t (order_has k t l e))
      (λ (e : rounds N m S k t ≡ false). among_right (order k) (picked N.valves (new k)) t (picked_has N.valves (new k) t l (and_from (rounds N m S (suc k) t) (not (rounds N m S k t)) h (not_from_false (rounds N m S k t) e))))
      (cases_Bool (rounds N m S k t))

  order_distinct : (k : ℕ) → Distinct (order k)
  order_distinct zero = tt
  order_distinct (suc k) =
      distinct_append (order k) (picked N.valves (new k)) (order_distinct k) (picked_distinct N.valves (new k))
      (λ t a j. true≢false (sym (order_in k t a) ∙ (new_in k t j).1))

  order_fed : (k : ℕ) → InOrder N m [] (order k)
  order_fed zero = tt
  order_fed (suc k) =
      in_order_append N m [] (order k) (picked N.valves (new k)) (order_fed k)
      (in_order_all N m (reverse_aux (order k) []) (picked N.valves (new k))
      (λ t a r l i. ⊎_elim
      (λ (g : 1 ≤ m r). inl g)
      (λ (g : (u : ℕ) × (u < N.valves) × (rounds N m S k u ≡ true) × (1 ≤ N.outlet u r)). inr (record { giver = g.0; among = among_from [] (order k) g.0 (inr (order_has k g.0 g.1 g.2)); gives = g.3 }))
      (next_fed (rounds N m S k) t (new_in k t a).0 r l i)))

  module _ (inside : (t : ℕ) → S t ≡ true → t < N.valves) where
    greatest_inside : (t : ℕ) → greatest N m S t ≡ true → t < N.valves
    greatest_inside t h = inside t (rounds_in N.valves t h)

    pub greatest_starts : Starts N m (greatest N m S)
    greatest_starts = record {
      order = order N.valves;
      distinct = order_distinct N.valves;
      whole = λ u k. order_has N.valves u (greatest_inside u k) k;
      only = λ u a. order_in N.valves u a;
      fed = order_fed N.valves;
    }

    pub greatest_sound : (t : ℕ) → greatest N m S t ≡ true → InGreatest N m S t
    greatest_sound t h = record { part = greatest N m S; within = λ u k. rounds_in N.valves u k; starts = greatest_starts; member = h }

    pub all_starts : ((t : ℕ) → S t ≡ true → greatest N m S t ≡ true) → Starts N m S
    all_starts all =
        let g = greatest_starts in
        record { order = g.order; distinct = g.distinct; whole = λ t h. g.whole t (all t h); only = λ t a. rounds_in N.valves t (g.only t a); fed = g.fed }

    -- along an order of valves of S, each is in the greatest starting part
    along : (earlier us : List ℕ) → InOrder N m earlier us → ((t : ℕ) → Among t earlier → greatest N m S t ≡ true) → ((t : ℕ) → Among t us → S t ≡ true) → (t : ℕ) → Among t us → greatest N m S t ≡ true
    along earlier [] f g s t a = absurd a
    along earlier (u ∷ us) f g s t a =
        ⊎_elim
        (λ (e : u ≡ t). rw (← e) here)
        (λ (k : Among t us). along (u ∷ earlier) us f.1 (λ v j. ⊎_elim (λ (e : u ≡ v). rw (← e) here) (λ (i : Among v earlier). g v i) j) (λ v j. s v (inr j)) t k)
        a
      where
        here : greatest N m S u ≡ true
        here =
            greatest_closed u (inside u (s u (inl refl)))
            (next_from (greatest N m S) u (s u (inl refl))
            (λ r l k. ⊎_elim (λ (h : 1 ≤ m r). inl h) (λ (h : Given N earlier r). inr (h.giver, greatest_inside h.giver (g h.giver h.among), g h.giver h.among, h.gives)) (f.0 r l k)))

    pub greatest_complete : (t : ℕ) → InGreatest N m S t → greatest N m S t ≡ true
    greatest_complete t p = along [] p.starts.order p.starts.fed (λ u a. absurd a) (λ u a. p.within u (p.starts.only u a)) t (p.starts.whole t p.member)

    pub starts_all : Starts N m S → (t : ℕ) → S t ≡ true → greatest N m S t ≡ true
    starts_all st t h = greatest_complete t (record { part = S; within = λ u k. k; starts = st; member = h })

    -- an order that names valves again will do
    pub starts_from : (us : List ℕ) → ((t : ℕ) → S t ≡ true → Among t us) → ((t : ℕ) → Among t us → S t ≡ true) → InOrder N m [] us → Starts N m S
    starts_from us whole only fed = all_starts (λ t h. along [] us fed (λ u a. absurd a) only t (whole t h))
