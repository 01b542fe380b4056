-- Sums of firings, regrouped by valve.
use Rattle.std.proofs.Common.{◌≡◌, ℕ, zero, suc, ◌+◌, ◌*◌, ◌<◌, ◌≤◌, Bool, true, false, cond, eqb, List, [], ◌∷◌, ◌++◌, sym, refl, ⊎_elim, add-mul, mul-le-mul_left, mul-zero, zero-mul, arith}
use Rattle.std.proofs.lemmas.Bool.{eq-eqb, ne_eqb, cases_Bool, cases_eq, cases_lt, or_right, or_cases, or_parts, false≢true}
use Rattle.plant.specs.Walk.{Firing}
use Rattle.plant.specs.Firings.{weighed, total, named, upto}
use Rattle.plant.specs.Totals.{Positive}
use Rattle.walks.proofs.Named.{named_head, upto_either}

-- the sum of f below n
abbrev pub sum : ℕ → (ℕ → ℕ) → ℕ
sum zero f = 0
sum (suc n) f = sum n f + f n

pub sum_ext : (n : ℕ) (f g : ℕ → ℕ) → ((t : ℕ) → t < n → f t ≡ g t) → sum n f ≡ sum n g
sum_ext zero f g h = refl
sum_ext (suc n) f g h = omega (arith, sum_ext n f g (λ t l. h t (omega arith)), h n (omega arith))

pub sum_add : (n : ℕ) (f g : ℕ → ℕ) → sum n (λ t. f t + g t) ≡ sum n f + sum n g
sum_add zero f g = refl
sum_add (suc n) f g = omega (arith, sum_add n f g)

pub sum_times : (n c : ℕ) (f : ℕ → ℕ) → sum n (λ t. c * f t) ≡ c * sum n f
sum_times zero c f = omega arith
sum_times (suc n) c f = omega (arith, sum_times n c f)

pub sum_nought : (n : ℕ) (f : ℕ → ℕ) → ((t : ℕ) → t < n → f t ≡ 0) → sum n f ≡ 0
sum_nought zero f h = refl
sum_nought (suc n) f h = omega (arith, sum_nought n f (λ t l. h t (omega arith)), h n (omega arith))

-- a sum with one term
pub sum_one : (n a x : ℕ) (W : ℕ → ℕ) → a < n → sum n (λ t. cond (eqb a t) x 0 * W t) ≡ x * W a
sum_one zero a x W l = omega arith
sum_one (suc n) a x W l = ⊎_elim at (λ (ne : a ≡ n → ⊥). below ne (sum_one n a x W (omega arith))) (cases_eq a n)
  where
    at : a ≡ n → sum (suc n) (λ t. cond (eqb a t) x 0 * W t) ≡ x * W a
    at e =
        let none = sum_nought n (λ t. cond (eqb a t) x 0 * W t) (λ t k. rw (ne_eqb a t (omega arith)) (zero-mul (W t))) in
        rw (none, eq-eqb a n e, e) (omega arith)

    below : (a ≡ n → ⊥) → sum n (λ t. cond (eqb a t) x 0 * W t) ≡ x * W a → sum (suc n) (λ t. cond (eqb a t) x 0 * W t) ≡ x * W a
    below ne e = rw (e, ne_eqb a n ne) (omega arith)

-- each fired valve is below n
abbrev pub Below : ℕ → List Firing → Type 0
Below n fs = (t : ℕ) → named fs t ≡ true → t < n

pub below_head : (n : ℕ) (f : Firing) (fs : List Firing) → Below n (f ∷ fs) → f.valve < n
below_head n f fs h = h f.valve (named_head f fs)

pub below_tail : (n : ℕ) (f : Firing) (fs : List Firing) → Below n (f ∷ fs) → Below n fs
below_tail n f fs h t k = h t (or_right _ _ k)

-- a sum over firings, valve by valve
pub regroup : (n : ℕ) (W : ℕ → ℕ → ℕ) (fs : List Firing) (r : ℕ) → Below n fs → weighed W fs r ≡ sum n (λ t. total fs t * W t r)
regroup n W [] r h = sym (sum_nought n (λ t. 0 * W t r) (λ t l. zero-mul (W t r)))
regroup n W (f ∷ fs) r h =
    let one = sum_one n f.valve f.amount (λ t. W t r) (below_head n f fs h) in
    let rest = regroup n W fs r (below_tail n f fs h) in
    let both = sum_add n (λ t. cond (eqb f.valve t) f.amount 0 * W t r) (λ t. total fs t * W t r) in
    let split = sum_ext n (λ t. total (f ∷ fs) t * W t r) (λ t. cond (eqb f.valve t) f.amount 0 * W t r + total fs t * W t r) (λ t l. add-mul (cond (eqb f.valve t) f.amount 0) (total fs t) (W t r)) in
    omega arith

-- the listing of v below n sums to the sum of v
pub weighed_upto : (n : ℕ) (v : ℕ → ℕ) (W : ℕ → ℕ → ℕ) (after : List Firing) (r : ℕ) → weighed W (upto n v after) r ≡ sum n (λ t. v t * W t r) + weighed W after r
weighed_upto zero v W after r = omega arith
weighed_upto (suc n) v W after r =
    upto_either n v after (λ l. weighed W l r ≡ sum (suc n) (λ t. v t * W t r) + weighed W after r)
    (λ k. omega (arith, weighed_upto n v W (record { valve = n; amount = v n } ∷ after) r))
    (λ z. rw z (omega (arith, weighed_upto n v W after r)))

pub weighed_append : (W : ℕ → ℕ → ℕ) (fs gs : List Firing) (r : ℕ) → weighed W (fs ++ gs) r ≡ weighed W fs r + weighed W gs r
weighed_append W [] gs r = omega arith
weighed_append W (f ∷ fs) gs r = omega (arith, weighed_append W fs gs r)

pub total_append : (fs gs : List Firing) (t : ℕ) → total (fs ++ gs) t ≡ total fs t + total gs t
total_append [] gs t = omega arith
total_append (f ∷ fs) gs t = omega (arith, total_append fs gs t)

cond_le : (b : Bool) (a : ℕ) → cond b a 0 ≤ a
cond_le true a = omega arith
cond_le false a = omega arith

-- all amounts together
abbrev pub amounts : List Firing → ℕ
amounts [] = 0
amounts (f ∷ fs) = f.amount + amounts fs

pub total_le : (fs : List Firing) (t : ℕ) → total fs t ≤ amounts fs
total_le [] t = omega arith
total_le (f ∷ fs) t = omega (arith, total_le fs t, cond_le (eqb f.valve t) f.amount)

pub weighed_le : (W : ℕ → ℕ → ℕ) → ((t r : ℕ) → W t r ≤ 1023) → (fs : List Firing) (r : ℕ) → weighed W fs r ≤ 1023 * amounts fs
weighed_le W small [] r = omega arith
weighed_le W small (f ∷ fs) r = omega (arith, weighed_le W small fs r, mul-le-mul_left f.amount (small f.valve r))

pub total_unnamed : (fs : List Firing) (t : ℕ) → named fs t ≡ false → total fs t ≡ 0
total_unnamed [] t h = refl
total_unnamed (f ∷ fs) t h =
    let p = or_parts (eqb f.valve t) (named fs t) h in
    rw p.0 (omega (arith, total_unnamed fs t p.1))

pub total_named : (fs : List Firing) (t : ℕ) → Positive fs → named fs t ≡ true → 1 ≤ total fs t
total_named [] t p h = absurd (false≢true h)
total_named (f ∷ fs) t p h =
    ⊎_elim
    (λ (e : eqb f.valve t ≡ true). rw e (omega (arith, p.0)))
    (λ (e : named fs t ≡ true). omega (arith, total_named fs t p.1 e))
    (or_cases (eqb f.valve t) (named fs t) h)

pub named_total : (fs : List Firing) (t : ℕ) → 1 ≤ total fs t → named fs t ≡ true
named_total fs t h = ⊎_elim (λ (e : named fs t ≡ true). e) (λ (e : named fs t ≡ false). absurd (omega (arith, total_unnamed fs t e))) (cases_Bool (named fs t))

-- where something is taken, a named valve takes it
pub weighed_by : (W : ℕ → ℕ → ℕ) (fs : List Firing) (r : ℕ) → 1 ≤ weighed W fs r → (t : ℕ) × (named fs t ≡ true) × (1 ≤ W t r)
weighed_by W [] r h = absurd (omega arith)
weighed_by W (f ∷ fs) r h =
    ⊎_elim
    (λ (k : 0 < W f.valve r). (f.valve, named_head f fs, k))
    (λ (k : W f.valve r ≤ 0). let (t, a, g) = weighed_by W fs r (let z : W f.valve r ≡ 0 = omega arith in let y : f.amount * W f.valve r ≡ 0 = rw z (mul-zero f.amount) in omega arith) in (t, or_right _ _ a, g))
    (cases_lt 0 (W f.valve r))
