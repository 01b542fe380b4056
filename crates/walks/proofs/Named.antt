-- Which valves a list of firings names.
use Rattle.std.proofs.Common.{◌≡◌, ℕ, zero, suc, ◌<◌, ◌≤◌, true, false, ◌||◌, eqb, ltb, ◌⊎◌, List, [], ◌∷◌, ◌++◌, map, reverse, sym, refl, ap, inl, inr, ⊎_elim, arith}
use mathlib.Core.List.{reverse_aux}
use Rattle.std.proofs.lemmas.Bool.{eqb-true, eq-eqb, or_cases, or_left, or_right, false≢true, cases_eq, cond_both, ltb-true, ltb-false}
use Rattle.plant.specs.Walk.{Firing}
use Rattle.plant.specs.Firings.{named, upto}
use Rattle.plant.specs.Totals.{Positive, Rising}
use Rattle.walks.proofs.Runs.{scaled}

pub named_head : (f : Firing) (fs : List Firing) → named (f ∷ fs) f.valve ≡ true
named_head f fs = or_left _ _ (eq-eqb f.valve f.valve refl)

pub named_tail : (f : Firing) (fs : List Firing) (t : ℕ) → named fs t ≡ true → named (f ∷ fs) t ≡ true
named_tail f fs t h = or_right (eqb f.valve t) (named fs t) h

pub named_append : (fs gs : List Firing) (t : ℕ) → named (fs ++ gs) t ≡ true → (named fs t ≡ true) ⊎ (named gs t ≡ true)
named_append [] gs t h = inr h
named_append (f ∷ fs) gs t h =
    ⊎_elim
    (λ (e : eqb f.valve t ≡ true). inl (or_left (eqb f.valve t) (named fs t) e))
    (λ (e : named (fs ++ gs) t ≡ true). ⊎_elim (λ (k : named fs t ≡ true). inl (or_right (eqb f.valve t) (named fs t) k)) (λ (k : named gs t ≡ true). inr k) (named_append fs gs t e))
    (or_cases (eqb f.valve t) (named (fs ++ gs) t) h)

pub named_scaled : (c : ℕ) (fs : List Firing) (t : ℕ) → named (map (scaled c) fs) t ≡ named fs t
named_scaled c [] t = refl
named_scaled c (f ∷ fs) t = ap (λ b. eqb f.valve t || b) (named_scaled c fs t)

pub named_single : (t a u : ℕ) → named (record { valve = t; amount = a } ∷ []) u ≡ true → t ≡ u
named_single t a u h = ⊎_elim (λ (e : eqb t u ≡ true). eqb-true t u e) (λ (e : false ≡ true). absurd (false≢true e)) (or_cases (eqb t u) false h)

-- a run read backwards names the same valves
pub named_onto : (fs gs : List Firing) (t : ℕ) → named (reverse_aux fs gs) t ≡ true → (named fs t ≡ true) ⊎ (named gs t ≡ true)
named_onto [] gs t h = inr h
named_onto (f ∷ fs) gs t h =
    ⊎_elim
    (λ (k : named fs t ≡ true). inl (or_right (eqb f.valve t) (named fs t) k))
    (λ (k : named (f ∷ gs) t ≡ true). ⊎_elim (λ (e : eqb f.valve t ≡ true). inl (or_left (eqb f.valve t) (named fs t) e)) (λ (e : named gs t ≡ true). inr e) (or_cases (eqb f.valve t) (named gs t) k))
    (named_onto fs (f ∷ gs) t h)

onto_named : (fs gs : List Firing) (t : ℕ) → (named fs t ≡ true) ⊎ (named gs t ≡ true) → named (reverse_aux fs gs) t ≡ true
onto_named [] gs t h = ⊎_elim (λ (k : false ≡ true). absurd (false≢true k)) (λ (k : named gs t ≡ true). k) h
onto_named (f ∷ fs) gs t h =
    onto_named fs (f ∷ gs) t
    (⊎_elim
    (λ (k : named (f ∷ fs) t ≡ true). ⊎_elim (λ (e : eqb f.valve t ≡ true). inr (or_left (eqb f.valve t) (named gs t) e)) (λ (e : named fs t ≡ true). inl e) (or_cases (eqb f.valve t) (named fs t) k))
    (λ (k : named gs t ≡ true). inr (named_tail f gs t k))
    h)

pub reverse_named : (fs : List Firing) (t : ℕ) → named fs t ≡ true → named (reverse fs) t ≡ true
reverse_named fs t h = onto_named fs [] t (inl h)

pub named_reverse : (fs : List Firing) (t : ℕ) → named (reverse fs) t ≡ true → named fs t ≡ true
named_reverse fs t h = ⊎_elim (λ (k : named fs t ≡ true). k) (λ (k : false ≡ true). absurd (false≢true k)) (named_onto fs [] t h)

-- the last valve of a listing is in it or it has nothing
pub upto_either : (n : ℕ) (v : ℕ → ℕ) (after : List Firing) (P : List Firing → Type 0) → (1 ≤ v n → P (upto n v (record { valve = n; amount = v n } ∷ after))) → (v n ≡ 0 → P (upto n v after)) → P (upto (suc n) v after)
upto_either n v after P some none =
    cond_both (ltb 0 (v n)) (record { valve = n; amount = v n } ∷ after) after (λ l. P (upto n v l))
    (λ e. some (ltb-true 0 (v n) e))
    (λ e. none (omega (arith, ltb-false 0 (v n) e)))

-- a listing names the valves with something to their name, each with a positive amount, in rising order
pub named_upto : (n : ℕ) (v : ℕ → ℕ) (after : List Firing) (t : ℕ) → named (upto n v after) t ≡ true → (1 ≤ v t) ⊎ (named after t ≡ true)
named_upto zero v after t = λ h. inr h
named_upto (suc n) v after t =
    upto_either n v after (λ l. named l t ≡ true → (1 ≤ v t) ⊎ (named after t ≡ true))
    (λ k h. ⊎_elim
    (λ (j : 1 ≤ v t). inl j)
    (λ (j : named (record { valve = n; amount = v n } ∷ after) t ≡ true). ⊎_elim (λ (e : eqb n t ≡ true). inl (rw (eqb-true n t e) at k)) (λ (e : named after t ≡ true). inr e) (or_cases (eqb n t) (named after t) j))
    (named_upto n v (record { valve = n; amount = v n } ∷ after) t h))
    (λ z h. named_upto n v after t h)

pub upto_keeps : (n : ℕ) (v : ℕ → ℕ) (after : List Firing) (t : ℕ) → named after t ≡ true → named (upto n v after) t ≡ true
upto_keeps zero v after t h = h
upto_keeps (suc n) v after t h =
    upto_either n v after (λ l. named l t ≡ true)
    (λ k. upto_keeps n v (record { valve = n; amount = v n } ∷ after) t (or_right _ _ h))
    (λ z. upto_keeps n v after t h)

pub upto_names : (n : ℕ) (v : ℕ → ℕ) (after : List Firing) (t : ℕ) → t < n → 1 ≤ v t → named (upto n v after) t ≡ true
upto_names zero v after t l h = absurd (omega arith)
upto_names (suc n) v after t l h =
    upto_either n v after (λ l. named l t ≡ true)
    (λ k. ⊎_elim
    (λ (e : t ≡ n). upto_keeps n v (record { valve = n; amount = v n } ∷ after) t (or_left _ _ (eq-eqb n t (sym e))))
    (λ (ne : t ≡ n → ⊥). upto_names n v (record { valve = n; amount = v n } ∷ after) t (omega arith) h)
    (cases_eq t n))
    (λ z. ⊎_elim
    (λ (e : t ≡ n). absurd (let k : v t ≡ v n = ap v e in omega arith))
    (λ (ne : t ≡ n → ⊥). upto_names n v after t (omega arith) h)
    (cases_eq t n))

pub positive_upto : (n : ℕ) (v : ℕ → ℕ) (after : List Firing) → Positive after → Positive (upto n v after)
positive_upto zero v after p = p
positive_upto (suc n) v after p = upto_either n v after Positive (λ k. positive_upto n v (record { valve = n; amount = v n } ∷ after) (k, p)) (λ z. positive_upto n v after p)

rising_from : (n k : ℕ) (fs : List Firing) → k ≤ n → Rising n fs → Rising k fs
rising_from n k [] l h = tt
rising_from n k (f ∷ fs) l h = (omega (arith, h.0), h.1)

pub rising_upto : (n : ℕ) (v : ℕ → ℕ) (after : List Firing) → Rising n after → Rising 0 (upto n v after)
rising_upto zero v after h = h
rising_upto (suc n) v after h =
    upto_either n v after (Rising 0)
    (λ k. rising_upto n v (record { valve = n; amount = v n } ∷ after) (omega arith, h))
    (λ z. rising_upto n v after (rising_from (suc n) n after (omega arith) h))
