-- Orders of valves: what is among them, one after another, none twice.
use Rattle.std.proofs.Common.{◌≡◌, ℕ, ◌<◌, ◌≤◌, ◌⊎◌, List, [], ◌∷◌, ◌++◌, refl, inl, inr, ⊎_elim}
use mathlib.Core.List.{reverse_aux}
use Rattle.plant.specs.Net.{Net}
use Rattle.plant.specs.Walk.{Marking}
use Rattle.plant.specs.Starting.{Among, Distinct, Given, InOrder}

pub among_cases : (us ts : List ℕ) (t : ℕ) → Among t (reverse_aux ts us) → Among t us ⊎ Among t ts
among_cases us [] t a = inl a
among_cases us (u ∷ ts) t a =
    ⊎_elim
    (λ (k : (u ≡ t) ⊎ Among t us). ⊎_elim (λ (e : u ≡ t). inr (inl e)) (λ (j : Among t us). inl j) k)
    (λ (k : Among t ts). inr (inr k))
    (among_cases (u ∷ us) ts t a)

pub among_from : (us ts : List ℕ) (t : ℕ) → Among t us ⊎ Among t ts → Among t (reverse_aux ts us)
among_from us [] t a = ⊎_elim (λ (k : Among t us). k) (λ (k : ⊥). absurd k) a
among_from us (u ∷ ts) t a =
    among_from (u ∷ us) ts t
    (⊎_elim (λ (k : Among t us). inl (inr k)) (λ (k : (u ≡ t) ⊎ Among t ts). ⊎_elim (λ (e : u ≡ t). inl (inl e)) (λ (j : Among t ts). inr j) k) a)

pub among_append : (us ts : List ℕ) (t : ℕ) → Among t (us ++ ts) → Among t us ⊎ Among t ts
among_append [] ts t a = inr a
among_append (u ∷ us) ts t a =
    ⊎_elim
    (λ (e : u ≡ t). inl (inl e))
    (λ (k : Among t (us ++ ts)). ⊎_elim (λ (j : Among t us). inl (inr j)) (λ (j : Among t ts). inr j) (among_append us ts t k))
    a

pub among_right : (us ts : List ℕ) (t : ℕ) → Among t ts → Among t (us ++ ts)
among_right [] ts t a = a
among_right (u ∷ us) ts t a = inr (among_right us ts t a)

pub among_left : (us ts : List ℕ) (t : ℕ) → Among t us → Among t (us ++ ts)
among_left [] ts t a = absurd a
among_left (u ∷ us) ts t a = ⊎_elim (λ (e : u ≡ t). inl e) (λ (k : Among t us). inr (among_left us ts t k)) a

pub distinct_append : (us ts : List ℕ) → Distinct us → Distinct ts → ((t : ℕ) → Among t us → Among t ts → ⊥) → Distinct (us ++ ts)
distinct_append [] ts d d' apart = d'
distinct_append (u ∷ us) ts d d' apart = (
  λ a. ⊎_elim (λ (k : Among u us). d.0 k) (λ (k : Among u ts). apart u (inl refl) k) (among_append us ts u a),
  distinct_append us ts d.1 d' (λ t a. apart t (inr a)),
)

-- what fed a valve feeds it later too
pub given_later : (N : Net) {P : Type 0} (earlier : List ℕ) (u r : ℕ) → P ⊎ Given N earlier r → P ⊎ Given N (u ∷ earlier) r
given_later N earlier u r (inl h) = inl h
given_later N earlier u r (inr g) = inr (record { giver = g.giver; among = inr g.among; gives = g.gives })

-- one order after another; and valves that can all go by what the earlier ones give go in any order
pub in_order_append : (N : Net) (m : Marking) (earlier us ts : List ℕ) → InOrder N m earlier us → InOrder N m (reverse_aux us earlier) ts → InOrder N m earlier (us ++ ts)
in_order_append N m earlier [] ts f g = g
in_order_append N m earlier (u ∷ us) ts f g = (f.0, in_order_append N m (u ∷ earlier) us ts f.1 g)

pub in_order_all : (N : Net) (m : Marking) (earlier us : List ℕ) → ((t : ℕ) → Among t us → (r : ℕ) → r < N.tanks → 1 ≤ N.intake t r → (1 ≤ m r) ⊎ Given N earlier r) → InOrder N m earlier us
in_order_all N m earlier [] f = tt
in_order_all N m earlier (u ∷ us) f =
    (f u (inl refl), in_order_all N m (u ∷ earlier) us (λ t a r l k. given_later N earlier u r (f t (inr a) r l k)))
