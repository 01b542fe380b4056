-- Laws of the integers that lib.IntN and lib.Signed lack: products over sums, and the sign of a natural multiple.
use Rattle.std.proofs.Common.{◌≡◌, ℕ, zero, suc, ◌+◌, ◌*◌, ◌≤◌, Bool, true, false, ◌↔◌, ℤ, pos, negsuc, ◌+ℤ◌, ◌-ℤ◌, ◌*ℤ◌, neg_ℤ, ◌≤ℤ◌, ◌<ℤ◌, sym, ap, ◌∙◌, arith}
use lib.IntN.{*ℤ_comm}
use Rattle.barriers.specs.Lines.{Compares}
use borrow.Author.Differences.{ints, up, down, sum_is_lem, neg_is, product_is, same_in, same_out, le_out, lt_out, at_most_in, below_in}

-- ---- products over sums

pub times_sum : (a b c : ℤ) → a *ℤ (b +ℤ c) ≡ a *ℤ b +ℤ a *ℤ c
times_sum a b c =
    let e : up (b +ℤ c) + down b + down c ≡ down (b +ℤ c) + up b + up c = sum_is_lem b c in
    same_in _ _ (omega (arith, product_is a (b +ℤ c), product_is a b, product_is a c, sum_is_lem (a *ℤ b) (a *ℤ c), ap (λ n. up a * n) e, ap (λ n. down a * n) e))

pub times_neg : (a b : ℤ) → a *ℤ neg_ℤ b ≡ neg_ℤ (a *ℤ b)
times_neg a b =
    same_in _ _ (omega (arith, product_is a (neg_ℤ b), product_is a b, neg_is (a *ℤ b), ap (λ n. up a * n) (neg_is b).0, ap (λ n. down a * n) (neg_is b).0, ap (λ n. up a * n) (neg_is b).1, ap (λ n. down a * n) (neg_is b).1))

pub times_assoc : (a b c : ℤ) → (a *ℤ b) *ℤ c ≡ a *ℤ (b *ℤ c)
times_assoc a b c =
    same_in _ _ (rw ((product_is (a *ℤ b) c).0, (product_is (a *ℤ b) c).1, (product_is a (b *ℤ c)).0, (product_is a (b *ℤ c)).1, (product_is a b).0, (product_is a b).1, (product_is b c).0, (product_is b c).1) (omega arith))

-- ---- the sign of a multiple

pub multiple_nonneg : (k : ℕ) (z : ℤ) → pos 0 ≤ℤ z → pos 0 ≤ℤ (pos k *ℤ z)
multiple_nonneg k (pos n) h = omega (arith, ints)
multiple_nonneg k (negsuc n) h = absurd h.le

pub multiple_positive : (k : ℕ) (z : ℤ) → 1 ≤ k → pos 0 <ℤ z → pos 0 <ℤ (pos k *ℤ z)
multiple_positive zero z e h = absurd (omega arith)
multiple_positive (suc k) (pos zero) e h = absurd (omega (arith, ints))
multiple_positive (suc k) (pos (suc n)) e h = omega (arith, ints)
multiple_positive (suc k) (negsuc n) e h = absurd h.lt

pub nonneg_of_multiple : (k : ℕ) (z : ℤ) → 1 ≤ k → pos 0 ≤ℤ (pos k *ℤ z) → pos 0 ≤ℤ z
nonneg_of_multiple k (pos n) e h = omega (arith, ints)
nonneg_of_multiple zero (negsuc n) e h = absurd (omega arith)
nonneg_of_multiple (suc k) (negsuc n) e h = absurd (omega (arith, ints))

pub positive_of_multiple : (k : ℕ) (z : ℤ) → pos 0 <ℤ (pos k *ℤ z) → pos 0 <ℤ z
positive_of_multiple k (pos zero) h = absurd (omega (arith, ints))
positive_of_multiple k (pos (suc n)) h = omega (arith, ints)
positive_of_multiple k (negsuc n) h = absurd (omega (arith, ints))

-- ---- orders of sums

-- for omega: sums, differences and orders, with each product an unknown. `ints` multiplies products out as well
pub ruleset linear = (same_out, le_out, lt_out, same_in, at_most_in, below_in, sum_is_lem, neg_is)

pub times_swap : (a b c : ℤ) → a *ℤ (b *ℤ c) ≡ b *ℤ (a *ℤ c)
times_swap a b c = sym (times_assoc a b c) ∙ ap (λ z. z *ℤ c) (*ℤ_comm a b) ∙ times_assoc b a c

pub times_diff : (a b c : ℤ) → a *ℤ (b -ℤ c) ≡ a *ℤ b -ℤ a *ℤ c
times_diff a b c = times_sum a b (neg_ℤ c) ∙ ap (λ z. a *ℤ b +ℤ z) (times_neg a c)

pub once : (z : ℤ) → pos 1 *ℤ z ≡ z
once z = omega (arith, ints)

-- ---- at least 0, or above 0 where strict

abbrev pub Above : Bool → ℤ → Type 0
Above s z = Compares s (pos 0) z

pub above : (s : Bool) (u v : ℤ) → Compares s u v ↔ Above s (v -ℤ u)
above true u v = (λ h. omega (arith, linear), λ h. omega (arith, linear))
above false u v = (λ h. omega (arith, linear), λ h. omega (arith, linear))

pub at_least : (s : Bool) (z : ℤ) → Above s z → pos 0 ≤ℤ z
at_least true z h = omega (arith, linear)
at_least false z h = h

pub above_zero : (s : Bool) (z : ℤ) → pos 0 <ℤ z → Above s z
above_zero true z h = h
above_zero false z h = omega (arith, linear)

pub above_more : (s : Bool) (x y : ℤ) → pos 0 ≤ℤ x → Above s y → Above s (x +ℤ y)
above_more true x y h k = omega (arith, linear)
above_more false x y h k = omega (arith, linear)

pub multiple_above : (s : Bool) (k : ℕ) (z : ℤ) → 1 ≤ k → Above s (pos k *ℤ z) ↔ Above s z
multiple_above true k z some = (positive_of_multiple k z, multiple_positive k z some)
multiple_above false k z some = (nonneg_of_multiple k z some, multiple_nonneg k z)
