-- A field beyond the word's 32 bits.
use Rattle.std.proofs.Common.{◌≡◌, ℕ, Option, Some, None, ◌*◌, ◌/◌, ◌%◌, ◌^◌, ◌<◌, ◌≤◌, sym, ap, ◌∙◌, lt_of_lt_of_le, mod-eq_of_lt, arith, pow_mono}
use Rattle.std.specs.Option.{SomeIff, unwrap_or}
use native.Mathlib.Nat.{div-eq_of_lt}
use Rattle.std.proofs.lemmas.Nat.{one_shl, shr_le}
use Rattle.words.specs.Words.{field}

pub beyond : (w low : ℕ) → w < 2 ^ 32 → 32 ≤ low → w / 2 ^ low ≡ 0
beyond w low h k = div-eq_of_lt (lt_of_lt_of_le h (pow_mono k))

pub narrow : (w low width h : ℕ) → h ≡ w / 2 ^ low → width < 32 → h % ((1 * 2 ^ width) % 4294967296) ≡ field w low width
narrow w low width h e k = ap (λ m. h % m) (one_shl width 32 k) ∙ ap (λ x. x % 2 ^ width) e

pub wide : (w low width h : ℕ) → w < 2 ^ 32 → h ≡ w / 2 ^ low → 32 ≤ width → h ≡ field w low width
wide w low width h small e k = e ∙ sym (mod-eq_of_lt (lt_of_lt_of_le below (pow_mono k)))
  where
    below : w / 2 ^ low < 2 ^ 32
    below = omega (arith, shr_le w low)

-- the shift of a 32-bit word, where one by 32 or more gives 0
pub shifted : (o : Option ℕ) (w low : ℕ) → w < 2 ^ 32 → SomeIff o (low < 32) (w / 2 ^ low) → unwrap_or o 0 ≡ w / 2 ^ low
shifted (Some h) w low small s = s.1
shifted None w low small s = sym (beyond w low small (omega (arith, s)))
