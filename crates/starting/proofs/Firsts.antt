-- The least number below n that passes.
use Rattle.std.proofs.Common.{◌≡◌, ℕ, zero, suc, ◌<◌, Bool, true, false, cond, Some, None, Option, MatchOption, refl, sym, arith}
use Rattle.std.specs.Option.{option_or}
use Rattle.std.proofs.lemmas.Option.{MatchOption-at_none, MatchOption-at_some}
use Rattle.starting.specs.Starting.{first_below}

-- k is the least number that passes, and it is below n
pub record First (n : ℕ) (p : ℕ → Bool) (k : ℕ) : Type 0 where
  pub below : k < n
  pub passes : p k ≡ true
  pub least : (t : ℕ) → t < k → p t ≡ false

module _ (p : ℕ → Bool) where
  -- what a search below n may find
  abbrev pub Found : ℕ → Option ℕ → Type 0
  Found n r = MatchOption r ((t : ℕ) → t < n → p t ≡ false) (First n p)

  found_more : (n : ℕ) (r : Option ℕ) (b : Bool) → b ≡ p n → Found n r → Found (suc n) (option_or r (cond b (Some n) None))
  found_more n None true e h = record { below = omega arith; passes = sym e; least = h }
  found_more n None false e h = λ t l. grind (arith, h t)
  found_more n (Some k) b e f = record { below = omega (arith, f.below); passes = f.passes; least = f.least }

  found : (n : ℕ) → Found n (first_below n p)
  found zero = λ t l. absurd (omega arith)
  found (suc n) = found_more n (first_below n p) (p n) refl (found n)

  -- and it finds one thing alone
  found_same : (n : ℕ) (r s : Option ℕ) → Found n r → Found n s → r ≡ s
  found_same n None None h i = refl
  found_same n None (Some k) h f = grind (arith, h k, f.below, f.passes)
  found_same n (Some k) None f h = grind (arith, h k, f.below, f.passes)
  found_same n (Some j) (Some k) f g = grind (arith, f.passes, g.passes, f.least k, g.least j)

  pub first_is : (n : ℕ) (r : Option ℕ) → Found n r → r ≡ first_below n p
  first_is n r h = found_same n r (first_below n p) h (found n)

  pub first_none : (n : ℕ) → ((t : ℕ) → t < n → p t ≡ false) → first_below n p ≡ None
  first_none n h = sym (first_is n None h)

  pub first_some : (n k : ℕ) → First n p k → first_below n p ≡ Some k
  first_some n k f = sym (first_is n (Some k) f)

  pub none_first : (n : ℕ) → first_below n p ≡ None → (t : ℕ) → t < n → p t ≡ false
  none_first n e = MatchOption-at_none _ (First n p) e (found n)

  pub some_first : (n k : ℕ) → first_below n p ≡ Some k → First n p k
  some_first n k e = MatchOption-at_some _ (First n p) k e (found n)

pub first_below_same : (p q : ℕ → Bool) (n : ℕ) → ((t : ℕ) → t < n → p t ≡ q t) → first_below n p ≡ first_below n q
first_below_same p q zero h = refl
first_below_same p q (suc n) h = grind (arith, first_below_same p q n (λ t l. h t (omega arith)), h n)
