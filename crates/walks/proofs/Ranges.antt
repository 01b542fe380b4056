-- What a closure asked at each of the numbers below n gives: `all` and `array::from_fn`.
use Rattle.std.proofs.Common.{◌≡◌, ℕ, zero, suc, ◌+◌, ◌<◌, ◌≤◌, Bool, true, false, ◌&&◌, List, get_or, refl, ◌∙◌, subst, ⊎_elim, arith, add-one, zero-add}
use Rattle.std.proofs.iter.Yields.{nat_range_steps}
use Rattle.std.proofs.lemmas.Bool.{cases_eq}
use Rattle.std.proofs.lemmas.Iterator.{YieldsList-from_range}
use Rattle.std.proofs.lemmas.Iterator.Search.{all_from_yields_List}
use Rattle.std.specs.Array.{IsFromFnResult, IsFromFnResultFrom}
use Rattle.std.specs.Fn.{Called}
use Rattle.std.specs.Iterator.{ChecksAll}
use Rattle.std.specs.List.{list_all, range_with_len}
use Rattle.std.specs.declared.ops.Range.{Range}
use denote.Param.Members.{Mut}
use Rattle.walks.specs.Rounds.{all_below}

all_from : (p : ℕ → Bool) (a n : ℕ) → (all_below a p && list_all p (range_with_len a n)) ≡ all_below (a + n) p
all_from p a zero = grind arith
all_from p a (suc n) = grind (arith, add-one, all_from p (a + 1) n)

-- each call of the closure f at x gives p x, and leaves f as it is
abbrev pub Gives : {F A B : Type 0} → (F → A → B → F → Type 0) → F → (A → B) → Type 0
Gives {F} {A} {B} R f p = (x : A) (y : B) (q : F) → R f x y q → (q ≡ f) × (y ≡ p x)

pub all_over : (p : ℕ → Bool) {n : ℕ} {F : Type 0} {s : Range ℕ} {f : F} (u : Range ℕ) {g : Mut F (ℕ × Unit {0}) Bool} {r : Bool}
    → ChecksAll nat_range_steps g s f r u → s.start ≡ 0 → s.end ≡ n → Gives (λ f x y q. Called g f (x, tt) y q) f p → r ≡ all_below n p
all_over p {n} {s = s} u ran start end calls =
    let over : s ≡ record { start = 0; end = n } = rw (← start, ← end) refl in
    all_from_yields_List p _ _ _ ran (YieldsList-from_range 0 n n over (omega arith)) calls ∙ (rw (zero-add n) at (all_from p 0 n))

made_from : {F B : Type 0} {g : Mut F (ℕ × Unit {0}) B} (p : ℕ → B) (f : F) (ys : List B) → Gives (λ f x y q. Called g f (x, tt) y q) f p → (i n : ℕ) → IsFromFnResultFrom g f ys i n
    → (k : ℕ) (d : B) → i ≤ k → k < i + n → get_or ys k d ≡ p k
made_from p f ys calls i zero made k d low high = absurd (omega arith)
made_from {g = g} p f ys calls i (suc n) (q, y, at, call, rest) k d low high =
    let here = calls i y q call in
    ⊎_elim
    (λ (e : k ≡ i). rw e (at.1 d ∙ here.1))
    (λ (ne : k ≡ i → ⊥). made_from p f ys calls (i + 1) n (subst (λ j. IsFromFnResultFrom g j ys (i + 1) n) here.0 rest) k d (omega arith) (omega arith))
    (cases_eq k i)

pub made_at : {F B : Type 0} {g : Mut F (ℕ × Unit {0}) B} (p : ℕ → B) {f : F} {ys : List B} {n : ℕ} → IsFromFnResult g f ys n → Gives (λ f x y q. Called g f (x, tt) y q) f p
    → (k : ℕ) (d : B) → k < n → get_or ys k d ≡ p k
made_at p {f} {ys} {n} made calls k d l = made_from p f ys calls 0 n made.each k d (omega arith) (omega arith)
