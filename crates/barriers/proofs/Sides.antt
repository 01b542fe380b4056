-- Laws of a line's sides: a side is linear in the amounts, and grows with the weights.
use Rattle.std.proofs.Common.{◌≡◌, ℕ, zero, suc, ◌+◌, ◌*◌, ◌<◌, ◌≤◌, ◌↔◌, ℤ, pos, negsuc, ◌+ℤ◌, ◌-ℤ◌, ◌*ℤ◌, nat_abs, ◌≤ℤ◌, refl, ap, ◌∙◌, mul-le-mul, add-one, arith}
use lib.IntN.{*ℤ_comm, *ℤ-zero, +ℤ_idl}
use borrow.Author.Differences.{ints}
use Rattle.plant.specs.Walk.{Marking}
use Rattle.barriers.specs.Lines.{side, Line, HoldsLine}
use Rattle.barriers.proofs.Integers.{Above, above, times_sum, times_diff, times_assoc, times_swap, times_neg, multiple_nonneg, linear}

sum_small : (a b : ℤ) → nat_abs (a +ℤ b) ≤ nat_abs a + nat_abs b
sum_small a b = omega (arith, ints)

product_small : (w : ℤ) (m big most : ℕ) → nat_abs w ≤ big → m ≤ most → nat_abs (w *ℤ pos m) ≤ big * most
product_small (pos w) m big most hw hm = mul-le-mul hw hm
product_small (negsuc w) m big most hw hm = let h : suc w * m ≤ big * most = mul-le-mul hw hm in omega (arith, ints)

-- one tank more, as a loop adds it
pub side_more : (w : ℕ → ℤ) (m : Marking) (n : ℕ) → side w m (n + 1) ≡ side w m n +ℤ w n *ℤ pos (m n)
side_more w m n = rw (add-one n) refl

-- a side stays small
pub side_small : (w : ℕ → ℤ) (m : Marking) (big most n : ℕ) → ((r : ℕ) → r < n → nat_abs (w r) ≤ big) → ((r : ℕ) → r < n → m r ≤ most) → nat_abs (side w m n) ≤ n * (big * most)
side_small w m big most zero hw hm = omega (arith, ints)
side_small w m big most (suc n) hw hm =
    let before = side_small w m big most n (λ r l. hw r (omega arith)) (λ r l. hm r (omega arith)) in
    let here = product_small (w n) (m n) big most (hw n (omega arith)) (hm n (omega arith)) in
    let both = sum_small (side w m n) (w n *ℤ pos (m n)) in
    omega arith

-- nothing in any tank
abbrev pub none : Marking
none _ = 0

pub side_none : (w : ℕ → ℤ) (n : ℕ) → side w none n ≡ pos 0
side_none w zero = refl
side_none w (suc n) = rw (side_none w n, *ℤ-zero (w n)) refl

pub side_same : (w : ℕ → ℤ) (m x : Marking) (n : ℕ) → ((r : ℕ) → r < n → m r ≡ x r) → side w m n ≡ side w x n
side_same w m x zero h = refl
side_same w m x (suc n) h = rw (side_same w m x n (λ r l. h r (omega arith)), h n (omega arith)) refl

split_term : (w : ℤ) (x α c : ℕ) → w *ℤ pos (x + α * c) ≡ w *ℤ pos x +ℤ pos α *ℤ (w *ℤ pos c)
split_term w x α c = times_sum w (pos x) (pos (α * c)) ∙ ap (λ z. w *ℤ pos x +ℤ z) (times_swap w (pos α) (pos c))

-- m is x and α times c
pub side_split : (w : ℕ → ℤ) (m x c : Marking) (α n : ℕ) → ((r : ℕ) → r < n → m r ≡ x r + α * c r) → side w m n ≡ side w x n +ℤ pos α *ℤ side w c n
side_split w m x c α zero h = omega (arith, ints)
side_split w m x c α (suc n) h =
    let before : side w m n ≡ side w x n +ℤ pos α *ℤ side w c n = side_split w m x c α n (λ r l. h r (omega arith)) in
    let here : w n *ℤ pos (m n) ≡ w n *ℤ pos (x n) +ℤ pos α *ℤ (w n *ℤ pos (c n)) = rw (h n (omega arith)) (split_term (w n) (x n) α (c n)) in
    rw (times_sum (pos α) (side w c n) (w n *ℤ pos (c n))) (omega (arith, linear))

compare_term : (a b : ℤ) (x : ℕ) → pos 0 ≤ℤ (b -ℤ a) → (a *ℤ pos x) ≤ℤ (b *ℤ pos x)
compare_term a b x h =
    let e : pos 0 ≤ℤ (pos x *ℤ b -ℤ pos x *ℤ a) = rw times_diff at (multiple_nonneg x (b -ℤ a) h) in
    rw (*ℤ_comm a (pos x), *ℤ_comm b (pos x)) (omega (arith, linear))

-- p·w is at most q·w' in every tank
pub side_compare : (p q : ℕ) (w w' : ℕ → ℤ) (x : Marking) (n : ℕ) → ((r : ℕ) → r < n → pos 0 ≤ℤ (pos q *ℤ w' r -ℤ pos p *ℤ w r)) → (pos p *ℤ side w x n) ≤ℤ (pos q *ℤ side w' x n)
side_compare p q w w' x zero h = omega (arith, ints)
side_compare p q w w' x (suc n) h =
    let before : (pos p *ℤ side w x n) ≤ℤ (pos q *ℤ side w' x n) = side_compare p q w w' x n (λ r l. h r (omega arith)) in
    let here : (pos p *ℤ (w n *ℤ pos (x n))) ≤ℤ (pos q *ℤ (w' n *ℤ pos (x n))) =
    rw (times_assoc (pos p) (w n) (pos (x n)), times_assoc (pos q) (w' n) (pos (x n))) at (compare_term (pos p *ℤ w n) (pos q *ℤ w' n) (x n) (h n (omega arith)))
    in
    simp times_sum (omega (arith, linear))

-- ---- by how much a line's right side passes its left

abbrev pub margin : Line → Marking → Marking → ℕ → ℤ
margin ψ m m' n = side ψ.right m' n -ℤ side ψ.left m n

pub margin_none : (ψ : Line) (n : ℕ) → margin ψ none none n ≡ pos 0
margin_none ψ n = rw (side_none ψ.right n, side_none ψ.left n) refl

pub margin_split : (ψ : Line) (m m' x y c d : Marking) (α n : ℕ) → ((r : ℕ) → r < n → m r ≡ x r + α * c r) → ((r : ℕ) → r < n → m' r ≡ y r + α * d r)
    → margin ψ m m' n ≡ margin ψ x y n +ℤ pos α *ℤ margin ψ c d n
margin_split ψ m m' x y c d α n em em' =
    rw (side_split ψ.left m x c α n em, side_split ψ.right m' y d α n em') (simp (times_sum, times_neg) (omega (arith, linear)))

pub holds_margin : (n : ℕ) (ψ : Line) (m m' : Marking) → HoldsLine n ψ m m' ↔ Above ψ.strict (margin ψ m m' n)
holds_margin n ψ m m' = above ψ.strict (side ψ.left m n) (side ψ.right m' n)

pub margin_times : (ψ : Line) (m m' : Marking) (k n : ℕ) → margin ψ (λ r. k * m r) (λ r. k * m' r) n ≡ pos k *ℤ margin ψ m m' n
margin_times ψ m m' k n =
    margin_split ψ (λ r. k * m r) (λ r. k * m' r) none none m m' k n (λ r l. omega arith) (λ r l. omega arith) ∙ rw (margin_none ψ n) (+ℤ_idl (pos k *ℤ margin ψ m m' n))
