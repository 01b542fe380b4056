-- A good match is an implication between lines. Both directions are one: the pair of markings (x + α·c, y + α·d) becomes
-- (x + α·c', y + α·d'), where c, d and c', d' are what one unit of the valve needs before and leaves after.
use Rattle.std.proofs.Common.{◌≡◌, ℕ, ◌+◌, ◌-◌, ◌*◌, ◌<◌, ◌≤◌, Bool, true, false, ◌⊎◌, ℤ, pos, ◌+ℤ◌, ◌-ℤ◌, ◌*ℤ◌, ◌≤ℤ◌, ◌<ℤ◌, subst, inl, inr, arith}
use Rattle.plant.specs.Net.{Net}
use Rattle.plant.specs.Walk.{Marking}
use Rattle.barriers.specs.Lines.{Line, HoldsLine}
use Rattle.barriers.specs.Steps.{Way, forward, backward, flow, Good}
use Rattle.barriers.specs.Separator.{Takes}
use Rattle.barriers.specs.Theorems.{GoodImplies}
use Rattle.barriers.proofs.Integers.{Above, at_least, above_zero, times_sum, times_neg, times_swap, multiple_nonneg, multiple_positive, nonneg_of_multiple, positive_of_multiple, linear}
use Rattle.barriers.proofs.Sides.{none, margin, side_none, side_compare, margin_split, holds_margin}

-- ---- numbers

-- x and α·f, as v, against x' and α·f', as v'
grows : (p q α : ℕ) (v v' x x' f f' : ℤ) → (pos p *ℤ x) ≤ℤ (pos q *ℤ x') → v ≡ x +ℤ pos α *ℤ f → v' ≡ x' +ℤ pos α *ℤ f'
    → (pos p *ℤ v +ℤ pos α *ℤ (pos q *ℤ f' -ℤ pos p *ℤ f)) ≤ℤ (pos q *ℤ v')
grows p q α v v' x x' f f' h ev ev' =
    let s = times_swap (pos α) (pos p) f in
    let s' = times_swap (pos α) (pos q) f' in
    rw (ev, ev') (simp (times_sum, times_neg) (omega (arith, linear)))

-- each mark makes z' as sharp as it has to be
concludes : (s s' : Bool) (p q α : ℕ) (z z' f : ℤ) → 1 ≤ α → Above s z → pos 0 ≤ℤ f
    → (pos 0 <ℤ f) ⊎ (((s ≡ true) × (1 ≤ p)) ⊎ ((s' ≡ false) × (1 ≤ q)))
    → (pos p *ℤ z +ℤ pos α *ℤ f) ≤ℤ (pos q *ℤ z') → Above s' z'
concludes s s' p q α z z' f some h flows (inl flowing) total =
    let a = multiple_nonneg p z (at_least s z h) in
    let b = multiple_positive α f some flowing in
    above_zero s' z' (positive_of_multiple q z' (omega (arith, linear)))
concludes s s' p q α z z' f some h flows (inr (inl sharp)) total =
    let a = multiple_positive p z sharp.1 (subst (λ (b : Bool). Above b z) sharp.0 h) in
    let b = multiple_nonneg α f flows in
    above_zero s' z' (positive_of_multiple q z' (omega (arith, linear)))
concludes s s' p q α z z' f some h flows (inr (inr loose)) total =
    let a = multiple_nonneg p z (at_least s z h) in
    let b = multiple_nonneg α f flows in
    rw loose.0 (nonneg_of_multiple q z' loose.1 (omega (arith, linear)))

-- ---- what one unit of the valve needs in a pair of markings, and what it leaves

abbrev pub needs_left : Net → Way → ℕ → Marking
needs_left N forward t = none
needs_left N backward t = N.outlet t

abbrev pub needs_right : Net → Way → ℕ → Marking
needs_right N forward t = N.intake t
needs_right N backward t = none

abbrev pub leaves_left : Net → Way → ℕ → Marking
leaves_left N forward t = none
leaves_left N backward t = N.intake t

abbrev pub leaves_right : Net → Way → ℕ → Marking
leaves_right N forward t = N.outlet t
leaves_right N backward t = none

abbrev pub need_margin : Net → Way → ℕ → Line → ℤ
need_margin N way t ψ = margin ψ (needs_left N way t) (needs_right N way t) N.tanks

abbrev pub leave_margin : Net → Way → ℕ → Line → ℤ
leave_margin N way t ψ = margin ψ (leaves_left N way t) (leaves_right N way t) N.tanks

pub flow_margin : (N : Net) (way : Way) (t : ℕ) (ψ ψ' : Line) (p q : ℕ) → flow N way t ψ ψ' p q ≡ pos q *ℤ leave_margin N way t ψ' -ℤ pos p *ℤ need_margin N way t ψ
flow_margin N forward t ψ ψ' p q = simp (side_none, times_sum, times_neg) (omega (arith, linear))
flow_margin N backward t ψ ψ' p q = simp (side_none, times_sum, times_neg) (omega (arith, linear))

-- ---- a good match carries a line along

module _ (N : Net) (way : Way) (t : ℕ) (ψ ψ' : Line) (p q : ℕ) (g : Good N way t ψ ψ' p q) where
  margins_ordered : (x y : Marking) → (pos p *ℤ margin ψ x y N.tanks) ≤ℤ (pos q *ℤ margin ψ' x y N.tanks)
  margins_ordered x y =
      let a = side_compare q p ψ'.left ψ.left x N.tanks (λ r l. (g.tanks_good r l).left_drops) in
      let b = side_compare p q ψ.right ψ'.right y N.tanks (λ r l. (g.tanks_good r l).right_grows) in
      simp (times_sum, times_neg) (omega (arith, linear))

  carries : (m m' k k' x y : Marking) (α : ℕ) → 1 ≤ α
      → ((r : ℕ) → r < N.tanks → m r ≡ x r + α * needs_left N way t r) → ((r : ℕ) → r < N.tanks → m' r ≡ y r + α * needs_right N way t r)
      → ((r : ℕ) → r < N.tanks → k r ≡ x r + α * leaves_left N way t r) → ((r : ℕ) → r < N.tanks → k' r ≡ y r + α * leaves_right N way t r)
      → HoldsLine N.tanks ψ m m' → HoldsLine N.tanks ψ' k k'
  carries m m' k k' x y α some em em' ek ek' h =
      (holds_margin N.tanks ψ' k k').1 (concludes ψ.strict ψ'.strict p q α (margin ψ m m' N.tanks) (margin ψ' k k' N.tanks) (flow N way t ψ ψ' p q)
      some ((holds_margin N.tanks ψ m m').0 h) g.flows g.marked
      (rw (flow_margin N way t ψ ψ' p q) (grows p q α _ _ _ _ _ _ (margins_ordered x y)
      (margin_split ψ m m' x y (needs_left N way t) (needs_right N way t) α N.tanks em em')
      (margin_split ψ' k k' x y (leaves_left N way t) (leaves_right N way t) α N.tanks ek ek'))))

-- what stays in the tanks while valve t is fired
rest : (N : Net) (t α : ℕ) → Marking → Marking
rest N t α m r = m r - α * N.intake t r

module _ (N : Net) (t α : ℕ) (m m' : Marking) (f : Takes N t α m m') where
  before : (r : ℕ) → r < N.tanks → m r ≡ rest N t α m r + α * N.intake t r
  unfolding rest
  before r l = omega (arith, f.holds r l)

  after : (r : ℕ) → r < N.tanks → m' r ≡ rest N t α m r + α * N.outlet t r
  unfolding rest
  after r l = omega (arith, f.holds r l, f.moves r l)

still : (m : Marking) (α n : ℕ) → (r : ℕ) → r < n → m r ≡ m r + α * none r
still m α n r l = omega arith

pub good_implies : GoodImplies
good_implies N forward t ψ ψ' p q g = λ m m' m'' α h f.
    carries N forward t ψ ψ' p q g m m' m m'' m (rest N t α m') α f.some (still m α N.tanks) (before N t α m' m'' f) (still m α N.tanks) (after N t α m' m'' f) h
good_implies N backward t ψ ψ' p q g = λ m₀ m m' α f h.
    carries N backward t ψ ψ' p q g m m' m₀ m' (rest N t α m₀) m' α f.some (after N t α m₀ m f) (still m' α N.tanks) (before N t α m₀ m f) (still m' α N.tanks) h
