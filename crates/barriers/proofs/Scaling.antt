-- A barrier holds of k times two markings exactly if it holds of the two, and sees only the amounts in the tanks.
use Rattle.std.proofs.Common.{◌≡◌, ℕ, ◌*◌, ◌<◌}
use Rattle.plant.specs.Walk.{Marking}
use Rattle.barriers.specs.Lines.{Line, Barrier, HoldsLine, HoldsBarrier, line_at, case_at}
use Rattle.barriers.specs.Theorems.{Homogeneous}
use Rattle.barriers.proofs.Integers.{multiple_above}
use Rattle.barriers.proofs.Sides.{margin, holds_margin, margin_times, side_same}

pub homogeneous : Homogeneous
homogeneous n ψ m m' k some =
    let at = holds_margin n ψ (λ r. k * m r) (λ r. k * m' r) in
    let below = holds_margin n ψ m m' in
    let same = multiple_above ψ.strict k (margin ψ m m' n) some in
    let e = margin_times ψ m m' k n in
    (λ h. below.1 (same.0 (rw e at (at.0 h))), λ h. at.1 (rw e (same.1 (below.0 h))))

-- each line of one barrier of a pair carried to the same line of another pair
pub barrier_carried : (n : ℕ) (β : Barrier) (m m' k k' : Marking) → ((ψ : Line) → HoldsLine n ψ m m' → HoldsLine n ψ k k') → HoldsBarrier n β m m' → HoldsBarrier n β k k'
barrier_carried n β m m' k k' f h = (h.0, h.1, λ l below. f (line_at (case_at β h.0) l) (h.2 l below))

pub line_same : (n : ℕ) (m m' k k' : Marking) → ((r : ℕ) → r < n → m r ≡ k r) → ((r : ℕ) → r < n → m' r ≡ k' r) → (ψ : Line) → HoldsLine n ψ m m' → HoldsLine n ψ k k'
line_same n m m' k k' e e' ψ h = rw (side_same ψ.left m k n e, side_same ψ.right m' k' n e') at h
