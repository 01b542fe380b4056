-- A match by the weights that are read from a valve, and by that valve of the plant.
use Rattle.std.proofs.Common.{◌≡◌, ℕ, List, ℤ, refl, ap, ◌∙◌, arith}
use Rattle.plant.specs.Net.{Net}
use Rattle.plant.specs.Walk.{Marking, held}
use Rattle.barriers.specs.Lines.{side, Line}
use Rattle.barriers.specs.Steps.{Way, forward, backward, flow}
use Rattle.barriers.specs.Tests.{good?}
use Rattle.barriers.proofs.Sides.{side_same}
use Rattle.lines.specs.OfValve.{ReadFrom, valve_meant}
use Rattle.lines.specs.Tables.{Tabulates}
use Rattle.lines.specs.declared.valve.ValveWeights.{ValveWeights}

module _ (x : ValveWeights) (N : Net) (t : ℕ) (read : ReadFrom x N t) where
  side_read : (w : ℕ → ℤ) (xs : List ℕ) (m : Marking) → Tabulates xs m → side w (held xs) x.tanks ≡ side w m N.tanks
  side_read w xs m same = side_same w (held xs) m x.tanks (λ r l. same r (omega (arith, x.few_tanks))) ∙ ap (side w m) read.tanks

  pub flows : (way : Way) (ψ ψ' : Line) (p q : ℕ) → flow (valve_meant x) way 0 ψ ψ' p q ≡ flow N way t ψ ψ' p q
  flows forward ψ ψ' p q = rw (side_read ψ'.right _ _ read.outlet, side_read ψ.right _ _ read.intake) refl
  flows backward ψ ψ' p q = rw (side_read ψ.left _ _ read.outlet, side_read ψ'.left _ _ read.intake) refl

  pub good : (way : Way) (ψ ψ' : Line) (p q : ℕ) → good? (valve_meant x) way 0 ψ ψ' p q ≡ good? N way t ψ ψ' p q
  good way ψ ψ' p q = rw (flows way ψ ψ' p q, read.tanks) refl
