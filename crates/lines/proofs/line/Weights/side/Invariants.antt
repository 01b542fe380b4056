use Rattle.std.proofs.Common.{◌≡◌, length}
use Rattle.plant.specs.Walk.{held}
use Rattle.barriers.specs.Lines.{side}
use Rattle.lines.specs.Tables.{weight_at}
use Rattle.lines.proofs.line.Weights.side.Given as goal

abbrev pub invariant-loop-weight : goal.invariant-loop-weight
invariant-loop-weight g l = l.sum ≡ side (weight_at l.self.each) (held l.amounts.each) (length l.yielded)
