use Rattle.std.proofs.Common.{◌≡◌, ℕ, pos, replicate, arith}
use Rattle.std.proofs.lemmas.Int.{ints}
use Rattle.std.proofs.lemmas.Grind.{common_steps}
use Rattle.lines.specs.Tables.{weight_at}
use Rattle.lines.proofs.line.WeightsDefault.default.Goals as goal

zeros : (n r : ℕ) → weight_at (replicate n (pos 0)) r ≡ pos 0
zeros n r = grind (arith, common_steps)

pub invariant_of-result : goal.invariant_of-result
invariant_of-result c = record { small = λ r. omega (arith, ints, zeros 64 r) }

pub returns : goal.returns
returns c = zeros 64
