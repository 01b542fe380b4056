use Rattle.std.proofs.lemmas.Grind.{common_steps}
use Rattle.std.proofs.Common.{arith}
use Rattle.barrier_paper.proofs.form.BarrierForm.line.Goals as goal

pub returns : goal.returns
returns c = grind (arith, common_steps)
