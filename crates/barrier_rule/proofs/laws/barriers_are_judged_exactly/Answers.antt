use Rattle.barrier_rule.proofs.Exactly.{barriers_are_judged_exactly}
use Rattle.barrier_rule.proofs.laws.barriers_are_judged_exactly.Goals as goal

pub returns : goal.returns
returns c = barriers_are_judged_exactly
