use Rattle.barriers.proofs.Decided.{line_decided, barrier_decided, good_decided, acceptance_decided}
use Rattle.barriers.proofs.acceptance_is_decided.Goals as goal

pub returns : goal.returns
returns c = record { line = line_decided; barrier = barrier_decided; good = good_decided; accepted = acceptance_decided }
