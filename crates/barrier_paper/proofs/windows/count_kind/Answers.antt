use Rattle.std.proofs.Common.{arith}
use Rattle.words.proofs.Laws.{length_words}
use Rattle.barrier_paper.proofs.windows.count_kind.Goals as goal

pub overflow_add-count : goal.overflow_add-count
overflow_add-count g c = omega (arith, length_words c.args.bytes.now)
