use Rattle.std.proofs.Common.{◌≡◌, ◌+◌, ◌≤◌, length}
use Rattle.words.specs.Words.{words}
use Rattle.barrier_paper.specs.Windows.{count_kind}
use Rattle.barrier_paper.proofs.windows.count_kind.Given as goal

-- what is counted and what is left give the whole
abbrev pub invariant-loop-word : goal.invariant-loop-word
invariant-loop-word g l =
    (l.count + count_kind l.number (words l.rest) ≡ count_kind l.number (words l.bytes))
    × (l.count + length (words l.rest) ≤ length (words l.bytes))

abbrev pub decreases-loop-word : goal.decreases-loop-word
decreases-loop-word g l = length (words l.rest)
