use Rattle.std.proofs.Common.{◌≡◌, ℕ, ◌<◌, ◌≤◌, length, get_or, pos, ◌+ℤ◌}
use Rattle.plant.specs.Limits.{most_tanks}
use Rattle.words.specs.Words.{words}
use Rattle.words.specs.Kinds.{number_of}
use Rattle.words.specs.Left.{to_come}
use Rattle.paper.specs.Limits.{most_evidence_words}
use Rattle.barrier_paper.specs.Windows.{part_weight}
use Rattle.barrier_paper.proofs.Summing.{bits}
use Rattle.barrier_paper.proofs.weights.weights.Given as goal

-- what is summed so far and what is to come give the whole
abbrev pub invariant-loop-word : goal.invariant-loop-word
invariant-loop-word l =
    (goal.iterator-loop-word).can_next l.word-iterator
    × (goal.iterator-loop-word).is_finite l.word-iterator
    × (length (bits (to_come l.word-iterator)) ≤ most_evidence_words)
    × ((r : ℕ) → r < most_tanks → get_or l.each r (pos 0) +ℤ part_weight (number_of l.kind) (bits (to_come l.word-iterator)) r ≡ part_weight (number_of l.kind) (words l.part) r)
    × (length l.each ≡ most_tanks)
