use Rattle.std.proofs.Common.{◌≡◌, ℕ, ◌||◌, length}
use Rattle.std.specs.List.{list_any}
use Rattle.plant.specs.Firings.{named}
use Rattle.words.specs.Left.{to_come}
use Rattle.paper.specs.OfTotals.{totals_said}
use Rattle.starting.specs.Starting.{marked}
use Rattle.weighing.proofs.Reading.{totals}
use Rattle.weighing.proofs.totals.totalled.Given as goal

-- what is marked so far and what is to come name the valves of the whole
abbrev pub invariant-loop-word : goal.invariant-loop-word
invariant-loop-word l =
    (goal.iterator-loop-word).can_next l.word-iterator
    × (goal.iterator-loop-word).is_finite l.word-iterator
    × (length l.set ≡ 64)
    × ((t : ℕ) → (marked l.set t || list_any (totals t) (to_come l.word-iterator)) ≡ named (totals_said l.paper).totals t)
