use Rattle.std.proofs.Common.{◌≡◌, ◌+◌, ◌*◌, ◌^◌, ◌≤◌, sum_by}
use Rattle.plant.specs.Firings as firings
use Rattle.words.specs.Left.{to_come}
use Rattle.paper.specs.Limits.{most_evidence_words}
use Rattle.paper.specs.OfTotals.{totals_said}
use Rattle.weighing.proofs.Reading.{gives}
use Rattle.weighing.proofs.question.Question.given_to.Given as goal

-- what is summed so far and what is to come give the whole, which is small
abbrev pub invariant-loop-word : goal.invariant-loop-word
invariant-loop-word g l =
    let N = g.P.Plant.meaning l.self.plant.now in
    let whole = firings.given N (totals_said l.paper).totals l.tank in
    (goal.iterator-loop-word g).can_next l.word-iterator
    × (goal.iterator-loop-word g).is_finite l.word-iterator
    × (l.sum + sum_by (gives N l.tank) (to_come l.word-iterator) ≡ whole)
    × (whole ≤ 2 ^ 30 * most_evidence_words)
