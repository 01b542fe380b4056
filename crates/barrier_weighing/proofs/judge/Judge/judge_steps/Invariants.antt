use Rattle.std.proofs.Common.{◌+◌, ◌≤◌, length}
use Rattle.words.specs.Words.{words}
use Rattle.paper.specs.Limits.{most_evidence_words}
use Rattle.barrier_paper.specs.Document.{barrier_of, joined, case_words}
use Rattle.barrier_paper.specs.OfBarrier.{barrier_said}
use Rattle.barrier_rule.specs.Judgement.{steps_judged}
use Rattle.barrier_weighing.proofs.Going.{Going}
use Rattle.barrier_weighing.proofs.judge.Judge.judge_steps.Given as goal

-- the rest is judged to the answer of the whole, and its first word has this place
abbrev pub invariant-loop-word : goal.invariant-loop-word
invariant-loop-word g l =
    let N = g.P.Plant.meaning l.self.plant.now in
    let d = barrier_said l.self.paper.now in
    (l.place + length (words l.rest) ≤ most_evidence_words)
    × Going N d (steps_judged N (barrier_of d) 0 (length (joined case_words d.cases)) d.steps) (words l.rest) l.next l.place

abbrev pub decreases-loop-word : goal.decreases-loop-word
decreases-loop-word g l = length (words l.rest)
