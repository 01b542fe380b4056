use Rattle.std.proofs.Common.{◌≡◌}
use Rattle.words.specs.Words.{words}
use Rattle.words.specs.Left.{to_come}
use Rattle.paper.specs.Runs.{run}
use Rattle.paper.proofs.Runs.{taken_in_turn}
use Rattle.paper.proofs.form.check_form.Given as goal

-- what is left, from the state that was come to, gives the answer of the whole
abbrev pub invariant-loop-word : goal.invariant-loop-word
invariant-loop-word g l =
    (goal.iterator-loop-word g).can_next l.word-iterator
    × (goal.iterator-loop-word g).is_finite l.word-iterator
    × (taken_in_turn g.F.Form.stepped l.state (to_come l.word-iterator) ≡ run g.F.Form.stepped l.initial.state 0 (words l.bytes))
