use Rattle.std.proofs.Common.{ap, ◌∙◌}
use Rattle.words.specs.Words.{words}
use Rattle.words.specs.Left.{to_come}
use Rattle.words.proofs.Placing.{all_to_come}
use Rattle.paper.proofs.Runs.{taken_in_turn, in_turn}
use Rattle.paper.proofs.form.check_form.Goals as goal

pub loop-word-init : goal.loop-word-init
loop-word-init g c =
    let step = g.F.Form.stepped in
    let all = ap to_come c.into_iter-word-iterator.ensures.into_iter_gives ∙ all_to_come c.new-word-items.result c.args.bytes.now c.new-word-items.ensures.at c.new-word-items.ensures.bytes in
    (tt, tt, ap (taken_in_turn step c.args.start) all ∙ in_turn step c.args.start 0 (words c.args.bytes.now))
