use Rattle.std.proofs.Common.{ap, ◌∙◌}
use Rattle.words.specs.Words.{words}
use Rattle.words.specs.Left.{to_come}
use Rattle.words.proofs.Placing.{all_to_come}
use Rattle.dossier.proofs.Turns.{reads_all, placed_in_place}
use Rattle.dossier.proofs.fillings.read_filling.Goals as goal

pub loop-word-init : goal.loop-word-init
loop-word-init c =
    let all = ap to_come c.into_iter-word-iterator.ensures.into_iter_gives ∙ all_to_come c.new-word-items.result c.args.part.now c.new-word-items.ensures.at c.new-word-items.ensures.bytes in
    (tt, tt, rw (all, c.new-amounts.ensures) (placed_in_place 0 (words c.args.part.now)), rw (all, c.new-amounts.ensures) (reads_all (words c.args.part.now)))
