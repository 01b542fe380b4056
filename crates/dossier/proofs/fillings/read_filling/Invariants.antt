use Rattle.std.proofs.Common.{◌≡◌, length}
use Rattle.words.specs.Words.{words}
use Rattle.words.specs.Left.{to_come}
use Rattle.dossier.specs.Fillings.{fill_read}
use Rattle.dossier.proofs.Turns.{read_on, InPlace}
use Rattle.dossier.proofs.fillings.read_filling.Given as goal

-- the words to come go on from the amounts that were read, in place and to the whole
abbrev pub invariant-loop-word : goal.invariant-loop-word
invariant-loop-word l =
    (goal.iterator-loop-word).can_next l.word-iterator
    × (goal.iterator-loop-word).is_finite l.word-iterator
    × InPlace (length l.amounts.items) (to_come l.word-iterator)
    × (read_on l.amounts.items (to_come l.word-iterator) ≡ fill_read 0 (words l.part))
