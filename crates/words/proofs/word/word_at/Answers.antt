use Rattle.std.proofs.Common.{sym, ap}
use Rattle.std.specs.Option.{option_map}
use Rattle.words.proofs.Laws.{first_past, first_here}
use Rattle.words.proofs.word.word_at.Goals as goal

pub returns-then-place-bytes : goal.returns-then-place-bytes
returns-then-place-bytes c = sym (ap (option_map _) (first_past c.args.place c.args.bytes.now c.if-place-bytes.true))

pub returns : goal.returns
returns c = sym (ap (option_map _) (first_here c.args.place c.args.bytes.now c.in_ok-bits.bits _ c.in_ok-bits.ensures))
