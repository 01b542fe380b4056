use Rattle.std.proofs.Common.{refl}
use Rattle.words.proofs.Placing.{reads}
use Rattle.words.proofs.reader.Reader.take_word.Goals as goal

pub invariant_of-self : goal.invariant_of-self
invariant_of-self c = record { inside = (reads c.args.self.now.at c.args.self.now.bytes.now c.in_ok-word.word c.in_ok-word.ensures).inside }

pub returns-clause-cases : goal.returns-clause-cases
returns-clause-cases c =
    let r = reads c.args.self.now.at c.args.self.now.bytes.now c.in_ok-word.word c.in_ok-word.ensures in
    (r.left, r.at, refl)
