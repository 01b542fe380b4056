use Rattle.std.proofs.Common.{arith}
use Rattle.words.proofs.Fields.{narrow, wide}
use Rattle.words.proofs.word.Word.field.Goals as goal

pub returns-in-Some : goal.returns-in-Some
returns-in-Some c =
    let is = c.in-Some.ensures in
    rw is.1 (narrow c.args.self.bits c.args.low c.args.width c.from_bit-from_low.result c.from_bit-from_low.ensures is.0)

pub returns-in-None : goal.returns-in-None
returns-in-None c = wide c.args.self.bits c.args.low c.args.width c.from_bit-from_low.result (omega arith) c.from_bit-from_low.ensures (omega (arith, c.in-None.ensures))
