use Rattle.std.proofs.Common.{◌∙◌, arith}
use Rattle.words.proofs.Fields.{shifted}
use Rattle.words.proofs.word.Word.from_bit.Goals as goal

pub returns : goal.returns
returns c = c.unwrap_or.ensures ∙ shifted c.checked_shr.result c.args.self.bits c.args.low (omega arith) c.checked_shr.ensures
