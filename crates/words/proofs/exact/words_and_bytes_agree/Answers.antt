use Rattle.words.proofs.Inverses.{words_and_bytes_agree}
use Rattle.words.proofs.exact.words_and_bytes_agree.Goals as goal

pub returns : goal.returns
returns c = words_and_bytes_agree
