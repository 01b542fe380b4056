use Rattle.walks.proofs.Necessary.{tallied, necessary}
use Rattle.walks.proofs.walks_give_totals.Goals as goal

pub returns : goal.returns
returns c = λ N b A B x. (tallied N b A B x, necessary N b A B x)
