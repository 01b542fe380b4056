use Rattle.vectors.proofs.Tabs.{split_at_tab}
use Rattle.vectors.proofs.table.cut.Goals as goal

pub returns : goal.returns
returns c = split_at_tab c.args.text.now c.split_once.result c.split_once.ensures.cases
