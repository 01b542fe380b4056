use Rattle.barriers.proofs.Separates.{separator_excludes}
use Rattle.barriers.proofs.separators_exclude_walks.Goals as goal

pub returns : goal.returns
returns c = separator_excludes
