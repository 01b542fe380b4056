use Rattle.paper.proofs.Firsts.{refused_at_the_first}
use Rattle.paper.proofs.exact.papers_are_refused_at_the_first_fault.Goals as goal

pub returns : goal.returns
returns c = refused_at_the_first
