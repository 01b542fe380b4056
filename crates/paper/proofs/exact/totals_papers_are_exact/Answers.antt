use Rattle.paper.proofs.TotalsExact.{totals_papers_are_exact}
use Rattle.paper.proofs.exact.totals_papers_are_exact.Goals as goal

pub returns : goal.returns
returns c = totals_papers_are_exact
