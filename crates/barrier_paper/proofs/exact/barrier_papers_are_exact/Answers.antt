use Rattle.barrier_paper.proofs.BarrierExact.{barrier_papers_are_exact}
use Rattle.barrier_paper.proofs.exact.barrier_papers_are_exact.Goals as goal

pub returns : goal.returns
returns c = barrier_papers_are_exact
