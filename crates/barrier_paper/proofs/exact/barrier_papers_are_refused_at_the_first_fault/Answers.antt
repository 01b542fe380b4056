use Rattle.paper.proofs.Firsts.{first}
use Rattle.barrier_paper.specs.Form.{barrier_step}
use Rattle.barrier_paper.proofs.exact.barrier_papers_are_refused_at_the_first_fault.Goals as goal

pub returns : goal.returns
returns c = first barrier_step
