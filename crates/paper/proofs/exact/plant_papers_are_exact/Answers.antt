use Rattle.paper.proofs.PlantExact.{plant_papers_are_exact}
use Rattle.paper.proofs.exact.plant_papers_are_exact.Goals as goal

pub returns : goal.returns
returns c = plant_papers_are_exact
