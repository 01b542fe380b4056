use Rattle.dossier.proofs.Cutting.{parts_are_the_input}
use Rattle.dossier.proofs.laws.parts_are_the_input.Goals as goal

pub returns : goal.returns
returns c = parts_are_the_input
