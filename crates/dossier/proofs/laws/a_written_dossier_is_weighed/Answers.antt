use Rattle.dossier.proofs.Dossiers.{a_written_dossier_is_weighed}
use Rattle.dossier.proofs.laws.a_written_dossier_is_weighed.Goals as goal

pub returns : goal.returns
returns c = a_written_dossier_is_weighed
