use Rattle.dossier.proofs.Cutting.{parts_go_by_kind}
use Rattle.dossier.proofs.laws.parts_go_by_kind.Goals as goal

pub returns : goal.returns
returns c = parts_go_by_kind
