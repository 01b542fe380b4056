use Rattle.lines.proofs.OfValve.{flows, good}
use Rattle.lines.proofs.laws.valves_are_their_weights.Goals as goal

pub returns : goal.returns
returns c = record { flows = flows; good = good }
