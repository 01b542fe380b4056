use Rattle.weighing.proofs.Conditions.{joined_meets, meets_joined, refused_so}
use Rattle.weighing.proofs.laws.totals_are_judged_exactly.Goals as goal

pub returns : goal.returns
returns c = record { joined_meets = joined_meets; meets_joined = meets_joined; refused_so = refused_so }
