use Rattle.std.proofs.Common.{◌≡◌}
use Rattle.plant.specs.Walk.{held}
use Rattle.walks.specs.Rounds.{rounds}
use Rattle.walks.proofs.Closure.{Part}
use Rattle.starting.specs.Starting.{marked}
use Rattle.starting.proofs.rounds.greatest_start.Given as goal

abbrev pub invariant-loop : goal.invariant-loop
invariant-loop g l =
    let N = g.P.Plant.meaning l.plant in
    record {
      asked : (l.going.plant.now ≡ l.plant) × (l.going.filling.now ≡ l.filling) × (l.going.set.now ≡ l.set);
      rounded : Part N.valves (rounds N (held l.filling) (marked l.set) l.counter) (marked l.going.went);
    }
