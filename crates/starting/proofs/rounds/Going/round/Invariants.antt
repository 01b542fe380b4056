use Rattle.std.proofs.Common.{◌≡◌}
use Rattle.plant.specs.Walk.{held}
use Rattle.starting.specs.Starting.{marked}
use Rattle.starting.proofs.Sweeps.{Sweeping}
use Rattle.starting.proofs.rounds.Going.round.Given as goal

abbrev pub invariant-loop-valve : goal.invariant-loop-valve
invariant-loop-valve g l =
    let s = l.initial.self in
    record {
      asked : (l.self.plant ≡ s.plant) × (l.self.filling ≡ s.filling) × (l.self.set ≡ s.set);
      swept : Sweeping (g.P.Plant.meaning s.plant.now) (held s.filling.now) (marked s.set.now) (marked s.went) l.valve (marked l.self.went) l.grew;
    }
