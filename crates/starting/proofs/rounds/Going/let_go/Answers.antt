use Rattle.std.proofs.Common.{arith}
use Rattle.plant.specs.Walk.{held}
use Rattle.starting.specs.Starting.{marked}
use Rattle.starting.proofs.Sweeps.{set_joins, tells_joined, within_joined}
use Rattle.starting.proofs.rounds.Going.let_go.Goals as goal

pub bounds-self-valve : goal.bounds-self-valve
bounds-self-valve g c = omega (arith, (g.P.Plant.bounded c.args.self.now.plant.now).few_valves)

pub invariant_of-self : goal.invariant_of-self
invariant_of-self g c =
    let s = c.args.self.now in
    let N = g.P.Plant.meaning s.plant.now in
    let joins = set_joins s.went c.args.valve (omega (arith, (g.P.Plant.bounded s.plant.now).few_valves)) in
    record {
      told = tells_joined N _ _ c.args.valve joins c.requires.inside _ _ s.told (λ r l. c.given_with-self.ensures r);
      within = within_joined N (held s.filling.now) (marked s.set.now) _ _ c.args.valve joins c.requires.inside c.requires.can s.within;
    }

pub returns-clause-went : goal.returns-clause-went
returns-clause-went g c = set_joins c.args.self.now.went c.args.valve (omega (arith, (g.P.Plant.bounded c.args.self.now.plant.now).few_valves))
