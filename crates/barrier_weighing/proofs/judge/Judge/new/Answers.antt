use Rattle.barrier_weighing.proofs.Reading.{formed_of}
use Rattle.barrier_weighing.proofs.judge.Judge.new.Goals as goal

pub invariant_of-result : goal.invariant_of-result
invariant_of-result g c =
    let N = g.P.Plant.meaning c.args.plant.now in
    record { read = c.requires; meant = c.cases_of.ensures N.tanks N.valves (formed_of N c.args.paper.now c.requires) }
