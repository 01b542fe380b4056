use Rattle.lines.proofs.Filling.{Written}
use Rattle.lines.proofs.valve.intake_table.Given as goal

abbrev pub invariant-loop-tank : goal.invariant-loop-tank
invariant-loop-tank g l = Written l.each ((g.P.Plant.meaning l.plant).intake l.valve) l.tank
