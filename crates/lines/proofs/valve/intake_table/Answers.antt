use Rattle.std.proofs.Common.{◌∙◌, arith}
use Rattle.lines.proofs.Filling.{written_none, written_more}
use Rattle.lines.proofs.valve.intake_table.Goals as goal

pub loop-tank-init : goal.loop-tank-init
loop-tank-init g c = written_none _

pub loop-tank-preserved : goal.loop-tank-preserved
loop-tank-preserved g c =
    written_more _ _ c.loop-tank.tank _ c.loop-tank.invariant (omega (arith, (g.P.Plant.bounded c.args.plant.now).few_tanks)) (c.from.ensures ∙ c.intake.ensures)
