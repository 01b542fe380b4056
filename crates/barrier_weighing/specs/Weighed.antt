-- What the weighing of a barrier paper answers, from one marking to another: its form first, then its barrier with its steps.
use Rattle.std.specs.Prelude.{ℕ, List, Result}
use Rattle.plant.specs.Net.{Net}
use Rattle.plant.specs.Walk.{Marking}
use Rattle.words.specs.Faults.{onward, raised}
use Rattle.barrier_paper.specs.Form.{barrier_read}
use Rattle.barrier_rule.specs.Judgement.{barrier_judged}
use Rattle.barrier_weighing.specs.declared.faults.BarrierPaperFault.{BarrierPaperFault}
use Rattle.barrier_weighing.specs.declared.faults.BarrierPaperFault.TheVariants.{Paper, Barrier}

abbrev pub paper_weighed : Net → Marking → Marking → List ℕ → Result (Unit {0}) BarrierPaperFault
paper_weighed N m m' bs =
    onward (raised Paper (barrier_read N.tanks N.valves bs)) (λ d.
    raised Barrier (barrier_judged N m m' d))
