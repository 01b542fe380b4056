-- The number, the place and the part of the program that each fault of a barrier paper names.
use Rattle.words.specs.Faults.{of_paper}
use Rattle.words.specs.declared.faults.Refusal.{Refusal}
use Rattle.barrier_rule.specs.Faults.{of_barrier}
use Rattle.barrier_weighing.specs.declared.faults.BarrierPaperFault.{BarrierPaperFault}
use Rattle.barrier_weighing.specs.declared.faults.BarrierPaperFault.TheVariants.{Paper, Barrier}

abbrev pub of_barrier_paper : BarrierPaperFault → Refusal
of_barrier_paper (Paper e) = of_paper e
of_barrier_paper (Barrier e) = of_barrier e
