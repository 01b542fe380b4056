-- The number, the place and the part of the program that each fault of a barrier names.
use Rattle.words.specs.declared.faults.Part.TheVariants.{Weighing}
use Rattle.words.specs.declared.faults.Refusal.{Refusal}
use Rattle.barrier_rule.specs.declared.faults.BarrierFault.{BarrierFault}
use Rattle.barrier_rule.specs.declared.faults.BarrierFault.TheVariants.{FailsSource, FailsTarget, HoldsAcross, Missing, BadMatch}

abbrev pub of_barrier : BarrierFault → Refusal
of_barrier FailsSource = record { number = 16; place = 0; part = Weighing }
of_barrier FailsTarget = record { number = 17; place = 0; part = Weighing }
of_barrier HoldsAcross = record { number = 18; place = 0; part = Weighing }
of_barrier (Missing place) = record { number = 19; place = place; part = Weighing }
of_barrier (BadMatch word) = record { number = 20; place = word; part = Weighing }
