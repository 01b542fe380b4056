-- What a weighing answers: the question first, then the paper, then its totals on the plant.
use Rattle.std.specs.Prelude.{ℕ, List, Result}
use Rattle.plant.specs.Net.{Net}
use Rattle.words.specs.Faults.{onward, raised}
use Rattle.paper.specs.TotalsForm.{totals_read}
use Rattle.weighing.specs.declared.faults.Verdict.{Verdict}
use Rattle.weighing.specs.declared.faults.WeighingFault.{WeighingFault}
use Rattle.weighing.specs.declared.faults.WeighingFault.TheVariants.{Question, Paper, Totals}
use Rattle.weighing.specs.Question.{asked}
use Rattle.weighing.specs.Judgement.{judged}

abbrev pub weighs : Net → List ℕ → List ℕ → List ℕ → Result Verdict WeighingFault
weighs N A B bs =
    onward (raised Question (asked N.tanks A B)) (λ _.
    onward (raised Paper (totals_read N.valves bs)) (λ d.
    raised Totals (judged N A B d)))
