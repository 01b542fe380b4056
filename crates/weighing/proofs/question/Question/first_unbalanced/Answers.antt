use Rattle.std.proofs.Common.{not, eqb, refl, rules, tests}
use Rattle.plant.specs.Net.{turned}
use Rattle.paper.specs.OfTotals.{totals_said}
use Rattle.weighing.specs.Judgement.{balance_side}
use Rattle.starting.proofs.Ranges.{find_over}
use Rattle.weighing.proofs.question.Question.first_unbalanced.Goals as goal

pub returns : goal.returns
returns g c =
    let N = g.P.Plant.meaning c.args.self.now.plant.now in
    let d = totals_said c.args.paper.now in
    find_over (λ r. not (eqb (balance_side N c.args.self.now.source.now d r) (balance_side (turned N) c.args.self.now.target.now d r))) refl c.counts.ensures.tanks _ c.find.ensures.ran (λ x b q k. search (rules, tests))
