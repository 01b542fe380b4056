use Rattle.std.proofs.Common.{◌≡◌, ◌^◌, get_or, sum_by, ap, ◌∙◌, arith}
use Rattle.std.proofs.lemmas.List.Sums.{sum_by-le}
use Rattle.plant.specs.Firings as firings
use Rattle.words.specs.Left.{to_come, left}
use Rattle.paper.specs.OfTotals.{totals_said}
use Rattle.weighing.proofs.Reading.{gives, given_summed, gives_few, few_words}
use Rattle.weighing.proofs.question.Question.given_to.Goals as goal

pub loop-word-init : goal.loop-word-init
loop-word-init g c =
    let N = g.P.Plant.meaning c.args.self.now.plant.now in
    let r = c.args.tank in
    let reader = c.totals-word-items.result in
    let words = to_come reader in
    let whole : sum_by (gives N r) words ≡ firings.given N (totals_said c.args.paper.now).totals r =
    given_summed N r reader.at (left reader) ∙ ap (λ fs. firings.given N fs r) c.totals-word-items.ensures.totals in
    let here = ap (λ s. sum_by (gives N r) (to_come s)) c.into_iter-word-iterator.ensures.into_iter_gives in
    let few = sum_by-le (gives N r) (2 ^ 30) words (λ k d l. gives_few N (g.P.Plant.bounded c.args.self.now.plant.now) r (get_or words k d)) in
    (tt, tt, omega (arith, here, whole), omega (arith, whole, few, few_words reader c.args.paper.now c.totals-word-items.ensures.bytes))
