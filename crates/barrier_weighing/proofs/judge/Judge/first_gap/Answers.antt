use Rattle.std.proofs.Common.{◌≡◌, true, false, length, rules, tests}
use Rattle.std.proofs.lemmas.Iterator.{first_from_Range}
use Rattle.barrier_paper.specs.Document.{barrier_of}
use Rattle.barrier_paper.specs.OfBarrier.{barrier_said}
use Rattle.barrier_rule.specs.Judgement.{wanted}
use Rattle.barrier_weighing.proofs.Gaps.{gap_is}
use Rattle.barrier_weighing.proofs.judge.Judge.first_gap.Goals as goal

pub returns : goal.returns
returns g c =
    let N = g.P.Plant.meaning c.args.self.now.plant.now in
    let cases = length (barrier_of (barrier_said c.args.self.now.paper.now)) in
    gap_is N cases c.args.from c.args.to c.find.result
    (first_from_Range _ _ _ c.find.result (λ k. wanted N cases k ≡ true) (λ k. wanted N cases k ≡ false) c.find.ensures.ran (λ x q k. search (rules, tests)) (λ x q k. search (rules, tests)))
