use Rattle.std.proofs.Common.{◌≡◌, ◌<◌, true, false, length, get_or, sym, ap, ◌∙◌, arith, rules, tests}
use Rattle.std.proofs.lemmas.List.{length-map}
use Rattle.std.proofs.lemmas.Iterator.{YieldsList-from_slice, YieldsList-from_zip, IsFirst-from_position}
use Rattle.std.proofs.lemmas.Iterator.Consumers.{YieldsList-at}
use Rattle.words.specs.Words.{words}
use Rattle.barriers.specs.Lines.{case_at}
use Rattle.lines.specs.OfWay.{way_meant}
use Rattle.barrier_paper.specs.Document.{barrier_of, match_said}
use Rattle.barrier_paper.specs.OfBarrier.{barrier_said}
use Rattle.barrier_paper.proofs.Chains.{all_given}
use Rattle.barrier_weighing.specs.OfCases.{case_meant}
use Rattle.barrier_weighing.specs.OfMatches.{whole_step}
use Rattle.barrier_weighing.proofs.Matched.{Told, searched, read_told, bad_is}
use Rattle.barrier_weighing.proofs.Steps.{there, case_is, matched, named}
use Rattle.barrier_weighing.proofs.judge.Judge.first_bad.Given as given
use Rattle.barrier_weighing.proofs.judge.Judge.first_bad.Goals as goal
use Rattle.barrier_weighing.proofs.judge.Judge.first_bad.Goals.{After-from-step}

-- both cases are there
module _ (g : given.Over) (c : After-from-step g) where
  both : (c.from-step.result.from < length c.args.self.now.cases.items) × (c.from-step.result.to < length c.args.self.now.cases.items)
  both =
      let d = barrier_said c.args.self.now.paper.now in
      (there c.args.self.now.cases d c.args.self.now.meant c.from-step.ensures.from c.requires.from_there, there c.args.self.now.cases d c.args.self.now.meant c.from-step.ensures.to c.requires.to_there)

pub bounds-deref-step : goal.bounds-deref-step
bounds-deref-step g c = let b = both g (goal.at.bounds-deref-step g c).After-from-step in omega (arith, b, ap length c.deref.ensures.0)

pub bounds-deref-step-2 : goal.bounds-deref-step-2
bounds-deref-step-2 g c = let b = both g (goal.at.bounds-deref-step-2 g c).After-from-step in omega (arith, b, ap length c.deref-2.ensures.0)

pub returns : goal.returns
returns g c =
    let d = barrier_said c.args.self.now.paper.now in
    let s = whole_step c.args.word.bits (words c.args.matches.now) in
    let N = g.P.Plant.meaning c.args.self.now.plant.now in
    let way = way_meant c.from-step.result.way in
    let t = c.from-step.result.valve in
    let from = c.index-deref-step.result in
    let to = c.index-deref-step-2.result in
    let ws = words c.args.matches.now in
    let left : case_meant from ≡ case_at (barrier_of d) s.from =
    ap case_meant (c.index-deref-step.is ∙ ap (λ xs. get_or xs c.from-step.result.from from) c.deref.ensures.0) ∙ case_is c.args.self.now.cases d c.args.self.now.meant c.from-step.ensures.from c.requires.from_there from in
    let right : case_meant to ≡ case_at (barrier_of d) s.to =
    ap case_meant (c.index-deref-step-2.is ∙ ap (λ xs. get_or xs c.from-step.result.to to) c.deref-2.ensures.0) ∙ case_is c.args.self.now.cases d c.args.self.now.meant c.from-step.ensures.to c.requires.to_there to in
    let found = IsFirst-from_position c.position.new.self _ c.position.result (Told N way t (case_meant from) false) (Told N way t (case_meant from) true) c.position.ensures.ran
    (YieldsList-from_zip (YieldsList-at c.zip-matched.ensures.first (all_given c.new.result c.args.matches.now c.new.ensures.at c.new.ensures.bytes)) (YieldsList-from_slice to.items c.zip-matched.ensures.second.0))
    (λ x q k. read_told c.of_plant-valve.ensures way (case_meant from) false (x.0, x.1.now) (λ l. search (rules, tests)))
    (λ x q k. (search rules, read_told c.of_plant-valve.ensures way (case_meant from) true (x.0, x.1.now) (λ l. search (rules, tests)))) in
    searched N way t (case_meant from) ws to.items (matched d _ ws c.requires to.items right) (named d _ ws c.requires left) c.position.result found
    ∙ bad_is N (barrier_of d) s c.from-step.ensures.way c.from-step.ensures.valve (sym (length-map ws match_said)) left right (ap N.opens (sym c.from-step.ensures.valve) ∙ sym c.if-not-is_open.ensures)
