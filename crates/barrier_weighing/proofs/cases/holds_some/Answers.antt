use Rattle.std.proofs.Common.{[], ◌∙◌, rules, tests}
use Rattle.std.proofs.lemmas.Iterator.{YieldsList-from_slice}
use Rattle.std.proofs.lemmas.Iterator.Search.{any_from_yields_List}
use Rattle.plant.specs.Walk.{held}
use Rattle.barriers.specs.Lines.{Case}
use Rattle.barriers.specs.Tests.{holds_case?}
use Rattle.barrier_weighing.specs.OfCases.{case_meant}
use Rattle.barrier_weighing.proofs.Lists.{some_placed}
use Rattle.barrier_weighing.proofs.cases.holds_some.Goals as goal

pub returns : goal.returns
returns c =
    let m = held c.args.pair.now.source.now.each in
    let m' = held c.args.pair.now.target.now.each in
    let test = λ (φ : Case). holds_case? c.args.pair.now.tanks φ m m' in
    any_from_yields_List (λ x. test (case_meant x)) _ _ _ c.any.ensures.ran (YieldsList-from_slice c.args.cases.now.items (search rules)) (λ x b q k. search (rules, tests))
    ∙ some_placed case_meant [] test c.args.cases.now.items
