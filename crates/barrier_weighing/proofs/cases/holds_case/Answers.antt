use Rattle.std.proofs.Common.{◌∙◌, rules, tests}
use Rattle.std.proofs.lemmas.Iterator.{YieldsList-from_slice}
use Rattle.std.proofs.lemmas.Iterator.Search.{all_from_yields_List}
use Rattle.plant.specs.Walk.{held}
use Rattle.barriers.specs.Lines.{Line, no_line}
use Rattle.barriers.specs.Tests.{holds_line?}
use Rattle.lines.specs.OfLine.{line_meant}
use Rattle.barrier_weighing.proofs.Lists.{all_placed}
use Rattle.barrier_weighing.proofs.cases.holds_case.Goals as goal

pub returns : goal.returns
returns c =
    let m = held c.args.pair.now.source.now.each in
    let m' = held c.args.pair.now.target.now.each in
    let test = λ (ψ : Line). holds_line? c.args.pair.now.tanks ψ m m' in
    all_from_yields_List (λ x. test (line_meant x)) _ _ _ c.all.ensures.ran (YieldsList-from_slice c.args.case.now.items (search rules)) (λ x b q k. search (rules, tests))
    ∙ all_placed line_meant no_line test c.args.case.now.items
