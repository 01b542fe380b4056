use Rattle.std.proofs.Common.{◌∙◌, rules, tests}
use Rattle.std.proofs.lemmas.Iterator.{YieldsList-from_slice}
use Rattle.std.proofs.lemmas.Iterator.Search.{position_from_yields_List}
use Rattle.barrier_paper.proofs.Chains.{ends, place_or_end}
use Rattle.barrier_paper.proofs.windows.count_before.Goals as goal

pub returns : goal.returns
returns c =
    let k = c.args.number in
    let cs = c.as_chunks.result.0.now in
    c.unwrap_or.ensures
    ∙ place_or_end k c.args.bytes.now cs c.position.result c.as_chunks.ensures.front (position_from_yields_List (ends k) c.position.new.self _ c.position.result c.position.ensures.ran (YieldsList-from_slice cs cc) (λ x b q h. search (rules, tests)))
