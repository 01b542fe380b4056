use Rattle.std.proofs.Common.{◌≡◌, filter, slice_get, ◌∙◌, sym, ap, rules, tests, arith}
use Rattle.std.specs.List.{enumerate_from}
use Rattle.std.specs.Option.{option_map}
use Rattle.std.proofs.lemmas.Iterator.{YieldsList-from_slice}
use Rattle.std.proofs.lemmas.Iterator.Consumers.{nth_from_yields_List, YieldsList-from_filter, YieldsList-from_enumerate, YieldsList-at}
use Rattle.words.proofs.Laws.{words_few}
use Rattle.barrier_paper.proofs.Chains.{placed_of_kind, bytes_found, no_bytes_found}
use Rattle.barrier_paper.proofs.windows.seek.Given as given
use Rattle.barrier_paper.proofs.windows.seek.Goals as goal
use Rattle.barrier_paper.proofs.windows.seek.Goals.{After-nth-found}

sought : (g : given.Over) (c : After-nth-found g) → option_map (λ p. (p.0, p.1.now)) c.nth-found.result ≡ slice_get (filter (placed_of_kind c.into-number.result) (enumerate_from 0 c.as_chunks.result.0.now)) c.args.n
sought g c =
    nth_from_yields_List c.nth-found.result c.nth-found.new.self c.args.n c.nth-found.ensures.ran
    (YieldsList-from_filter _ (placed_of_kind c.into-number.result) (YieldsList-at c.filter.ensures.source (YieldsList-from_enumerate (YieldsList-at c.enumerate.ensures.source (YieldsList-from_slice c.as_chunks.result.0.now cc)) cc)) c.filter.ensures.closure (λ x b q h. search (rules, tests)))

pub returns-in-Some : goal.returns-in-Some
returns-in-Some g c =
    let s = sought g (goal.at.returns-in-Some g c).After-nth-found in
    (c.into-number.result, c.into-number.ensures, bytes_found c.into-number.result c.args.n c.args.bytes.now c.as_chunks.result.0.now (c.in-Some.place, c.in-Some.field-0-1.now) c.as_chunks.ensures.front (ap (option_map (λ p. (p.0, p.1.now))) (sym c.in-Some.is) ∙ s))

pub returns-in-None : goal.returns-in-None
returns-in-None g c =
    let s = sought g (goal.at.returns-in-None g c).After-nth-found in
    (c.into-number.result, c.into-number.ensures, words_few c.as_chunks.result.1.now (omega (arith, c.as_chunks.ensures.back_len)) ∙ sym (no_bytes_found c.into-number.result c.args.n c.args.bytes.now c.as_chunks.result.0.now c.as_chunks.ensures.front (ap (option_map (λ p. (p.0, p.1.now))) (sym c.in-None.is) ∙ s)))
