use Rattle.std.proofs.Common.{sym, arith}
use Rattle.std.proofs.lemmas.List.{length-take-le}
use Rattle.words.specs.Words.{words}
use Rattle.words.proofs.Laws.{words_rest}
use Rattle.barrier_paper.proofs.Seeking.{Parted, parted}
use Rattle.barrier_paper.proofs.windows.part_of.Given as given
use Rattle.barrier_paper.proofs.windows.part_of.Goals as goal
use Rattle.barrier_paper.proofs.windows.part_of.Goals.{After-count_before}

here : (g : given.Over) (c : After-count_before g) → Parted c.into-number.result c.count_before.result c.args.bytes.now
here g c =
    let h = c.in-Some.ensures.lookup.0 in
    parted _ _ _ (words c.in-Some.after.now) c.args.bytes.now (rw (← h.2) at (words_rest c.args.bytes.now h.0)) c.count_before.ensures

pub overflow_add-result : goal.overflow_add-result
overflow_add-result g c = omega (arith, (here g c).inside)

pub overflow_mul-result : goal.overflow_mul-result
overflow_mul-result g c = omega (arith, (here g (goal.at.overflow_mul-result g c).After-count_before).inside)

pub slice_bounds-result-end : goal.slice_bounds-result-end
slice_bounds-result-end g c = sym (length-take-le _ c.args.bytes.now (here g c).inside)

pub returns-in-Some : goal.returns-in-Some
returns-in-Some g c = (c.into-number.result, c.into-number.ensures, (here g c).is)
