use Rattle.std.proofs.Common.{◌≡◌, ◌<◌, Ok, Err, ap, sym, ◌∙◌, arith}
use Rattle.std.proofs.ByRecursion.{All-from_get_or}
use Rattle.std.proofs.lemmas.Result.{err_from_is_err_and}
use Rattle.words.specs.Words.{words}
use Rattle.words.proofs.Laws.{length_words}
use Rattle.paper.specs.Limits.{most_evidence_words}
use Rattle.paper.specs.Runs.{whole}
use Rattle.paper.proofs.Steps.{whole_read}
use Rattle.barrier_paper.specs.Document.{barrier_document}
use Rattle.barrier_paper.specs.Form.{start, barrier_step, barrier_read}
use Rattle.barrier_paper.proofs.Counting.{cases_counted}
use Rattle.barrier_paper.proofs.BarrierExact.{barrier_papers_are_exact}
use Rattle.barrier_paper.specs.Windows.{count_kind}
use Rattle.barrier_paper.proofs.Chains.{known}
use Rattle.barrier_paper.proofs.barrier_paper.BarrierPaper.read.Goals as goal
use Rattle.barrier_paper.proofs.barrier_paper.BarrierPaper.read.Goals.{In_ok-form}

runs : (c : In_ok-form) → Ok c.in_ok-form.form ≡ whole barrier_step (start c.args.counts.tanks c.args.counts.valves) most_evidence_words c.args.bytes.now
runs c = c.in_ok-form.ensures ∙ ap (λ s. whole barrier_step s most_evidence_words c.args.bytes.now) c.start.ensures

pub returns-clause-document : goal.returns-clause-document
returns-clause-document c = rw (← runs (goal.at.returns-clause-document c).In_ok-form, length_words c.args.bytes.now, ← c.in_ok-end.ensures)

pub returns-in_err-form-clause-document : goal.returns-in_err-form-clause-document
returns-in_err-form-clause-document c =
    let p = err_from_is_err_and c.from_residual.result c.from_residual.ensures.1 in
    let ran : Err c.in_err-form.field-0.0 ≡ whole barrier_step (start c.args.counts.tanks c.args.counts.valves) most_evidence_words c.args.bytes.now = c.in_err-form.ensures ∙ ap (λ s. whole barrier_step s most_evidence_words c.args.bytes.now) c.start.ensures in
    rw (p.1, p.2, ← ran)

pub returns-in_err-end-clause-document : goal.returns-in_err-end-clause-document
returns-in_err-end-clause-document c =
    let p = err_from_is_err_and c.from_residual-in_err-end.result c.from_residual-in_err-end.ensures.1 in
    rw (p.1, p.2, ← runs (goal.at.returns-in_err-end-clause-document c).In_ok-form, length_words c.args.bytes.now, ← c.in_err-end.ensures)

pub invariant_of-result : goal.invariant_of-result
invariant_of-result c =
    let tanks = c.args.counts.tanks in
    let valves = c.args.counts.valves in
    let bs = c.args.bytes.now in
    let ran = runs (goal.at.invariant_of-result c).In_ok-form in
    let words_are = length_words bs in
    let count = (whole_read barrier_step (start tanks valves) most_evidence_words bs c.in_ok-form.form (sym ran)).0 in
    let small = All-from_get_or (λ x. x < 256) bs 0 (λ i l. omega (arith, c.type_inv.bytes i)) in
    let read : barrier_read tanks valves bs ≡ Ok (barrier_document (words bs)) = rw (← ran, words_are, ← c.in_ok-end.ensures) in
    record {
      some = omega (arith, count.fours, count.some);
      few = omega (arith, count.fours, count.few);
      counted = known {P = λ k. c.count_kind-cases.result ≡ count_kind k (words bs)} c.count_kind-cases.ensures ∙ cases_counted (words bs);
      written = (barrier_papers_are_exact.read_is_written tanks valves bs small _ read).1;
    }
