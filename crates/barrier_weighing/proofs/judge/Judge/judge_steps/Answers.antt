use Rattle.std.proofs.Common.{◌≡◌, ℕ, ◌*◌, ◌≤◌, length, get_or, Some, None, Result, sym, ap, ◌∙◌, arith, length-append}
use Rattle.std.proofs.lemmas.Result.{err_from_is_err_and}
use Rattle.arrayvec.specs.ArrayVec.{ArrayVec}
use Rattle.plant.specs.Net.{Net}
use Rattle.words.specs.Words.{words}
use Rattle.words.proofs.Laws.{length_words}
use Rattle.words.proofs.Placing.{none_left}
use Rattle.barrier_paper.specs.Document.{BarrierDocument, BarrierFormed, barrier_of, joined, case_words}
use Rattle.barrier_paper.specs.OfBarrier.{barrier_said}
use Rattle.barrier_paper.specs.Windows.{before_steps, steps_part}
use Rattle.barrier_paper.proofs.Parts.{steps_found, before_steps_found}
use Rattle.barrier_paper.proofs.Seeking.{steps_last}
use Rattle.barrier_rule.specs.declared.faults.BarrierFault.{BarrierFault}
use Rattle.barrier_rule.specs.Judgement.{steps_judged}
use Rattle.lines.specs.declared.line.LineWeights.{LineWeights}
use Rattle.barrier_weighing.proofs.Reading.{formed_of}
use Rattle.barrier_weighing.proofs.Steps.{there, lines_are}
use Rattle.barrier_weighing.proofs.Going.{NextStep, after, read_next, peel, last, from_is, to_is, enough, whole_fits, goes_on, refuses}
use Rattle.barrier_weighing.proofs.judge.Judge.judge_steps.Given as given
use Rattle.barrier_weighing.proofs.judge.Judge.judge_steps.Goals as goal
use Rattle.barrier_weighing.proofs.judge.Judge.judge_steps.Goals.{After-from}

pub loop-word-init : goal.loop-word-init
loop-word-init g c =
    let N = g.P.Plant.meaning c.args.self.now.plant.now in
    let x = c.args.self.now.paper.now in
    let d = barrier_said x in
    let f = formed_of N x c.args.self.now.read in
    let ws = words x.bytes.now in (
      omega (arith, c.steps_at-place.ensures, ap length c.steps-rest.ensures, ap length (steps_last ws), length-append (before_steps ws) (steps_part ws), length_words x.bytes.now, x.few),
      record {
        steps = d.steps;
        fits = f.steps_fit;
        written = c.steps-rest.ensures ∙ steps_found N.tanks N.valves d f x.bytes.now x.written;
        judged = ap (λ k. steps_judged N (barrier_of d) 0 k d.steps) (c.steps_at-place.ensures ∙ ap length (before_steps_found N.tanks N.valves d f x.bytes.now x.written));
      },
    )

module _ (g : given.Over) (c : After-from g) where
  abbrev N : Net
  N = g.P.Plant.meaning c.args.self.now.plant.now

  abbrev d : BarrierDocument
  d = barrier_said c.args.self.now.paper.now

  abbrev whole : Result (Unit {0}) BarrierFault
  whole = steps_judged N (barrier_of d) 0 (length (joined case_words d.cases)) d.steps

  formed : BarrierFormed N.tanks N.valves d
  formed = formed_of N c.args.self.now.paper.now c.args.self.now.read

  -- the step whose word this is
  next : NextStep N d whole c.in-Some.word.bits (words (after c.loop-word.rest.now)) c.loop-word.next c.loop-word.place
  next = peel N d whole (words c.loop-word.rest.now) c.loop-word.next c.loop-word.place c.loop-word.invariant.1 c.in-Some.word.bits _ (read_next c.loop-word.rest.now c.in-Some.word c.in-Some.ensures)

  reaches : c.from.result.to ≡ next.step.to
  reaches = c.from.ensures.to ∙ to_is formed (after c.loop-word.rest.now) next

  -- it has as many matches as the case that it reaches has lines
  all : {due : ℕ} {z : ArrayVec LineWeights} → z ≡ get_or c.deref.result.now c.from.result.to z → due ≡ length z.items → due ≡ length next.step.matches
  all {z = z} z_is due_is =
      let lines = lines_are c.args.self.now.cases d c.args.self.now.meant reaches next.fit.to_there z in
      due_is ∙ ap (λ x. length x.items) (z_is ∙ ap (λ xs. get_or xs c.from.result.to z) c.deref.ensures.0) ∙ lines ∙ sym next.fit.matched

pub bounds-deref-from : goal.bounds-deref-from
bounds-deref-from g c =
    let x = c.args.self.now.cases in
    let meant = c.args.self.now.meant in
    let leaves : c.from.result.from ≡ (next g c).step.from = c.from.ensures.from ∙ from_is (formed g c) (after c.loop-word.rest.now) (next g c) in
    omega (arith, there x (d g c) meant leaves (next g c).fit.from_there, there x (d g c) meant (reaches g c) (next g c).fit.to_there, ap length c.deref.ensures.0)

pub split_at-requires : goal.split_at-requires
split_at-requires g c =
    let a = (goal.at.split_at-requires g c).After-from in
    let h : 4 * c.len-due.result ≤ length (after c.loop-word.rest.now) = omega (arith, enough (formed g a) _ (next g a), all g a c.index-deref-from.is c.len-due.ensures.value) in
    h

pub judge_step-requires-clause-fits : goal.judge_step-requires-clause-fits
judge_step-requires-clause-fits g c =
    let a = (goal.at.judge_step-requires-clause-fits g c).After-from in
    whole_fits (formed g a) _ (next g a) (all g a c.index-deref-from.is c.len-due.ensures.value) c.split_at.ensures.front

pub returns-in_err-next : goal.returns-in_err-next
returns-in_err-next g c =
    let a = (goal.at.returns-in_err-next g c).After-from in
    let p = err_from_is_err_and c.from_residual.result c.from_residual.ensures.1 in
    rw (p.1, p.2) (refuses (formed g a) _ (next g a) (all g a c.index-deref-from.is c.len-due.ensures.value) c.split_at.ensures.front c.in_err-next.field-0.0 c.in_err-next.ensures)

pub loop-word-smaller : goal.loop-word-smaller
loop-word-smaller g c =
    let read = read_next c.loop-word.rest.now c.in-Some.word c.in-Some.ensures in
    omega (arith, ap length read, c.split_at.ensures.back_len, length_words c.split_at.result.1.now, length_words (after c.loop-word.rest.now))

pub loop-word-preserved : goal.loop-word-preserved
loop-word-preserved g c =
    let a = (goal.at.loop-word-preserved g c).After-from in
    let read = read_next c.loop-word.rest.now c.in-Some.word c.in-Some.ensures in (
      omega (arith, c.loop-word.invariant.0, ap length read, c.split_at.ensures.front_len, c.split_at.ensures.back_len, length_words c.split_at.result.1.now, length_words (after c.loop-word.rest.now)),
      goes_on (formed g a) _ (next g a) (all g a c.index-deref-from.is c.len-due.ensures.value) c.split_at.ensures.front c.split_at.ensures.back c.in_ok-next.next c.in_ok-next.ensures,
    )

pub returns-in-Some-first_gap : goal.returns-in-Some-first_gap
returns-in-Some-first_gap g c =
    last _ _ _ (words c.loop-word.rest.now) c.loop-word.next c.loop-word.place c.loop-word.invariant.1 (none_left 0 (words c.loop-word.rest.now) c.in_default.ensures) (Some c.in-Some-first_gap.place) c.in-Some-first_gap.ensures

pub returns-in-None : goal.returns-in-None
returns-in-None g c =
    last _ _ _ (words c.loop-word.rest.now) c.loop-word.next c.loop-word.place c.loop-word.invariant.1 (none_left 0 (words c.loop-word.rest.now) c.in_default.ensures) None c.in-None.ensures
