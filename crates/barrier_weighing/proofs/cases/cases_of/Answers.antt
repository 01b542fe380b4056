use Rattle.std.proofs.Common.{map, ◌∙◌, ap, arith}
use Rattle.std.specs.List.{range_with_len}
use Rattle.words.specs.Words.{words}
use Rattle.barrier_paper.specs.Windows.{case_part}
use Rattle.barrier_paper.specs.OfBarrier.{barrier_said}
use Rattle.barrier_weighing.specs.OfCases.{case_meant, case_said}
use Rattle.barrier_weighing.proofs.Lists.{read_length, one_read}
use Rattle.barrier_weighing.proofs.Reading.{cases_read}
use Rattle.barrier_weighing.proofs.cases.cases_of.Goals as goal

pub push-requires : goal.push-requires
push-requires c = (omega arith, omega (arith, read_length case_meant _ _ _ c.loop-i.invariant, c.min-i-end.ensures, c.loop-i-test.true))

pub loop-i-preserved : goal.loop-i-preserved
loop-i-preserved c =
    one_read case_meant (λ i. case_said (case_part i (words c.args.paper.now.bytes.now))) _ _ c.loop-i.invariant c.case_lines.result c.push.new.self.items c.push.ensures.items (c.case_lines.ensures ∙ ap case_said c.case.ensures)

pub returns : goal.returns
returns c = λ tanks valves f.
    c.loop-i.invariant
    ∙ ap (λ n. map (λ i. case_said (case_part i (words c.args.paper.now.bytes.now))) (range_with_len 0 n)) (omega (arith, c.loop-i.auto.i-end, c.loop-i-test.false, c.min-i-end.ensures, c.cases.ensures))
    ∙ cases_read tanks valves (barrier_said c.args.paper.now) f c.args.paper.now.bytes.now c.args.paper.now.written c.args.paper.now.cases c.args.paper.now.counted
