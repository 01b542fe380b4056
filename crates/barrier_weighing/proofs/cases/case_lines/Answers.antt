use Rattle.std.proofs.Common.{◌∙◌, ap, arith}
use Rattle.words.specs.Words.{words}
use Rattle.lines.specs.OfLine.{line_meant}
use Rattle.barrier_paper.specs.Windows.{line_part, line_said}
use Rattle.barrier_weighing.proofs.Lists.{read_length, one_read}
use Rattle.barrier_weighing.proofs.cases.case_lines.Goals as goal

pub push-requires : goal.push-requires
push-requires c = (omega arith, omega (arith, read_length line_meant _ _ _ c.loop-l.invariant, c.min-l-end.ensures, c.loop-l-test.true))

pub loop-l-preserved : goal.loop-l-preserved
loop-l-preserved c =
    one_read line_meant (λ l. line_said (line_part l (words c.args.case.now))) _ _ c.loop-l.invariant c.line_weights.result c.push.new.self.items c.push.ensures.items (c.line_weights.ensures ∙ ap line_said c.line.ensures)
