use Rattle.std.proofs.Common.{◌≡◌, sym, ap, ◌∙◌, arith}
use Rattle.words.specs.Words.{words}
use Rattle.words.proofs.Laws.{length_words}
use Rattle.barrier_paper.specs.Windows.{part_line, line_said}
use Rattle.barrier_paper.proofs.Summing.{same_line, said_short, said_long}
use Rattle.barrier_paper.proofs.weights.line_weights.Goals as goal
use Rattle.barrier_paper.proofs.weights.line_weights.Goals.{then-line-gt-MOST_EVIDENCE_WORDS, else-line-gt-MOST_EVIDENCE_WORDS}

pub returns : goal.returns
returns c =
    let ws = words c.args.line.now in
    let said : part_line (words c.if-line-gt-MOST_EVIDENCE_WORDS.line.now) ≡ line_said ws = elim c.if-line-gt-MOST_EVIDENCE_WORDS.branch [
      | then-line-gt-MOST_EVIDENCE_WORDS w ↦ ap (λ l. part_line (words l.now)) w.line-is ∙ sym (said_long ws (omega (arith, length_words c.args.line.now, w.if-line-gt-MOST_EVIDENCE_WORDS.true)))
      | else-line-gt-MOST_EVIDENCE_WORDS w ↦ ap (λ l. part_line (words l.now)) w.line-is ∙ sym (said_short ws (omega (arith, length_words c.args.line.now, w.if-line-gt-MOST_EVIDENCE_WORDS.false)))
    ] in
    same_line _ _ c.weights.ensures c.weights-2.ensures c.is_strict.ensures ∙ said
