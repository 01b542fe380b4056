use Rattle.std.proofs.Common.{◌≡◌, map}
use Rattle.std.specs.List.{range_with_len}
use Rattle.words.specs.Words.{words}
use Rattle.barrier_paper.specs.Windows.{line_part, line_said}
use Rattle.barrier_weighing.specs.OfCases.{case_meant}
use Rattle.barrier_weighing.proofs.cases.case_lines.Given as goal

-- the lines before this one are read
abbrev pub invariant-loop-l : goal.invariant-loop-l
invariant-loop-l l = case_meant l.lines ≡ map (λ k. line_said (line_part k (words l.case))) (range_with_len 0 l.l)
