use Rattle.std.proofs.Common.{◌≡◌, map}
use Rattle.std.specs.List.{range_with_len}
use Rattle.words.specs.Words.{words}
use Rattle.barrier_paper.specs.Windows.{case_part}
use Rattle.barrier_weighing.specs.OfCases.{barrier_meant, case_said}
use Rattle.barrier_weighing.proofs.cases.cases_of.Given as goal

-- the cases before this one are read
abbrev pub invariant-loop-i : goal.invariant-loop-i
invariant-loop-i l = barrier_meant l.cases ≡ map (λ k. case_said (case_part k (words l.paper.bytes.now))) (range_with_len 0 l.i)
