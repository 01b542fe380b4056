-- The case and the barrier that lists of weights are.
use Rattle.std.specs.Prelude.{◌≡◌, ℕ, ◌<◌, List, map, length, min, Ok, slice_index}
use Rattle.std.specs.List.{range_with_len}
use Rattle.plant.specs.Net.{Net}
use Rattle.arrayvec.specs.ArrayVec.{ArrayVec}
use Rattle.barriers.specs.Lines.{Case, Barrier}
use Rattle.lines.specs.OfLine.{line_meant}
use Rattle.lines.specs.declared.line.LineWeights.{LineWeights}
use Rattle.barrier_paper.specs.Limits.{most_lines}
use Rattle.barrier_paper.specs.Form.{barrier_read}
use Rattle.barrier_paper.specs.OfBarrier.{barrier_said}
use Rattle.barrier_paper.specs.declared.barrier_paper.BarrierPaper.{BarrierPaper}
use Rattle.barrier_paper.specs.Windows.{count_kind, line_part, line_said}

abbrev pub case_meant : ArrayVec LineWeights → Case
case_meant x = map line_meant x.items

abbrev pub barrier_meant : ArrayVec (ArrayVec LineWeights) → Barrier
barrier_meant x = map case_meant x.items

-- the case that its words say: at most so many lines, one after another
abbrev pub case_said : List ℕ → Case
case_said ws = map (λ l. line_said (line_part l ws)) (range_with_len 0 (min (count_kind 7 ws) most_lines))

-- the paper is bytes that are read on the plant without fault
pub record ReadOn (N : Net) (x : BarrierPaper) : Type 0 where
  pub small : (i : ℕ) → i < length x.bytes.now → slice_index x.bytes.now i < 256
  pub read : barrier_read N.tanks N.valves x.bytes.now ≡ Ok (barrier_said x)
