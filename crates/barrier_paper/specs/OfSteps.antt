-- What the words of steps and of their matches say.
use Rattle.std.specs.Prelude.{◌≡◌, ◌<◌, ◌≤◌, []}
use Rattle.plant.specs.Limits.{most_valves}
use Rattle.words.specs.declared.word.Word.{Word}
use Rattle.lines.specs.OfWay.{way_meant}
use Rattle.barrier_paper.specs.declared.step_words.StepWord.{StepWord}
use Rattle.barrier_paper.specs.declared.step_words.MatchWord.{MatchWord}
use Rattle.barrier_paper.specs.Limits.{most_cases, most_lines, most_factor}
use Rattle.barrier_paper.specs.Document.{step_said, match_said}

-- a step, but for its matches
pub record SaysStep (w : Word) (s : StepWord) : Type 0 where
  pub way : way_meant s.way ≡ (step_said w.bits []).way
  pub from : s.from ≡ (step_said w.bits []).from
  pub valve : s.valve ≡ (step_said w.bits []).valve
  pub to : s.to ≡ (step_said w.bits []).to
  pub cases : (s.from < most_cases) × (s.to < most_cases)
  pub there : s.valve < most_valves

pub record SaysMatch (w : Word) (m : MatchWord) : Type 0 where
  pub line : m.line ≡ (match_said w.bits).line
  pub p : m.p ≡ (match_said w.bits).p
  pub q : m.q ≡ (match_said w.bits).q
  pub there : m.line < most_lines
  pub small : (m.p ≤ most_factor) × (m.q ≤ most_factor)
