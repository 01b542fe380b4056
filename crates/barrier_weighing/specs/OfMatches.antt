-- The step that a word and the words of its matches say.
use Rattle.std.specs.Prelude.{ℕ, List, map}
use Rattle.barriers.specs.Steps.{Step}
use Rattle.barrier_paper.specs.Document.{match_said, step_said}

abbrev pub whole_step : ℕ → List ℕ → Step
whole_step w ws = step_said w (map match_said ws)
