-- Writing and reading barrier papers are inverse to each other.
use Rattle.std.specs.Prelude.{◌≡◌, ℕ, List, Ok}
use Rattle.words.specs.Inverse.{Bytes}
use Rattle.paper.specs.First.{First}
use Rattle.barrier_paper.specs.Document.{BarrierDocument, BarrierFormed, barrier_paper}
use Rattle.barrier_paper.specs.Form.{barrier_step, barrier_read}

pub record BarrierPapersAreExact : Type 0 where
  pub written_is_read : (tanks valves : ℕ) (d : BarrierDocument) → BarrierFormed tanks valves d → barrier_read tanks valves (barrier_paper d) ≡ Ok d
  pub read_is_written : (tanks valves : ℕ) (bs : List ℕ) → Bytes bs → (d : BarrierDocument) → barrier_read tanks valves bs ≡ Ok d → BarrierFormed tanks valves d × (bs ≡ barrier_paper d)

-- a barrier paper that is refused for a word is refused at its first fault: the words before it pass, each taken in turn, and the word
-- at its place does not
abbrev pub BarrierPapersAreRefusedAtTheFirstFault : Type 0
BarrierPapersAreRefusedAtTheFirstFault = First barrier_step
