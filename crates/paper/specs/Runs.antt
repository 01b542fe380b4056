-- A form as a run of states over the words of a paper.
use Rattle.std.specs.Prelude.{ℕ, ◌+◌, List, [], ◌∷◌, Ok, Result}
use Rattle.words.specs.declared.faults.PaperFault.{PaperFault}
use Rattle.words.specs.declared.faults.PaperFault.TheVariants.{Words}
use Rattle.words.specs.Words.{words}
use Rattle.words.specs.Faults.{counted, onward, raised}

-- the state that the words lead to, taken in turn from a state and a place, or the first fault
abbrev pub run : {S : Type 0} → (S → ℕ → ℕ → Result S PaperFault) → S → ℕ → List ℕ → Result S PaperFault
run step s at [] = Ok s
run step s at (w ∷ ws) = onward (step s at w) (λ t. run step t (at + 1) ws)

-- the same of a paper's bytes, whose length is judged first
abbrev pub whole : {S : Type 0} → (S → ℕ → ℕ → Result S PaperFault) → S → ℕ → List ℕ → Result S PaperFault
whole step s most bs = onward (raised Words (counted most bs)) (λ _. run step s 0 (words bs))
