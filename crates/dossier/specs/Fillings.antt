-- The words of a filling: one for each tank, in turn.
use Rattle.std.specs.Prelude.{ℕ, ◌+◌, List, [], ◌∷◌, Ok, Result, ◌==◌}
use Rattle.words.specs.declared.faults.PaperFault.{PaperFault}
use Rattle.words.specs.declared.faults.PaperFault.TheVariants.{Unnamed, Order}
use Rattle.words.specs.Words.{field}
use Rattle.words.specs.Faults.{need, onward}

-- the amount that a word says, at the place `at`: its tank is the one whose turn it is
abbrev pub amount_read : ℕ → ℕ → Result ℕ PaperFault
amount_read at w =
    need (field w 20 2 == 0) (Unnamed at) (
    need (field w 22 6 == at) (Order at) (
    Ok (field w 0 20)))

-- the amounts of the words from the place `at` on, or the first fault
abbrev pub fill_read : ℕ → List ℕ → Result (List ℕ) PaperFault
fill_read at [] = Ok []
fill_read at (w ∷ ws) =
    onward (amount_read at w) (λ amount.
    onward (fill_read (at + 1) ws) (λ more.
    Ok (amount ∷ more)))
