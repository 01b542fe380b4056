-- When a line of the table agrees with the rules.
use Rattle.std.specs.Prelude.{ℕ, Bool, false, List, [], ◌∷◌, ◌++◌, Some, None, Option}
use Rattle.std.specs.Str.{bytes_eq}
use Rattle.dossier.specs.Judging.{judged}
use Rattle.dossier.specs.Line.{line_of}
use Rattle.vectors.specs.Hex.{bytes_of}
use Rattle.vectors.specs.Table.{cells}

-- whether the line that is defined for a dossier is the expected one, ended by a newline
unfoldable pub answered : Option (List ℕ) → List ℕ → Bool
answered None expected = false
answered (Some input) expected = bytes_eq (line_of (judged input)) (expected ++ 10 ∷ [])

abbrev pub row_agrees : Option (List ℕ × List ℕ × List ℕ) → Bool
row_agrees None = false
row_agrees (Some row) = answered (bytes_of row.1) row.2

abbrev pub agrees : List ℕ → Bool
agrees line = row_agrees (cells line)
