-- Words with their places.
use Rattle.std.specs.Prelude.{ℕ, ◌+◌, List, [], ◌∷◌, drop, Option}
use Rattle.std.specs.Option.{option_map}
use Rattle.words.specs.Words.{first}
use Rattle.words.specs.declared.word.Word.{Word}

-- the first of the words stands at `place`
abbrev pub placed : ℕ → List ℕ → List Word
placed place [] = []
placed place (w ∷ ws) = record { place = place; bits = w } ∷ placed (place + 1) ws

-- the word at a place
abbrev pub word_at : ℕ → List ℕ → Option Word
word_at place ws = option_map (λ w. record { place = place; bits = w }) (first (drop place ws))
