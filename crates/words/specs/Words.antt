-- A paper as a list of words: four bytes to a word, the most significant first.
use Rattle.std.specs.Prelude.{ℕ, ◌+◌, ◌*◌, ◌/◌, ◌%◌, ◌^◌, List, [], ◌∷◌, Some, None, Option}

abbrev pub word : ℕ → ℕ → ℕ → ℕ → ℕ
word a b c d = ((a * 256 + b) * 256 + c) * 256 + d

-- reading: the whole words; what is left over at the end, fewer than four bytes, is no word
abbrev pub words : List ℕ → List ℕ
words [] = []
words (a ∷ []) = []
words (a ∷ b ∷ []) = []
words (a ∷ b ∷ c ∷ []) = []
words (a ∷ b ∷ c ∷ d ∷ rest) = word a b c d ∷ words rest

-- writing: the bytes of the words
abbrev pub bytes : List ℕ → List ℕ
bytes [] = []
bytes (w ∷ ws) = w / 16777216 ∷ w / 65536 % 256 ∷ w / 256 % 256 ∷ w % 256 ∷ bytes ws

-- the first word of a list, and what follows it
abbrev pub first : List ℕ → Option ℕ
first [] = None
first (w ∷ ws) = Some w

abbrev pub rest : List ℕ → List ℕ
rest [] = []
rest (w ∷ ws) = ws

-- the field of a word that has `width` bits, the lowest of them bit `low`
abbrev pub field : ℕ → ℕ → ℕ → ℕ
field w low width = w / 2 ^ low % 2 ^ width

-- the top four bits of a word say what it is
abbrev pub kind : ℕ → ℕ
kind w = w / 2 ^ 28
