-- The four parts of a dossier, one after the other.
use Rattle.std.specs.Prelude.{ℕ, ◌*◌, Bool, not, List, take, drop, ◌==◌}
use Rattle.std.specs.List.{prefix_len}
use Rattle.words.specs.Words.{words, kind}

-- source words have kind 12, target words kind 13
abbrev pub source_kind : ℕ
source_kind = 12

abbrev pub target_kind : ℕ
target_kind = 13

-- whether a word is one of those before the first of a kind, or one of a kind
abbrev pub before : ℕ → ℕ → Bool
before k w = not (kind w == k)

abbrev pub of_kind : ℕ → ℕ → Bool
of_kind k w = kind w == k

-- the bytes of the words that come first as long as a test takes them, and what follows them
abbrev pub run_of : (ℕ → Bool) → List ℕ → List ℕ
run_of takes bs = take (4 * prefix_len takes (words bs)) bs

abbrev pub after : (ℕ → Bool) → List ℕ → List ℕ
after takes bs = drop (4 * prefix_len takes (words bs)) bs

-- the plant paper is all before the first source word
abbrev pub plant_part : List ℕ → List ℕ
plant_part bs = run_of (before source_kind) bs

abbrev pub from_source : List ℕ → List ℕ
from_source bs = after (before source_kind) bs

-- then come the source words, and right after them the target words
abbrev pub source_part : List ℕ → List ℕ
source_part bs = run_of (of_kind source_kind) (from_source bs)

abbrev pub from_target : List ℕ → List ℕ
from_target bs = after (of_kind source_kind) (from_source bs)

abbrev pub target_part : List ℕ → List ℕ
target_part bs = run_of (of_kind target_kind) (from_target bs)

-- the evidence paper is all the rest
abbrev pub evidence_part : List ℕ → List ℕ
evidence_part bs = after (of_kind target_kind) (from_target bs)
