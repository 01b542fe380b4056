-- Writing words as bytes and reading bytes as words are inverse to each other.
use Rattle.std.specs.Prelude.{◌≡◌, ℕ, ◌%◌, ◌^◌, ◌<◌, List, length}
use Rattle.std.specs.List.{AllByRecursion}
use Rattle.words.specs.Words.{words, bytes}

abbrev pub Bytes : List ℕ → Type 0
Bytes bs = AllByRecursion (λ b. b < 256) bs

abbrev pub Words : List ℕ → Type 0
Words ws = AllByRecursion (λ w. w < 2 ^ 32) ws

pub record WordsAndBytesAgree : Type 0 where
  pub read_back : (ws : List ℕ) → Words ws → words (bytes ws) ≡ ws
  pub written_back : (bs : List ℕ) → Bytes bs → length bs % 4 ≡ 0 → bytes (words bs) ≡ bs
