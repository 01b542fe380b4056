-- Words written as bytes are read back, and bytes read as words are written back.
use Rattle.std.proofs.Common.{◌≡◌, ℕ, ◌/◌, ◌%◌, ◌^◌, ◌<◌, List, [], ◌∷◌, length, refl, ap, ◌∙◌, arith}
use Rattle.words.specs.Words.{words, bytes, word}
use Rattle.words.specs.Inverse.{Bytes, Words, WordsAndBytesAgree}

-- a word from its own bytes
pub again : (w : ℕ) → w < 2 ^ 32 → word (w / 16777216) (w / 65536 % 256) (w / 256 % 256) (w % 256) ≡ w
again w h = omega arith

pub words_of_bytes : (ws : List ℕ) → Words ws → words (bytes ws) ≡ ws
words_of_bytes [] h = refl
words_of_bytes (w ∷ ws) h = ap (λ v. v ∷ words (bytes ws)) (again w h.0) ∙ ap (λ vs. w ∷ vs) (words_of_bytes ws h.1)

-- the bytes of a word
byte_a : (a b c d : ℕ) → a < 256 → b < 256 → c < 256 → d < 256 → word a b c d / 16777216 ≡ a
byte_a a b c d ha hb hc hd = omega arith

byte_b : (a b c d : ℕ) → a < 256 → b < 256 → c < 256 → d < 256 → word a b c d / 65536 % 256 ≡ b
byte_b a b c d ha hb hc hd = omega arith

byte_c : (a b c d : ℕ) → a < 256 → b < 256 → c < 256 → d < 256 → word a b c d / 256 % 256 ≡ c
byte_c a b c d ha hb hc hd = omega arith

byte_d : (a b c d : ℕ) → a < 256 → b < 256 → c < 256 → d < 256 → word a b c d % 256 ≡ d
byte_d a b c d ha hb hc hd = omega arith

pub bytes_of_words : (bs : List ℕ) → Bytes bs → length bs % 4 ≡ 0 → bytes (words bs) ≡ bs
bytes_of_words [] h e = refl
bytes_of_words (a ∷ []) h e = absurd (omega arith)
bytes_of_words (a ∷ b ∷ []) h e = absurd (omega arith)
bytes_of_words (a ∷ b ∷ c ∷ []) h e = absurd (omega arith)
bytes_of_words (a ∷ b ∷ c ∷ d ∷ rest) h e =
    let ha = h.0 in
    let hb = h.1.0 in
    let hc = h.1.1.0 in
    let hd = h.1.1.1.0 in
    let more = bytes_of_words rest h.1.1.1.1 (omega arith) in
    let ea = byte_a a b c d ha hb hc hd in
    let eb = byte_b a b c d ha hb hc hd in
    let ec = byte_c a b c d ha hb hc hd in
    let ed = byte_d a b c d ha hb hc hd in
    cc

pub words_and_bytes_agree : WordsAndBytesAgree
words_and_bytes_agree = record { read_back = words_of_bytes; written_back = bytes_of_words }
