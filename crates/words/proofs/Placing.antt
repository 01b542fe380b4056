-- The word at a place, and the words that a reader has yet to read.
use Rattle.std.proofs.Common.{◌≡◌, ℕ, suc, ◌+◌, ◌*◌, ◌≤◌, List, [], ◌∷◌, length, drop, Some, None, Option, refl, ap, arith}
use Rattle.std.specs.Option.{option_map}
use Rattle.words.specs.declared.word.Word.{Word}
use Rattle.words.specs.Words.{words, first}
use Rattle.words.specs.declared.reader.Reader.{Reader}
use Rattle.words.specs.Left.{to_come}
use Rattle.words.specs.Placed.{word_at, placed}
use Rattle.words.proofs.Laws.{here, here_inside}

-- what a word that was read at k says of the words
pub record Reads (k : ℕ) (bs : List ℕ) (w : Word) : Type 0 where
  pub inside : 4 * (k + 1) ≤ length bs
  pub at : w.place ≡ k
  pub left : drop k (words bs) ≡ w.bits ∷ drop (k + 1) (words bs)

-- the same of the words from k on
placed_first : (k : ℕ) (vs : List ℕ) (w : Word) → ◌≡◌ {A = Option Word} (Some w) (option_map (λ v. record { place = k; bits = v }) (first vs)) → (Some w.bits ≡ first vs) × (w.place ≡ k)
placed_first k [] w e = absurd (let z : ◌≡◌ {A = ℕ} 0 1 = cc in omega arith)
placed_first k (v ∷ vs) w e = let z : ◌≡◌ {A = Word} w (record { place = k; bits = v }) = cc in (ap (λ x. Some x.bits) z, ap (λ x. x.place) z)

pub reads : (k : ℕ) (bs : List ℕ) (w : Word) → Some w ≡ word_at k (words bs) → Reads k bs w
reads k bs w e =
    let t = placed_first k (drop k (words bs)) w e in
    record { inside = here_inside k bs w.bits t.0; at = t.1; left = here k bs w.bits t.0 }

pub none_left : (k : ℕ) (ws : List ℕ) → None ≡ word_at k ws → drop k ws ≡ []
none_left k ws e = go (drop k ws) e
  where
    go : (vs : List ℕ) → ◌≡◌ {A = Option Word} None (option_map (λ v. record { place = k; bits = v }) (first vs)) → vs ≡ []
    go [] e = refl
    go (v ∷ vs) e = absurd (let z : ◌≡◌ {A = ℕ} 0 1 = cc in omega arith)

-- a reader that stands at the first word has all of them to come
pub all_to_come : (r : Reader) (bs : List ℕ) → r.at ≡ 0 → r.bytes.now ≡ bs → to_come r ≡ placed 0 (words bs)
all_to_come r bs e f = rw (e, f) refl

pub length_placed : (at : ℕ) (ws : List ℕ) → length (placed at ws) ≡ length ws
length_placed at [] = refl
length_placed at (w ∷ ws) = ap suc (length_placed (at + 1) ws)
