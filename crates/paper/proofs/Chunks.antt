-- The words of bytes, and the bytes four at a time.
use Rattle.std.proofs.Common.{◌≡◌, ℕ, zero, suc, ◌/◌, ◌^◌, ◌<◌, ◌≤◌, List, [], ◌∷◌, map, length, get_or, ltb, true, false, le_refl, ⊎_elim, refl, ap, ◌∙◌, arith}
use Rattle.std.specs.List.Sorted.{IsNonDecreasingBy, IsPartitionPoint}
use Rattle.std.proofs.lemmas.List.{length-map, get_or-map}
use Rattle.std.proofs.lemmas.Bool.{cases_eq, ltb-true, ltb-false}
use Rattle.std.specs.Simd.{first_chunks}
use Rattle.words.specs.Words.{words, word}
use Rattle.paper.specs.Plants.{Rises}

-- the word of four bytes
abbrev pub word_of : List ℕ → ℕ
word_of bs = word (get_or bs 0 0) (get_or bs 1 0) (get_or bs 2 0) (get_or bs 3 0)

chunked : (k : ℕ) (bs : List ℕ) → k ≡ length bs / 4 → words bs ≡ map word_of (first_chunks 4 k bs)
chunked zero [] e = refl
chunked zero (a ∷ []) e = refl
chunked zero (a ∷ b ∷ []) e = refl
chunked zero (a ∷ b ∷ c ∷ []) e = refl
chunked zero (a ∷ b ∷ c ∷ d ∷ rest) e = absurd (omega (arith, e))
chunked (suc k) [] e = absurd (omega (arith, e))
chunked (suc k) (a ∷ []) e = absurd (omega (arith, e))
chunked (suc k) (a ∷ b ∷ []) e = absurd (omega (arith, e))
chunked (suc k) (a ∷ b ∷ c ∷ []) e = absurd (omega (arith, e))
chunked (suc k) (a ∷ b ∷ c ∷ d ∷ rest) e = ap (λ ws. word a b c d ∷ ws) (chunked k rest (omega (arith, e)))

pub words_chunks : (bs : List ℕ) → words bs ≡ map word_of (first_chunks 4 (length bs / 4) bs)
words_chunks bs = chunked (length bs / 4) bs refl

-- the number by which arcs rise, of an arc's four bytes
abbrev pub key_of : List ℕ → ℕ
key_of bs = word_of bs / 2 ^ 16

module _ (bs : List ℕ) where
  abbrev pub chunks : List (List ℕ)
  chunks = first_chunks 4 (length bs / 4) bs

  key_at : (k : ℕ) (d : List ℕ) → k < length chunks → get_or (words bs) k 0 / 2 ^ 16 ≡ key_of (get_or chunks k d)
  key_at k d h = ap (λ w. w / 2 ^ 16) (ap (λ ws. get_or ws k 0) (words_chunks bs) ∙ get_or-map word_of chunks k d 0 h)

  length_chunks : length (words bs) ≡ length chunks
  length_chunks = ap length (words_chunks bs) ∙ length-map chunks word_of

  pub rising : Rises (words bs) → IsNonDecreasingBy key_of chunks
  rising rises i j d h k =
      ⊎_elim (λ (e : i ≡ j). rw e (le_refl _))
      (λ (ne : i ≡ j → ⊥). let l = rises i j (omega arith) (omega (arith, length_chunks)) in omega (arith, l, key_at i d (omega arith), key_at j d k))
      (cases_eq i j)

  pub sought : (key p : ℕ) → IsPartitionPoint (λ x. ltb (key_of x) key ≡ true) (λ x. ltb (key_of x) key ≡ false) chunks p → p ≤ length chunks →
      ((i : ℕ) → i < p → get_or (words bs) i 0 / 2 ^ 16 < key) × ((i : ℕ) → p ≤ i → i < length (words bs) → key ≤ get_or (words bs) i 0 / 2 ^ 16)
  sought key p h bound = (
    (λ i l. let e = key_at i [] (omega arith) in let t = ltb-true _ _ (h.0 i [] (omega arith) l) in omega (arith, e, t)),
    (λ i l k. let e = key_at i [] (omega (arith, length_chunks)) in let t = ltb-false _ _ (h.1 i [] l (omega (arith, length_chunks))) in omega (arith, e, t)),
  )
