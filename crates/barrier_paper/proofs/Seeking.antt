-- Steps of a search for a word of a kind.
use Rattle.std.proofs.Common.{◌≡◌, ℕ, zero, suc, ◌+◌, ◌*◌, ◌≤◌, true, false, cond, ◌||◌, eqb, List, [], ◌∷◌, ◌++◌, length, take, refl, ap, ◌∙◌, one-add, arith, length-take}
use Rattle.std.proofs.lemmas.Bool.{eq-eqb, ne_eqb}
use Rattle.words.specs.Words.{words, kind}
use Rattle.words.proofs.Laws.{length_words, words_take}
use Rattle.barrier_paper.specs.Windows.{from_nth, before, part, steps_part, before_steps}

pub seek_pass : (k n w : ℕ) (ws : List ℕ) → (kind w ≡ k → ⊥) → from_nth k n (w ∷ ws) ≡ from_nth k n ws
seek_pass k zero w ws ne = rw (ne_eqb (kind w) k ne)
seek_pass k (suc n) w ws ne = rw (ne_eqb (kind w) k ne)

pub seek_count : (k n w : ℕ) (ws : List ℕ) → kind w ≡ k → from_nth k (suc n) (w ∷ ws) ≡ from_nth k n ws
seek_count k n w ws e = rw (eq-eqb (kind w) k e)

pub seek_found : (k w : ℕ) (ws : List ℕ) → kind w ≡ k → from_nth k 0 (w ∷ ws) ≡ w ∷ ws
seek_found k w ws e = rw (eq-eqb (kind w) k e)

-- what comes before the end of a part is as much of the words as it is long
pub take_before : (k : ℕ) (ws : List ℕ) → take (length (before k ws)) ws ≡ before k ws
take_before k [] = refl
take_before k (w ∷ ws) =
    elim (eqb (kind w) k || eqb (kind w) 10) as (λ b. take (length (cond b [] (w ∷ before k ws))) (w ∷ ws) ≡ cond b [] (w ∷ before k ws)) [
      | true ↦ refl
      | false ↦ ap (λ t. w ∷ t) (take_before k ws)
    ]

pub before_le : (k : ℕ) (ws : List ℕ) → length (before k ws) ≤ length ws
before_le k ws = omega (arith, ap length (take_before k ws), length-take (length (before k ws)) ws)

-- and so is a part, which is its first word and what comes before the end
pub record Parted (k n : ℕ) (bs : List ℕ) : Type 0 where
  pub inside : 4 * (1 + n) ≤ length bs
  pub is : words (take (4 * (1 + n)) bs) ≡ part k (words bs)

pub parted : (k n w : ℕ) (ws bs : List ℕ) → words bs ≡ w ∷ ws → n ≡ length (before k ws) → Parted k n bs
parted k n w ws bs e l = record {
  inside = omega (arith, ap length e, before_le k ws, length_words bs);
  is = words_take (1 + n) bs ∙ rw (e, one-add, l) (ap (λ t. w ∷ t) (take_before k ws));
}

-- a paper is what comes before its steps, and then the steps
pub steps_last : (ws : List ℕ) → before_steps ws ++ steps_part ws ≡ ws
steps_last [] = refl
steps_last (w ∷ ws) =
    elim (eqb (kind w) 10) as (λ b. cond (b || b) [] (w ∷ before 10 ws) ++ cond b (w ∷ ws) (from_nth 10 0 ws) ≡ w ∷ ws) [
      | true ↦ refl
      | false ↦ ap (λ t. w ∷ t) (steps_last ws)
    ]
