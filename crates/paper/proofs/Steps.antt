-- A whole paper against its words: how many there are is judged first, and then they are taken in turn.
use Rattle.std.proofs.Common.{◌≡◌, ℕ, ◌*◌, ◌/◌, ◌%◌, ◌≤◌, List, [], ◌∷◌, length, Ok, Err, Result, sym, refl, ap, ◌∙◌, arith}
use Rattle.std.proofs.lemmas.Bool.Decides.{nat_tests}
use Rattle.words.specs.declared.faults.PaperFault.{PaperFault}
use Rattle.words.specs.declared.faults.PaperFault.TheVariants.{Words as OfWords}
use Rattle.words.specs.Words.{words, bytes}
use Rattle.words.specs.Faults.{counted, onward, raised}
use Rattle.words.specs.Inverse.{Bytes, Words}
use Rattle.words.proofs.Laws.{length_words, word_below}
use Rattle.words.proofs.Inverses.{words_of_bytes, bytes_of_words}
use Rattle.paper.specs.Runs.{run, whole}

-- where a reading after another is good, so is the first
pub through : {A B E : Type 0} (r : Result A E) (f : A → Result B E) (x : B) → onward r f ≡ Ok x → (a : A) × (r ≡ Ok a) × (f a ≡ Ok x)
through (Ok a) f x p = (a, refl, p)
through (Err e) f x p = absurd (let z : ◌≡◌ {A = ℕ} 0 1 = cc in omega arith)

pub unraised : {A E F : Type 0} (up : E → F) (r : Result A E) (x : A) → raised up r ≡ Ok x → r ≡ Ok x
unraised up (Ok a) x p = cc
unraised up (Err e) x p = absurd (let z : ◌≡◌ {A = ℕ} 0 1 = cc in omega arith)

-- four bytes to a word, none left over
pub length_bytes : (ws : List ℕ) → length (bytes ws) ≡ 4 * length ws
length_bytes [] = refl
length_bytes (w ∷ ws) = omega (arith, length_bytes ws)

pub counted_written : (most : ℕ) (ws : List ℕ) → 1 ≤ length ws → length ws ≤ most → counted most (bytes ws) ≡ Ok (length ws)
counted_written most ws some few =
    let n = length_bytes ws in
    let m : length (bytes ws) / 4 ≡ length ws = omega arith in
    grind (arith, nat_tests)

pub record Counted (most : ℕ) (bs : List ℕ) : Type 0 where
  pub fours : length bs % 4 ≡ 0
  pub some : 1 ≤ length (words bs)
  pub few : length (words bs) ≤ most

pub counted_read : (most : ℕ) (bs : List ℕ) (n : ℕ) → counted most bs ≡ Ok n → Counted most bs
counted_read most bs n p =
    let m = length_words bs in
    let fours : length bs % 4 ≡ 0 = grind (arith, nat_tests) in
    let some : 1 ≤ length bs = grind (arith, nat_tests) in
    let few : length bs / 4 ≤ most = grind (arith, nat_tests) in
    record { fours = fours; some = omega arith; few = omega arith }

-- the words of bytes fit 32 bits
pub words_small : (bs : List ℕ) → Bytes bs → Words (words bs)
words_small [] h = tt
words_small (a ∷ []) h = tt
words_small (a ∷ b ∷ []) h = tt
words_small (a ∷ b ∷ c ∷ []) h = tt
words_small (a ∷ b ∷ c ∷ d ∷ rest) h = (word_below a b c d h.0 h.1.0 h.1.1.0 h.1.1.1.0, words_small rest h.1.1.1.1)

-- a paper's bytes are taken to the end: their number is good, and so is the run of their words
pub whole_read : {S : Type 0} (step : S → ℕ → ℕ → Result S PaperFault) (start : S) (most : ℕ) (bs : List ℕ) (s : S) → whole step start most bs ≡ Ok s → Counted most bs × (run step start 0 (words bs) ≡ Ok s)
whole_read step start most bs s p =
    let a = through (raised OfWords (counted most bs)) _ _ p in
    (counted_read most bs a.0 (unraised OfWords (counted most bs) a.0 a.1), a.2)

-- words within the count that are taken to the end, and that say a document
pub record Legible {S D : Type 0} (step : S → ℕ → ℕ → Result S PaperFault) (start : S) (most : ℕ) (document : List ℕ → D) (ws : List ℕ) (d : D) : Type 0 where
  pub small : Words ws
  pub some : 1 ≤ length ws
  pub few : length ws ≤ most
  pub end : S
  pub runs : run step start 0 ws ≡ Ok end
  pub says : document ws ≡ d

module _ {S D : Type 0} (step : S → ℕ → ℕ → Result S PaperFault) (start : S) (most : ℕ) (document : List ℕ → D) where
  -- a paper is read as a document exactly when it is the writing of words that say it
  pub legible_read : (ws : List ℕ) (d : D) → Legible step start most document ws d → onward (whole step start most (bytes ws)) (λ _. Ok (document (words (bytes ws)))) ≡ Ok d
  legible_read ws d h =
      let count = counted_written most ws h.some h.few in
      let back = words_of_bytes ws h.small in
      simp (count, back, h.runs, h.says)

  pub read_legible : (bs : List ℕ) → Bytes bs → (d : D) → onward (whole step start most bs) (λ _. Ok (document (words bs))) ≡ Ok d → Legible step start most document (words bs) d × (bs ≡ bytes (words bs))
  read_legible bs small d p =
      let a = through (whole step start most bs) _ _ p in
      let b = whole_read step start most bs a.0 a.1 in
      let count = b.0 in
      let says = a.2 in
      (record { small = words_small bs small; some = count.some; few = count.few; end = a.0; runs = b.1; says = cc }, sym (bytes_of_words bs small count.fours))

  -- so where only the words of well-formed documents say anything, only their papers are read
  pub read_formed : (Formed : D → Type 0) (written : D → List ℕ) → ((ws : List ℕ) (d : D) → Legible step start most document ws d → Formed d × (ws ≡ written d)) → (bs : List ℕ) → Bytes bs → (d : D) → onward (whole step start most bs) (λ _. Ok (document (words bs))) ≡ Ok d → Formed d × (bs ≡ bytes (written d))
  read_formed Formed written formed bs small d p =
      let l = read_legible bs small d p in
      let f = formed (words bs) d l.0 in
      (f.0, l.1 ∙ ap bytes f.1)
