-- What the words of a paper give in a chain of iterators, as a reader hands them out or as the bytes four at a time.
use Rattle.std.proofs.Common.{◌≡◌, ℕ, zero, suc, ◌+◌, ◌-◌, ◌*◌, Bool, true, false, cond, ◌||◌, not, eqb, ltb, List, [], ◌∷◌, map, filter, length, take, drop, Some, None, Option, slice_get, sym, refl, ap, subst, ◌∙◌, ⊎_elim, one-add, zero-add, add-zero, arith}
use Rattle.std.specs.Iterator.{YieldsFirst}
use Rattle.std.specs.List.{enumerate_from, position_or_len}
use Rattle.std.specs.Option.{unwrap_or}
use Rattle.std.proofs.lemmas.Iterator.{YieldsList}
use Rattle.std.proofs.lemmas.Iterator.Consumers.{YieldsList-from_first}
use Rattle.std.proofs.lemmas.List.{take_rest, length-map}
use Rattle.std.proofs.lemmas.Bool.{cases_eq, cond_both, eq-eqb, ne_eqb, ltb-false}
use Rattle.words.specs.declared.reader.Reader.{Reader}
use Rattle.words.specs.Words.{words, kind}
use Rattle.words.specs.Left.{to_come}
use Rattle.words.specs.Placed.{placed}
use Rattle.words.proofs.Placing.{all_to_come}
use Rattle.words.proofs.Laws.{words_drop}
use Rattle.paper.proofs.Chunks.{word_of, chunks, words_chunks}
use Rattle.barrier_paper.specs.Windows.{from_nth, before}
use Rattle.barrier_paper.proofs.Seeking.{seek_pass, seek_count, seek_found, before_le}

-- a reader that stands at the first word gives all
pub all_given : (r : Reader) (bs : List ℕ) → r.at ≡ 0 → r.bytes.now ≡ bs → YieldsList (YieldsFirst to_come) (λ w. w) r (placed 0 (words bs))
all_given r bs a b = YieldsList-from_first (λ w. w) to_come (placed 0 (words bs)) (all_to_come r bs a b)

-- what is so at a number that is known
pub known : {P : ℕ → Type 0} {k : ℕ} → (x : ℕ) × (x ≡ k) × P x → P k
known {P} h = subst P h.1 h.2

-- whether four bytes are a word of a kind, by its number, and the same beside their place
abbrev pub of_kind : ℕ → List ℕ → Bool
of_kind k c = eqb (kind (word_of c)) k

abbrev pub placed_of_kind : ℕ → ℕ × List ℕ → Bool
placed_of_kind k p = of_kind k p.1

chunked : (bs : List ℕ) (cs : List (List ℕ)) → cs ≡ chunks bs → map word_of cs ≡ words bs
chunked bs cs e = ap (map word_of) e ∙ sym (words_chunks bs)

-- the word at `place`, where the words from number i on are those that are sought
record Found (k n at : ℕ) (ws : List ℕ) (place : ℕ) : Type 0 where
  i : ℕ
  is : place ≡ at + i
  rest : drop i ws ≡ from_nth k n ws

one_on : (k n m at v : ℕ) (ws : List ℕ) (place : ℕ) → from_nth k m (v ∷ ws) ≡ from_nth k n ws → Found k n (at + 1) ws place → Found k m at (v ∷ ws) place
one_on k n m at v ws place e f = record { i = suc f.i; is = omega (arith, f.is); rest = f.rest ∙ sym e }

found : (k n at : ℕ) (cs : List (List ℕ)) (p : ℕ × List ℕ) → Some p ≡ slice_get (filter (placed_of_kind k) (enumerate_from at cs)) n → Found k n at (map word_of cs) p.0
found k n at [] p e = absurd (let z : ◌≡◌ {A = ℕ} 0 1 = cc in omega arith)
found k zero at (c ∷ cs) p e =
    let v = word_of c in
    let ws = map word_of cs in
    ⊎_elim
    (λ (is : kind v ≡ k).
    let h = rw (eq-eqb (kind v) k is) at e in
    let z : ◌≡◌ {A = ℕ × List ℕ} p (at, c) = cc in
    record { i = 0; is = ap (λ x. x.0) z ∙ sym (add-zero at); rest = sym (seek_found k v ws is) })
    (λ (ne : kind v ≡ k → ⊥). one_on k zero zero at v ws p.0 (seek_pass k zero v ws ne) (found k zero (at + 1) cs p (rw (ne_eqb (kind v) k ne) at e)))
    (cases_eq (kind v) k)
found k (suc n) at (c ∷ cs) p e =
    let v = word_of c in
    let ws = map word_of cs in
    ⊎_elim
    (λ (is : kind v ≡ k). one_on k n (suc n) at v ws p.0 (seek_count k n v ws is) (found k n (at + 1) cs p (rw (eq-eqb (kind v) k is) at e)))
    (λ (ne : kind v ≡ k → ⊥). one_on k (suc n) (suc n) at v ws p.0 (seek_pass k (suc n) v ws ne) (found k (suc n) (at + 1) cs p (rw (ne_eqb (kind v) k ne) at e)))
    (cases_eq (kind v) k)

-- so the bytes from that place on are those that are sought
pub bytes_found : (k n : ℕ) (bs : List ℕ) (cs : List (List ℕ)) (p : ℕ × List ℕ) → cs ≡ chunks bs → Some p ≡ slice_get (filter (placed_of_kind k) (enumerate_from 0 cs)) n
    → words (take (length bs - 4 * p.0) (drop (4 * p.0) bs)) ≡ from_nth k n (words bs)
bytes_found k n bs cs p e s =
    let f = found k n 0 cs p s in
    let is : p.0 ≡ f.i = f.is ∙ zero-add f.i in
    ap words (take_rest bs (4 * p.0)) ∙ words_drop p.0 bs ∙ ap (λ i. drop i (words bs)) is ∙ rw (chunked bs cs e) at f.rest

none_found : (k n at : ℕ) (cs : List (List ℕ)) → None ≡ slice_get (filter (placed_of_kind k) (enumerate_from at cs)) n → from_nth k n (map word_of cs) ≡ []
none_found k n at [] e = refl
none_found k zero at (c ∷ cs) e =
    let v = word_of c in
    let ws = map word_of cs in
    ⊎_elim
    (λ (is : kind v ≡ k). let h = rw (eq-eqb (kind v) k is) at e in absurd (let z : ◌≡◌ {A = ℕ} 0 1 = cc in omega arith))
    (λ (ne : kind v ≡ k → ⊥). seek_pass k zero v ws ne ∙ none_found k zero (at + 1) cs (rw (ne_eqb (kind v) k ne) at e))
    (cases_eq (kind v) k)
none_found k (suc n) at (c ∷ cs) e =
    let v = word_of c in
    let ws = map word_of cs in
    ⊎_elim
    (λ (is : kind v ≡ k). seek_count k n v ws is ∙ none_found k n (at + 1) cs (rw (eq-eqb (kind v) k is) at e))
    (λ (ne : kind v ≡ k → ⊥). seek_pass k (suc n) v ws ne ∙ none_found k (suc n) (at + 1) cs (rw (ne_eqb (kind v) k ne) at e))
    (cases_eq (kind v) k)

pub no_bytes_found : (k n : ℕ) (bs : List ℕ) (cs : List (List ℕ)) → cs ≡ chunks bs → None ≡ slice_get (filter (placed_of_kind k) (enumerate_from 0 cs)) n → from_nth k n (words bs) ≡ []
no_bytes_found k n bs cs e s = ap (from_nth k n) (sym (chunked bs cs e)) ∙ none_found k n 0 cs s

-- a word that ends a part of kind k, and how many come before the first
abbrev pub ends : ℕ → List ℕ → Bool
ends k c = eqb (kind (word_of c)) k || eqb (kind (word_of c)) 10

before_chunks : (k : ℕ) (cs : List (List ℕ)) → position_or_len (ends k) cs ≡ length (before k (map word_of cs))
before_chunks k [] = refl
before_chunks k (c ∷ cs) =
    let more = before_chunks k cs in
    elim (eqb (kind (word_of c)) k || eqb (kind (word_of c)) 10) as (λ b. cond (not b) (1 + position_or_len (ends k) cs) 0 ≡ length (cond b [] (word_of c ∷ before k (map word_of cs)))) [
      | true ↦ refl
      | false ↦ rw one-add (ap suc more)
    ]

-- the place of that word, or the number of all where there is none
pub place_or_end : (k : ℕ) (bs : List ℕ) (cs : List (List ℕ)) (r : Option ℕ) → cs ≡ chunks bs → let i = position_or_len (ends k) cs in r ≡ cond (ltb i (length cs)) (Some i) None → unwrap_or r (length cs) ≡ length (before k (words bs))
place_or_end k bs cs r e s =
    let i = length (before k (map word_of cs)) in
    let n = before_le k (map word_of cs) in
    rw (rw (before_chunks k cs) at s)
    (cond_both (ltb i (length cs)) (Some i) None (λ o. unwrap_or o (length cs) ≡ i) (λ _. refl) (λ f. omega (arith, ltb-false i (length cs) f, length-map cs word_of)))
    ∙ ap (λ ws. length (before k ws)) (chunked bs cs e)
