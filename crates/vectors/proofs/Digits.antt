-- Digits two at a time, each two a byte more.
use Rattle.std.proofs.Common.{◌≡◌, ℕ, zero, suc, ◌+◌, ◌*◌, ◌/◌, ◌%◌, ◌<◌, List, [], ◌∷◌, ◌++◌, length, get_or, drop, Some, None, Option, sym, refl, ap, ◌∙◌, append_assoc, drop-cons, add-one, arith}
use Rattle.std.specs.Option.{option_map}
use Rattle.std.proofs.lemmas.Iterator.Adapters.{option_map_id}
use Rattle.std.specs.Simd.{first_chunks}
use Rattle.vectors.specs.Hex.{byte_of, in_front, bytes_of}

-- the bytes that pairs of digits write
abbrev pub pair_bytes : List (List ℕ) → Option (List ℕ)
pair_bytes [] = Some []
pair_bytes (p ∷ ps) = in_front (byte_of (get_or p 0 0) (get_or p 1 0)) (pair_bytes ps)

pub by_pairs : (k : ℕ) (digits : List ℕ) → length digits ≡ 2 * k → bytes_of digits ≡ pair_bytes (first_chunks 2 k digits)
by_pairs zero [] e = refl
by_pairs zero (a ∷ digits) e = absurd (omega arith)
by_pairs (suc k) [] e = absurd (omega arith)
by_pairs (suc k) (a ∷ []) e = absurd (omega arith)
by_pairs (suc k) (a ∷ b ∷ digits) e = ap (in_front (byte_of a b)) (by_pairs k digits (omega arith))

pub one_left : (k : ℕ) (digits : List ℕ) → length digits ≡ 2 * k + 1 → None ≡ bytes_of digits
one_left k [] e = absurd (omega arith)
one_left k (a ∷ []) e = refl
one_left zero (a ∷ b ∷ digits) e = absurd (omega arith)
one_left (suc k) (a ∷ b ∷ digits) e = grind (arith, one_left k digits (omega arith))

one_before : (front : List ℕ) (b : ℕ) (o : Option (List ℕ)) → option_map (λ bs. front ++ bs) (in_front (Some b) o) ≡ option_map (λ bs. (front ++ b ∷ []) ++ bs) o
one_before front b None = refl
one_before front b (Some bs) = ap Some (sym (append_assoc front (b ∷ []) bs))

-- at the start of the loop
pub none_read : (digits : List ℕ) → length digits % 2 ≡ 0 → bytes_of digits ≡ option_map (λ bs. [] ++ bs) (pair_bytes (first_chunks 2 (length digits / 2) digits))
none_read digits e = by_pairs (length digits / 2) digits (omega arith) ∙ sym (option_map_id _)

-- the loop's step: the byte that the next pair writes goes to the end of what is made
pub byte_more : (all : Option (List ℕ)) (pairs : List (List ℕ)) (i : ℕ) (front : List ℕ) (b : ℕ) → i < length pairs → Some b ≡ byte_of (get_or (get_or pairs i []) 0 0) (get_or (get_or pairs i []) 1 0)
    → all ≡ option_map (λ bs. front ++ bs) (pair_bytes (drop i pairs)) → all ≡ option_map (λ bs. (front ++ b ∷ []) ++ bs) (pair_bytes (drop (i + 1) pairs))
byte_more all pairs i front b l e inv =
    inv
    ∙ (ap (λ ps. option_map (λ bs. front ++ bs) (pair_bytes ps)) (drop-cons pairs i [] l)
    ∙ rw (add-one, ← e) (one_before front b (pair_bytes (drop (suc i) pairs))))
