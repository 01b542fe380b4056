-- Tests of all and of some elements of a list, place by place.
use Rattle.std.proofs.Common.{◌≡◌, ℕ, zero, suc, Bool, ◌&&◌, ◌||◌, ◌+◌, List, [], ◌∷◌, ◌++◌, map, length, get_or, sym, refl, ap, ◌∙◌, arith, zero-add}
use Rattle.std.specs.List.{list_all, list_any, range_with_len}
use Rattle.std.proofs.lemmas.List.{length-map, map-append}
use Rattle.std.proofs.lemmas.List.FromFn.{length-map-range_with_len, map-range_with_len_more}
use Rattle.walks.specs.Rounds.{all_below, some_below}

all_first : (n : ℕ) (p : ℕ → Bool) → all_below (suc n) p ≡ (p 0 && all_below n (λ k. p (suc k)))
all_first zero p = grind arith
all_first (suc n) p = grind (arith, all_first n p)

some_first : (n : ℕ) (p : ℕ → Bool) → some_below (suc n) p ≡ (p 0 || some_below n (λ k. p (suc k)))
some_first zero p = grind arith
some_first (suc n) p = grind (arith, some_first n p)

module _ {X Y : Type 0} (f : X → Y) (e : Y) (p : Y → Bool) where
  pub all_placed : (xs : List X) → list_all (λ x. p (f x)) xs ≡ all_below (length (map f xs)) (λ k. p (get_or (map f xs) k e))
  all_placed [] = refl
  all_placed (x ∷ xs) = rw (all_first (length (map f xs)) (λ k. p (get_or (map f (x ∷ xs)) k e)), ← all_placed xs) refl

  pub some_placed : (xs : List X) → list_any (λ x. p (f x)) xs ≡ some_below (length (map f xs)) (λ k. p (get_or (map f xs) k e))
  some_placed [] = refl
  some_placed (x ∷ xs) = rw (some_first (length (map f xs)) (λ k. p (get_or (map f (x ∷ xs)) k e)), ← some_placed xs) refl

-- a list whose elements are read one after another, each by its number
module _ {X Y : Type 0} (f : X → Y) (g : ℕ → Y) (xs : List X) (n : ℕ) (so_far : map f xs ≡ map g (range_with_len 0 n)) where
  pub read_length : length xs ≡ n
  read_length = sym (length-map xs f) ∙ ap length so_far ∙ length-map-range_with_len g 0 n

  pub one_read : (x : X) (ys : List X) → ys ≡ xs ++ x ∷ [] → f x ≡ g n → map f ys ≡ map g (range_with_len 0 (n + 1))
  one_read x ys e is =
      rw (e, map-append f xs (x ∷ []), so_far, is) (sym (map-range_with_len_more g 0 n n (zero-add n)))
