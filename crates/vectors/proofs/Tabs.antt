-- What `split_once` finds at a tab is what `at_tab` says.
use Rattle.std.proofs.Common.{◌≡◌, ℕ, suc, ◌<◌, List, [], ◌∷◌, ◌++◌, length, get_or, Some, None, Option, sym, refl, ap, ◌∙◌, arith, Bor, ne_eqb}
use Rattle.std.specs.Option.{option_map}
use Rattle.std.proofs.lemmas.Str.Pattern.{IsSplitOnceResult, split_parts}
use Rattle.vectors.specs.Table.{longer, at_tab}

abbrev NoTab : List ℕ → Type 0
NoTab bs = (i : ℕ) → i < length bs → get_or bs i 0 ≡ 9 → ⊥

tail : (b : ℕ) (bs : List ℕ) → NoTab (b ∷ bs) → NoTab bs
tail b bs h i less = h (suc i) (omega arith)

none_at : (bs : List ℕ) → NoTab bs → at_tab bs ≡ None
none_at [] h = refl
none_at (b ∷ bs) h = rw (ne_eqb b 9 (h 0 (omega arith))) (ap (longer b) (none_at bs (tail b bs h)))

some_at : (xs ys : List ℕ) → NoTab xs → at_tab (xs ++ (9 ∷ ys)) ≡ Some (xs, ys)
some_at [] ys h = refl
some_at (x ∷ xs) ys h = rw (ne_eqb x 9 (h 0 (omega arith))) (ap (longer x) (some_at xs ys (tail x xs h)))

pub split_at_tab : (bs : List ℕ) (r : Option (Bor (List ℕ) × Bor (List ℕ))) → IsSplitOnceResult 9 bs r → option_map (λ p. (p.0.now, p.1.now)) r ≡ at_tab bs
split_at_tab bs None h = sym (none_at bs (split_parts 9 bs None h (omega arith)))
split_at_tab bs (Some p) h =
    let parts = split_parts 9 bs (Some p) h (omega arith) in
    sym (ap at_tab parts.0 ∙ some_at p.0.now p.1.now parts.1)
