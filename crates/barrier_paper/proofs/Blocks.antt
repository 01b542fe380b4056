-- Words in blocks: each begins with a word of one kind, which stands nowhere else in it.
use Rattle.std.proofs.Common.{◌≡◌, ℕ, zero, suc, ◌<◌, ◌≤◌, eqb, ◌⊎◌, List, [], ◌∷◌, ◌++◌, length, get_or, sym, refl, ap, ◌∙◌, subst, inl, inr, append_assoc, arith}
use Rattle.std.specs.List.{AllByRecursion}
use Rattle.std.proofs.lemmas.List.{append-nil}
use Rattle.std.proofs.lemmas.Bool.{cond-true, or_right, eq-eqb, ne_eqb}
use Rattle.words.specs.Words.{kind}
use Rattle.barrier_paper.specs.Document.{joined}
use Rattle.barrier_paper.specs.Windows.{from_nth, before, part, count_kind}
use Rattle.barrier_paper.proofs.Seeking.{seek_pass, seek_count, seek_found}
use Rattle.barrier_paper.proofs.WordParts.{Kinds}

-- no kind between the two is k
abbrev pub Apart : ℕ → ℕ → ℕ → Type 0
Apart low high k = (j : ℕ) → low ≤ j → j ≤ high → j ≡ k → ⊥

-- a search for a word of a kind passes words of other kinds
pub skip : (k n low high : ℕ) (xs ys : List ℕ) → Kinds low high xs → Apart low high k → from_nth k n (xs ++ ys) ≡ from_nth k n ys
skip k n low high [] ys h other = refl
skip k n low high (x ∷ xs) ys h other = seek_pass k n x (xs ++ ys) (other (kind x) h.0.0 h.0.1) ∙ skip k n low high xs ys h.1 other

-- and no such word ends a part
pub go_on : (k low high : ℕ) (xs ys : List ℕ) → Kinds low high xs → Apart low high k → Apart low high 10 → before k (xs ++ ys) ≡ xs ++ before k ys
go_on k low high [] ys h other step = refl
go_on k low high (x ∷ xs) ys h other step =
    rw (ne_eqb (kind x) k (other (kind x) h.0.0 h.0.1), ne_eqb (kind x) 10 (step (kind x) h.0.0 h.0.1)) (ap (λ ws. x ∷ ws) (go_on k low high xs ys h.1 other step))

-- counting passes them too
pub count_none : (k low high : ℕ) (xs ys : List ℕ) → Kinds low high xs → Apart low high k → count_kind k (xs ++ ys) ≡ count_kind k ys
count_none k low high [] ys h other = refl
count_none k low high (x ∷ xs) ys h other =
    rw (ne_eqb (kind x) k (other (kind x) h.0.0 h.0.1)) (count_none k low high xs ys h.1 other)

-- a part ends here: there are no more words, or the next is of the kind or a step
abbrev pub Stops : ℕ → List ℕ → Type 0
Stops k [] = Unit {0}
Stops k (w ∷ ws) = (kind w ≡ k) ⊎ (kind w ≡ 10)

pub stop : (k : ℕ) (ws : List ℕ) → Stops k ws → before k ws ≡ []
stop k [] h = refl
stop k (w ∷ ws) (inl e) = rw (eq-eqb (kind w) k e)
stop k (w ∷ ws) (inr e) = cond-true _ _ _ (or_right (eqb (kind w) k) (eqb (kind w) 10) (eq-eqb (kind w) 10 e))

-- a block of kind k begins with a word of that kind, and then come words of higher kinds, but no step
pub record Blocks {X : Type 0} (k high : ℕ) (f : X → List ℕ) (Fits : X → Type 0) : Type 0 where
  pub head : X → ℕ
  pub tail : X → List ℕ
  pub made : (x : X) → f x ≡ head x ∷ tail x
  pub head_kind : (x : X) → Fits x → kind (head x) ≡ k
  pub tail_kinds : (x : X) → Fits x → Kinds (suc k) high (tail x)
  pub no_step : Apart (suc k) high 10

module _ {X : Type 0} {k high : ℕ} {f : X → List ℕ} {Fits : X → Type 0} (B : Blocks k high f Fits) where
  above : Apart (suc k) high k
  above j a b e = omega arith

  -- the block that is sought is the first, or a later one
  here : (x : X) (ys : List ℕ) → Fits x → from_nth k 0 (f x ++ ys) ≡ f x ++ ys
  here x ys h =
      ap (λ ws. from_nth k 0 (ws ++ ys)) (B.made x)
      ∙ (seek_found k (B.head x) (B.tail x ++ ys) (B.head_kind x h)
      ∙ ap (λ ws. ws ++ ys) (sym (B.made x)))

  later : (n : ℕ) (x : X) (ys : List ℕ) → Fits x → from_nth k (suc n) (f x ++ ys) ≡ from_nth k n ys
  later n x ys h =
      ap (λ ws. from_nth k (suc n) (ws ++ ys)) (B.made x)
      ∙ (seek_count k n (B.head x) (B.tail x ++ ys) (B.head_kind x h)
      ∙ skip k n (suc k) high (B.tail x) ys (B.tail_kinds x h) above)

  -- a block is a part, where the next word ends it
  whole : (x : X) (ys : List ℕ) → Fits x → Stops k ys → part k (f x ++ ys) ≡ f x
  whole x ys h s =
      ap (λ ws. part k (ws ++ ys)) (B.made x)
      ∙ (ap (λ ws. B.head x ∷ ws) (go_on k (suc k) high (B.tail x) ys (B.tail_kinds x h) above B.no_step ∙ (ap (λ ws. B.tail x ++ ws) (stop k ys s) ∙ append-nil (B.tail x)))
      ∙ sym (B.made x))

  stops : (xs : List X) (zs : List ℕ) → AllByRecursion Fits xs → Stops k zs → Stops k (joined f xs ++ zs)
  stops [] zs h s = s
  stops (x ∷ xs) zs h s = subst (λ ws. Stops k ((ws ++ joined f xs) ++ zs)) (sym (B.made x)) (inl (B.head_kind x h.0))

  -- block i of several, found by its kind
  pub nth_block : (xs : List X) (zs : List ℕ) (i : ℕ) (d : X) → AllByRecursion Fits xs → Stops k zs → i < length xs → part k (from_nth k i (joined f xs ++ zs)) ≡ f (get_or xs i d)
  nth_block [] zs i d h s l = absurd (omega arith)
  nth_block (x ∷ xs) zs zero d h s l =
      ap (λ ws. part k (from_nth k 0 ws)) (append_assoc (f x) (joined f xs) zs)
      ∙ (ap (part k) (here x (joined f xs ++ zs) h.0)
      ∙ whole x (joined f xs ++ zs) h.0 (stops xs zs h.1 s))
  nth_block (x ∷ xs) zs (suc i) d h s l =
      ap (λ ws. part k (from_nth k (suc i) ws)) (append_assoc (f x) (joined f xs) zs)
      ∙ (ap (part k) (later i x (joined f xs ++ zs) h.0)
      ∙ nth_block xs zs i d h.1 s (omega arith))

  -- beyond the last there is none
  pub past_blocks : (xs : List X) (low top : ℕ) (zs : List ℕ) (i : ℕ) → AllByRecursion Fits xs → Kinds low top zs → Apart low top k → length xs ≤ i → from_nth k i (joined f xs ++ zs) ≡ []
  past_blocks [] low top zs i h lack other l = ap (from_nth k i) (sym (append-nil zs)) ∙ skip k i low top zs [] lack other
  past_blocks (x ∷ xs) low top zs zero h lack other l = absurd (omega arith)
  past_blocks (x ∷ xs) low top zs (suc i) h lack other l =
      ap (from_nth k (suc i)) (append_assoc (f x) (joined f xs) zs)
      ∙ (later i x (joined f xs ++ zs) h.0
      ∙ past_blocks xs low top zs i h.1 lack other (omega arith))

  -- there are as many words of the kind as there are blocks
  pub count_blocks : (xs : List X) → AllByRecursion Fits xs → count_kind k (joined f xs) ≡ length xs
  count_blocks [] h = refl
  count_blocks (x ∷ xs) h =
      ap (λ ws. count_kind k (ws ++ joined f xs)) (B.made x)
      ∙ (cond-true (eqb (kind (B.head x)) k) _ _ (eq-eqb (kind (B.head x)) k (B.head_kind x h.0))
      ∙ ap suc (count_none k (suc k) high (B.tail x) (joined f xs) (B.tail_kinds x h.0) above ∙ count_blocks xs h.1))
