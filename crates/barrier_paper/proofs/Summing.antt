-- Steps and bounds of the sums of weight words.
use Rattle.std.proofs.Common.{◌≡◌, ℕ, ◌+◌, ◌*◌, ◌<◌, ◌≤◌, leb, List, [], ◌∷◌, map, length, get_or, set, replicate, ℤ, pos, ◌+ℤ◌, nat_abs, sym, refl, ap, ◌∙◌, subst, ⊎_elim, arith, w32, to_z, of_z}
use Rattle.std.proofs.lemmas.List.{get_or-set_same, get_or-set_other, get_or-replicate, get_or_past}
use Rattle.std.proofs.lemmas.Bool.{eq-eqb, ne_eqb, cases_eq, cases_lt, cond-true, cond-false, le-leb, lt-leb}
use Rattle.std.proofs.lemmas.Bool.Decides.{nat_tests}
use Rattle.std.proofs.lemmas.Int.{ints}
use Rattle.plant.specs.Limits.{most_tanks}
use Rattle.words.specs.Words.{kind, field, words}
use Rattle.words.specs.Placed.{placed}
use Rattle.words.specs.declared.word.Word.{Word}
use Rattle.paper.specs.Limits.{most_evidence_words}
use Rattle.barriers.specs.Lines.{Line, no_line}
use Rattle.lines.specs.Limits.{most_weight_sum}
use Rattle.barrier_paper.specs.Document.{signed, weight_said}
use Rattle.barrier_paper.specs.Windows.{word_weight, part_weight, part_line, line_said}

-- words without their places
abbrev pub bits : List Word → List ℕ
bits ws = map (λ w. w.bits) ws

pub bits_placed : (at : ℕ) (ws : List ℕ) → bits (placed at ws) ≡ ws
bits_placed at [] = refl
bits_placed at (w ∷ ws) = ap (λ vs. w ∷ vs) (bits_placed (at + 1) ws)

-- how large a word's weight and a part's can be
signed_small : (w : ℕ) → nat_abs (signed (weight_said w)) ≤ 16383
signed_small w = grind (arith, ints, nat_tests)

word_small : (k w r : ℕ) → nat_abs (word_weight k w r) ≤ 16383
word_small k w r = let s = signed_small w in grind (arith, ints, nat_tests)

part_small : (k : ℕ) (ws : List ℕ) (r : ℕ) → nat_abs (part_weight k ws r) ≤ 16383 * length ws
part_small k [] r = omega (arith, ints)
part_small k (w ∷ ws) r = let a = word_small k w r in let h = part_small k ws r in omega (arith, ints)

pub part_within : (k : ℕ) (bs : List ℕ) (r : ℕ) → length (words bs) ≤ most_evidence_words → nat_abs (part_weight k (words bs) r) ≤ most_weight_sum
part_within k bs r h = omega (arith, part_small k (words bs) r)

-- what is summed is small, since the whole and what is left are
pub summed_small : (k r : ℕ) (x : ℤ) (ws vs : List ℕ) → length ws ≤ most_evidence_words → length vs ≤ most_evidence_words → x +ℤ part_weight k ws r ≡ part_weight k vs r → nat_abs x ≤ 2 * most_weight_sum
summed_small k r x ws vs a b e = let h = part_small k ws r in let j = part_small k vs r in omega (arith, ints)

-- a word of the kind adds to its own tank, and to no other
put_same : (out : List ℤ) (f r : ℕ) (s : ℤ) → r < length out → f ≡ r → get_or (set out f (get_or out f (pos 0) +ℤ s)) r (pos 0) ≡ get_or out r (pos 0) +ℤ s
put_same out f r s h e = rw e (get_or-set_same out r (get_or out r (pos 0) +ℤ s) (pos 0) h)

put_other : (out : List ℤ) (f r : ℕ) (v : ℤ) → (f ≡ r → ⊥) → get_or (set out f v) r (pos 0) ≡ get_or out r (pos 0) +ℤ pos 0
put_other out f r v ne = get_or-set_other out f r v (pos 0) (λ e. ne (sym e)) ∙ omega (arith, ints)

put_step : (k r w : ℕ) (out : List ℤ) → length out ≡ most_tanks → kind w ≡ k → r < most_tanks →
    get_or (set out (field w 22 6) (get_or out (field w 22 6) (pos 0) +ℤ signed (weight_said w))) r (pos 0) ≡ get_or out r (pos 0) +ℤ word_weight k w r
put_step k r w out long is h =
    rw (eq-eqb (kind w) k is)
    (⊎_elim
    (λ e. rw (eq-eqb (field w 22 6) r e) (put_same out (field w 22 6) r (signed (weight_said w)) (omega arith) e))
    (λ ne. rw (ne_eqb (field w 22 6) r ne) (put_other out (field w 22 6) r _ ne))
    (cases_eq (field w 22 6) r))

-- a sum that fits is what the code computes
plain : (x s : ℤ) → nat_abs x ≤ 2 * most_weight_sum → nat_abs s ≤ 16383 → to_z w32 (of_z w32 (to_z w32 (of_z w32 x) +ℤ to_z w32 (of_z w32 s))) ≡ x +ℤ s
plain x s a b = omega (arith, ints)

pub put_at : (k r w tank : ℕ) (s : ℤ) (out : List ℤ) → length out ≡ most_tanks → kind w ≡ k → r < most_tanks → tank ≡ field w 22 6 → s ≡ signed (weight_said w) → nat_abs (get_or out tank (pos 0)) ≤ 2 * most_weight_sum →
    get_or (set out tank (to_z w32 (of_z w32 (to_z w32 (of_z w32 (get_or out tank (pos 0))) +ℤ to_z w32 (of_z w32 s))))) r (pos 0) ≡ get_or out r (pos 0) +ℤ word_weight k w r
put_at k r w tank s out long is h e f small =
    ap (λ v. get_or (set out tank v) r (pos 0)) (plain (get_or out tank (pos 0)) s small (subst (λ z. nat_abs z ≤ 16383) (sym f) (signed_small w)))
    ∙ (ap (λ t. get_or (set out t (get_or out t (pos 0) +ℤ s)) r (pos 0)) e
    ∙ (ap (λ z. get_or (set out (field w 22 6) (get_or out (field w 22 6) (pos 0) +ℤ z)) r (pos 0)) f
    ∙ put_step k r w out long is h))

-- one turn: what one word adds moves from what is left to what is summed
pub turn : (x y a v all : ℤ) → x +ℤ (a +ℤ v) ≡ all → y ≡ x +ℤ a → y +ℤ v ≡ all
turn x y a v all p q = omega (arith, ints)

none : (a v : ℤ) → a ≡ pos 0 → a +ℤ v ≡ v
none a v e = omega (arith, ints)

pub started : (k r : ℕ) (ws : List ℕ) → r < most_tanks → get_or (replicate most_tanks (pos 0)) r (pos 0) +ℤ part_weight k ws r ≡ part_weight k ws r
started k r ws h = none (get_or (replicate most_tanks (pos 0)) r (pos 0)) (part_weight k ws r) (get_or-replicate most_tanks r (pos 0) (pos 0) h)

-- at the end nothing is left
pub summed : (x all : ℤ) → x +ℤ pos 0 ≡ all → x ≡ all
summed x all e = omega (arith, ints)

-- a word's tank is below 64, so beyond that a part weighs nothing
pub beyond : (k : ℕ) (ws : List ℕ) (r : ℕ) → most_tanks ≤ r → part_weight k ws r ≡ pos 0
beyond k [] r h = refl
beyond k (w ∷ ws) r h = none (word_weight k w r) (part_weight k ws r) (word_beyond k w r h) ∙ beyond k ws r h
  where
    word_beyond : (k w r : ℕ) → most_tanks ≤ r → word_weight k w r ≡ pos 0
    word_beyond k w r h = grind (arith, nat_tests)

-- so a table that is right for the tanks is right for every number
pub everywhere : (k : ℕ) (ws : List ℕ) (out : List ℤ) → length out ≡ most_tanks → ((r : ℕ) → r < most_tanks → get_or out r (pos 0) ≡ part_weight k ws r) → (r : ℕ) → get_or out r (pos 0) ≡ part_weight k ws r
everywhere k ws out long inside r =
    ⊎_elim
    (λ (h : r < most_tanks). inside r h)
    (λ (h : most_tanks ≤ r). get_or_past out r (pos 0) (omega arith) ∙ sym (beyond k ws r h))
    (cases_lt r most_tanks)

-- two lines with the same weights and the same strictness are one
pub same_line : (a b : Line) → ((r : ℕ) → a.left r ≡ b.left r) → ((r : ℕ) → a.right r ≡ b.right r) → a.strict ≡ b.strict → a ≡ b
same_line a b lefts rights stricts = λ i. record { left = λ r. lefts r i; right = λ r. rights r i; strict = stricts i }

-- a part that is no longer than a paper may be says its line, and a longer one says nothing
pub said_short : (ws : List ℕ) → length ws ≤ most_evidence_words → line_said ws ≡ part_line ws
said_short ws h = cond-true (leb (length ws) most_evidence_words) _ _ (le-leb (length ws) most_evidence_words h)

pub said_long : (ws : List ℕ) → most_evidence_words < length ws → line_said ws ≡ no_line
said_long ws h = cond-false (leb (length ws) most_evidence_words) _ _ (lt-leb (length ws) most_evidence_words h)
