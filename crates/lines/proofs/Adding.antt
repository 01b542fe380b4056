-- A side as a loop adds it up in 64 bits: each part stays small, and tanks beyond the tables add nothing.
use Rattle.std.proofs.Common.{◌≡◌, ℕ, zero, suc, ◌+◌, ◌*◌, ◌<◌, ◌≤◌, min, List, length, take, get_or, ℤ, pos, ◌+ℤ◌, ◌*ℤ◌, nat_abs, sym, refl, ap, ◌∙◌, ⊎_elim, mul-le-mul, arith, w32, w64, SFits, to_z, of_z}
use lib.IntN.{zero-*ℤ, +ℤ_idr}
use Rattle.std.specs.List.{zip}
use Rattle.std.specs.Slice.Iter.{iter_rest}
use Rattle.std.specs.Iterator.Adapters.{zip_first, zip_second}
use Rattle.std.specs.declared.iter.Zip.{Zip}
use Rattle.std.specs.declared.slice.Iter.{Iter}
use Rattle.std.proofs.iter.Yields.{fronts}
use Rattle.std.proofs.lemmas.Iterator.{YieldsList, YieldsList-from_slice, YieldsList-from_zip, zips}
use Rattle.std.proofs.lemmas.List.{get_or_past, get_or_read, get_or-take, length-take}
use Rattle.std.proofs.lemmas.Slice.Zip.{length-zip, get_or-zip}
use Rattle.std.proofs.lemmas.Int.{ints, unsigned_abs-mul}
use Rattle.std.proofs.lemmas.Bool.{cases_lt}
use Rattle.plant.specs.Limits.{most_tanks, most_amount}
use Rattle.plant.specs.Walk.{Marking, held}
use Rattle.barriers.specs.Lines.{side}
use Rattle.barriers.proofs.Sides.{side_more, side_small, side_same}
use Rattle.lines.specs.Limits.{most_weight_sum}
use Rattle.lines.specs.Tables.{Tabulates, weight_at}
use denote.Ref.{Bor}

-- a number that went to 64 bits and back
abbrev pub wide : ℤ → ℤ
wide z = to_z w64 (of_z w64 z)

side_cut : (w : ℕ → ℤ) (m : Marking) (n k : ℕ) → ((r : ℕ) → k ≤ r → w r ≡ pos 0) → side w m (min n k) ≡ side w m n
side_cut w m zero k none = let e : min zero k ≡ zero = omega arith in ap (side w m) e
side_cut w m (suc n) k none =
    ⊎_elim
    (λ (l : n < k). let e : min (suc n) k ≡ suc n = omega arith in ap (side w m) e)
    (λ (l : k ≤ n). let e : min (suc n) k ≡ min n k = omega arith in ap (side w m) e ∙ side_cut w m n k none ∙ sym (rw (none n l, zero-*ℤ (pos (m n))) (+ℤ_idr (side w m n))))
    (cases_lt n k)

-- what one turn of the loop gives: a pair whose weight and amount come as the wider numbers f and h
pub record Turn (ws : List ℤ) (xs : List ℕ) (k : ℕ) (sum f h : ℤ) : Type 0 where
  pub mul_fits : SFits w64 (wide f *ℤ wide h)
  pub add_fits : SFits w64 (sum +ℤ wide (wide f *ℤ wide h))
  pub next : wide (sum +ℤ wide (wide f *ℤ wide h)) ≡ side (weight_at ws) (held xs) (k + 1)

module _ (ws : List ℤ) (xs : List ℕ) (n : ℕ) (lw : length ws ≡ most_tanks) (lx : length xs ≡ most_tanks) where
  abbrev weight : ℕ → ℤ
  weight = weight_at ws

  -- so many tanks of the tables, and the pairs that the loop meets
  abbrev tanks : ℕ
  tanks = min n most_tanks

  abbrev pub met : List (ℤ × ℕ)
  met = zip (take tanks ws) (take tanks xs)

  pub pairs : {s : Zip (Iter ℤ) (Iter ℕ)} → iter_rest (zip_first s) ≡ take tanks ws → iter_rest (zip_second s) ≡ take tanks xs
      → YieldsList (zips fronts fronts) (λ (p : Bor ℤ × Bor ℕ). (p.0.now, p.1.now)) s met
  pairs es ex = YieldsList-from_zip (YieldsList-from_slice (take tanks ws) es) (YieldsList-from_slice (take tanks xs) ex)

  long_weights : length (take tanks ws) ≡ tanks
  long_weights = rw (length-take tanks ws, lw) (omega arith)

  long_amounts : length (take tanks xs) ≡ tanks
  long_amounts = rw (length-take tanks xs, lx) (omega arith)

  length_pairs : length met ≡ tanks
  length_pairs = rw (length-zip (take tanks ws) (take tanks xs), long_weights, long_amounts) (omega arith)

  pair_at : (k : ℕ) (w : ℤ) (a : ℕ) → (k < length met) × ◌≡◌ {A = ℤ × ℕ} (w, a) (get_or met k (w, a)) → (k < most_tanks) × (w ≡ weight k) × (a ≡ held xs k)
  pair_at k w a (l, e) =
      let few : k < tanks = rw length_pairs at l in
      let same : ◌≡◌ {A = ℤ × ℕ} (w, a) (get_or (take tanks ws) k w, get_or (take tanks xs) k a) = e ∙ get_or-zip (take tanks ws) (take tanks xs) k (w, a) (rw long_weights few) (rw long_amounts few) in (
        omega arith,
        get_or_read ws k w (omega arith) (ap (λ (p : ℤ × ℕ). p.0) same ∙ get_or-take tanks ws k w few) (pos 0),
        get_or_read xs k a (omega arith) (ap (λ (p : ℤ × ℕ). p.1) same ∙ get_or-take tanks xs k a few) 0,
      )

  -- after all of them
  pub side_all : (m : Marking) (k : ℕ) → k ≡ length met → Tabulates xs m → side weight (held xs) k ≡ side weight m n
  side_all m k e same =
      ap (side weight (held xs)) (e ∙ length_pairs)
      ∙ side_same weight (held xs) m (min n most_tanks) (λ r l. same r (omega arith))
      ∙ side_cut weight m n most_tanks (λ r l. get_or_past ws r (pos 0) (omega arith))

  module _ (most : ℕ) (hw : (r : ℕ) → nat_abs (weight r) ≤ most_weight_sum) (hx : (r : ℕ) → get_or xs r 0 ≤ most) where
    small : (k : ℕ) → k ≤ most_tanks → nat_abs (side weight (held xs) k) ≤ most_tanks * (most_weight_sum * most)
    small k few =
        let more : k * (most_weight_sum * most) ≤ most_tanks * (most_weight_sum * most) = mul-le-mul few (omega arith) in
        omega (arith, side_small weight (held xs) most_weight_sum most k (λ r l. hw r) (λ r l. hx r))

    pub small_all : (k : ℕ) → k ≡ length met → nat_abs (side weight (held xs) k) ≤ most_tanks * (most_weight_sum * most)
    small_all k e = let l = length_pairs in small k (omega arith)

    pub turn : most ≤ most_amount → (k : ℕ) (w f h sum : ℤ) (a : ℕ) → (k < length met) × ◌≡◌ {A = ℤ × ℕ} (w, a) (get_or met k (w, a))
        → f ≡ to_z w32 (of_z w32 w) → h ≡ pos a → sum ≡ side weight (held xs) k → Turn ws xs k sum f h
    turn few k w f h sum a at is_f is_h so_far = record { mul_fits = rw term (omega (arith, ints, term_small)); add_fits = rw next (omega (arith, ints, there)); next = rw next (omega (arith, ints, there)) }
      where
        pair : (k < most_tanks) × (w ≡ weight k) × (a ≡ held xs k)
        pair = pair_at k w a at

        term : wide f *ℤ wide h ≡ weight k *ℤ pos (held xs k)
        term =
            let big = hw k in
            let most = hx k in
            let ef : wide f ≡ weight k = rw (← pair.1) (omega (arith, ints, pair.1)) in
            let eh : wide h ≡ pos (held xs k) = omega (arith, ints, pair.2) in
            rw (ef, eh) refl

        term_small : nat_abs (weight k *ℤ pos (held xs k)) ≤ most_weight_sum * most_amount
        term_small = let most_is : held xs k ≤ most_amount = omega (arith, hx k) in rw unsigned_abs-mul (mul-le-mul (hw k) most_is)

        next : sum +ℤ wide (wide f *ℤ wide h) ≡ side weight (held xs) (k + 1)
        next =
            let back : wide (weight k *ℤ pos (held xs k)) ≡ weight k *ℤ pos (held xs k) = omega (arith, ints, term_small) in
            rw (term, back, so_far, side_more weight (held xs) k) refl

        there : nat_abs (side weight (held xs) (k + 1)) ≤ most_tanks * (most_weight_sum * most)
        there = let few = pair.0 in small (k + 1) (omega arith)
