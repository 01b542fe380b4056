-- A loop that writes a table, tank by tank.
use Rattle.std.proofs.Common.{◌≡◌, ℕ, zero, suc, ◌+◌, ◌<◌, ◌≤◌, ◌≢◌, List, length, get_or, set, replicate, refl, ◌∙◌, ⊎_elim, arith, length-set, get_or-set_other, get_or-set_same}
use Rattle.std.proofs.lemmas.Bool.{cases_eq}
use Rattle.plant.specs.Limits.{most_tanks}
use Rattle.plant.specs.Walk.{Marking}

-- the first n places are written, the others still 0
pub record Written (xs : List ℕ) (m : Marking) (n : ℕ) : Type 0 where
  pub long : length xs ≡ most_tanks
  pub done : (r : ℕ) → r < n → get_or xs r 0 ≡ m r
  pub rest : (r : ℕ) → n ≤ r → get_or xs r 0 ≡ 0

none_there : (n r : ℕ) → ◌≡◌ {A = ℕ} (get_or (replicate n 0) r 0) 0
none_there zero r = refl
none_there (suc n) zero = refl
none_there (suc n) (suc r) = none_there n r

pub written_none : (m : Marking) → Written (replicate most_tanks 0) m 0
written_none m = record { long = refl; done = λ r l. absurd (omega arith); rest = λ r l. none_there most_tanks r }

pub written_more : (xs : List ℕ) (m : Marking) (n v : ℕ) → Written xs m n → n < most_tanks → v ≡ m n → Written (set xs n v) m (n + 1)
written_more xs m n v w inside e = record {
  long = length-set xs n v ∙ w.long;
  done = λ r l. ⊎_elim (λ (k : r ≡ n). rw k (same ∙ e)) (λ (ne : r ≢ n). other r ne ∙ w.done r (omega arith)) (cases_eq r n);
  rest = λ r l. other r (λ k. omega arith) ∙ w.rest r (omega arith);
}
  where
    same : get_or (set xs n v) n 0 ≡ v
    same = let there : n < length xs = omega (arith, w.long) in rw get_or-set_same refl

    other : (r : ℕ) → r ≢ n → get_or (set xs n v) r 0 ≡ get_or xs r 0
    other r ne = rw get_or-set_other refl
