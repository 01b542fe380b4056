-- The first place from one on at which a step has to stand.
use Rattle.std.proofs.Common.{◌≡◌, ℕ, ◌<◌, ◌≤◌, true, false, ◌&&◌, leb, Some, None, Option, MatchOption, arith}
use Rattle.std.proofs.lemmas.Bool.Decides.{nat_tests}
use Rattle.plant.specs.Net.{Net}
use Rattle.starting.proofs.Firsts.{Found, first_is}
use Rattle.barrier_rule.specs.Judgement.{wanted, gap}

module _ (N : Net) (cases from to : ℕ) where
  pub gap_is : (r : Option ℕ) → MatchOption r ((k : ℕ) → from ≤ k → k < to → wanted N cases k ≡ false) (λ i. (from ≤ i) × (i < to) × (wanted N cases i ≡ true) × ((k : ℕ) → from ≤ k → k < i → wanted N cases k ≡ false)) → r ≡ gap N cases from to
  gap_is r h = first_is _ to r (answers r h)
    where
      answers : (r : Option ℕ) → MatchOption r ((k : ℕ) → from ≤ k → k < to → wanted N cases k ≡ false) (λ i. (from ≤ i) × (i < to) × (wanted N cases i ≡ true) × ((k : ℕ) → from ≤ k → k < i → wanted N cases k ≡ false)) → Found (λ k. leb from k && wanted N cases k) to r
      answers None h = λ t l. grind (arith, nat_tests, h t)
      answers (Some i) h = record { below = h.1; passes = grind (arith, nat_tests, h.0, h.2); least = λ t l. grind (arith, nat_tests, h.3 t) }
