-- The tables that `array::from_fn` makes of markings.
use Rattle.std.proofs.Common.{ℕ, ◌<◌, ◌≤◌, List, get_or, ⊎_elim, arith}
use Rattle.std.proofs.lemmas.List.{get_or_past}
use Rattle.std.proofs.lemmas.Bool.{cases_lt}
use Rattle.std.specs.Fn.{Mut, Called}
use Rattle.std.specs.Array.{IsFromFnResult}
use Rattle.plant.specs.Limits.{most_tanks}
use Rattle.plant.specs.Walk.{Marking}
use Rattle.walks.proofs.Ranges.{Gives, made_at}
use Rattle.lines.specs.Tables.{Tabulates}

-- a table made so from a marking, and that it keeps the marking's limit
module _ {F : Type 0} {g : Mut F (ℕ × Unit {0}) ℕ} {f : F} {xs : List ℕ} (m : Marking) (made : IsFromFnResult g f xs most_tanks) (calls : Gives (λ f r x q. Called g f (r, tt) x q) f m) where
  pub tabulated : Tabulates xs m
  tabulated r l = made_at m made calls r 0 l

  pub tabulated_small : (most : ℕ) → ((r : ℕ) → m r ≤ most) → (r : ℕ) → get_or xs r 0 ≤ most
  tabulated_small most small r =
      ⊎_elim
      (λ (l : r < most_tanks). rw (tabulated r l) (small r))
      (λ (l : most_tanks ≤ r). rw (get_or_past xs r 0 (omega (arith, made.long))) (omega arith))
      (cases_lt r most_tanks)
