-- The first valve of a set outside its greatest starting part.
use Rattle.std.proofs.Common.{◌≡◌, ℕ, Bool, true, false, not, ◌&&◌, Some, None, arith}
use Rattle.std.proofs.lemmas.Bool.{and_from, not_from_false, false_from_ne_true}
use Rattle.plant.specs.Net.{Net}
use Rattle.plant.specs.Walk.{Marking}
use Rattle.plant.specs.Starting.{Starts}
use Rattle.walks.specs.Rounds.{greatest}
use Rattle.walks.specs.Theorems.{Inside}
use Rattle.walks.proofs.Closure.{greatest_sound, greatest_complete, starts_all, all_starts}
use Rattle.starting.specs.Starting.{left_out}
use Rattle.starting.specs.LeftOut.{FirstOut}
use Rattle.starting.proofs.Firsts.{first_none, first_some, none_first, some_first}

module _ (N : Net) (m : Marking) (S : ℕ → Bool) where
  abbrev out : ℕ → Bool
  out t = S t && not (greatest N m S t)

  in_part : (t : ℕ) → out t ≡ false → S t ≡ true → greatest N m S t ≡ true
  in_part t h s = grind arith

  not_out : (t : ℕ) → (S t ≡ true → greatest N m S t ≡ true) → out t ≡ false
  not_out t h = grind arith

  module _ (inside : Inside N S) where
    -- no valve is left out exactly when the set starts
    pub left_none : left_out N m S ≡ None → Starts N m S
    left_none e = all_starts N m S inside (λ t s. in_part t (none_first out N.valves e t (inside t s)) s)

    pub none_left : Starts N m S → left_out N m S ≡ None
    none_left st = first_none out N.valves (λ t l. not_out t (starts_all N m S inside st t))

    -- the valve left out is the lowest one outside the union of the subsets that start
    pub left_some : (t : ℕ) → left_out N m S ≡ Some t → FirstOut N m S t
    left_some t e =
        let f = some_first out N.valves t e in
        record {
          member = grind (arith, f.passes);
          outside = λ i. grind (arith, f.passes, greatest_complete N m S inside t i);
          lowest = λ u l s. greatest_sound N m S inside u (in_part u (f.least u l) s);
        }

    pub some_left : (t : ℕ) → FirstOut N m S t → left_out N m S ≡ Some t
    some_left t f =
        let never = false_from_ne_true (greatest N m S t) (λ e. f.outside (greatest_sound N m S inside t e)) in
        first_some out N.valves t
        (record {
          below = inside t f.member;
          passes = and_from (S t) _ f.member (not_from_false _ never);
          least = λ u l. not_out u (λ s. greatest_complete N m S inside u (f.lowest u l s));
        })
