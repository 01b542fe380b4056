-- Every plant of this crate keeps the limits. These are proofs; they stand here because each plant has to show them with its meaning.
use Rattle.std.specs.Prelude.{◌≡◌, ℕ, ◌+◌, ◌%◌, ◌<◌, ◌≤◌, Bool, true, false, cond, not, ◌&&◌, ◌==◌, nat_le, nat_lt, refl}
use Rattle.std.proofs.Common.{ap, subst, le_trans, lt_irrefl, lt_of_lt_of_le, mod-lt, lit<, lit≤}
use Rattle.std.proofs.lemmas.Bool.{cond_both, cond-false, and_parts, and_left, leb-true, ltb-true, eqb-true, le-ltb}
use Rattle.plant.specs.Limits.{most_tanks, most_weight, least_ring}
use Rattle.plant.specs.Net.{Net, Bounded, empty, turned, narrowed}
use Rattle.plant.specs.Ring.{ring, ring_main}

pub turned_bounded : {N : Net} → Bounded N → Bounded (turned N)
turned_bounded b = record {
  few_tanks = b.few_tanks;
  few_valves = b.few_valves;
  closed_beyond = b.closed_beyond;
  intake_small = b.outlet_small;
  outlet_small = b.intake_small;
  no_intake_beyond_valves = b.no_outlet_beyond_valves;
  no_outlet_beyond_valves = b.no_intake_beyond_valves;
  no_intake_beyond_tanks = b.no_outlet_beyond_tanks;
  no_outlet_beyond_tanks = b.no_intake_beyond_tanks;
}

pub narrowed_bounded : (shut : ℕ → Bool) {N : Net} → Bounded N → Bounded (narrowed shut N)
narrowed_bounded shut b = record {
  few_tanks = b.few_tanks;
  few_valves = b.few_valves;
  closed_beyond = λ t h. ap (λ o. o && not (shut t)) (b.closed_beyond t h);
  intake_small = b.intake_small;
  outlet_small = b.outlet_small;
  no_intake_beyond_valves = b.no_intake_beyond_valves;
  no_outlet_beyond_valves = b.no_outlet_beyond_valves;
  no_intake_beyond_tanks = b.no_intake_beyond_tanks;
  no_outlet_beyond_tanks = b.no_outlet_beyond_tanks;
}

pub empty_bounded : Bounded empty
empty_bounded = record {
  few_tanks = lit≤ tt;
  few_valves = lit≤ tt;
  closed_beyond = λ t h. refl;
  intake_small = λ t r. lit≤ tt;
  outlet_small = λ t r. lit≤ tt;
  no_intake_beyond_valves = λ t r h. refl;
  no_outlet_beyond_valves = λ t r h. refl;
  no_intake_beyond_tanks = λ t r h. refl;
  no_outlet_beyond_tanks = λ t r h. refl;
}

-- a weight of 1 where a test passes
one_small : (b : Bool) → cond b 1 0 ≤ most_weight
one_small true = lit≤ tt
one_small false = lit≤ tt

-- no weight where the tank is beyond the ring: the tank s that a valve touches is inside it
none_beyond : (n r s : ℕ) (b : Bool) → n ≤ r → (b ≡ true → s < n) → ◌≡◌ {A = ℕ} (cond (b && r == s) 1 0) 0
none_beyond n r s b h k =
    cond_both {A = ℕ} (b && r == s) 1 0 (λ x. x ≡ 0)
    (λ e. let both = and_parts b (r == s) e in absurd (lt_irrefl s (lt_of_lt_of_le (k both.0) (subst (λ x. n ≤ x) (eqb-true r s both.1) h))))
    (λ e. refl)

pub ring_bounded : (n : ℕ) → least_ring ≤ n → n ≤ most_tanks → Bounded (ring n)
ring_bounded n some few = record {
  few_tanks = few;
  few_valves = few;
  closed_beyond = λ t h. le-ltb t n h;
  intake_small = λ t r. one_small (nat_lt t n && r == t);
  outlet_small = λ t r. one_small (nat_lt t n && r == (t + 1) % n);
  no_intake_beyond_valves = λ t r h. cond-false _ 1 0 (and_left (nat_lt t n) (r == t) (le-ltb t n h));
  no_outlet_beyond_valves = λ t r h. cond-false _ 1 0 (and_left (nat_lt t n) (r == (t + 1) % n) (le-ltb t n h));
  no_intake_beyond_tanks = λ t r h. none_beyond n r t (nat_lt t n) h (λ e. ltb-true t n e);
  no_outlet_beyond_tanks = λ t r h. none_beyond n r ((t + 1) % n) (nat_lt t n) h (λ e. mod-lt (t + 1) (le_trans (lit< tt) some));
}

pub ring_main_bounded : (n : ℕ) → Bounded (ring_main n)
ring_main_bounded n =
    cond_both (nat_le least_ring n && nat_le n most_tanks) (ring n) empty Bounded
    (λ e. let both = and_parts (nat_le least_ring n) (nat_le n most_tanks) e in ring_bounded n (leb-true _ _ both.0) (leb-true _ _ both.1))
    (λ e. empty_bounded)
