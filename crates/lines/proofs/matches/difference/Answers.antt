use Rattle.std.proofs.Common.{◌≡◌, ℕ, ◌*◌, ◌^◌, ◌<◌, ◌≤◌, ℤ, pos, ◌-ℤ◌, ◌*ℤ◌, nat_abs, mul-le-mul, refl, ◌∙◌, arith, w64}
use Rattle.std.proofs.lemmas.Int.{ints, to_z-of_z, unsigned_abs-mul}
use Rattle.lines.specs.Limits.{most_valve_side}
use Rattle.lines.proofs.Adding.{wide}
use Rattle.lines.proofs.matches.difference.Goals as goal

module _ (k : ℕ) (z : ℤ) (hk : k < 2 ^ 16) (hz : nat_abs z ≤ most_valve_side) where
  small : nat_abs (pos k *ℤ z) ≤ 65535 * most_valve_side
  small = let k_is : k ≤ 65535 = omega arith in rw unsigned_abs-mul (mul-le-mul k_is hz)

  multiple : (f : ℤ) → f ≡ pos k → wide (wide f *ℤ wide z) ≡ pos k *ℤ z
  multiple f e =
      let ef : wide f ≡ pos k = omega (arith, ints) in
      let ez : wide z ≡ z = omega (arith, ints) in
      let back : wide (pos k *ℤ z) ≡ pos k *ℤ z = omega (arith, ints, small) in
      rw (ef, ez, back) refl

is : (c : goal.After-from-2) → wide (wide c.from.result *ℤ wide c.args.x) -ℤ wide (wide c.from-2.result *ℤ wide c.args.y) ≡ pos c.args.a *ℤ c.args.x -ℤ pos c.args.b *ℤ c.args.y
is c = rw (multiple c.args.a c.args.x (omega arith) c.requires.first _ c.from.ensures, multiple c.args.b c.args.y (omega arith) c.requires.second _ c.from-2.ensures) refl

pub overflow_sub-result : goal.overflow_sub-result
overflow_sub-result c = rw (is c) (omega (arith, ints, small c.args.a c.args.x (omega arith) c.requires.first, small c.args.b c.args.y (omega arith) c.requires.second))

pub returns : goal.returns
returns c = to_z-of_z w64 _ (overflow_sub-result c) ∙ is c
