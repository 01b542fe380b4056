use Rattle.std.proofs.Common.{min, arith, rules, lit≤}
use Rattle.plant.specs.Limits.{most_amount}
use Rattle.plant.specs.Walk.{held}
use Rattle.lines.specs.Tables.{Tabulates}
use Rattle.lines.proofs.Tabling.{tabulated, tabulated_small}
use Rattle.lines.proofs.amounts.Amounts.of_filling.Goals as goal

pub invariant_of-result : goal.invariant_of-result
invariant_of-result c = record {
  small = tabulated_small (λ r. min (held c.args.filling.now r) most_amount) c.from_fn.ensures.items (λ r x q k. search rules) _ (λ r. omega arith);
  most_small = lit≤ tt;
}

pub returns : goal.returns
returns c =
    let all : Tabulates c.from_fn.result (λ r. min (held c.args.filling.now r) most_amount) = tabulated _ c.from_fn.ensures.items (λ r x q k. search rules) in
    record { all = all; exact = λ small r l. omega (arith, all r l, small r l) }
