use Rattle.std.proofs.Common.{refl}
use Rattle.worked.proofs.totals_cases_are_judged.Goals as goal

pub returns : goal.returns
returns c = record {
  balanced_but_cannot_start = refl;
  joined_by_one_unit_more = refl;
  half_a_charge_moves = refl;
  empty_walk_joins = refl;
  balanced_but_cannot_end = refl;
}
