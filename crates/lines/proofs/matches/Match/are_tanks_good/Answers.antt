use Rattle.std.proofs.Common.{refl, rules, tests}
use Rattle.walks.proofs.Ranges.{all_over}
use Rattle.lines.proofs.matches.Match.are_tanks_good.Goals as goal

pub returns : goal.returns
returns c = all_over _ _ c.all.ensures.ran refl refl (λ x b q k. search (rules, tests))
