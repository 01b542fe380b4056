use Rattle.std.proofs.Common.{◌&&◌, not, ap, refl, ◌∙◌, rules, tests}
use Rattle.starting.specs.Starting.{marked}
use Rattle.starting.proofs.Firsts.{first_below_same}
use Rattle.starting.proofs.Ranges.{find_over}
use Rattle.starting.proofs.rounds.first_left_out.Goals as goal

pub returns : goal.returns
returns g c =
    let S = marked c.args.set.now in
    find_over (λ t. S t && not (marked c.greatest_start-start.result t)) refl c.counts.ensures.valves _ {r = c.find.result} c.find.ensures.ran (λ x b q k. search (rules, tests))
    ∙ first_below_same _ _ _ (λ t l. ap (λ b. S t && not b) (c.greatest_start-start.ensures.part t l))
