use Rattle.std.proofs.Common.{ltb, ◌∙◌, rules, tests}
use Rattle.std.proofs.lemmas.Iterator.{YieldsList-from_slice}
use Rattle.std.proofs.lemmas.Iterator.Search.{position_from_yields_List}
use Rattle.plant.specs.Limits.{most_amount}
use Rattle.weighing.proofs.Firsts.{position_first}
use Rattle.weighing.proofs.question.first_over.Goals as goal

pub returns-clause-is : goal.returns-clause-is
returns-clause-is c =
    position_from_yields_List (ltb most_amount) _ _ _ c.position.ensures.ran (YieldsList-from_slice c.args.filling.now cc) (λ x b q k. search (rules, tests))
    ∙ position_first (ltb most_amount) c.args.filling.now
