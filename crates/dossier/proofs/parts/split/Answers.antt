use Rattle.std.proofs.Common.{◌≡◌, ap, ◌∙◌, rules, tests}
use Rattle.dossier.specs.Parts.{before, of_kind, run_of, after, source_kind, target_kind, from_target}
use Rattle.dossier.proofs.parts.split.Goals as goal
use Rattle.dossier.proofs.parts.split.Goals.{After-cut-3}

after_source : (c : After-cut-3) → c.cut-2.result.1.now ≡ from_target c.args.input.now
after_source c =
    c.cut-2.ensures.rest (of_kind source_kind) (λ w b k. search (rules, tests))
    ∙ ap (after (of_kind source_kind)) (c.cut.ensures.rest (before source_kind) (λ w b k. search (rules, tests)))

pub returns-clause-target : goal.returns-clause-target
returns-clause-target c =
    c.cut-3.ensures.run (of_kind target_kind) (λ w b k. search (rules, tests)) ∙ ap (run_of (of_kind target_kind)) (after_source (goal.at.returns-clause-target c).After-cut-3)

pub returns-clause-evidence : goal.returns-clause-evidence
returns-clause-evidence c =
    c.cut-3.ensures.rest (of_kind target_kind) (λ w b k. search (rules, tests)) ∙ ap (after (of_kind target_kind)) (after_source (goal.at.returns-clause-evidence c).After-cut-3)
