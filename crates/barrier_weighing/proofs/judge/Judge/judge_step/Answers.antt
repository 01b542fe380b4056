use Rattle.std.proofs.Common.{◌≡◌, ℕ, ◌+◌, ◌^◌, ◌<◌, length, Some, None, Ok, Option, refl, arith, rules}
use Rattle.std.proofs.lemmas.List.{length-map}
use Rattle.plant.specs.Net.{Net}
use Rattle.words.specs.Words.{words}
use Rattle.words.specs.Faults.{refusing}
use Rattle.words.proofs.Laws.{length_words}
use Rattle.barriers.specs.Lines.{Barrier}
use Rattle.barriers.specs.Steps.{Step}
use Rattle.barrier_paper.specs.Document.{barrier_of, match_said}
use Rattle.barrier_paper.specs.OfBarrier.{barrier_said}
use Rattle.barrier_rule.specs.declared.faults.BarrierFault.TheVariants.{Missing, BadMatch}
use Rattle.barrier_rule.specs.Judgement.{gap, first_bad, step_judged}
use Rattle.barrier_weighing.specs.OfMatches.{whole_step}
use Rattle.barrier_weighing.proofs.Steps.{bad_below, step_answer}
use Rattle.barrier_weighing.proofs.judge.Judge.judge_step.Given as given
use Rattle.barrier_weighing.proofs.judge.Judge.judge_step.Goals as goal
use Rattle.barrier_weighing.proofs.judge.Judge.judge_step.Goals.{After-field-place}

module _ (g : given.Over) (c : After-field-place g) where
  abbrev N : Net
  N = g.P.Plant.meaning c.args.self.now.plant.now

  abbrev β : Barrier
  β = barrier_of (barrier_said c.args.self.now.paper.now)

  abbrev step : Step
  step = whole_step c.args.word.bits (words c.args.matches.now)

  -- a bad match is one of the words
  below : (k : ℕ) → Some k ≡ first_bad N β step → k < 2 ^ 62
  below k e =
      let small : length c.args.matches.now < 2 ^ 64 = search rules in
      omega (arith, bad_below N β step k e, length-map (words c.args.matches.now) match_said, length_words c.args.matches.now)

  answer : (o o' : Option ℕ) → o ≡ gap N (length β) c.args.next c.field-place.result → o' ≡ first_bad N β step
      → refusing o Missing (refusing o' (λ k. BadMatch (c.args.word.place + (k + 1))) (Ok (c.field-place.result + 1))) ≡ step_judged N β c.args.next c.args.word.place step
  answer o o' = step_answer N β c.args.next c.args.word.place c.args.word.bits (words c.args.matches.now) c.field-place.result o o' c.field-place.ensures

pub returns-in-Some : goal.returns-in-Some
returns-in-Some g c = answer g (goal.at.returns-in-Some g c).After-field-place (Some c.in-Some.missing) _ c.in-Some.ensures refl

pub overflow_add-result : goal.overflow_add-result
overflow_add-result g c = omega (arith, below g (goal.at.overflow_add-result g c).After-field-place c.in-Some-first_bad.k c.in-Some-first_bad.ensures)

pub overflow_add-result-in-Some-first_bad : goal.overflow_add-result-in-Some-first_bad
overflow_add-result-in-Some-first_bad g c =
    omega (arith, c.requires.small, below g (goal.at.overflow_add-result-in-Some-first_bad g c).After-field-place c.in-Some-first_bad.k c.in-Some-first_bad.ensures)

pub returns-in-Some-first_bad : goal.returns-in-Some-first_bad
returns-in-Some-first_bad g c =
    answer g (goal.at.returns-in-Some-first_bad g c).After-field-place None (Some c.in-Some-first_bad.k) c.in_default.ensures c.in-Some-first_bad.ensures

pub returns : goal.returns
returns g c = answer g (goal.at.returns g c).After-field-place None None c.in_default.ensures c.in_default-first_bad.ensures
