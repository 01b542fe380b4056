-- The judgement of a barrier on a plant: the three pairs of fillings first, then the steps in their order.
use Rattle.std.specs.Prelude.{ℕ, suc, ◌+◌, ◌/◌, ◌%◌, Bool, cond, not, ◌&&◌, List, [], ◌∷◌, length, None, Ok, Err, Option, Result, nat_le, nat_lt}
use Rattle.plant.specs.Net.{Net}
use Rattle.plant.specs.Walk.{Marking}
use Rattle.words.specs.Faults.{onward, refusing}
use Rattle.starting.specs.Starting.{first_below}
use Rattle.barriers.specs.Lines.{Barrier, line_at, case_at}
use Rattle.barriers.specs.Steps.{Step, match_at}
use Rattle.barriers.specs.Tests.{holds_barrier?, good?}
use Rattle.barrier_paper.specs.Document.{BarrierDocument, barrier_of, step_key, joined, case_words}
use Rattle.barrier_rule.specs.declared.faults.BarrierFault.{BarrierFault}
use Rattle.barrier_rule.specs.declared.faults.BarrierFault.TheVariants.{FailsSource, FailsTarget, HoldsAcross, Missing, BadMatch}

-- the place of a step, as its key has it: 1,024 if it goes backward, 64 for each case before the one it leaves, and its valve
abbrev pub most_places : ℕ
most_places = 2048

-- a step has to stand at a place: the case is there and the valve is open
abbrev pub wanted : Net → ℕ → ℕ → Bool
wanted N cases k = nat_lt (k / 64 % 16) cases && N.opens (k % 64)

-- the first such place from one place on, up to another
abbrev pub gap : Net → ℕ → ℕ → ℕ → Option ℕ
gap N cases from to = first_below to (λ k. nat_le from k && wanted N cases k)

-- whether match k of a step is good
abbrev pub matches? : Net → Barrier → Step → ℕ → Bool
matches? N β s k = good? N s.way s.valve (line_at (case_at β s.from) (match_at s k).line) (line_at (case_at β s.to) k) (match_at s k).p (match_at s k).q

-- the first match that is not good; those of a closed valve's step are not weighed
abbrev pub first_bad : Net → Barrier → Step → Option ℕ
first_bad N β s = cond (N.opens s.valve) (first_below (length s.matches) (λ k. not (matches? N β s k))) None

-- one step, word `at` of its paper, where every place before `next` has been judged; the answer is the next place to judge
abbrev pub step_judged : Net → Barrier → ℕ → ℕ → Step → Result ℕ BarrierFault
step_judged N β next at s =
    refusing (gap N (length β) next (step_key s)) Missing (
    refusing (first_bad N β s) (λ k. BadMatch (at + suc k)) (
    Ok (suc (step_key s))))

-- the steps from one on
abbrev pub steps_judged : Net → Barrier → ℕ → ℕ → List Step → Result (Unit {0}) BarrierFault
steps_judged N β next at [] = refusing (gap N (length β) next most_places) Missing (Ok tt)
steps_judged N β next at (s ∷ ss) = onward (step_judged N β next at s) (λ after. steps_judged N β after (at + suc (length s.matches)) ss)

-- the whole barrier, from one marking to another; the first step is the first word after the cases
abbrev pub barrier_judged : Net → Marking → Marking → BarrierDocument → Result (Unit {0}) BarrierFault
barrier_judged N m m' d =
    cond (holds_barrier? N.tanks (barrier_of d) m m) (
    cond (holds_barrier? N.tanks (barrier_of d) m' m') (
    cond (holds_barrier? N.tanks (barrier_of d) m m') (Err HoldsAcross)
    (steps_judged N (barrier_of d) 0 (length (joined case_words d.cases)) d.steps))
    (Err FailsTarget))
    (Err FailsSource)
