-- The judgement of totals on a plant: the first of the four conditions that fails, at its lowest place.
use Rattle.std.specs.Prelude.{ℕ, ◌+◌, ◌*◌, cond, not, List, [], ◌∷◌, Some, None, Ok, Option, Result, ◌==◌}
use Rattle.plant.specs.Net.{Net, turned}
use Rattle.plant.specs.Walk.{Firing, held}
use Rattle.plant.specs.Firings.{given, named}
use Rattle.starting.specs.Starting.{first_below, left_out}
use Rattle.paper.specs.Totals.{TotalsDocument}
use Rattle.weighing.specs.declared.faults.Verdict.{Verdict}
use Rattle.weighing.specs.declared.faults.Verdict.TheVariants.{Joined}
use Rattle.weighing.specs.declared.faults.TotalsFault.{TotalsFault}
use Rattle.weighing.specs.declared.faults.TotalsFault.TheVariants.{Closed, Unbalanced, NoStart, NoEnd}
use Rattle.words.specs.Faults.{refusing}

-- the word, counted from `at`, of the first total whose valve is closed
abbrev pub closed_at : Net → ℕ → List Firing → Option ℕ
closed_at N at [] = None
closed_at N at (f ∷ fs) = cond (N.opens f.valve) (closed_at N (at + 1) fs) (Some at)

-- one side of a tank's balance: the divisor times what the filling holds, and what the totals give; the other side is the same
-- of the target on the turned plant, which gives what the plant takes
abbrev pub balance_side : Net → List ℕ → TotalsDocument → ℕ → ℕ
balance_side N A d r = d.divisor * held A r + given N d.totals r

-- the first tank whose two sides differ
abbrev pub unbalanced : Net → List ℕ → List ℕ → TotalsDocument → Option ℕ
unbalanced N A B d = first_below N.tanks (λ r. not (balance_side N A d r == balance_side (turned N) B d r))

-- the first total is word 1 of its paper
abbrev pub judged : Net → List ℕ → List ℕ → TotalsDocument → Result Verdict TotalsFault
judged N A B d =
    refusing (closed_at N 1 d.totals) Closed (
    refusing (unbalanced N A B d) Unbalanced (
    refusing (left_out N (held A) (named d.totals)) NoStart (
    refusing (left_out (turned N) (held B) (named d.totals)) NoEnd (
    Ok Joined))))
