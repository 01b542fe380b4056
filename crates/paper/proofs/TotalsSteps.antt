-- The steps of the totals form: which words it takes as a head or as a total, and what they lead to.
use Rattle.std.proofs.Common.{◌≡◌, ℕ, ◌+◌, ◌<◌, ◌≤◌, List, ◌∷◌, Ok, arith}
use Rattle.std.proofs.lemmas.Bool.Decides.{nat_tests}
use Rattle.plant.specs.Limits.{most_divisor, most_total}
use Rattle.words.specs.Words.{kind, field}
use Rattle.paper.specs.declared.totals_form.TotalsForm.{TotalsForm}
use Rattle.paper.specs.declared.totals_form.TotalsForm.TheVariants.{Head, Totals}
use Rattle.paper.specs.Runs.{run}
use Rattle.paper.specs.TotalsForm.{totals_step}
use Rattle.paper.proofs.Steps.{through}

pub record HeadWord (w : ℕ) : Type 0 where
  pub kind_is : kind w ≡ 4
  pub plain : field w 20 8 ≡ 0
  pub some : 1 ≤ field w 0 20
  pub few : field w 0 20 ≤ most_divisor

pub record TotalWord (valves least w : ℕ) : Type 0 where
  pub kind_is : kind w ≡ 5
  pub plain : field w 20 2 ≡ 0
  pub valve_there : field w 22 6 < valves
  pub some : 1 ≤ field w 0 20
  pub few : field w 0 20 ≤ most_total
  pub rises : least ≤ field w 22 6

pub head_taken : (valves at w : ℕ) (s : TotalsForm) → totals_step (Head valves) at w ≡ Ok s → HeadWord w × (s ≡ Totals valves 0)
head_taken valves at w s p = (
  record {
    kind_is = grind (arith, nat_tests);
    plain = grind (arith, nat_tests);
    some = grind (arith, nat_tests);
    few = grind (arith, nat_tests);
  },
  grind (arith, nat_tests),
)

pub total_taken : (valves least at w : ℕ) (s : TotalsForm) → totals_step (Totals valves least) at w ≡ Ok s → TotalWord valves least w × (s ≡ Totals valves (field w 22 6 + 1))
total_taken valves least at w s p = (
  record {
    kind_is = grind (arith, nat_tests);
    plain = grind (arith, nat_tests);
    valve_there = grind (arith, nat_tests);
    some = grind (arith, nat_tests);
    few = grind (arith, nat_tests);
    rises = grind (arith, nat_tests);
  },
  grind (arith, nat_tests),
)

pub takes_head : (valves at w : ℕ) → HeadWord w → totals_step (Head valves) at w ≡ Ok (Totals valves 0)
takes_head valves at w h = grind (arith, nat_tests)

pub takes_total : (valves least at w : ℕ) → TotalWord valves least w → totals_step (Totals valves least) at w ≡ Ok (Totals valves (field w 22 6 + 1))
takes_total valves least at w h = grind (arith, nat_tests)

-- the head is within the limits, and the words after it are totals
pub headed : (valves h : ℕ) (ws : List ℕ) (s : TotalsForm) → run totals_step (Head valves) 0 (h ∷ ws) ≡ Ok s → HeadWord h × (run totals_step (Totals valves 0) 1 ws ≡ Ok s)
headed valves h ws s p =
    let a = through (totals_step (Head valves) 0 h) _ _ p in
    let b = head_taken valves 0 h a.0 a.1 in
    (b.0, rw b.1 at a.2)
