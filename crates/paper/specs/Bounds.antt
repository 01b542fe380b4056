-- A paper plant keeps the limits. These are proofs; they stand here because each plant has to show them with its meaning.
use Rattle.std.specs.Prelude.{ℕ, ◌/◌, ◌^◌, ◌≤◌, Bool, true, false, cond, ◌&&◌, List, [], ◌∷◌, map, nat_lt}
use Rattle.std.proofs.Common.{mod-lt, le_of_suc-le-suc, lit<, lit≤}
use Rattle.std.proofs.lemmas.Bool.{cond_both, cond-false, and_left, and_right, le-ltb}
use Rattle.plant.specs.Limits.{most_tanks, most_valves, most_weight}
use Rattle.plant.specs.Net.{Bounded}
use Rattle.words.specs.Words.{field}
use Rattle.paper.specs.Arcs.{arc_of, sits, weight_in}
use Rattle.paper.specs.Plants.{arcs_plant}

weight_small : (gives : Bool) (ws : List ℕ) (t r : ℕ) → weight_in gives (map arc_of ws) t r ≤ most_weight
weight_small gives [] t r = lit≤ tt
weight_small gives (w ∷ ws) t r =
    cond_both (sits gives t r (arc_of w)) (field w 0 10) (weight_in gives (map arc_of ws) t r) (λ x. x ≤ most_weight)
    (λ e. le_of_suc-le-suc (mod-lt (w / 2 ^ 0) (lit< tt)))
    (λ e. weight_small gives ws t r)

inside_small : (b : Bool) (x : ℕ) → x ≤ most_weight → cond b x 0 ≤ most_weight
inside_small true x h = h
inside_small false x h = lit≤ tt

pub paper_bounded : (tanks valves : ℕ) (ws : List ℕ) → tanks ≤ most_tanks → valves ≤ most_valves → Bounded (arcs_plant tanks valves ws)
paper_bounded tanks valves ws few_tanks few_valves = record {
  few_tanks = few_tanks;
  few_valves = few_valves;
  closed_beyond = λ t h. le-ltb t valves h;
  intake_small = λ t r. inside_small (nat_lt t valves && nat_lt r tanks) _ (weight_small false ws t r);
  outlet_small = λ t r. inside_small (nat_lt t valves && nat_lt r tanks) _ (weight_small true ws t r);
  no_intake_beyond_valves = λ t r h. cond-false _ _ 0 (and_left (nat_lt t valves) (nat_lt r tanks) (le-ltb t valves h));
  no_outlet_beyond_valves = λ t r h. cond-false _ _ 0 (and_left (nat_lt t valves) (nat_lt r tanks) (le-ltb t valves h));
  no_intake_beyond_tanks = λ t r h. cond-false _ _ 0 (and_right (nat_lt t valves) (nat_lt r tanks) (le-ltb r tanks h));
  no_outlet_beyond_tanks = λ t r h. cond-false _ _ 0 (and_right (nat_lt t valves) (nat_lt r tanks) (le-ltb r tanks h));
}
