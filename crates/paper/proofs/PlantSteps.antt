-- The steps of the plant form: which words it takes as a head or as an arc, and what they lead to.
use Rattle.std.proofs.Common.{◌≡◌, ℕ, ◌+◌, ◌/◌, ◌^◌, ◌<◌, ◌≤◌, ◌⊎◌, List, ◌∷◌, Ok, arith}
use Rattle.std.proofs.lemmas.Bool.Decides.{nat_tests}
use Rattle.plant.specs.Limits.{most_tanks, most_valves}
use Rattle.words.specs.Words.{kind, field}
use Rattle.paper.specs.declared.plant_form.PlantForm.{PlantForm}
use Rattle.paper.specs.declared.plant_form.PlantForm.TheVariants.{Head, Arcs}
use Rattle.paper.specs.Runs.{run}
use Rattle.paper.specs.PlantForm.{plant_step}
use Rattle.paper.proofs.Steps.{through}

abbrev pub arcs : ℕ → ℕ → ℕ → PlantForm
arcs tanks valves least = Arcs (record { tanks = tanks; valves = valves }) least

pub record HeadWord (w : ℕ) : Type 0 where
  pub kind_is : kind w ≡ 1
  pub plain : field w 14 14 ≡ 0
  pub some_tanks : 1 ≤ field w 7 7
  pub few_tanks : field w 7 7 ≤ most_tanks
  pub some_valves : 1 ≤ field w 0 7
  pub few_valves : field w 0 7 ≤ most_valves

pub record ArcWord (tanks valves least w : ℕ) : Type 0 where
  pub kind_is : (kind w ≡ 2) ⊎ (kind w ≡ 3)
  pub plain : field w 10 6 ≡ 0
  pub valve_there : field w 22 6 < valves
  pub tank_there : field w 16 6 < tanks
  pub some : 1 ≤ field w 0 10
  pub rises : least ≤ w / 2 ^ 16

pub head_taken : (at w : ℕ) (s : PlantForm) → plant_step Head at w ≡ Ok s → HeadWord w × (s ≡ arcs (field w 7 7) (field w 0 7) 0)
head_taken at w s p = (
  record {
    kind_is = grind (arith, nat_tests);
    plain = grind (arith, nat_tests);
    some_tanks = grind (arith, nat_tests);
    few_tanks = grind (arith, nat_tests);
    some_valves = grind (arith, nat_tests);
    few_valves = grind (arith, nat_tests);
  },
  grind (arith, nat_tests),
)

pub arc_taken : (tanks valves least at w : ℕ) (s : PlantForm) → plant_step (arcs tanks valves least) at w ≡ Ok s → ArcWord tanks valves least w × (s ≡ arcs tanks valves (w / 2 ^ 16 + 1))
arc_taken tanks valves least at w s p = (
  record {
    kind_is = grind (arith, nat_tests);
    plain = grind (arith, nat_tests);
    valve_there = grind (arith, nat_tests);
    tank_there = grind (arith, nat_tests);
    some = grind (arith, nat_tests);
    rises = grind (arith, nat_tests);
  },
  grind (arith, nat_tests),
)

pub takes_head : (at w : ℕ) → HeadWord w → plant_step Head at w ≡ Ok (arcs (field w 7 7) (field w 0 7) 0)
takes_head at w h = grind (arith, nat_tests)

pub takes_arc : (tanks valves least at w : ℕ) → ArcWord tanks valves least w → plant_step (arcs tanks valves least) at w ≡ Ok (arcs tanks valves (w / 2 ^ 16 + 1))
takes_arc tanks valves least at w h = grind (arith, nat_tests)

-- the head is within the limits, and the words after it are arcs
pub headed : (h : ℕ) (ws : List ℕ) (s : PlantForm) → run plant_step Head 0 (h ∷ ws) ≡ Ok s → HeadWord h × (run plant_step (arcs (field h 7 7) (field h 0 7) 0) 1 ws ≡ Ok s)
headed h ws s p =
    let a = through (plant_step Head 0 h) _ _ p in
    let b = head_taken 0 h a.0 a.1 in
    (b.0, rw b.1 at a.2)

-- the first word's place in the order, and the run of the words after it
pub ordered : (tanks valves least at w : ℕ) (ws : List ℕ) (s : PlantForm) → run plant_step (arcs tanks valves least) at (w ∷ ws) ≡ Ok s → (least ≤ w / 2 ^ 16) × (run plant_step (arcs tanks valves (w / 2 ^ 16 + 1)) (at + 1) ws ≡ Ok s)
ordered tanks valves least at w ws s p =
    let a = through (plant_step (arcs tanks valves least) at w) _ _ p in
    let b = arc_taken tanks valves least at w a.0 a.1 in
    (b.0.rises, rw b.1 at a.2)
