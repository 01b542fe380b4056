-- A plant paper as a document: the two counts and the arcs, each with what its valve takes from or gives to its tank.
use Rattle.std.specs.Prelude.{ℕ, suc, ◌+◌, ◌*◌, ◌^◌, ◌<◌, ◌≤◌, Bool, true, false, cond, not, ◌&&◌, List, [], ◌∷◌, map, length, ◌==◌, nat_lt}
use Rattle.std.specs.List.{AllByRecursion}
use Rattle.plant.specs.Limits.{most_tanks, most_valves, most_weight}
use Rattle.plant.specs.Net.{Net}
use Rattle.words.specs.Words.{bytes, field, kind}
use Rattle.paper.specs.Limits.{most_plant_words}

-- an outlet arc gives to its tank, an intake arc takes from it
pub record Arc : Type 0 where
  pub gives : Bool
  pub valve : ℕ
  pub tank : ℕ
  pub weight : ℕ

pub record PlantDocument : Type 0 where
  pub tanks : ℕ
  pub valves : ℕ
  pub arcs : List Arc

-- an intake arc is a word of kind 2, an outlet arc one of kind 3
abbrev pub arc_kind : Bool → ℕ
arc_kind gives = cond gives 3 2

-- arcs rise by kind, valve and tank; a valve and a tank are below 64, so this number rises with them
abbrev pub arc_key : Arc → ℕ
arc_key a = (arc_kind a.gives * 64 + a.valve) * 64 + a.tank

abbrev pub RisingArcs : ℕ → List Arc → Type 0
RisingArcs least [] = Unit {0}
RisingArcs least (a ∷ more) = (least ≤ arc_key a) × RisingArcs (suc (arc_key a)) more

-- an arc of a plant with so many tanks and valves
pub record ArcFits (tanks valves : ℕ) (a : Arc) : Type 0 where
  pub valve_there : a.valve < valves
  pub tank_there : a.tank < tanks
  pub some : 1 ≤ a.weight
  pub few : a.weight ≤ most_weight

-- a document that can be written as a plant paper
pub record PlantFormed (d : PlantDocument) : Type 0 where
  pub some_tanks : 1 ≤ d.tanks
  pub few_tanks : d.tanks ≤ most_tanks
  pub some_valves : 1 ≤ d.valves
  pub few_valves : d.valves ≤ most_valves
  pub arcs_fit : AllByRecursion (ArcFits d.tanks d.valves) d.arcs
  pub arcs_rise : RisingArcs 0 d.arcs
  pub few_words : suc (length d.arcs) ≤ most_plant_words

-- writing: a head word of kind 1 with the counts, and a word for each arc
abbrev pub plant_head : PlantDocument → ℕ
plant_head d = 2 ^ 28 + d.tanks * 2 ^ 7 + d.valves

abbrev pub arc_word : Arc → ℕ
arc_word a = arc_kind a.gives * 2 ^ 28 + a.valve * 2 ^ 22 + a.tank * 2 ^ 16 + a.weight

abbrev pub plant_words : PlantDocument → List ℕ
plant_words d = plant_head d ∷ map arc_word d.arcs

abbrev pub plant_paper : PlantDocument → List ℕ
plant_paper d = bytes (plant_words d)

-- reading: what the words say, whether they are well formed or not
abbrev pub arc_of : ℕ → Arc
arc_of w = record { gives = (kind w == 3); valve = field w 22 6; tank = field w 16 6; weight = field w 0 10 }

abbrev pub plant_document : List ℕ → PlantDocument
plant_document [] = record { tanks = 0; valves = 0; arcs = [] }
plant_document (h ∷ ws) = record { tanks = field h 7 7; valves = field h 0 7; arcs = map arc_of ws }

-- whether an arc is the one of this side, valve and tank
abbrev pub sits : Bool → ℕ → ℕ → Arc → Bool
sits gives t r a = cond gives a.gives (not a.gives) && (a.valve == t && a.tank == r)

-- the weight of that arc; one that is not on the paper weighs 0
abbrev pub weight_in : Bool → List Arc → ℕ → ℕ → ℕ
weight_in gives [] t r = 0
weight_in gives (a ∷ more) t r = cond (sits gives t r a) a.weight (weight_in gives more t r)

-- the plant of the paper: all its valves are open, and beyond the counts there is nothing
abbrev pub plant_of : PlantDocument → Net
plant_of d = record {
  tanks = d.tanks;
  valves = d.valves;
  opens = λ t. nat_lt t d.valves;
  intake = λ t r. cond (nat_lt t d.valves && nat_lt r d.tanks) (weight_in false d.arcs t r) 0;
  outlet = λ t r. cond (nat_lt t d.valves && nat_lt r d.tanks) (weight_in true d.arcs t r) 0;
}
