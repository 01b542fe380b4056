-- What a paper plant means, and that the arcs it searches rise.
use Rattle.std.specs.Prelude.{ℕ, ◌/◌, ◌^◌, ◌<◌, ◌≤◌, cond, List, [], ◌∷◌, map, length, Some, None, Option, ◌==◌, slice_index}
use Rattle.plant.specs.Net.{Net}
use Rattle.words.specs.Words.{kind}
use Rattle.paper.specs.Arcs.{arc_of, plant_of}

-- each arc's kind, valve and tank, its top 16 bits, are above those of the arcs before it
abbrev pub Rises : List ℕ → Type 0
Rises ws = (i j : ℕ) → i < j → j < length ws → slice_index ws i / 2 ^ 16 < slice_index ws j / 2 ^ 16

-- each word is an intake arc or an outlet arc
abbrev pub Sided : List ℕ → Type 0
Sided ws = (i : ℕ) → i < length ws → (2 ≤ kind (slice_index ws i)) × (kind (slice_index ws i) ≤ 3)

-- the plant with so many tanks and valves, and with the arcs that these words are
abbrev pub arcs_plant : ℕ → ℕ → List ℕ → Net
arcs_plant tanks valves ws = plant_of (record { tanks = tanks; valves = valves; arcs = map arc_of ws })

-- the arc word whose top 16 bits are the key, or None; the first one where there are several
abbrev pub find_arc : ℕ → List ℕ → Option ℕ
find_arc key [] = None
find_arc key (w ∷ ws) = cond (w / 2 ^ 16 == key) (Some w) (find_arc key ws)
