-- The papers of the worked cases, as words.
use Rattle.std.specs.Prelude.{ℕ, List, [], ◌∷◌}
use Rattle.plant.specs.Net.{Net}
use Rattle.words.specs.Words.{bytes}
use Rattle.paper.specs.PlantForm.{plant_read, plant_made}

-- the plant that a plant paper of these words makes
abbrev pub plant_on : List ℕ → Net
plant_on ws = plant_made (plant_read (bytes ws))

-- three tanks and two valves: valve 0 turns syrup of tank 0 into tank 1, valve 1 takes from tanks 1 and 2 and gives 2 to tank 2
abbrev pub mixer : List ℕ
mixer = 0x10000182 ∷ 0x20000001 ∷ 0x20410001 ∷ 0x20420001 ∷ 0x30010001 ∷ 0x30420002 ∷ []

-- two tanks and one valve, which takes 2 from tank 0 and gives 2 to tank 1
abbrev pub double_pump : List ℕ
double_pump = 0x10000101 ∷ 0x20000002 ∷ 0x30010002 ∷ []

-- one tank and one valve, which takes 2 and gives 1 back
abbrev pub leaky : List ℕ
leaky = 0x10000081 ∷ 0x20000002 ∷ 0x30000001 ∷ []

-- divisor 1, and a total of 2 for each of the valves 0 and 1
abbrev pub two_and_two : List ℕ
two_and_two = bytes (0x40000001 ∷ 0x50000002 ∷ 0x50400002 ∷ [])

-- divisor 2, and a total of 1 for valve 0
abbrev pub half_charge : List ℕ
half_charge = bytes (0x40000002 ∷ 0x50000001 ∷ [])

-- divisor 1, and a total of 1 for valve 0
abbrev pub one_charge : List ℕ
one_charge = bytes (0x40000001 ∷ 0x50000001 ∷ [])

-- divisor 1, and no totals
abbrev pub no_totals : List ℕ
no_totals = bytes (0x40000001 ∷ [])
