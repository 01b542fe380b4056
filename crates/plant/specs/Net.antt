-- What a plant means: its counts, which valves are open, and what each valve takes and gives.
use Rattle.std.specs.Prelude.{◌≡◌, ℕ, ◌≤◌, Bool, false, not, ◌&&◌}
use Rattle.plant.specs.Limits.{most_tanks, most_valves, most_weight}

-- in the literature a net: tanks are places, valves transitions, the weights Pre and Post
pub record Net : Type 0 where
  pub tanks : ℕ
  pub valves : ℕ
  pub opens : ℕ → Bool
  -- what a valve takes from a tank, and gives to it, for each unit fired: first the valve, then the tank
  pub intake : ℕ → ℕ → ℕ
  pub outlet : ℕ → ℕ → ℕ

-- the limits that every plant keeps; beyond its counts a valve is closed and a weight 0
pub record Bounded (N : Net) : Type 0 where
  pub few_tanks : N.tanks ≤ most_tanks
  pub few_valves : N.valves ≤ most_valves
  pub closed_beyond : (t : ℕ) → N.valves ≤ t → N.opens t ≡ false
  pub intake_small : (t r : ℕ) → N.intake t r ≤ most_weight
  pub outlet_small : (t r : ℕ) → N.outlet t r ≤ most_weight
  pub no_intake_beyond_valves : (t r : ℕ) → N.valves ≤ t → N.intake t r ≡ 0
  pub no_outlet_beyond_valves : (t r : ℕ) → N.valves ≤ t → N.outlet t r ≡ 0
  pub no_intake_beyond_tanks : (t r : ℕ) → N.tanks ≤ r → N.intake t r ≡ 0
  pub no_outlet_beyond_tanks : (t r : ℕ) → N.tanks ≤ r → N.outlet t r ≡ 0

-- the plant without tanks or valves
abbrev pub empty : Net
empty = record { tanks = 0; valves = 0; opens = λ t. false; intake = λ t r. 0; outlet = λ t r. 0 }

-- the plant with intake and outlet exchanged
abbrev pub turned : Net → Net
turned N = record { tanks = N.tanks; valves = N.valves; opens = N.opens; intake = N.outlet; outlet = N.intake }

-- the plant with the valves of a set closed as well
abbrev pub narrowed : (ℕ → Bool) → Net → Net
narrowed shut N = record { tanks = N.tanks; valves = N.valves; opens = λ t. N.opens t && not (shut t); intake = N.intake; outlet = N.outlet }
