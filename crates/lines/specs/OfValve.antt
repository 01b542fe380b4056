-- The plant that the weights of one valve are, and the plants that they are read from.
use Rattle.std.specs.Prelude.{◌≡◌, ℕ, nat_lt}
use Rattle.plant.specs.Net.{Net}
use Rattle.plant.specs.Walk.{held}
use Rattle.barriers.specs.Lines.{Line}
use Rattle.barriers.specs.Steps.{Way, flow}
use Rattle.barriers.specs.Tests.{good?}
use Rattle.lines.specs.Tables.{Tabulates}
use Rattle.lines.specs.declared.valve.ValveWeights.{ValveWeights}

-- the plant with this one valve, whose number is 0; no other number is asked for
abbrev pub valve_meant : ValveWeights → Net
valve_meant x = record { tanks = x.tanks; valves = 1; opens = λ t. nat_lt t 1; intake = λ _. held x.intake.each; outlet = λ _. held x.outlet.each }

-- they are those of valve t of the plant
pub record ReadFrom (x : ValveWeights) (N : Net) (t : ℕ) : Type 0 where
  pub tanks : x.tanks ≡ N.tanks
  pub intake : Tabulates x.intake.each (N.intake t)
  pub outlet : Tabulates x.outlet.each (N.outlet t)

-- a match has one flow number, and is good or not, by a valve of a plant and by the weights that are read from it
pub record ValvesAreTheirWeights : Type 0 where
  pub flows : (x : ValveWeights) (N : Net) (t : ℕ) → ReadFrom x N t → (way : Way) (ψ ψ' : Line) (p q : ℕ) → flow (valve_meant x) way 0 ψ ψ' p q ≡ flow N way t ψ ψ' p q
  pub good : (x : ValveWeights) (N : Net) (t : ℕ) → ReadFrom x N t → (way : Way) (ψ ψ' : Line) (p q : ℕ) → good? (valve_meant x) way 0 ψ ψ' p q ≡ good? N way t ψ ψ' p q
