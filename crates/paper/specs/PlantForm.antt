-- The form of a plant paper, word by word: a head with the counts, then arcs that rise by kind, valve and tank.
use Rattle.std.specs.Prelude.{ℕ, ◌+◌, ◌/◌, ◌^◌, ◌&&◌, ◌||◌, List, Ok, Err, Result, ◌==◌, nat_le, nat_lt}
use Rattle.plant.specs.Limits.{most_tanks, most_valves}
use Rattle.plant.specs.Net.{Net, empty}
use Rattle.plant.specs.declared.question.Counts.{Counts}
use Rattle.words.specs.declared.faults.PaperFault.{PaperFault}
use Rattle.words.specs.declared.faults.PaperFault.TheVariants.{Kind, Unnamed, Limit, Order}
use Rattle.words.specs.Words.{words, kind, field}
use Rattle.words.specs.Faults.{need, within, onward}
use Rattle.paper.specs.declared.plant_form.PlantForm.{PlantForm}
use Rattle.paper.specs.declared.plant_form.PlantForm.TheVariants.{Head, Arcs}
use Rattle.paper.specs.Limits.{most_plant_words}
use Rattle.paper.specs.Runs.{whole}
use Rattle.paper.specs.Arcs.{PlantDocument, plant_document, plant_of}

-- what comes after one more word, at the place `at`
abbrev pub plant_step : PlantForm → ℕ → ℕ → Result PlantForm PaperFault
plant_step Head at w =
    need (kind w == 1) (Kind at) (
    need (field w 14 14 == 0) (Unnamed at) (
    need (within 1 most_tanks (field w 7 7) && within 1 most_valves (field w 0 7)) (Limit at) (
    Ok (Arcs (record { tanks = field w 7 7; valves = field w 0 7 }) 0))))
plant_step (Arcs counts least) at w =
    need (kind w == 2 || kind w == 3) (Kind at) (
    need (field w 10 6 == 0) (Unnamed at) (
    need (nat_lt (field w 22 6) counts.valves && (nat_lt (field w 16 6) counts.tanks && nat_le 1 (field w 0 10))) (Limit at) (
    need (nat_le least (w / 2 ^ 16)) (Order at) (
    Ok (Arcs counts (w / 2 ^ 16 + 1))))))

abbrev pub plant_form : List ℕ → Result PlantForm PaperFault
plant_form bs = whole plant_step Head most_plant_words bs

-- the document that a paper is the writing of, or its first fault
abbrev pub plant_read : List ℕ → Result PlantDocument PaperFault
plant_read bs = onward (plant_form bs) (λ _. Ok (plant_document (words bs)))

-- the plant that is made of a paper: of a bad one the empty plant
abbrev pub plant_made : Result PlantDocument PaperFault → Net
plant_made (Ok d) = plant_of d
plant_made (Err e) = empty

-- the counts alone
abbrev pub plant_counts : Result PlantDocument PaperFault → Result Counts PaperFault
plant_counts (Ok d) = Ok (record { tanks = d.tanks; valves = d.valves })
plant_counts (Err e) = Err e
