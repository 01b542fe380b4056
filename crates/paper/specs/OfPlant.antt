-- The meaning of a paper plant.
use Rattle.plant.specs.Net.{Net}
use Rattle.words.specs.Words.{words}
use Rattle.paper.specs.declared.paper_plant.PaperPlant.{PaperPlant}
use Rattle.paper.specs.Plants.{arcs_plant}

abbrev pub plant_meant : PaperPlant → Net
plant_meant x = arcs_plant x.counts.tanks x.counts.valves (words x.arcs.now)
