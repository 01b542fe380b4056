-- The direction that a step's word says.
use Rattle.barriers.specs.Steps.{forward, backward}
use Rattle.barriers.specs.Steps as steps
use Rattle.lines.specs.declared.matches.Way.{Way}
use Rattle.lines.specs.declared.matches.Way.TheVariants.{Forward, Backward}

abbrev pub way_meant : Way → steps.Way
way_meant Forward = forward
way_meant Backward = backward
