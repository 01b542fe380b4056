-- The line that a table of weights is.
use Rattle.barriers.specs.Lines.{Line}
use Rattle.lines.specs.Tables.{weight_at}
use Rattle.lines.specs.declared.line.LineWeights.{LineWeights}

abbrev pub line_meant : LineWeights → Line
line_meant x = record { left = weight_at x.left.each; right = weight_at x.right.each; strict = x.strict }
