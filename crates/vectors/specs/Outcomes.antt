-- What came of a line of the table.
use Rattle.std.specs.Prelude.{Bool, true, false}
use Rattle.vectors.specs.declared.outcome.Outcome.{Outcome}
use Rattle.vectors.specs.declared.outcome.Outcome.TheVariants.{Unread, Agrees, Differs}

abbrev pub is_agreement : Outcome → Bool
is_agreement Unread = false
is_agreement Agrees = true
is_agreement (Differs row answer) = false
