use Rattle.walks.proofs.Closure.{greatest_starts, greatest_sound, greatest_complete}
use Rattle.walks.proofs.rounds_find_the_greatest_part.Goals as goal

pub returns : goal.returns
returns c = record { starts = greatest_starts; sound = greatest_sound; complete = greatest_complete }
