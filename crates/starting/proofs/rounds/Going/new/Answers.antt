use Rattle.std.proofs.Common.{sym, ◌∙◌}
use Rattle.std.proofs.lemmas.Bool.{false≢true}
use Rattle.starting.proofs.Sweeps.{marked_none, tells_none}
use Rattle.starting.proofs.rounds.Going.new.Goals as goal

pub invariant_of-result : goal.invariant_of-result
invariant_of-result g c = record {
  told = tells_none (g.P.Plant.meaning c.args.plant.now) 64 64;
  within = λ t h. absurd (false≢true (sym (marked_none 64 t) ∙ h));
}
