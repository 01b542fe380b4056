use Rattle.std.proofs.Common.{sym, inl, inr, add-one}
use Rattle.starting.proofs.Sweeps.{sweeping_joined, sweeping_left}
use Rattle.starting.proofs.rounds.Going.round.Goals as goal
use Rattle.starting.proofs.rounds.Going.round.Goals.{then-not-self-valve+then-can_go, else-not-self-valve, else-not-self-valve-via-then-not-self-valve+else-can_go, else-not-self-valve-via-else-not-self-valve}

pub loop-valve-preserved : goal.loop-valve-preserved
loop-valve-preserved g c =
    rw add-one
    (elim c.if-not-self-valve.branch [
      | then-not-self-valve+then-can_go w ↦
          rw (w.self-is, w.grew-is)
          (record {
            asked = (cc, cc, cc);
            swept = sweeping_joined _ _ _ _ c.loop-valve.valve _ _ c.loop-valve.invariant.swept _ w.let_go.ensures.went w.if-not-self-valve.true;
          })
      | else-not-self-valve w ↦
          rw (w.self-is, w.grew-is)
          (record {
            asked = c.loop-valve.invariant.asked;
            swept =
                sweeping_left _ _ _ _ c.loop-valve.valve _ _ c.loop-valve.invariant.swept
                (elim w.else-not-self-valve.branch [
                  | else-not-self-valve-via-then-not-self-valve+else-can_go v ↦ inr (sym (rw (c.loop-valve.invariant.asked.0, c.loop-valve.invariant.asked.1, c.loop-valve.invariant.asked.2) at v.if-can_go.ensures))
                  | else-not-self-valve-via-else-not-self-valve v ↦ inl v.if-not-self-valve.false
                ]);
          })
    ])
