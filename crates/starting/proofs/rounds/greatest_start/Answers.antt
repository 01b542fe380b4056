use Rattle.std.proofs.Common.{◌≡◌, subst, add-one, arith}
use Rattle.std.proofs.lemmas.Bool.{MatchBool-at_false}
use Rattle.plant.specs.Walk.{held}
use Rattle.walks.specs.Rounds.{rounds}
use Rattle.walks.proofs.Closure.{Part}
use Rattle.starting.specs.Starting.{marked}
use Rattle.starting.proofs.Sweeps.{round_more, none_grew, rounds_all}
use Rattle.starting.proofs.rounds.greatest_start.Goals as goal
use Rattle.starting.proofs.rounds.greatest_start.Goals.{else-loop-test, then-loop-test+then-not-round}

pub loop-preserved : goal.loop-preserved
loop-preserved g c =
    let asked = c.loop.invariant.asked in
    rw add-one
    (record {
      asked = (cc, cc, cc);
      rounded = round_more (g.P.Plant.meaning c.args.plant.now) (held c.args.filling.now) (marked c.args.set.now) _ _ (rw (asked.0, asked.1, asked.2) at c.round.ensures.all) c.loop.counter c.loop.invariant.rounded;
    })

-- the search ended after as many rounds as there are valves, or with a round that added nothing
pub returns-clause-part : goal.returns-clause-part
returns-clause-part g c =
    let asked = c.loop.invariant.asked in
    let N = g.P.Plant.meaning c.args.plant.now in
    let m = held c.args.filling.now in
    let S = marked c.args.set.now in
    elim c.loop-test.branch [
      | else-loop-test w ↦
          let end : c.loop.counter ≡ N.valves = omega arith in
          rw w.going-is
          (rounds_all N m S (marked c.loop.going.went) (rw (asked.0, asked.1, asked.2) at c.loop.going.within)
          (subst (λ k. Part N.valves (rounds N m S k) (marked c.loop.going.went)) end c.loop.invariant.rounded))
      | then-loop-test+then-not-round w ↦
          let same = w.round.ensures.asked in
          rw w.going-is
          (none_grew N m S _ _ (rw (asked.0, asked.1, asked.2) at w.round.ensures.all)
          (rw (same.0, same.1, same.2, asked.0, asked.1, asked.2) at w.round.new.self.within)
          (MatchBool-at_false _ _ w.if-not-round.true w.round.ensures.grew))
    ]
