use Rattle.std.proofs.Common.{◌≡◌, length, rules, w64, to_z, ◌∙◌}
use Rattle.std.proofs.lemmas.Iterator.Consumers.{YieldsList-turn, YieldsList-end}
use Rattle.std.proofs.lemmas.List.{length_push}
use Rattle.plant.specs.Limits.{most_tanks}
use Rattle.lines.proofs.Adding.{Turn, pairs, turn, small_all, side_all}
use Rattle.lines.proofs.line.Weights.side.Goals as goal

this_turn : (g : _) (c : goal.After-from-in-loop-weight g) → Turn c.args.self.now.each c.args.amounts.now.each (length c.loop-weight.yielded) (to_z w64 c.loop-weight.sum-bits) c.from.result c.from-in-loop-weight.result
this_turn g c =
    let ws = c.args.self.now in
    let xs = c.args.amounts.now in
    let lw : length ws.each ≡ most_tanks = search rules in
    let lx : length xs.each ≡ most_tanks = search rules in
    turn _ _ c.args.tanks lw lx _ ws.small xs.small xs.most_small _ _ _ _ _ _
    (YieldsList-turn (pairs ws.each xs.each c.args.tanks lw lx {s = c.into_iter-weight-iterator.result} (cc) (cc)) _ c.loop-weight.weight-iterator c.loop-weight.yielded_by _ c.next.new.self _ c.in-Some.is c.next.ensures.steps)
    c.from.ensures c.from-in-loop-weight.ensures c.loop-weight.invariant

pub overflow_mul-sum : goal.overflow_mul-sum
overflow_mul-sum g c = (this_turn g c).mul_fits

pub overflow_add-sum : goal.overflow_add-sum
overflow_add-sum g c = (this_turn g c).add_fits

pub loop-weight-preserved : goal.loop-weight-preserved
loop-weight-preserved g c = rw length_push (this_turn g c).next

pub returns : goal.returns
returns g c =
    let ws = c.args.self.now in
    let xs = c.args.amounts.now in
    let lw : length ws.each ≡ most_tanks = search rules in
    let lx : length xs.each ≡ most_tanks = search rules in
    let end = YieldsList-end (pairs ws.each xs.each c.args.tanks lw lx {s = c.into_iter-weight-iterator.result} (cc) (cc)) _ c.loop-weight.weight-iterator c.loop-weight.yielded_by _ c.next.new.self c.in-None.is c.next.ensures.steps in
    record {
      is = λ m same. c.loop-weight.invariant ∙ side_all ws.each xs.each c.args.tanks lw lx m _ end.1 same;
      small = rw c.loop-weight.invariant (small_all ws.each xs.each c.args.tanks lw lx _ ws.small xs.small _ end.1);
    }
