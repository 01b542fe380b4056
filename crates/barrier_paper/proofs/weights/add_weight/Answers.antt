use Rattle.std.proofs.Common.{◌≡◌, ◌<◌, true, false, eqb, arith, rules}
use Rattle.std.proofs.lemmas.Bool.{eqb-true}
use Rattle.std.proofs.lemmas.Int.{ints}
use Rattle.plant.specs.Limits.{most_tanks}
use Rattle.words.specs.Kinds.{number_of}
use Rattle.words.specs.Words.{kind}
use Rattle.barrier_paper.proofs.Named.{named_is}
use Rattle.barrier_paper.proofs.Summing.{put_at}
use Rattle.barrier_paper.proofs.weights.add_weight.Goals as goal

pub returns-then-eq : goal.returns-then-eq
returns-then-eq c = λ r h.
    let is : eqb (kind c.args.word.bits) (number_of c.args.kind) ≡ true = search (rules, named_is) in
    let inside : c.field.result < most_tanks = omega (arith, c.field.ensures) in
    put_at (number_of c.args.kind) r c.args.word.bits c.field.result c.signed_of.result c.args.each.now c.told-each (eqb-true _ _ is) h c.field.ensures c.signed_of.ensures (c.requires c.field.result inside)

pub returns-else-eq : goal.returns-else-eq
returns-else-eq c = λ r h.
    let is : eqb (kind c.args.word.bits) (number_of c.args.kind) ≡ false = search (rules, named_is) in
    rw is (grind (arith, ints))
