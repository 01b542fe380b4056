use Rattle.std.proofs.Common.{◌/◌, length, vec_items, arith}
use Rattle.vectors.proofs.Digits.{one_left, none_read, byte_more}
use Rattle.vectors.specs.Hex.{bytes_of}
use Rattle.vectors.proofs.hex.decoded.Goals as goal

pub returns-then-not-is_empty : goal.returns-then-not-is_empty
returns-then-not-is_empty c = one_left (length c.args.digits.now / 2) c.args.digits.now (grind (arith, c.as_chunks.ensures.back_len))

pub loop-high-init : goal.loop-high-init
loop-high-init c = simp (c.new-bytes.ensures.items, c.as_chunks.ensures.front) (none_read c.args.digits.now (grind (arith, c.as_chunks.ensures.back_len)))

pub loop-high-preserved : goal.loop-high-preserved
loop-high-preserved c =
    simp c.in_ok-push.ensures.items
    (byte_more (bytes_of c.args.digits.now) c.as_chunks.result.0.now c.loop-high.high-index (vec_items c.loop-high.bytes) c.in-Some.b c.loop-high-test.true c.in-Some.ensures c.loop-high.invariant)
