use Rattle.std.proofs.Common.{◌≡◌, ◌++◌, drop, vec_items}
use Rattle.std.specs.Option.{option_map}
use Rattle.vectors.specs.Hex.{bytes_of}
use Rattle.vectors.proofs.Digits.{pair_bytes}
use Rattle.vectors.proofs.hex.decoded.Given as goal

abbrev pub invariant-loop-high : goal.invariant-loop-high
invariant-loop-high l = bytes_of l.digits ≡ option_map (λ bs. vec_items l.bytes ++ bs) (pair_bytes (drop l.high-index l.pairs))
