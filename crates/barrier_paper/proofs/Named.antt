-- A word is of a kind exactly when its number is that kind's.
use Rattle.std.proofs.Common.{◌≡◌, ℕ, eqb, Some, arith}
use Rattle.std.proofs.lemmas.Bool.Decides.{nat_tests}
use Rattle.std.specs.Option.{option_eq}
use Rattle.words.specs.declared.kind.Kind.{Kind}
use Rattle.words.specs.Kinds.{number_of, kind_named}
use Rattle.words.specs.contracts.kind.KindPartialEq.TheImpl as eq

pub named_is : (n : ℕ) (k : Kind) → option_eq eq.eq-value.it (kind_named n) (Some k) ≡ eqb n (number_of k)
named_is n k = grind (arith, nat_tests)
