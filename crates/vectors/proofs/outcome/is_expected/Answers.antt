use Rattle.std.proofs.Common.{arith}
use Rattle.std.proofs.lemmas.Slice.Eq.{bytes_eq-Decides}
use Rattle.std.proofs.lemmas.Str.Pattern.{strip_suffix_char}
use Rattle.vectors.proofs.Newlines.{ended_as}
use Rattle.vectors.proofs.outcome.is_expected.Goals as goal

pub returns : goal.returns
returns c =
    ended_as _ (λ x y. bytes_eq-Decides x.now y.now) c.args.answer.now c.strip_suffix.result c.args.expected c.eq.result c.eq.ensures
    (strip_suffix_char 10 c.args.answer.now c.strip_suffix.result c.strip_suffix.ensures.cases (omega arith))
