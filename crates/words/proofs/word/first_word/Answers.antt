use Rattle.std.proofs.Common.{◌≡◌, ◌-◌, ◌≤◌, ◌∷◌, length, get_or, take, drop, ap, ◌∙◌, arith, rules}
use Rattle.words.specs.Words.{words, word}
use Rattle.words.proofs.Laws.{words_rest}
use Rattle.words.proofs.word.first_word.Goals as goal

pub returns : goal.returns
returns c =
    let four : 4 ≤ length c.args.bytes.now = search rules in
    let e : word (get_or c.args.bytes.now 0 0) (get_or c.args.bytes.now 1 0) (get_or c.args.bytes.now 2 0) (get_or c.args.bytes.now 3 0) ≡ c.from_be_bytes.result = omega (arith, c.from_be_bytes.ensures) in
    words_rest c.args.bytes.now four ∙ ap (λ w. w ∷ words (take (length c.args.bytes.now - 4) (drop 4 c.args.bytes.now))) e
