use Rattle.std.proofs.Common.{◌≡◌, ◌*◌, ◌≤◌, ℕ, Bool, length, take, drop, inl, ap, ◌∙◌, arith, rules, tests}
use Rattle.std.specs.List.{prefix_len}
use Rattle.words.specs.Words.{words}
use Rattle.words.specs.declared.word.Word.{Word}
use Rattle.weighing.proofs.Reading.{words_inside}
use Rattle.dossier.proofs.Counting.{counted}
use Rattle.dossier.proofs.parts.cut.Goals as goal
use Rattle.dossier.proofs.parts.cut.Goals.{After-count-words, After-drop-takes}

pub count-words-requires-clause-fits : goal.count-words-requires-clause-fits
count-words-requires-clause-fits g c = inl (omega (arith, words_inside c.take_while.result.iter))

inside : (g : _) (c : After-count-words g) → 4 * c.count-words.result ≤ length c.args.bytes.now
inside g c =
    let all : length c.take_while.result.iter.bytes.now ≡ length c.args.bytes.now = ap (λ r. length r.bytes.now) c.take_while.ensures.source ∙ ap length c.new.ensures.bytes in
    omega (arith, words_inside c.take_while.result.iter, all)

pub overflow_mul-words : goal.overflow_mul-words
overflow_mul-words g c = omega (arith, inside g c)

pub split_at-requires : goal.split_at-requires
split_at-requires g c = inside g c

run : (g : _) (c : After-drop-takes g) (test : ℕ → Bool) → ((w : Word) (b : Bool) → goal.F-post g c.args.takes w b → b ≡ test w.bits) → c.count-words.result ≡ prefix_len test (words c.args.bytes.now)
run g c test gives = counted _ test c.args.bytes.now c.new.result c.take_while.result c.count-words.result c.count-words.ensures.ran c.take_while.ensures.source c.take_while.ensures.closure c.take_while.ensures.done c.new.ensures.at c.new.ensures.bytes (λ x b q k. search (rules, tests, gives))

pub returns : goal.returns
returns g c = record {
  run = λ test gives. c.split_at.ensures.front ∙ ap (λ n. take (4 * n) c.args.bytes.now) (run g c test gives);
  rest = λ test gives. c.split_at.ensures.back ∙ ap (λ n. drop (4 * n) c.args.bytes.now) (run g c test gives);
}
