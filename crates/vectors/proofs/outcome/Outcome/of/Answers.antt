use Rattle.std.proofs.Common.{◌≡◌, Some, None, vec_items, string_bytes, sym, ◌∙◌}
use Rattle.vectors.specs.Agreement.{agrees}
use Rattle.vectors.specs.Hex.{bytes_of}
use Rattle.vectors.proofs.Agreements.{unread, as_answered}
use Rattle.vectors.proofs.outcome.Outcome.of.Goals as goal
use Rattle.vectors.proofs.outcome.Outcome.of.Goals.{After-is_expected}

pub returns-in_default-2 : goal.returns-in_default-2
returns-in_default-2 c =
    let row = c.in-Some.row in
    let none : None ≡ bytes_of c.as_bytes.result.now = rw c.in_default-2.is at c.in_ok-input.ensures in
    unread c.args.line.now row.name.now row.digits.now row.expected.now c.as_bytes.result.now c.in-Some.ensures c.as_bytes.ensures.value none

-- what the test of the answer tells of the line
told : (c : After-is_expected) → c.is_expected.result ≡ agrees c.args.line.now
told c =
    let row = c.in-Some.row in
    let some : Some (vec_items c.in-Some-2.input) ≡ bytes_of c.as_bytes.result.now = rw c.in-Some-2.is at c.in_ok-input.ensures in
    as_answered c.args.line.now row.name.now row.digits.now row.expected.now c.as_bytes.result.now
    (vec_items c.in-Some-2.input)
    c.as_slice.result.now
    (string_bytes c.in_ok-answer.answer)
    c.as_str.result.now
    c.is_expected.result
    c.in-Some.ensures
    c.as_bytes.ensures.value
    some
    c.as_slice.ensures.value
    c.in_ok-answer.ensures.answer
    c.as_str.ensures.value
    c.is_expected.ensures

pub returns-then-is_expected : goal.returns-then-is_expected
returns-then-is_expected c = sym c.if-is_expected.true ∙ told (goal.at.returns-then-is_expected c).After-is_expected

pub returns : goal.returns
returns c = sym c.if-is_expected.false ∙ told (goal.at.returns c).After-is_expected
