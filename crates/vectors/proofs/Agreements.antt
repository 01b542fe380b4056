-- What a line agrees to, by its row, the bytes of its dossier and the answer to them.
use Rattle.std.proofs.Common.{◌≡◌, ℕ, Bool, false, List, [], ◌∷◌, ◌++◌, Some, None, Decides, Option, sym, refl, ap, ◌∙◌, subst}
use Rattle.std.specs.Str.{bytes_eq}
use Rattle.std.proofs.lemmas.Bool.Decides.{same_from_decides}
use Rattle.std.proofs.lemmas.Slice.Eq.{bytes_eq-Decides}
use Rattle.dossier.specs.Judging.{judged}
use Rattle.dossier.specs.Line.{line_of}
use Rattle.vectors.specs.Agreement.{answered, row_agrees, agrees}
use Rattle.vectors.specs.Hex.{bytes_of}
use Rattle.vectors.specs.Table.{cells}

at_row : (line name digits expected : List ℕ) (input : Option (List ℕ)) → Some (name, digits, expected) ≡ cells line → input ≡ bytes_of digits → answered input expected ≡ agrees line
at_row line name digits expected input row read = ap (λ o. answered o expected) read ∙ ap row_agrees row

none_answered : (expected : List ℕ) → answered None expected ≡ false
unfolding answered
none_answered expected = refl

some_answered : (input answer expected : List ℕ) (r : Bool) → answer ≡ line_of (judged input) → Decides r (answer ≡ expected ++ 10 ∷ []) → r ≡ answered (Some input) expected
unfolding answered
some_answered input answer expected r is tells =
    same_from_decides r (bytes_eq (line_of (judged input)) (expected ++ 10 ∷ [])) (subst (λ (a : List ℕ). Decides r (a ≡ expected ++ 10 ∷ [])) is tells) (bytes_eq-Decides (line_of (judged input)) (expected ++ 10 ∷ []))

-- a row whose digits, as bytes, write nothing does not agree
pub unread : (line name digits expected given : List ℕ) → Some (name, digits, expected) ≡ cells line → given ≡ digits → None ≡ bytes_of given → false ≡ agrees line
unread line name digits expected given row same read =
    sym (none_answered expected) ∙ at_row line name digits expected None row (read ∙ ap bytes_of same)

-- a row agrees as the answer to its dossier does: the digits are given as bytes, what they write is lent, and the answer is a text
pub as_answered : (line name digits expected given input lent answer text : List ℕ) (r : Bool) → Some (name, digits, expected) ≡ cells line → given ≡ digits → Some input ≡ bytes_of given → lent ≡ input → answer ≡ line_of (judged lent) → text ≡ answer → Decides r (text ≡ expected ++ 10 ∷ []) → r ≡ agrees line
as_answered line name digits expected given input lent answer text r row same read held judging shown tells =
    some_answered input text expected r (shown ∙ judging ∙ ap (λ (bs : List ℕ). line_of (judged bs)) held) tells
    ∙ at_row line name digits expected (Some input) row (read ∙ ap bytes_of same)
