-- A line and its newline.
use Rattle.std.proofs.Common.{◌≡◌, ℕ, Bool, ◌≢◌, List, [], ◌∷◌, ◌++◌, Some, None, Option, MatchOption, Bor, Decides, sym, ap, ◌∙◌}
use Rattle.std.specs.Option.{option_eq}
use Rattle.std.proofs.lemmas.List.{append_cancel_right}

-- a text is an expected line and a newline where what stands before its newline is that line
pub ended_as : (eq : Bor (List ℕ) → Bor (List ℕ) → Bool) → ((x y : Bor (List ℕ)) → Decides (eq x y) (x.now ≡ y.now)) → (answer : List ℕ) (line : Option (Bor (List ℕ))) (expected : Bor (List ℕ)) (r : Bool)
    → r ≡ option_eq eq line (Some expected) → MatchOption line ((front : List ℕ) → answer ≢ front ++ 10 ∷ []) (λ x. answer ≡ x.now ++ 10 ∷ []) → Decides r (answer ≡ expected.now ++ 10 ∷ [])
ended_as eq same answer None expected r e h = (λ t. absurd (cc), λ k. absurd (h expected.now k))
ended_as eq same answer (Some line) expected r e h = (
  λ t. h ∙ ap (λ l. l ++ 10 ∷ []) ((same line expected).0 (sym e ∙ t)),
  λ k. e ∙ (same line expected).1 (append_cancel_right line.now expected.now (10 ∷ []) (sym h ∙ k)),
)
