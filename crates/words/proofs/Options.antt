-- What the library says of an Option's methods that call a closure, where each call gives the same function of the value.
use Rattle.std.proofs.Common.{◌≡◌, Bool, true, false, cond, Some, None, Option, MatchOption, ◌∙◌, ap, refl}
use Rattle.std.specs.Bool.{then_some}
use Rattle.std.proofs.lemmas.Map.Entries.{option_filter}

then_some_same : {A : Type 0} (b : Bool) (x : A) → then_some b x ≡ cond b (Some x) None
then_some_same true x = refl
then_some_same false x = refl

-- of `filter`
pub filtered : {A : Type 0} {Gives : A → Bool → Type 0} (test : A → Bool) → ((x : A) (b : Bool) → Gives x b → b ≡ test x) → (o r : Option A) → MatchOption o (r ≡ None) (λ x. (b : Bool) × Gives x b × (r ≡ then_some b x)) → r ≡ option_filter test o
filtered test gives None r h = h
filtered test gives (Some x) r h = h.2 ∙ (then_some_same h.0 x ∙ ap (λ b. cond b (Some x) None) (gives x h.0 h.1))
