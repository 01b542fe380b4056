-- A run over words with their places.
use Rattle.std.proofs.Common.{◌≡◌, ℕ, ◌+◌, List, [], ◌∷◌, Ok, Err, Result, refl}
use Rattle.words.specs.declared.faults.PaperFault.{PaperFault}
use Rattle.words.specs.declared.word.Word.{Word}
use Rattle.words.specs.Placed.{placed}
use Rattle.words.specs.Faults.{onward}
use Rattle.paper.specs.Runs.{run}

module _ {S : Type 0} (step : S → ℕ → ℕ → Result S PaperFault) where
  abbrev pub taken_in_turn : S → List Word → Result S PaperFault
  taken_in_turn s [] = Ok s
  taken_in_turn s (w ∷ ws) = onward (step s w.place w.bits) (λ t. taken_in_turn t ws)

  onward_same : {A B E : Type 0} (r : Result A E) (f g : A → Result B E) → ((a : A) → f a ≡ g a) → onward r f ≡ onward r g
  onward_same (Ok a) f g h = h a
  onward_same (Err e) f g h = refl

  pub in_turn : (s : S) (at : ℕ) (ws : List ℕ) → taken_in_turn s (placed at ws) ≡ run step s at ws
  in_turn s at [] = refl
  in_turn s at (w ∷ ws) = onward_same (step s at w) _ _ (λ t. in_turn t (at + 1) ws)
