-- How many words a reader takes as long as they pass a test.
use Rattle.std.proofs.Common.{◌≡◌, ℕ, ◌+◌, Bool, false, List, [], ◌∷◌, length, refl, ◌∙◌, arith}
use Rattle.std.specs.Fn.{CalledAt}
use Rattle.std.specs.Iterator.{YieldsFirst, Drains}
use Rattle.std.specs.Iterator.Adapters.{take_while_source, take_while_done, take_while_callee, take_while_steps}
use Rattle.std.specs.List.{prefix_len}
use Rattle.std.specs.declared.iter.TakeWhile.{TakeWhile}
use Rattle.std.proofs.lemmas.Iterator.Consumers.{YieldsList-from_first, YieldsList-at, count_from_yields_List}
use Rattle.std.proofs.lemmas.Iterator.Search.{YieldsList-from_take_while}
use Rattle.std.proofs.lemmas.List.Folds.{length-prefix_len}
use denote.Param.Members.{Mut}
use denote.Ref.{Bor}
use Rattle.words.specs.Words.{words}
use Rattle.words.specs.Left.{to_come}
use Rattle.words.specs.Placed.{placed}
use Rattle.words.specs.declared.word.Word.{Word}
use Rattle.words.specs.declared.reader.Reader.{Reader}
use Rattle.words.proofs.Placing.{all_to_come}

prefix_len-placed : (test : ℕ → Bool) (at : ℕ) (ws : List ℕ) → prefix_len (λ w. test w.bits) (placed at ws) ≡ prefix_len test ws
prefix_len-placed test at [] = refl
prefix_len-placed test at (w ∷ ws) = grind (arith, prefix_len-placed test (at + 1) ws)

pub counted : {F : Type 0} (g : Mut F (Bor Word × Unit {0}) Bool) {f : F} (test : ℕ → Bool) (bs : List ℕ) (r : Reader) (s : TakeWhile Reader F) (n : ℕ)
    → ((xs : List Word) × Drains (take_while_steps (YieldsFirst to_come) g) s xs × (n ≡ length xs))
    → take_while_source s ≡ r → take_while_callee s ≡ f → take_while_done s ≡ false → r.at ≡ 0 → r.bytes.now ≡ bs
    → ((x : Word) (b : Bool) (q : F) → CalledAt g f x b q → (q ≡ f) × (b ≡ test x.bits))
    → n ≡ prefix_len test (words bs)
counted g test bs r s n ran source callee done at bytes calls =
    count_from_yields_List s n ran (YieldsList-from_take_while g (λ w. test w.bits) (YieldsList-at source (YieldsList-from_first (λ w. w) to_come _ (all_to_come r bs at bytes))) callee done calls)
    ∙ (length-prefix_len (λ w. test w.bits) (placed 0 (words bs)) ∙ prefix_len-placed test 0 (words bs))
