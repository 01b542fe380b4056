-- A filling, word by word: what is left to read goes on from the amounts that were read.
use Rattle.std.proofs.Common.{◌≡◌, ℕ, ◌+◌, List, [], ◌∷◌, ◌++◌, Ok, Err, Result, refl, ap, ◌∙◌, append_assoc, append-nil, sym}
use Rattle.words.specs.declared.faults.PaperFault.{PaperFault}
use Rattle.words.specs.declared.word.Word.{Word}
use Rattle.words.specs.Faults.{onward}
use Rattle.words.specs.Placed.{placed}
use Rattle.dossier.specs.Fillings.{amount_read, fill_read}

abbrev pub read_on : List ℕ → List Word → Result (List ℕ) PaperFault
read_on front [] = Ok front
read_on front (w ∷ ws) = onward (amount_read w.place w.bits) (λ amount. read_on (front ++ amount ∷ []) ws)

-- the words stand at the places from n on
abbrev pub InPlace : ℕ → List Word → Type 0
InPlace n [] = Unit {0}
InPlace n (w ∷ ws) = (w.place ≡ n) × InPlace (n + 1) ws

pub placed_in_place : (n : ℕ) (ws : List ℕ) → InPlace n (placed n ws)
placed_in_place n [] = tt
placed_in_place n (w ∷ ws) = (refl, placed_in_place (n + 1) ws)

abbrev behind : List ℕ → Result (List ℕ) PaperFault → Result (List ℕ) PaperFault
behind front r = onward r (λ more. Ok (front ++ more))

one_behind : (front : List ℕ) (amount : ℕ) (r : Result (List ℕ) PaperFault) → behind (front ++ amount ∷ []) r ≡ behind front (onward r (λ more. Ok (amount ∷ more)))
one_behind front amount (Ok more) = ap Ok (append_assoc front (amount ∷ []) more)
one_behind front amount (Err e) = refl

pub reads_on : (front : List ℕ) (at : ℕ) (ws : List ℕ) → read_on front (placed at ws) ≡ behind front (fill_read at ws)
reads_on front at [] = ap Ok (sym (append-nil front))
reads_on front at (w ∷ ws) = turn _ (λ amount. onward (fill_read (at + 1) ws) (λ more. Ok (amount ∷ more))) (amount_read at w) (λ amount. reads_on (front ++ amount ∷ []) (at + 1) ws ∙ one_behind front amount (fill_read (at + 1) ws))
  where
    turn : (f g : ℕ → Result (List ℕ) PaperFault) (r : Result ℕ PaperFault) → ((amount : ℕ) → f amount ≡ behind front (g amount)) → onward r f ≡ behind front (onward r g)
    turn f g (Ok amount) h = h amount
    turn f g (Err e) h = refl

none_behind : (r : Result (List ℕ) PaperFault) → behind [] r ≡ r
none_behind (Ok more) = refl
none_behind (Err e) = refl

pub reads_all : (ws : List ℕ) → read_on [] (placed 0 ws) ≡ fill_read 0 ws
reads_all ws = reads_on [] 0 ws ∙ none_behind (fill_read 0 ws)
