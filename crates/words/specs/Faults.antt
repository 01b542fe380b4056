-- Why a paper is refused: the number, the place and the part of the program that each fault names.
use Rattle.std.specs.Prelude.{ℕ, ◌/◌, ◌%◌, Bool, cond, ◌&&◌, List, length, Some, None, Ok, Err, Option, Result, ◌==◌, nat_le, nat_lt}
use Rattle.words.specs.declared.faults.WordFault.{WordFault}
use Rattle.words.specs.declared.faults.WordFault.TheVariants.{Ragged, Empty, Long}
use Rattle.words.specs.declared.faults.PaperFault.{PaperFault}
use Rattle.words.specs.declared.faults.PaperFault.TheVariants.{Words, Kind, Due, Unnamed, Limit, Order, Count}
use Rattle.words.specs.declared.faults.Part.TheVariants.{Words as InWords, Paper as InPaper}
use Rattle.words.specs.declared.faults.Refusal.{Refusal}

abbrev pub of_words : WordFault → Refusal
of_words (Ragged n) = record { number = 1; place = n; part = InWords }
of_words Empty = record { number = 2; place = 0; part = InWords }
of_words (Long n) = record { number = 3; place = n; part = InWords }

abbrev pub of_paper : PaperFault → Refusal
of_paper (Words e) = of_words e
of_paper (Kind k) = record { number = 4; place = k; part = InPaper }
of_paper (Due k) = record { number = 5; place = k; part = InPaper }
of_paper (Unnamed k) = record { number = 6; place = k; part = InPaper }
of_paper (Limit k) = record { number = 7; place = k; part = InPaper }
of_paper (Order k) = record { number = 8; place = k; part = InPaper }
of_paper (Count k) = record { number = 9; place = k; part = InPaper }

-- how many words the bytes are, at most `most`, or the first fault of their length
abbrev pub counted : ℕ → List ℕ → Result ℕ WordFault
counted most bs =
    cond (length bs % 4 == 0) (
    cond (length bs == 0) (Err Empty) (
    cond (nat_lt most (length bs / 4)) (Err (Long (length bs / 4)))
    (Ok (length bs / 4))))
    (Err (Ragged (length bs / 4)))

-- a rule that a word has to keep: where the test fails, the fault is the answer
abbrev pub need : {A : Type 0} → Bool → PaperFault → Result A PaperFault → Result A PaperFault
need t e r = cond t r (Err e)

-- from `low` to `high`
abbrev pub within : ℕ → ℕ → ℕ → Bool
within low high n = nat_le low n && nat_le n high

-- one reading after another: the first fault is the answer
abbrev pub onward : {A B E : Type 0} → Result A E → (A → Result B E) → Result B E
onward (Ok a) f = f a
onward (Err e) f = Err e

-- a fault of a lower part, carried whole
abbrev pub raised : {A E F : Type 0} → (E → F) → Result A E → Result A F
raised up (Ok a) = Ok a
raised up (Err e) = Err (up e)

-- the lowest place that a test finds is refused, or what comes after is the answer
abbrev pub refusing : {A E : Type 0} → Option ℕ → (ℕ → E) → Result A E → Result A E
refusing None fault after = after
refusing (Some place) fault after = Err (fault place)
