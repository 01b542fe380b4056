-- How refusals are printed: their number, their place and the part of the program.
use Rattle.std.specs.Prelude.{ℕ, List, ◌++◌, codes, decimal}
use Rattle.words.specs.declared.faults.Part.{Part}
use Rattle.words.specs.declared.faults.Part.TheVariants.{Question, Words, Paper, Weighing}
use Rattle.words.specs.declared.faults.Refusal.{Refusal}

abbrev pub part_name : Part → List ℕ
part_name Question = codes "QUESTION"
part_name Words = codes "WORDS"
part_name Paper = codes "PAPER"
part_name Weighing = codes "WEIGHING"

abbrev pub refusal_text : Refusal → List ℕ
refusal_text r = codes "REFUSED " ++ (decimal r.number ++ (codes " AT " ++ (decimal r.place ++ (codes " IN " ++ part_name r.part))))
