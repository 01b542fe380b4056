-- The line that is printed: the verdict, or the number, the place and the part of the refusal.
use Rattle.std.specs.Prelude.{ℕ, List, ◌++◌, Ok, Err, codes, Result}
use Rattle.words.specs.Shown.{refusal_text}
use Rattle.words.specs.declared.faults.Refusal.{Refusal}
use Rattle.weighing.specs.Shown.{verdict_text}
use Rattle.weighing.specs.declared.faults.Verdict.{Verdict}
use Rattle.dossier.specs.declared.faults.DossierFault.{DossierFault}
use Rattle.dossier.specs.Faults.{of_dossier}

-- the verdict, or the refusal of the dossier
abbrev pub answer_of : Result Verdict DossierFault → Result Verdict Refusal
answer_of (Ok v) = Ok v
answer_of (Err e) = Err (of_dossier e)

abbrev pub text_of : Result Verdict Refusal → List ℕ
text_of (Ok v) = verdict_text v
text_of (Err r) = refusal_text r

-- the text and a newline
abbrev pub line_of : Result Verdict DossierFault → List ℕ
line_of r = text_of (answer_of r) ++ codes "\n"
