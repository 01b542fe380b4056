-- Why a dossier is refused.
use Rattle.std.specs.Prelude.{ℕ, ◌/◌, ◌%◌, cond, List, length, Ok, Err, Result, ◌==◌, nat_lt}
use Rattle.words.specs.Faults.{of_words, of_paper}
use Rattle.words.specs.declared.faults.Refusal.{Refusal}
use Rattle.words.specs.declared.faults.WordFault.{WordFault}
use Rattle.words.specs.declared.faults.WordFault.TheVariants.{Ragged, Long}
use Rattle.weighing.specs.Faults.{of_weighing}
use Rattle.dossier.specs.Limits.{most_input_bytes}
use Rattle.dossier.specs.declared.faults.DossierFault.{DossierFault}
use Rattle.dossier.specs.declared.faults.DossierFault.TheVariants.{Input, Plant, Source, Target, Weighing}

-- the refusal that each fault names is that of the fault at the bottom
abbrev pub of_dossier : DossierFault → Refusal
of_dossier (Input e) = of_words e
of_dossier (Plant e) = of_paper e
of_dossier (Source e) = of_paper e
of_dossier (Target e) = of_paper e
of_dossier (Weighing e) = of_weighing e

-- the size comes first: too long a dossier is refused at the limit, counted in words; then the length has to be whole words
abbrev pub sized : List ℕ → Result (Unit {0}) WordFault
sized bs =
    cond (nat_lt most_input_bytes (length bs)) (Err (Long (most_input_bytes / 4))) (
    cond (length bs % 4 == 0) (Ok tt) (
    Err (Ragged (length bs / 4))))
