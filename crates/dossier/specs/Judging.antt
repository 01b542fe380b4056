-- What a dossier is answered: its size, its plant, its source, its target, and then the weighing of its evidence.
use Rattle.std.specs.Prelude.{ℕ, List, Result}
use Rattle.words.specs.Words.{words}
use Rattle.words.specs.Faults.{onward, raised}
use Rattle.paper.specs.Arcs.{plant_of}
use Rattle.paper.specs.PlantForm.{plant_read}
use Rattle.weighing.specs.Weighing.{weighs}
use Rattle.weighing.specs.declared.faults.Verdict.{Verdict}
use Rattle.dossier.specs.declared.faults.DossierFault.{DossierFault}
use Rattle.dossier.specs.declared.faults.DossierFault.TheVariants.{Input, Plant, Source, Target, Weighing}
use Rattle.dossier.specs.Faults.{sized}
use Rattle.dossier.specs.Parts.{plant_part, source_part, target_part, evidence_part}
use Rattle.dossier.specs.Fillings.{fill_read}

-- the verdict, or the first fault
abbrev pub judged : List ℕ → Result Verdict DossierFault
judged bs =
    onward (raised Input (sized bs)) (λ _.
    onward (raised Plant (plant_read (plant_part bs))) (λ d.
    onward (raised Source (fill_read 0 (words (source_part bs)))) (λ A.
    onward (raised Target (fill_read 0 (words (target_part bs)))) (λ B.
    raised Weighing (weighs (plant_of d) A B (evidence_part bs))))))
