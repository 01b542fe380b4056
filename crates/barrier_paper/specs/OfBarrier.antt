-- The document that a barrier paper is.
use Rattle.std.specs.Prelude.{Ok, Err, Result}
use Rattle.words.specs.Words.{words}
use Rattle.words.specs.declared.faults.PaperFault.{PaperFault}
use Rattle.barrier_paper.specs.declared.barrier_paper.BarrierPaper.{BarrierPaper}
use Rattle.barrier_paper.specs.Document.{BarrierDocument, barrier_document}

abbrev pub barrier_said : BarrierPaper → BarrierDocument
barrier_said x = barrier_document (words x.bytes.now)

-- what a reading answers, by its document
abbrev pub barrier_answer : Result BarrierPaper PaperFault → Result BarrierDocument PaperFault
barrier_answer (Ok x) = Ok (barrier_said x)
barrier_answer (Err e) = Err e
