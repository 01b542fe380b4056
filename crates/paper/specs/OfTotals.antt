-- The document that a totals paper is.
use Rattle.std.specs.Prelude.{◌≡◌, ◌^◌, ◌<◌, Ok, Err, Result}
use Rattle.plant.specs.Limits.{most_valves}
use Rattle.words.specs.Words.{words}
use Rattle.words.specs.declared.word.Word.{Word}
use Rattle.words.specs.declared.faults.PaperFault.{PaperFault}
use Rattle.paper.specs.declared.totals.Total.{Total}
use Rattle.paper.specs.declared.totals.TotalsPaper.{TotalsPaper}
use Rattle.paper.specs.Totals.{TotalsDocument, total_of, totals_document}

abbrev pub totals_said : TotalsPaper → TotalsDocument
totals_said x = totals_document (words x.bytes.now)

-- what a reading answers, by its document
abbrev pub totals_answer : Result TotalsPaper PaperFault → Result TotalsDocument PaperFault
totals_answer (Ok x) = Ok (totals_said x)
totals_answer (Err e) = Err e

-- what a total word says
pub record Says (w : Word) (t : Total) : Type 0 where
  pub valve : t.valve ≡ (total_of w.bits).valve
  pub amount : t.amount ≡ (total_of w.bits).amount
  pub there : t.valve < most_valves
  pub small : t.amount < 2 ^ 20
