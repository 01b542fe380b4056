-- The form of a totals paper, word by word: a head with the divisor, then totals that rise by valve.
use Rattle.std.specs.Prelude.{ℕ, ◌+◌, ◌&&◌, List, Ok, Result, ◌==◌, nat_le, nat_lt}
use Rattle.plant.specs.Limits.{most_divisor, most_total}
use Rattle.words.specs.declared.faults.PaperFault.{PaperFault}
use Rattle.words.specs.declared.faults.PaperFault.TheVariants.{Kind, Unnamed, Limit, Order}
use Rattle.words.specs.Words.{words, kind, field}
use Rattle.words.specs.Faults.{need, within, onward}
use Rattle.paper.specs.declared.totals_form.TotalsForm.{TotalsForm}
use Rattle.paper.specs.declared.totals_form.TotalsForm.TheVariants.{Head, Totals}
use Rattle.paper.specs.Limits.{most_evidence_words}
use Rattle.paper.specs.Runs.{whole}
use Rattle.paper.specs.Totals.{TotalsDocument, totals_document}

-- what comes after one more word, at the place `at`
abbrev pub totals_step : TotalsForm → ℕ → ℕ → Result TotalsForm PaperFault
totals_step (Head valves) at w =
    need (kind w == 4) (Kind at) (
    need (field w 20 8 == 0) (Unnamed at) (
    need (within 1 most_divisor (field w 0 20)) (Limit at) (
    Ok (Totals valves 0))))
totals_step (Totals valves least) at w =
    need (kind w == 5) (Kind at) (
    need (field w 20 2 == 0) (Unnamed at) (
    need (nat_lt (field w 22 6) valves && within 1 most_total (field w 0 20)) (Limit at) (
    need (nat_le least (field w 22 6)) (Order at) (
    Ok (Totals valves (field w 22 6 + 1))))))

-- on a plant with so many valves
abbrev pub totals_form : ℕ → List ℕ → Result TotalsForm PaperFault
totals_form valves bs = whole totals_step (Head valves) most_evidence_words bs

-- the document that a paper is the writing of, or its first fault
abbrev pub totals_read : ℕ → List ℕ → Result TotalsDocument PaperFault
totals_read valves bs = onward (totals_form valves bs) (λ _. Ok (totals_document (words bs)))
