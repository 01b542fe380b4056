-- A totals paper as a document: the divisor, and a total for each of some valves.
use Rattle.std.specs.Prelude.{ℕ, suc, ◌+◌, ◌*◌, ◌^◌, ◌<◌, ◌≤◌, List, [], ◌∷◌, map, length}
use Rattle.std.specs.List.{AllByRecursion}
use Rattle.plant.specs.Limits.{most_valves, most_divisor, most_total}
use Rattle.plant.specs.Walk.{Firing}
use Rattle.plant.specs.Totals.{Rising}
use Rattle.words.specs.Words.{bytes, field}
use Rattle.paper.specs.Limits.{most_evidence_words}

pub record TotalsDocument : Type 0 where
  pub divisor : ℕ
  pub totals : List Firing

-- a total of a plant with so many valves
pub record TotalFits (valves : ℕ) (f : Firing) : Type 0 where
  pub valve_there : f.valve < valves
  pub valve_small : f.valve < most_valves
  pub some : 1 ≤ f.amount
  pub few : f.amount ≤ most_total

-- a document that can be written as a totals paper
pub record TotalsFormed (valves : ℕ) (d : TotalsDocument) : Type 0 where
  pub some_divisor : 1 ≤ d.divisor
  pub small_divisor : d.divisor ≤ most_divisor
  pub totals_fit : AllByRecursion (TotalFits valves) d.totals
  pub totals_rise : Rising 0 d.totals
  pub few_words : suc (length d.totals) ≤ most_evidence_words

-- writing: a head word of kind 4 with the divisor, and a word of kind 5 for each total
abbrev pub totals_head : TotalsDocument → ℕ
totals_head d = 4 * 2 ^ 28 + d.divisor

abbrev pub total_word : Firing → ℕ
total_word f = 5 * 2 ^ 28 + f.valve * 2 ^ 22 + f.amount

abbrev pub totals_words : TotalsDocument → List ℕ
totals_words d = totals_head d ∷ map total_word d.totals

abbrev pub totals_paper : TotalsDocument → List ℕ
totals_paper d = bytes (totals_words d)

-- reading: what the words say, whether they are well formed or not
abbrev pub total_of : ℕ → Firing
total_of w = record { valve = field w 22 6; amount = field w 0 20 }

abbrev pub totals_document : List ℕ → TotalsDocument
totals_document [] = record { divisor = 0; totals = [] }
totals_document (h ∷ ws) = record { divisor = field h 0 20; totals = map total_of ws }
