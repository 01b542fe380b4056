-- A barrier paper as a document: its cases, each a list of lines with their weights, and its steps.
use Rattle.std.specs.Prelude.{◌≡◌, ℕ, suc, ◌+◌, ◌*◌, ◌^◌, ◌<◌, ◌≤◌, Bool, cond, List, [], ◌∷◌, ◌++◌, map, length, ℤ, pos, ◌+ℤ◌, neg_ℤ, ◌==◌, slice_index_or}
use Rattle.std.specs.List.{AllByRecursion}
use Rattle.words.specs.Words.{bytes, field, kind}
use Rattle.paper.specs.Limits.{most_evidence_words}
use Rattle.barriers.specs.Lines.{Line, Barrier}
use Rattle.barriers.specs.Steps.{Way, forward, backward, Match, Step}
use Rattle.barrier_paper.specs.Limits.{most_cases, most_lines, most_line_weight, most_factor}

-- the weight of one tank, as a sign and a size
pub record Weight : Type 0 where
  pub tank : ℕ
  pub negative : Bool
  pub size : ℕ

pub record LineText : Type 0 where
  pub strict : Bool
  pub lefts : List Weight
  pub rights : List Weight

abbrev pub CaseText : Type 0
CaseText = List LineText

pub record BarrierDocument : Type 0 where
  pub cases : List CaseText
  pub steps : List Step

-- what a weight adds to tank r, and what all of them give it: a tank's weight is the sum of its words, 0 where it has none
abbrev pub signed : Weight → ℤ
signed w = cond w.negative (neg_ℤ (pos w.size)) (pos w.size)

abbrev pub weight_of : List Weight → ℕ → ℤ
weight_of [] r = pos 0
weight_of (w ∷ ws) r = cond (w.tank == r) (signed w) (pos 0) +ℤ weight_of ws r

-- the line, the case and the barrier that the texts say
abbrev pub line_of : LineText → Line
line_of l = record { left = weight_of l.lefts; right = weight_of l.rights; strict = l.strict }

abbrev pub barrier_of : BarrierDocument → Barrier
barrier_of d = map (map line_of) d.cases

-- ---- well-formed documents

pub record WeightFits (tanks : ℕ) (w : Weight) : Type 0 where
  pub tank_there : w.tank < tanks
  pub tank_small : w.tank < 64
  pub some : 1 ≤ w.size
  pub few : w.size ≤ most_line_weight

-- the tanks rise strictly, and none is below `least`
abbrev pub RisingWeights : ℕ → List Weight → Type 0
RisingWeights least [] = Unit {0}
RisingWeights least (w ∷ ws) = (least ≤ w.tank) × RisingWeights (suc w.tank) ws

pub record LineFits (tanks : ℕ) (l : LineText) : Type 0 where
  pub lefts_fit : AllByRecursion (WeightFits tanks) l.lefts
  pub lefts_rise : RisingWeights 0 l.lefts
  pub rights_fit : AllByRecursion (WeightFits tanks) l.rights
  pub rights_rise : RisingWeights 0 l.rights

pub record CaseFits (tanks : ℕ) (c : CaseText) : Type 0 where
  pub few_lines : length c ≤ most_lines
  pub lines_fit : AllByRecursion (LineFits tanks) c

-- how many lines case i has
abbrev pub lines_in : List CaseText → ℕ → ℕ
lines_in cs i = length (slice_index_or cs i [])

-- a match names a line of the case left
pub record MatchFits (lines : ℕ) (m : Match) : Type 0 where
  pub line_there : m.line < lines
  pub small_p : m.p ≤ most_factor
  pub small_q : m.q ≤ most_factor

abbrev pub way_bit : Way → ℕ
way_bit forward = 0
way_bit backward = 1

-- steps rise by direction, case and valve; a case is below 16 and a valve below 64, so this number rises with them
abbrev pub step_key : Step → ℕ
step_key s = (way_bit s.way * 16 + s.from) * 64 + s.valve

abbrev pub RisingSteps : ℕ → List Step → Type 0
RisingSteps least [] = Unit {0}
RisingSteps least (s ∷ ss) = (least ≤ step_key s) × RisingSteps (suc (step_key s)) ss

-- a step of a plant with so many valves between cases of the paper, with one match for every line of the case reached
pub record StepFits (valves : ℕ) (cs : List CaseText) (s : Step) : Type 0 where
  pub from_there : s.from < length cs
  pub valve_there : s.valve < valves
  pub valve_small : s.valve < 64
  pub to_there : s.to < length cs
  pub matched : length s.matches ≡ lines_in cs s.to
  pub matches_fit : AllByRecursion (MatchFits (lines_in cs s.from)) s.matches

-- ---- writing

-- kind 8 is a left weight, kind 9 a right weight
abbrev pub weight_word : ℕ → Weight → ℕ
weight_word k w = k * 2 ^ 28 + w.tank * 2 ^ 22 + cond w.negative 1 0 * 2 ^ 14 + w.size

abbrev pub line_words : LineText → List ℕ
line_words l = (7 * 2 ^ 28 + cond l.strict 1 0) ∷ (map (weight_word 8) l.lefts ++ map (weight_word 9) l.rights)

-- the words of each of a list, one after another
abbrev pub joined : {X : Type 0} → (X → List ℕ) → List X → List ℕ
joined f [] = []
joined f (x ∷ xs) = f x ++ joined f xs

abbrev pub case_words : CaseText → List ℕ
case_words c = 6 * 2 ^ 28 ∷ joined line_words c

abbrev pub match_word : Match → ℕ
match_word m = 11 * 2 ^ 28 + m.line * 2 ^ 24 + m.p * 2 ^ 12 + m.q

abbrev pub step_words : Step → List ℕ
step_words s = (10 * 2 ^ 28 + way_bit s.way * 2 ^ 27 + s.from * 2 ^ 23 + s.valve * 2 ^ 17 + s.to * 2 ^ 13) ∷ map match_word s.matches

abbrev pub barrier_words : BarrierDocument → List ℕ
barrier_words d = joined case_words d.cases ++ joined step_words d.steps

abbrev pub barrier_paper : BarrierDocument → List ℕ
barrier_paper d = bytes (barrier_words d)

-- a document that can be written as a barrier paper
pub record BarrierFormed (tanks valves : ℕ) (d : BarrierDocument) : Type 0 where
  pub some_cases : 1 ≤ length d.cases
  pub few_cases : length d.cases ≤ most_cases
  pub cases_fit : AllByRecursion (CaseFits tanks) d.cases
  pub steps_fit : AllByRecursion (StepFits valves d.cases) d.steps
  pub steps_rise : RisingSteps 0 d.steps
  pub few_words : length (barrier_words d) ≤ most_evidence_words

-- ---- reading: what the words say, whether they are well formed or not

abbrev pub weight_said : ℕ → Weight
weight_said w = record { tank = field w 22 6; negative = (field w 14 1 == 1); size = field w 0 14 }

abbrev pub match_said : ℕ → Match
match_said w = record { line = field w 24 4; p = field w 12 12; q = field w 0 12 }

abbrev pub way_said : ℕ → Way
way_said w = cond (field w 27 1 == 1) backward forward

abbrev pub step_said : ℕ → List Match → Step
step_said w ms = record { way = way_said w; from = field w 23 4; valve = field w 17 6; to = field w 13 4; matches = ms }

-- what stands at the front of the words, not yet taken up by a word before it: weights by a line, lines by a case, matches by a step
pub record Said : Type 0 where
  pub lefts : List Weight
  pub rights : List Weight
  pub lines : List LineText
  pub cases : List CaseText
  pub matches : List Match
  pub steps : List Step

abbrev pub nothing_said : Said
nothing_said = record { lefts = []; rights = []; lines = []; cases = []; matches = []; steps = [] }

-- one more word before what is said so far
abbrev pub say : ℕ → Said → Said
say w d =
    cond (kind w == 6) (record d { lefts = []; rights = []; lines = []; cases = d.lines ∷ d.cases }) (
    cond (kind w == 7) (record d { lefts = []; rights = []; lines = record { strict = (field w 0 1 == 1); lefts = d.lefts; rights = d.rights } ∷ d.lines }) (
    cond (kind w == 8) (record d { lefts = weight_said w ∷ d.lefts }) (
    cond (kind w == 9) (record d { rights = weight_said w ∷ d.rights }) (
    cond (kind w == 10) (record d { matches = []; steps = step_said w d.matches ∷ d.steps }) (
    cond (kind w == 11) (record d { matches = match_said w ∷ d.matches })
    d)))))

abbrev pub said : List ℕ → Said
said [] = nothing_said
said (w ∷ ws) = say w (said ws)

abbrev pub barrier_document : List ℕ → BarrierDocument
barrier_document ws = record { cases = (said ws).cases; steps = (said ws).steps }
