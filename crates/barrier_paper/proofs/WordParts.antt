-- The words of barrier papers: what a good word of each kind keeps, that it is the writing of what it says, that the word of a
-- fitting thing is good and says the thing, and of which kinds the words of a well-formed document are.
use Rattle.std.proofs.Common.{◌≡◌, ℕ, ◌+◌, ◌*◌, ◌/◌, ◌^◌, ◌<◌, ◌≤◌, Bool, true, false, cond, eqb, List, [], ◌∷◌, ◌++◌, map, length, sym, refl, ap, ◌∙◌, arith}
use Rattle.std.specs.List.{AllByRecursion}
use Rattle.std.proofs.ByRecursion.{All-append, All-weaker, All-map, All-get_or}
use Rattle.std.proofs.lemmas.Bool.Decides.{nat_tests}
use Rattle.plant.specs.Limits.{most_valves}
use Rattle.words.specs.Words.{kind, field}
use Rattle.words.specs.Inverse.{Words}
use Rattle.barriers.specs.Steps.{Way, forward, backward, Match, Step}
use Rattle.barrier_paper.specs.Limits.{most_cases, most_lines, most_line_weight}
use Rattle.barrier_paper.specs.Document.{Weight, LineText, CaseText, BarrierDocument, WeightFits, LineFits, CaseFits, MatchFits, StepFits, BarrierFormed, lines_in, way_bit, step_key, weight_word, line_words, joined, case_words, match_word, step_words, barrier_words, weight_said, match_said, step_said}

pub record CaseWord (w : ℕ) : Type 0 where
  pub kind_is : kind w ≡ 6
  pub plain : field w 0 28 ≡ 0

pub record LineWord (w : ℕ) : Type 0 where
  pub kind_is : kind w ≡ 7
  pub plain : field w 1 27 ≡ 0

pub record WeightWord (k tanks least w : ℕ) : Type 0 where
  pub kind_is : kind w ≡ k
  pub plain : field w 15 7 ≡ 0
  pub tank_there : field w 22 6 < tanks
  pub some : 1 ≤ field w 0 14
  pub few : field w 0 14 ≤ most_line_weight
  pub rises : least ≤ field w 22 6

pub record StepWord (cases valves least w : ℕ) : Type 0 where
  pub kind_is : kind w ≡ 10
  pub plain : field w 0 13 ≡ 0
  pub from_there : field w 23 4 < cases
  pub valve_there : field w 17 6 < valves
  pub to_there : field w 13 4 < cases
  pub rises : least ≤ field w 17 11

pub record MatchWord (lines w : ℕ) : Type 0 where
  pub kind_is : kind w ≡ 11
  pub line_there : field w 24 4 < lines

-- a flag as a bit, and back
bit_low : (g : Bool) → cond g 1 0 < 2
bit_low true = omega arith
bit_low false = omega arith

bit_says : (g : Bool) → eqb (cond g 1 0) 1 ≡ g
bit_says true = refl
bit_says false = refl

bit_back : (b : ℕ) → b < 2 → cond (eqb b 1) 1 0 ≡ b
bit_back b h = grind (arith, nat_tests)

way_low : (y : Way) → way_bit y < 2
way_low forward = omega arith
way_low backward = omega arith

way_says : (y : Way) → cond (eqb (way_bit y) 1) backward forward ≡ y
way_says forward = refl
way_says backward = refl

pub way_back : (b : ℕ) → b < 2 → way_bit (cond (eqb b 1) backward forward) ≡ b
way_back b h = grind (arith, nat_tests)

-- ---- weights

record WeightParts (k t g x w : ℕ) : Type 0 where
  kind_is : kind w ≡ k
  plain : field w 15 7 ≡ 0
  tank_is : field w 22 6 ≡ t
  flag_is : field w 14 1 ≡ g
  size_is : field w 0 14 ≡ x

weight_put : (k t g x : ℕ) → t < 64 → g < 2 → x ≤ most_line_weight → WeightParts k t g x (k * 2 ^ 28 + t * 2 ^ 22 + g * 2 ^ 14 + x)
weight_put k t g x ht hg hx = record { kind_is = omega arith; plain = omega arith; tank_is = omega arith; flag_is = omega arith; size_is = omega arith }

weight_apart : (k w : ℕ) → kind w ≡ k → field w 15 7 ≡ 0 → w ≡ k * 2 ^ 28 + field w 22 6 * 2 ^ 22 + field w 14 1 * 2 ^ 14 + field w 0 14
weight_apart k w h p =
    let low : w / 2 ^ 15 ≡ w / 2 ^ 14 / 2 = omega arith in
    let middle : w / 2 ^ 22 ≡ w / 2 ^ 15 / 2 ^ 7 = omega arith in
    let high : w / 2 ^ 28 ≡ w / 2 ^ 22 / 2 ^ 6 = omega arith in
    omega arith

weight_parts : (tanks k : ℕ) (x : Weight) → WeightFits tanks x → WeightParts k x.tank (cond x.negative 1 0) x.size (weight_word k x)
weight_parts tanks k x f = weight_put k x.tank (cond x.negative 1 0) x.size f.tank_small (bit_low x.negative) f.few

pub weight_good : (k tanks least : ℕ) (x : Weight) → WeightFits tanks x → least ≤ x.tank → WeightWord k tanks least (weight_word k x)
weight_good k tanks least x f h =
    let p = weight_parts tanks k x f in
    record {
      kind_is = p.kind_is;
      plain = p.plain;
      tank_there = rw p.tank_is f.tank_there;
      some = rw p.size_is f.some;
      few = rw p.size_is f.few;
      rises = rw p.tank_is h;
    }

pub weight_kind : (tanks k : ℕ) (x : Weight) → WeightFits tanks x → kind (weight_word k x) ≡ k
weight_kind tanks k x f = (weight_parts tanks k x f).kind_is

pub weight_says : (tanks k : ℕ) (x : Weight) → WeightFits tanks x → weight_said (weight_word k x) ≡ x
weight_says tanks k x f =
    let p = weight_parts tanks k x f in
    let t = p.tank_is in
    let n : eqb (field (weight_word k x) 14 1) 1 ≡ x.negative = ap (λ b. eqb b 1) p.flag_is ∙ bit_says x.negative in
    let z = p.size_is in
    let same : weight_said (weight_word k x) ≡ record { tank = x.tank; negative = x.negative; size = x.size } = cc in
    same

pub weight_written : (k tanks least w : ℕ) → WeightWord k tanks least w → w ≡ weight_word k (weight_said w)
weight_written k tanks least w h = rw (bit_back (field w 14 1) (omega arith)) (weight_apart k w h.kind_is h.plain)

pub weight_fits : (k tanks least w : ℕ) → WeightWord k tanks least w → WeightFits tanks (weight_said w)
weight_fits k tanks least w h = record { tank_there = h.tank_there; tank_small = omega arith; some = h.some; few = h.few }

-- ---- lines and cases

abbrev pub line_head : Bool → ℕ
line_head g = 7 * 2 ^ 28 + cond g 1 0

pub line_good : (g : Bool) → LineWord (line_head g) × (eqb (field (line_head g) 0 1) 1 ≡ g)
line_good true = (record { kind_is = refl; plain = refl }, refl)
line_good false = (record { kind_is = refl; plain = refl }, refl)

line_apart : (w : ℕ) → kind w ≡ 7 → field w 1 27 ≡ 0 → w ≡ 7 * 2 ^ 28 + field w 0 1
line_apart w k p = omega arith

pub line_written : (w : ℕ) → LineWord w → w ≡ line_head (eqb (field w 0 1) 1)
line_written w h = rw (bit_back (field w 0 1) (omega arith)) (line_apart w h.kind_is h.plain)

pub case_good : CaseWord (6 * 2 ^ 28)
case_good = record { kind_is = refl; plain = refl }

pub case_written : (w : ℕ) → CaseWord w → w ≡ 6 * 2 ^ 28
case_written w h = let k = h.kind_is in let p = h.plain in omega arith

-- ---- matches

pub match_good : (lines : ℕ) (m : Match) → lines ≤ most_lines → MatchFits lines m → MatchWord lines (match_word m) × (match_said (match_word m) ≡ m)
match_good lines m few f =
    let there = f.line_there in
    let p = f.small_p in
    let q = f.small_q in
    let line-is : field (match_word m) 24 4 ≡ m.line = omega arith in
    let p-is : field (match_word m) 12 12 ≡ m.p = omega arith in
    let q-is : field (match_word m) 0 12 ≡ m.q = omega arith in
    let same : match_said (match_word m) ≡ record { line = m.line; p = m.p; q = m.q } = cc in
    (record { kind_is = omega arith; line_there = rw line-is there }, same)

pub match_written : (lines w : ℕ) → MatchWord lines w → w ≡ match_word (match_said w)
match_written lines w h =
    let k = h.kind_is in
    let low : w / 2 ^ 24 ≡ w / 2 ^ 12 / 2 ^ 12 = omega arith in
    let high : w / 2 ^ 28 ≡ w / 2 ^ 24 / 2 ^ 4 = omega arith in
    omega arith

pub match_fits : (lines w : ℕ) → MatchWord lines w → MatchFits lines (match_said w)
match_fits lines w h = record { line_there = h.line_there; small_p = omega arith; small_q = omega arith }

-- ---- steps

abbrev pub step_head : Step → ℕ
step_head s = 10 * 2 ^ 28 + way_bit s.way * 2 ^ 27 + s.from * 2 ^ 23 + s.valve * 2 ^ 17 + s.to * 2 ^ 13

record StepParts (b f v t w : ℕ) : Type 0 where
  kind_is : kind w ≡ 10
  plain : field w 0 13 ≡ 0
  way_is : field w 27 1 ≡ b
  from_is : field w 23 4 ≡ f
  valve_is : field w 17 6 ≡ v
  to_is : field w 13 4 ≡ t
  key_is : field w 17 11 ≡ (b * 16 + f) * 64 + v

step_put : (b f v t : ℕ) → b < 2 → f < most_cases → v < most_valves → t < most_cases → StepParts b f v t (10 * 2 ^ 28 + b * 2 ^ 27 + f * 2 ^ 23 + v * 2 ^ 17 + t * 2 ^ 13)
step_put b f v t hb hf hv ht = record {
  kind_is = omega arith;
  plain = omega arith;
  way_is = omega arith;
  from_is = omega arith;
  valve_is = omega arith;
  to_is = omega arith;
  key_is = omega arith;
}

step_apart : (w : ℕ) → kind w ≡ 10 → field w 0 13 ≡ 0 → w ≡ 10 * 2 ^ 28 + field w 27 1 * 2 ^ 27 + field w 23 4 * 2 ^ 23 + field w 17 6 * 2 ^ 17 + field w 13 4 * 2 ^ 13
step_apart w k p =
    let a : w / 2 ^ 17 ≡ w / 2 ^ 13 / 2 ^ 4 = omega arith in
    let b : w / 2 ^ 23 ≡ w / 2 ^ 17 / 2 ^ 6 = omega arith in
    let c : w / 2 ^ 27 ≡ w / 2 ^ 23 / 2 ^ 4 = omega arith in
    let d : w / 2 ^ 28 ≡ w / 2 ^ 27 / 2 = omega arith in
    omega arith

key_apart : (w : ℕ) → field w 17 11 ≡ (field w 27 1 * 16 + field w 23 4) * 64 + field w 17 6
key_apart w =
    let b : w / 2 ^ 23 ≡ w / 2 ^ 17 / 2 ^ 6 = omega arith in
    let c : w / 2 ^ 27 ≡ w / 2 ^ 23 / 2 ^ 4 = omega arith in
    omega arith

step_parts : (s : Step) → s.from < most_cases → s.valve < most_valves → s.to < most_cases → StepParts (way_bit s.way) s.from s.valve s.to (step_head s)
step_parts s from valve to = step_put (way_bit s.way) s.from s.valve s.to (way_low s.way) from valve to

-- a step's word says the step, all but its matches, and the number by which steps rise
pub record StepSays (s : Step) : Type 0 where
  pub kind_is : kind (step_head s) ≡ 10
  pub step_is : step_said (step_head s) s.matches ≡ s
  pub key_is : field (step_head s) 17 11 ≡ step_key s

pub step_word_says : (s : Step) → s.from < most_cases → s.valve < most_valves → s.to < most_cases → StepSays s
step_word_says s from valve to =
    let p = step_parts s from valve to in
    let y : cond (eqb (field (step_head s) 27 1) 1) backward forward ≡ s.way = ap (λ b. cond (eqb b 1) backward forward) p.way_is ∙ way_says s.way in
    let f = p.from_is in
    let v = p.valve_is in
    let t = p.to_is in
    let same : step_said (step_head s) s.matches ≡ record { way = s.way; from = s.from; valve = s.valve; to = s.to; matches = s.matches } = cc in
    record { kind_is = p.kind_is; step_is = same; key_is = p.key_is }

-- it is good where its cases are there
pub step_good : (cases valves least : ℕ) (s : Step) → cases ≤ most_cases → s.from < cases → s.valve < valves → s.valve < most_valves → s.to < cases → least ≤ step_key s → StepWord cases valves least (step_head s)
step_good cases valves least s few from valve small to h =
    let p = step_parts s (omega arith) small (omega arith) in
    record {
      kind_is = p.kind_is;
      plain = p.plain;
      from_there = rw p.from_is from;
      valve_there = rw p.valve_is valve;
      to_there = rw p.to_is to;
      rises = rw p.key_is h;
    }

pub step_written : (cases valves least w : ℕ) (ms : List Match) → StepWord cases valves least w → w ≡ step_head (step_said w ms)
step_written cases valves least w ms h = rw (way_back (field w 27 1) (omega arith)) (step_apart w h.kind_is h.plain)

pub key_said : (w : ℕ) (ms : List Match) → step_key (step_said w ms) ≡ field w 17 11
key_said w ms = rw (way_back (field w 27 1) (omega arith)) (sym (key_apart w))

-- ---- the words of a well-formed document, by their kinds

-- the kinds of all these words are between two
abbrev pub Kinds : ℕ → ℕ → List ℕ → Type 0
Kinds low high ws = AllByRecursion (λ w. (low ≤ kind w) × (kind w ≤ high)) ws

wider : (low high low' high' : ℕ) (ws : List ℕ) → low' ≤ low → high ≤ high' → Kinds low high ws → Kinds low' high' ws
wider low high low' high' ws a b = All-weaker _ _ (λ w (m : (low ≤ kind w) × (kind w ≤ high)). (omega (arith, m.0), omega (arith, m.1))) ws

joined_kinds : {X : Type 0} (Fits : X → Type 0) (f : X → List ℕ) (low high : ℕ) → ((x : X) → Fits x → Kinds low high (f x)) → (xs : List X) → AllByRecursion Fits xs → Kinds low high (joined f xs)
joined_kinds Fits f low high each [] h = tt
joined_kinds Fits f low high each (x ∷ xs) h = All-append _ (f x) (joined f xs) (each x h.0) (joined_kinds Fits f low high each xs h.1)

-- the words of a line after its own, of a case after its own, and of all cases
module _ (tanks : ℕ) where
  weights_kinds : (k : ℕ) (ws : List Weight) → AllByRecursion (WeightFits tanks) ws → Kinds k k (map (weight_word k) ws)
  weights_kinds k ws h = All-map _ (weight_word k) ws (All-weaker _ _ (λ w (f : WeightFits tanks w). let e = weight_kind tanks k w f in (omega arith, omega arith)) ws h)

  pub weights_of_line : (t : LineText) → LineFits tanks t → Kinds 8 9 (map (weight_word 8) t.lefts ++ map (weight_word 9) t.rights)
  weights_of_line t h =
      All-append _ _ _ (wider 8 8 8 9 _ (omega arith) (omega arith) (weights_kinds 8 t.lefts h.lefts_fit)) (wider 9 9 8 9 _ (omega arith) (omega arith) (weights_kinds 9 t.rights h.rights_fit))

  line_kinds : (t : LineText) → LineFits tanks t → Kinds 7 9 (line_words t)
  line_kinds t h = let e = (line_good t.strict).0.kind_is in ((omega arith, omega arith), wider 8 9 7 9 _ (omega arith) (omega arith) (weights_of_line t h))

  pub lines_of_case : (c : CaseText) → AllByRecursion (LineFits tanks) c → Kinds 7 9 (joined line_words c)
  lines_of_case = joined_kinds (LineFits tanks) line_words 7 9 line_kinds

  case_kinds : (c : CaseText) → CaseFits tanks c → Kinds 6 9 (case_words c)
  case_kinds c h = ((omega arith, omega arith), wider 7 9 6 9 _ (omega arith) (omega arith) (lines_of_case c h.lines_fit))

  pub cases_kinds : (cs : List CaseText) → AllByRecursion (CaseFits tanks) cs → Kinds 6 9 (joined case_words cs)
  cases_kinds = joined_kinds (CaseFits tanks) case_words 6 9 case_kinds

module _ (valves : ℕ) (cs : List CaseText) (few_cases : length cs ≤ most_cases) where
  -- a step's word says the step
  pub step_says : (s : Step) → StepFits valves cs s → StepSays s
  step_says s h = step_word_says s (omega (arith, h.from_there)) h.valve_small (omega (arith, h.to_there))

module _ (tanks valves : ℕ) (cs : List CaseText) (few_cases : length cs ≤ most_cases) (cases_fit : AllByRecursion (CaseFits tanks) cs) where
  match_fine : (i : ℕ) → i < length cs → (m : Match) → MatchFits (lines_in cs i) m → MatchWord (lines_in cs i) (match_word m) × (match_said (match_word m) ≡ m)
  match_fine i h m f = match_good (lines_in cs i) m (All-get_or (CaseFits tanks) cs i [] h cases_fit).few_lines f

  -- and a match's word says the match
  pub match_says : (i : ℕ) → i < length cs → (m : Match) → MatchFits (lines_in cs i) m → match_said (match_word m) ≡ m
  match_says i h m f = (match_fine i h m f).1

  pub matches_kinds : (s : Step) → StepFits valves cs s → Kinds 11 11 (map match_word s.matches)
  matches_kinds s h =
      All-map _ match_word s.matches (All-weaker _ _ (λ m (f : MatchFits (lines_in cs s.from) m). let k = (match_fine s.from h.from_there m f).0.kind_is in (omega arith, omega arith)) s.matches h.matches_fit)

  step_kinds : (s : Step) → StepFits valves cs s → Kinds 10 11 (step_words s)
  step_kinds s h = let e = (step_says valves cs few_cases s h).kind_is in ((omega arith, omega arith), wider 11 11 10 11 _ (omega arith) (omega arith) (matches_kinds s h))

  pub steps_kinds : (ss : List Step) → AllByRecursion (StepFits valves cs) ss → Kinds 10 11 (joined step_words ss)
  steps_kinds = joined_kinds (StepFits valves cs) step_words 10 11 step_kinds

-- so each word of a well-formed document fits 32 bits
pub words_small : (tanks valves : ℕ) (d : BarrierDocument) → BarrierFormed tanks valves d → Words (barrier_words d)
words_small tanks valves d f =
    All-weaker _ _ (λ w (m : (6 ≤ kind w) × (kind w ≤ 11)). omega (arith, m.1)) _
    (All-append _ _ _ (wider 6 9 6 11 _ (omega arith) (omega arith) (cases_kinds tanks d.cases f.cases_fit)) (wider 10 11 6 11 _ (omega arith) (omega arith) (steps_kinds tanks valves d.cases f.few_cases f.cases_fit d.steps f.steps_fit)))
