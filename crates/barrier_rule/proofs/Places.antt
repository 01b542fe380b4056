-- The place of a step, which has its direction, its case and its valve in one number, and the places at which a step has to stand.
use Rattle.std.proofs.Common.{◌≡◌, ℕ, ◌/◌, ◌%◌, ◌<◌, ◌≤◌, Bool, true, cond, ◌&&◌, ltb, leb, length, Some, None, Decides, sym, refl, ap, ◌∙◌, arith}
use Rattle.std.proofs.lemmas.Bool.{cond_both, ltb-true, ltb-false, le-leb, leb-true, and_parts, and_from, true≢false}
use Rattle.std.proofs.lemmas.Bool.Decides.{Decides-and, Decides-like, Decides-ltb}
use Rattle.plant.specs.Net.{Net, Bounded}
use Rattle.walks.proofs.Sufficient.{open_below}
use Rattle.starting.proofs.Firsts.{first_none, none_first, some_first}
use Rattle.barriers.specs.Lines.{Barrier}
use Rattle.barriers.specs.Steps.{Way, forward, backward, Step}
use Rattle.barrier_paper.specs.Document.{step_key}
use Rattle.barrier_rule.specs.Judgement.{most_places, wanted, gap}
use Rattle.barrier_rule.specs.Exact.{place, Wanted, Leaves}

-- a case and a valve that a place has room for
pub record Small (i t : ℕ) : Type 0 where
  pub case_small : i < 16
  pub valve_small : t < 64

pub place_below : (way : Way) (i t : ℕ) → Small i t → place way i t < most_places
place_below forward i t b = omega arith
place_below backward i t b = omega arith

place_case : (way : Way) (i t : ℕ) → Small i t → place way i t / 64 % 16 ≡ i
place_case forward i t b = omega arith
place_case backward i t b = omega arith

place_valve : (way : Way) (i t : ℕ) → Small i t → place way i t % 64 ≡ t
place_valve forward i t b = omega arith
place_valve backward i t b = omega arith

place_way : (way way' : Way) (i i' t t' : ℕ) → Small i t → Small i' t' → place way i t ≡ place way' i' t' → way ≡ way'
place_way forward forward i i' t t' b b' e = refl
place_way forward backward i i' t t' b b' e = absurd (omega arith)
place_way backward forward i i' t t' b b' e = absurd (omega arith)
place_way backward backward i i' t t' b b' e = refl

-- a step's key is its place
pub key_place : (s : Step) → step_key s ≡ place s.way s.from s.valve
key_place s = omega arith

pub key_below : (s : Step) → Small s.from s.valve → step_key s < most_places
key_below s b = omega (arith, key_place s, place_below s.way s.from s.valve b)

pub leaving_key : {s : Step} {way : Way} {i t : ℕ} → Leaves s way i t → step_key s ≡ place way i t
leaving_key l = rw (l.its_way, l.its_case, l.its_valve) (omega arith)

-- and the key tells what the step leaves, and by what
pub key_leaving : (s : Step) (way : Way) (i t : ℕ) → Small s.from s.valve → Small i t → step_key s ≡ place way i t → Leaves s way i t
key_leaving s way i t b b' e =
    let same : place s.way s.from s.valve ≡ place way i t = sym (key_place s) ∙ e in
    record {
      its_way = place_way s.way way s.from i s.valve t b b' same;
      its_case = sym (place_case s.way s.from s.valve b) ∙ (ap (λ k. k / 64 % 16) same ∙ place_case way i t b');
      its_valve = sym (place_valve s.way s.from s.valve b) ∙ (ap (λ k. k % 64) same ∙ place_valve way i t b');
    }

-- every number below the limit is a place
abbrev pub way_at : ℕ → Way
way_at k = cond (ltb k 1024) forward backward

pub place_at : (k : ℕ) → k < most_places → k ≡ place (way_at k) (k / 64 % 16) (k % 64)
place_at k l =
    cond_both (ltb k 1024) forward backward (λ way. k ≡ place way (k / 64 % 16) (k % 64))
    (λ e. omega (arith, ltb-true k 1024 e))
    (λ e. omega (arith, ltb-false k 1024 e))

-- ---- where a step has to stand

-- k is the first place from `low` on at which a step has to stand, and it is before `high`
pub record Gap (N : Net) (β : Barrier) (low high k : ℕ) : Type 0 where
  pub from : low ≤ k
  pub to : k < high
  pub wants : Wanted N β (k / 64 % 16) (k % 64)
  pub none_before : gap N (length β) low k ≡ None

module _ (N : Net) (b : Bounded N) (β : Barrier) (few : length β ≤ 16) where
  pub wanted_small : (i t : ℕ) → Wanted N β i t → Small i t
  wanted_small i t w = record { case_small = omega (arith, w.case_there); valve_small = omega (arith, open_below N b t w.valve_open, b.few_valves) }

  pub wanted_decided : (k : ℕ) → Decides (wanted N (length β) k) (Wanted N β (k / 64 % 16) (k % 64))
  wanted_decided k =
      Decides-like (wanted N (length β) k) (λ h. record { case_there = h.0; valve_open = h.1 }) (λ w. (w.case_there, w.valve_open))
      (Decides-and _ _ (Decides-ltb (k / 64 % 16) (length β)) (λ e. e, λ e. e))

  wanted_place : (way : Way) (i t : ℕ) → Wanted N β i t → wanted N (length β) (place way i t) ≡ true
  wanted_place way i t w =
      let small = wanted_small i t w in
      (wanted_decided (place way i t)).1 (rw (place_case way i t small, place_valve way i t small) w)

  -- no step has to stand from one place on up to another
  pub gap_none : (low high : ℕ) → gap N (length β) low high ≡ None → (way : Way) (i t : ℕ) → Wanted N β i t → low ≤ place way i t → place way i t < high → ⊥
  gap_none low high e way i t w from to =
      true≢false (sym (and_from (leb low (place way i t)) _ (le-leb low (place way i t) from) (wanted_place way i t w))
      ∙ none_first (λ k. leb low k && wanted N (length β) k) high e (place way i t) to)

  pub gap_some : (low high k : ℕ) → gap N (length β) low high ≡ Some k → Gap N β low high k
  gap_some low high k e =
      let test : ℕ → Bool = λ j. leb low j && wanted N (length β) j in
      let first = some_first test high k e in
      let parts = and_parts (leb low k) (wanted N (length β) k) first.passes in
      record { from = leb-true low k parts.0; to = first.below; wants = (wanted_decided k).0 parts.1; none_before = first_none test k first.least }
