-- What is still to be said from a state on: the front of a barrier paper's words.
use Rattle.std.proofs.Common.{◌≡◌, ℕ, suc, ◌+◌, ◌<◌, ◌≤◌, ◌⊎◌, List, [], ◌∷◌, ◌++◌, map, length, get_or, Some, None, Option, sym, refl, ap, ◌∙◌, inl, inr, ⊎_elim, add-zero, zero-add, add-one, arith}
use Rattle.std.specs.List.{AllByRecursion}
use Rattle.std.proofs.lemmas.List.{append_assoc, append-nil, set-get_or, set-set, set_at, get_or_push, get_or-set_same, length-set, length_push}
use Rattle.words.specs.Words.{field}
use Rattle.barriers.specs.Steps.{Match, Step}
use Rattle.barrier_paper.specs.declared.form.Pending.{Pending}
use Rattle.barrier_paper.specs.declared.form.Phase.{Phase}
use Rattle.barrier_paper.specs.declared.form.Phase.TheVariants.{Case, Left, Right}
use Rattle.barrier_paper.specs.declared.form.BarrierForm.{BarrierForm}
use Rattle.barrier_paper.specs.Limits.{most_cases, most_lines}
use Rattle.barrier_paper.specs.Document.{Weight, WeightFits, RisingWeights, LineText, LineFits, CaseText, CaseFits, MatchFits, RisingSteps, weight_said, Said, say}
use Rattle.barrier_paper.specs.Form.{counts_of, in_phase, after_case, last, longer, after_line, waiting, after_step, after_match}
use Rattle.barrier_paper.proofs.WordParts.{CaseWord, LineWord, WeightWord, StepWord, MatchWord, weight_fits, match_fits, key_said}
use Rattle.barrier_paper.proofs.Tables.{case_counted, line_counted}
use Rattle.barrier_paper.proofs.Taking.{InCase, lefts_from, rights_from, pending, Between, Taken, a_case, a_line, a_left, a_right, a_step, a_match, left_in_case, right_in_case, none_in_case, between_none}
use Rattle.barrier_paper.proofs.States.{Sound, waits}

-- weights, where they may come, of tanks that rise from what is given; else none
abbrev pub Weights : ℕ → Option ℕ → List Weight → Type 0
Weights tanks None xs = xs ≡ []
Weights tanks (Some least) xs = AllByRecursion (WeightFits tanks) xs × RisingWeights least xs

-- the lines of the last case and the cases after it, where the cases have `counts` lines
pub record Body (counts : List ℕ) (tanks : ℕ) (table : List ℕ) (lines : CaseText) (cases : List CaseText) : Type 0 where
  pub few_lines : get_or table (last table) 0 + length lines ≤ most_lines
  pub lines_fit : AllByRecursion (LineFits tanks) lines
  pub few_cases : length table + length cases ≤ most_cases
  pub cases_fit : AllByRecursion (CaseFits tanks) cases
  pub counted : counts ≡ longer table (length lines) ++ map length cases

-- the matches that are to come, and the steps after them
pub record Tail (p : Pending) (ms : List Match) (ss : List Step) : Type 0 where
  pub matched : length ms ≡ p.matches
  pub matches_fit : AllByRecursion (MatchFits p.lines) ms
  pub steps_rise : RisingSteps p.least ss

-- a step between cases that have `counts` lines
pub record StepCounted (valves : ℕ) (counts : List ℕ) (s : Step) : Type 0 where
  pub from_there : s.from < length counts
  pub valve_there : s.valve < valves
  pub valve_small : s.valve < 64
  pub to_there : s.to < length counts
  pub matched : length s.matches ≡ get_or counts s.to 0
  pub matches_fit : AllByRecursion (MatchFits (get_or counts s.from 0)) s.matches

-- a well-formed front, from a state on
pub record Front (counts : List ℕ) (ph : Phase) (s : BarrierForm) (d : Said) : Type 0 where
  pub lefts_fit : Weights s.counts.tanks (lefts_from ph) d.lefts
  pub rights_fit : Weights s.counts.tanks (rights_from ph) d.rights
  pub in_case : InCase ph ⊎ ((d.lines ≡ []) × (d.cases ≡ []))
  pub body : Body counts s.counts.tanks (counts_of s.lines) d.lines d.cases
  pub tail : Tail (pending ph) d.matches d.steps
  pub steps_fit : AllByRecursion (StepCounted s.counts.valves counts) d.steps

-- ---- the parts of a front, one word on and back

pub no_weights : (tanks : ℕ) (o : Option ℕ) → Weights tanks o []
no_weights tanks None = refl
no_weights tanks (Some least) = (tt, tt)

-- so many matches are to come
none_fit : (a b : ℕ) (ms : List Match) → length ms ≡ 0 → AllByRecursion (MatchFits a) ms → AllByRecursion (MatchFits b) ms
none_fit a b [] n h = tt
none_fit a b (m ∷ ms) n h = absurd (omega arith)

pub tail_waits : (p : Pending) (ms : List Match) (ss : List Step) → Tail p ms ss → Tail (pending (waiting p)) ms ss
tail_waits p ms ss t =
    waits p (λ ph. Tail (pending ph) ms ss) (λ z. record { matched = t.matched ∙ z; matches_fit = none_fit p.lines 0 ms (t.matched ∙ z) t.matches_fit; steps_rise = t.steps_rise }) (λ _. t)

pub waits_tail : (p : Pending) (ms : List Match) (ss : List Step) → Tail (pending (waiting p)) ms ss → Tail p ms ss
waits_tail p ms ss =
    waits p (λ ph. Tail (pending ph) ms ss → Tail p ms ss) (λ z t. record { matched = t.matched ∙ sym z; matches_fit = none_fit 0 p.lines ms t.matched t.matches_fit; steps_rise = t.steps_rise }) (λ _ t. t)

-- no more lines
pub longer_none : (table : List ℕ) → longer table 0 ≡ table
longer_none table = rw add-zero (set-get_or table (last table) 0)

-- one more case
pub case_counts : (table : List ℕ) (n : ℕ) (ns : List ℕ) → longer (table ++ 0 ∷ []) n ++ ns ≡ longer table 0 ++ (n ∷ ns)
case_counts table n ns =
    let e : last (table ++ 0 ∷ []) ≡ length table = omega (arith, length_push table 0) in
    rw (e, get_or_push table 0 0 (length table) refl, zero-add, set_at table 0 [] n (length table) refl, longer_none, append_assoc)

-- one more line
pub line_counts : (table : List ℕ) (n : ℕ) → 1 ≤ length table → longer (longer table 1) n ≡ longer table (suc n)
line_counts table n h =
    let x = get_or table (last table) 0 in
    let e : x + 1 + n ≡ x + suc n = omega arith in
    rw (length-set table (last table) (x + 1), get_or-set_same table (last table) (x + 1) 0 (omega arith), set-set, e)

-- the lines of the cases where these are at an end
pub counts_end : {counts table : List ℕ} {tanks : ℕ} {lines : CaseText} {cases : List CaseText} → Body counts tanks table lines cases → lines ≡ [] → cases ≡ [] → counts ≡ table
counts_end {table = table} b el ec = (rw (el, ec) at b.counted) ∙ append-nil (longer table 0) ∙ longer_none table

-- where matches or steps are due, nothing else comes before them
pub bare : (counts : List ℕ) (s : BarrierForm) (d : Said) (p : Pending) → Front counts (waiting p) s d → (d.lefts ≡ []) × (d.rights ≡ []) × (d.lines ≡ []) × (d.cases ≡ [])
bare counts s d p =
    waits p (λ ph. Front counts ph s d → (d.lefts ≡ []) × (d.rights ≡ []) × (d.lines ≡ []) × (d.cases ≡ [])) (λ _ f. all f.lefts_fit f.rights_fit f.in_case) (λ _ f. all f.lefts_fit f.rights_fit f.in_case)
  where
    all : d.lefts ≡ [] → d.rights ≡ [] → ⊥ ⊎ ((d.lines ≡ []) × (d.cases ≡ [])) → (d.lefts ≡ []) × (d.rights ≡ []) × (d.lines ≡ []) × (d.cases ≡ [])
    all l r i = ⊎_elim (λ (z : ⊥). absurd z) (λ (e : (d.lines ≡ []) × (d.cases ≡ [])). (l, r, e.0, e.1)) i

-- ---- one more word before a front

weights_more : (k tanks least w : ℕ) (xs : List Weight) → WeightWord k tanks least w → Weights tanks (Some (field w 22 6 + 1)) xs → Weights tanks (Some least) (weight_said w ∷ xs)
weights_more k tanks least w xs h f = ((weight_fits k tanks least w h, f.0), (h.rises, rw add-one at f.1))

case_more : (counts : List ℕ) (tanks : ℕ) (table : List ℕ) (lines : CaseText) (cases : List CaseText) → get_or table (last table) 0 ≤ most_lines → Body counts tanks (table ++ 0 ∷ []) lines cases → Body counts tanks table [] (lines ∷ cases)
case_more counts tanks table lines cases few b =
    let n = length_push table 0 in
    record {
      few_lines = omega arith;
      lines_fit = tt;
      few_cases = omega (arith, b.few_cases);
      cases_fit = (record { few_lines = omega (arith, b.few_lines); lines_fit = b.lines_fit }, b.cases_fit);
      counted = b.counted ∙ case_counts table (length lines) (map length cases);
    }

line_more : (counts : List ℕ) (tanks : ℕ) (table : List ℕ) (l : LineText) (lines : CaseText) (cases : List CaseText) → 1 ≤ length table → LineFits tanks l → Body counts tanks (longer table 1) lines cases → Body counts tanks table (l ∷ lines) cases
line_more counts tanks table l lines cases h f b =
    let x = get_or table (last table) 0 in
    let n = length-set table (last table) (x + 1) in
    let e = get_or-set_same table (last table) (x + 1) 0 (omega arith) in
    record {
      few_lines = omega (arith, rw (n, e) at b.few_lines);
      lines_fit = (f, b.lines_fit);
      few_cases = omega (arith, n, b.few_cases);
      cases_fit = b.cases_fit;
      counted = b.counted ∙ ap (λ v. v ++ map length cases) (line_counts table (length lines) h);
    }

module _ (counts : List ℕ) (ph : Phase) (s : BarrierForm) (sound : Sound s) (w : ℕ) (d : Said) where
  front_case : InCase ph → CaseWord w → length (counts_of s.lines) < most_cases → Front counts Case (after_case s) d → Front counts ph s (say w d)
  front_case i h few f = rw h.kind_is (record {
    lefts_fit = no_weights s.counts.tanks (lefts_from ph);
    rights_fit = no_weights s.counts.tanks (rights_from ph);
    in_case = inl i;
    body = case_more counts s.counts.tanks (counts_of s.lines) d.lines d.cases (sound.few _) (rw (case_counted s.lines sound.tabled few) at f.body);
    tail = rw (none_in_case ph i) f.tail;
    steps_fit = f.steps_fit;
  })

  front_line : InCase ph → LineWord w → Front counts (Left 0) (after_line s) d → Front counts ph s (say w d)
  front_line i h f = rw h.kind_is (record {
    lefts_fit = no_weights s.counts.tanks (lefts_from ph);
    rights_fit = no_weights s.counts.tanks (rights_from ph);
    in_case = inl i;
    body = line_more counts s.counts.tanks (counts_of s.lines) _ d.lines d.cases sound.some_cases (record { lefts_fit = f.lefts_fit.0; lefts_rise = f.lefts_fit.1; rights_fit = f.rights_fit.0; rights_rise = f.rights_fit.1 }) (rw (line_counted s.lines sound.tabled) at f.body);
    tail = rw (none_in_case ph i) f.tail;
    steps_fit = f.steps_fit;
  })

  front_left : (least : ℕ) → lefts_from ph ≡ Some least → WeightWord 8 s.counts.tanks least w → Front counts (Left (field w 22 6 + 1)) (in_phase (Left (field w 22 6 + 1)) s) d → Front counts ph s (say w d)
  front_left least e h f =
      let i = left_in_case ph least e in
      rw h.kind_is (record {
        lefts_fit = rw e (weights_more 8 s.counts.tanks least w d.lefts h f.lefts_fit);
        rights_fit = rw i.1 f.rights_fit;
        in_case = inl i.0;
        body = f.body;
        tail = rw (none_in_case ph i.0) f.tail;
        steps_fit = f.steps_fit;
      })

  front_right : (least : ℕ) → rights_from ph ≡ Some least → WeightWord 9 s.counts.tanks least w → Front counts (Right (field w 22 6 + 1)) (in_phase (Right (field w 22 6 + 1)) s) d → Front counts ph s (say w d)
  front_right least e h f =
      let i = right_in_case ph least e in
      rw h.kind_is (record {
        lefts_fit = rw f.lefts_fit (no_weights s.counts.tanks (lefts_from ph));
        rights_fit = rw e (weights_more 9 s.counts.tanks least w d.rights h f.rights_fit);
        in_case = inl i;
        body = f.body;
        tail = rw (none_in_case ph i) f.tail;
        steps_fit = f.steps_fit;
      })

  front_step : Between ph → StepWord (length (counts_of s.lines)) s.counts.valves (pending ph).least w → let p = after_step s w in Front counts (waiting p) (in_phase (waiting p) s) d → Front counts ph s (say w d)
  front_step b h f =
      let no = bare counts _ d (after_step s w) f in
      let t = waits_tail (after_step s w) d.matches d.steps f.tail in
      let e = counts_end f.body no.2 no.3 in
      let key = key_said w d.matches in
      rw h.kind_is (record {
        lefts_fit = rw no.0 (no_weights s.counts.tanks (lefts_from ph));
        rights_fit = rw no.1 (no_weights s.counts.tanks (rights_from ph));
        in_case = inr (no.2, no.3);
        body = f.body;
        tail = record { matched = sym (between_none ph b); matches_fit = tt; steps_rise = (rw key h.rises, rw key (rw add-one at t.steps_rise)) };
        steps_fit = (
          record {
            from_there = rw e h.from_there;
            valve_there = h.valve_there;
            valve_small = omega arith;
            to_there = rw e h.to_there;
            matched = rw e t.matched;
            matches_fit = rw e t.matches_fit;
          },
          f.steps_fit,
        );
      })

  front_match : 1 ≤ (pending ph).matches → MatchWord (pending ph).lines w → let p = after_match (pending ph) in Front counts (waiting p) (in_phase (waiting p) s) d → Front counts ph s (say w d)
  front_match b h f =
      let no = bare counts _ d (after_match (pending ph)) f in
      let t = waits_tail (after_match (pending ph)) d.matches d.steps f.tail in
      rw h.kind_is (record {
        lefts_fit = rw no.0 (no_weights s.counts.tanks (lefts_from ph));
        rights_fit = rw no.1 (no_weights s.counts.tanks (rights_from ph));
        in_case = inr (no.2, no.3);
        body = f.body;
        tail = record { matched = omega (arith, t.matched); matches_fit = (match_fits (pending ph).lines w h, t.matches_fit); steps_rise = t.steps_rise };
        steps_fit = f.steps_fit;
      })

pub front_more : (counts : List ℕ) (s : BarrierForm) (w : ℕ) (t : BarrierForm) (d : Said) → Sound s → Taken s.phase s w t → Front counts t.phase t d → Front counts s.phase s (say w d)
front_more counts s w t d sound (a_case i h few e) f = front_case counts s.phase s sound w d i h few (rw e at f)
front_more counts s w t d sound (a_line i h few e) f = front_line counts s.phase s sound w d i h (rw e at f)
front_more counts s w t d sound (a_left least i h e) f = front_left counts s.phase s sound w d least i h (rw e at f)
front_more counts s w t d sound (a_right least i h e) f = front_right counts s.phase s sound w d least i h (rw e at f)
front_more counts s w t d sound (a_step b h e) f = front_step counts s.phase s sound w d b h (rw e at f)
front_more counts s w t d sound (a_match b h e) f = front_match counts s.phase s sound w d b h (rw e at f)
