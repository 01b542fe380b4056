-- A well-formed front says nothing, or it is one word that is taken, before a well-formed front.
use Rattle.std.proofs.Common.{◌≡◌, ℕ, ◌+◌, ◌*◌, ◌^◌, ◌<◌, ◌≤◌, ◌⊎◌, List, [], ◌∷◌, ◌++◌, map, length, get_or, Some, None, Option, sym, refl, ap, ◌∙◌, inl, inr, ⊎_elim, zero-add, add-one, arith}
use Rattle.std.proofs.lemmas.List.{get_or-set_same, get_or_push, length-set, length_push}
use Rattle.words.specs.Words.{field}
use Rattle.barriers.specs.Steps.{Match, Step}
use Rattle.barrier_paper.specs.declared.form.Phase.TheVariants.{Left, Right}
use Rattle.barrier_paper.specs.declared.form.BarrierForm.{BarrierForm}
use Rattle.barrier_paper.specs.Limits.{most_cases}
use Rattle.barrier_paper.specs.Document.{Weight, LineText, CaseText, weight_word, match_word, weight_said, Said, say, nothing_said}
use Rattle.barrier_paper.specs.Form.{counts_of, in_phase, after_case, last, longer, after_line, waiting, after_step, after_match}
use Rattle.barrier_paper.proofs.WordParts.{WeightWord, line_head, step_head, weight_good, weight_says, line_good, case_good, match_good, step_word_says, step_good}
use Rattle.barrier_paper.proofs.Tables.{case_counted, line_counted}
use Rattle.barrier_paper.proofs.Taking.{InCase, lefts_from, rights_from, pending, Between, Taken, a_case, a_line, a_left, a_right, a_step, a_match, left_in_case, right_in_case, none_in_case, none_between}
use Rattle.barrier_paper.proofs.States.{Sound}
use Rattle.barrier_paper.proofs.Fronts.{Weights, Body, Front, no_weights, tail_waits, case_counts, line_counts, counts_end}

-- one word and what is said after it
pub record Peeled (counts : List ℕ) (s : BarrierForm) (d : Said) : Type 0 where
  pub word : ℕ
  pub next : BarrierForm
  pub after : Said
  pub took : Taken s.phase s word next
  pub front : Front counts next.phase next after
  pub same : say word after ≡ d

-- the first of some weights
record FirstWeight (k tanks : ℕ) (o : Option ℕ) (x : Weight) (xs : List Weight) : Type 0 where
  least : ℕ
  from : o ≡ Some least
  good : WeightWord k tanks least (weight_word k x)
  says : weight_said (weight_word k x) ≡ x
  more : Weights tanks (Some (field (weight_word k x) 22 6 + 1)) xs

first_weight : (k tanks : ℕ) (o : Option ℕ) (x : Weight) (xs : List Weight) → Weights tanks o (x ∷ xs) → FirstWeight k tanks o x xs
first_weight k tanks None x xs f = absurd (let z : ◌≡◌ {A = ℕ} 0 1 = cc in omega arith)
first_weight k tanks (Some least) x xs f =
    let says = weight_says tanks k x f.0.0 in
    record {
      least = least;
      from = refl;
      good = weight_good k tanks least x f.0.0 f.1.0;
      says = says;
      more = (f.0.1, rw (ap (λ y. y.tank) says, add-one) f.1.1);
    }

-- the parts of the cases that are left after one word
case_less : (counts : List ℕ) (tanks : ℕ) (table : List ℕ) (c : CaseText) (cases : List CaseText) → Body counts tanks table [] (c ∷ cases) → Body counts tanks (table ++ 0 ∷ []) c cases
case_less counts tanks table c cases b =
    let n = length_push table 0 in
    let k : last (table ++ 0 ∷ []) ≡ length table = omega arith in
    record {
      few_lines = rw (k, get_or_push table 0 0 (length table) refl, zero-add) b.cases_fit.0.few_lines;
      lines_fit = b.cases_fit.0.lines_fit;
      few_cases = omega (arith, b.few_cases);
      cases_fit = b.cases_fit.1;
      counted = b.counted ∙ sym (case_counts table (length c) (map length cases));
    }

line_less : (counts : List ℕ) (tanks : ℕ) (table : List ℕ) (l : LineText) (lines : CaseText) (cases : List CaseText) → 1 ≤ length table → Body counts tanks table (l ∷ lines) cases → Body counts tanks (longer table 1) lines cases
line_less counts tanks table l lines cases h b =
    let x = get_or table (last table) 0 in
    let n = length-set table (last table) (x + 1) in
    let e = get_or-set_same table (last table) (x + 1) 0 (omega arith) in
    record {
      few_lines = rw (n, e) (omega (arith, b.few_lines));
      lines_fit = b.lines_fit.1;
      few_cases = omega (arith, n, b.few_cases);
      cases_fit = b.cases_fit;
      counted = b.counted ∙ ap (λ v. v ++ map length cases) (sym (line_counts table (length lines) h));
    }

abbrev pub saying : List Weight → List Weight → CaseText → List CaseText → List Match → List Step → Said
saying lefts rights lines cases ms ss = record { lefts = lefts; rights = rights; lines = lines; cases = cases; matches = ms; steps = ss }

module _ (counts : List ℕ) (s : BarrierForm) (sound : Sound s) where
  peel_left : (x : Weight) (xs rights : List Weight) (lines : CaseText) (cases : List CaseText) (ms : List Match) (ss : List Step) → Front counts s.phase s (saying (x ∷ xs) rights lines cases ms ss) → Peeled counts s (saying (x ∷ xs) rights lines cases ms ss)
  peel_left x xs rights lines cases ms ss f =
      let w = first_weight 8 s.counts.tanks (lefts_from s.phase) x xs f.lefts_fit in
      let i = left_in_case s.phase w.least w.from in
      record {
        word = weight_word 8 x;
        next = in_phase (Left (field (weight_word 8 x) 22 6 + 1)) s;
        after = saying xs rights lines cases ms ss;
        took = a_left w.least w.from w.good refl;
        front = record {
          lefts_fit = w.more;
          rights_fit = rw i.1 at f.rights_fit;
          in_case = inl tt;
          body = f.body;
          tail = rw (none_in_case s.phase i.0) at f.tail;
          steps_fit = f.steps_fit;
        };
        same = rw (w.good.kind_is, w.says);
      }

  peel_right : (x : Weight) (xs : List Weight) (lines : CaseText) (cases : List CaseText) (ms : List Match) (ss : List Step) → Front counts s.phase s (saying [] (x ∷ xs) lines cases ms ss) → Peeled counts s (saying [] (x ∷ xs) lines cases ms ss)
  peel_right x xs lines cases ms ss f =
      let w = first_weight 9 s.counts.tanks (rights_from s.phase) x xs f.rights_fit in
      record {
        word = weight_word 9 x;
        next = in_phase (Right (field (weight_word 9 x) 22 6 + 1)) s;
        after = saying [] xs lines cases ms ss;
        took = a_right w.least w.from w.good refl;
        front = record {
          lefts_fit = refl;
          rights_fit = w.more;
          in_case = inl tt;
          body = f.body;
          tail = rw (none_in_case s.phase (right_in_case s.phase w.least w.from)) at f.tail;
          steps_fit = f.steps_fit;
        };
        same = rw (w.good.kind_is, w.says);
      }

  peel_line : (l : LineText) (lines : CaseText) (cases : List CaseText) (ms : List Match) (ss : List Step) → Front counts s.phase s (saying [] [] (l ∷ lines) cases ms ss) → Peeled counts s (saying [] [] (l ∷ lines) cases ms ss)
  peel_line l lines cases ms ss f =
      let i : InCase s.phase = ⊎_elim (λ i. i) (λ e. absurd (let n = ap length e.0 in omega arith)) f.in_case in
      let w = line_good l.strict in
      let fit = f.body.lines_fit.0 in
      record {
        word = line_head l.strict;
        next = after_line s;
        after = saying l.lefts l.rights lines cases ms ss;
        took = a_line i w.0 (omega (arith, f.body.few_lines)) refl;
        front = record {
          lefts_fit = (fit.lefts_fit, fit.lefts_rise);
          rights_fit = (fit.rights_fit, fit.rights_rise);
          in_case = inl tt;
          body = rw (line_counted s.lines sound.tabled) (line_less counts s.counts.tanks (counts_of s.lines) l lines cases sound.some_cases f.body);
          tail = rw (none_in_case s.phase i) at f.tail;
          steps_fit = f.steps_fit;
        };
        same = rw (w.0.kind_is, w.1);
      }

  peel_case : (c : CaseText) (cases : List CaseText) (ms : List Match) (ss : List Step) → Front counts s.phase s (saying [] [] [] (c ∷ cases) ms ss) → Peeled counts s (saying [] [] [] (c ∷ cases) ms ss)
  peel_case c cases ms ss f =
      let i : InCase s.phase = ⊎_elim (λ i. i) (λ e. absurd (let n = ap length e.1 in omega arith)) f.in_case in
      let few : length (counts_of s.lines) < most_cases = omega (arith, f.body.few_cases) in
      record {
        word = 6 * 2 ^ 28;
        next = after_case s;
        after = saying [] [] c cases ms ss;
        took = a_case i case_good few refl;
        front = record {
          lefts_fit = refl;
          rights_fit = refl;
          in_case = inl tt;
          body = rw (case_counted s.lines sound.tabled few) (case_less counts s.counts.tanks (counts_of s.lines) c cases f.body);
          tail = rw (none_in_case s.phase i) at f.tail;
          steps_fit = f.steps_fit;
        };
        same = refl;
      }

  peel_match : (m : Match) (ms : List Match) (ss : List Step) → Front counts s.phase s (saying [] [] [] [] (m ∷ ms) ss) → Peeled counts s (saying [] [] [] [] (m ∷ ms) ss)
  peel_match m ms ss f =
      let t = f.tail in
      let p = after_match (pending s.phase) in
      let w = match_good p.lines m sound.few_named t.matches_fit.0 in
      record {
        word = match_word m;
        next = in_phase (waiting p) s;
        after = saying [] [] [] [] ms ss;
        took = a_match (omega (arith, t.matched)) w.0 refl;
        front = record {
          lefts_fit = no_weights s.counts.tanks _;
          rights_fit = no_weights s.counts.tanks _;
          in_case = inr (refl, refl);
          body = f.body;
          tail = tail_waits p ms ss (record { matched = omega (arith, t.matched); matches_fit = t.matches_fit.1; steps_rise = t.steps_rise });
          steps_fit = f.steps_fit;
        };
        same = rw (w.0.kind_is, w.1);
      }

  peel_step : (st : Step) (ss : List Step) → Front counts s.phase s (saying [] [] [] [] [] (st ∷ ss)) → Peeled counts s (saying [] [] [] [] [] (st ∷ ss))
  peel_step st ss f =
      let t = f.tail in
      let fit = f.steps_fit.0 in
      let e = counts_end f.body refl refl in
      let from = rw e at fit.from_there in
      let to = rw e at fit.to_there in
      let few = sound.few_cases in
      let says = step_word_says st (omega arith) fit.valve_small (omega arith) in
      let h = step_head st in
      let p = after_step s h in
      let to_is : field h 13 4 ≡ st.to = ap (λ x. x.to) says.step_is in
      let from_is : field h 23 4 ≡ st.from = ap (λ x. x.from) says.step_is in
      let key_is = says.key_is in
      record {
        word = h;
        next = in_phase (waiting p) s;
        after = saying [] [] [] [] st.matches ss;
        took = a_step (none_between s.phase sound.begun (sym t.matched)) (step_good (length (counts_of s.lines)) s.counts.valves (pending s.phase).least st few from fit.valve_there fit.valve_small to t.steps_rise.0) refl;
        front = record {
          lefts_fit = no_weights s.counts.tanks _;
          rights_fit = no_weights s.counts.tanks _;
          in_case = inr (refl, refl);
          body = f.body;
          tail = tail_waits p st.matches ss (record { matched = rw (e, ← to_is) at fit.matched; matches_fit = rw (e, ← from_is) at fit.matches_fit; steps_rise = rw (key_is, add-one) t.steps_rise.1 });
          steps_fit = f.steps_fit.1;
        };
        same = rw (says.kind_is, says.step_is);
      }

  parts : (lefts rights : List Weight) (lines : CaseText) (cases : List CaseText) (ms : List Match) (ss : List Step) → let d = saying lefts rights lines cases ms ss in Front counts s.phase s d → Peeled counts s d ⊎ ((d ≡ nothing_said) × Between s.phase)
  parts (x ∷ xs) rights lines cases ms ss f = inl (peel_left x xs rights lines cases ms ss f)
  parts [] (x ∷ xs) lines cases ms ss f = inl (peel_right x xs lines cases ms ss f)
  parts [] [] (l ∷ lines) cases ms ss f = inl (peel_line l lines cases ms ss f)
  parts [] [] [] (c ∷ cases) ms ss f = inl (peel_case c cases ms ss f)
  parts [] [] [] [] (m ∷ ms) ss f = inl (peel_match m ms ss f)
  parts [] [] [] [] [] (st ∷ ss) f = inl (peel_step st ss f)
  parts [] [] [] [] [] [] f = inr (refl, none_between s.phase sound.begun (sym f.tail.matched))

  pub peel : (d : Said) → Front counts s.phase s d → Peeled counts s d ⊎ ((d ≡ nothing_said) × Between s.phase)
  peel d f = parts d.lefts d.rights d.lines d.cases d.matches d.steps f
