-- Writing and reading barrier papers are inverse to each other.
use Rattle.std.proofs.Common.{◌≡◌, ℕ, zero, suc, ◌*◌, ◌^◌, ◌≤◌, List, [], ◌∷◌, map, length, get_or, Ok, sym, refl, ap, ◌∙◌, inl, zero-add, arith}
use Rattle.std.proofs.lemmas.List.{length-map, nil_from_length}
use Rattle.std.proofs.ByRecursion.{All-weaker}
use Rattle.words.specs.Words.{words, bytes}
use Rattle.words.specs.Inverse.{Bytes}
use Rattle.words.proofs.Inverses.{words_of_bytes, bytes_of_words}
use Rattle.paper.specs.Limits.{most_evidence_words}
use Rattle.paper.specs.Runs.{run, whole}
use Rattle.paper.proofs.Steps.{through, whole_read, counted_written}
use Rattle.barriers.specs.Steps.{Step}
use Rattle.barrier_paper.specs.declared.form.Phase.TheVariants.{Start, Case}
use Rattle.barrier_paper.specs.declared.form.BarrierForm.{BarrierForm}
use Rattle.barrier_paper.specs.Limits.{most_lines}
use Rattle.barrier_paper.specs.Document.{CaseText, lines_in, StepFits, BarrierDocument, BarrierFormed, barrier_words, said, say, barrier_document}
use Rattle.barrier_paper.specs.Form.{counts_of, no_case, start, after_case, by_phase, barrier_step, ended, barrier_form, barrier_read}
use Rattle.barrier_paper.specs.Inverse.{BarrierPapersAreExact}
use Rattle.barrier_paper.proofs.WordParts.{case_good, words_small}
use Rattle.barrier_paper.proofs.Tables.{none_tabled, case_tabled}
use Rattle.barrier_paper.proofs.Taking.{first_taken, between_ended}
use Rattle.barrier_paper.proofs.States.{Sound}
use Rattle.barrier_paper.proofs.Fronts.{StepCounted, Front}
use Rattle.barrier_paper.proofs.FrontWords.{front_words, words_case}
use Rattle.barrier_paper.proofs.Peeling.{saying}
use Rattle.barrier_paper.proofs.BarrierRuns.{read, Run, write}

-- after the first word
abbrev begin : ℕ → ℕ → BarrierForm
begin tanks valves = after_case (start tanks valves)

begin_sound : (tanks valves : ℕ) → Sound (begin tanks valves)
begin_sound tanks valves = record { begun = tt; few_named = omega arith; tabled = case_tabled no_case none_tabled (omega arith); some_cases = omega arith; few_cases = omega arith; few = none }
  where
    none : (i : ℕ) → get_or (0 ∷ []) i 0 ≤ most_lines
    none zero = omega arith
    none (suc i) = omega arith

-- the lines of a case, by their list and by the list of their counts
lines_at : (cs : List CaseText) (i : ℕ) → get_or (map length cs) i 0 ≡ lines_in cs i
lines_at [] i = refl
lines_at (c ∷ cs) zero = refl
lines_at (c ∷ cs) (suc i) = lines_at cs i

step_fits : (valves : ℕ) (cs : List CaseText) (s : Step) → StepCounted valves (map length cs) s → StepFits valves cs s
step_fits valves cs s h =
    let n = length-map cs length in
    record {
      from_there = omega (arith, h.from_there);
      valve_there = h.valve_there;
      valve_small = h.valve_small;
      to_there = omega (arith, h.to_there);
      matched = h.matched ∙ lines_at cs s.to;
      matches_fit = rw (lines_at cs s.from) at h.matches_fit;
    }

step_counted : (valves : ℕ) (cs : List CaseText) (s : Step) → StepFits valves cs s → StepCounted valves (map length cs) s
step_counted valves cs s h =
    let n = length-map cs length in
    record {
      from_there = omega (arith, h.from_there);
      valve_there = h.valve_there;
      valve_small = h.valve_small;
      to_there = omega (arith, h.to_there);
      matched = h.matched ∙ sym (lines_at cs s.to);
      matches_fit = rw (lines_at cs s.from) h.matches_fit;
    }

-- ---- what is written is read

begin_front : (tanks valves : ℕ) (c : CaseText) (cs : List CaseText) (ss : List Step) → BarrierFormed tanks valves (record { cases = c ∷ cs; steps = ss }) → Front (map length (c ∷ cs)) Case (begin tanks valves) (saying [] [] c cs [] ss)
begin_front tanks valves c cs ss f = record {
  lefts_fit = refl;
  rights_fit = refl;
  in_case = inl tt;
  body = record {
    few_lines = omega (arith, f.cases_fit.0.few_lines);
    lines_fit = f.cases_fit.0.lines_fit;
    few_cases = omega (arith, f.few_cases);
    cases_fit = f.cases_fit.1;
    counted = rw zero-add;
  };
  tail = record { matched = refl; matches_fit = tt; steps_rise = f.steps_rise };
  steps_fit = All-weaker _ _ (step_counted valves (c ∷ cs)) ss f.steps_fit;
}

written : (tanks valves : ℕ) (cs : List CaseText) (ss : List Step) → let d = saying [] [] [] cs [] ss in BarrierFormed tanks valves (record { cases = cs; steps = ss }) → (1 ≤ length (front_words d)) × Run (start tanks valves) 0 (front_words d) d
written tanks valves [] ss f = absurd (omega (arith, f.some_cases))
written tanks valves (c ∷ cs) ss f =
    let d = saying [] [] c cs [] ss in
    let g = begin_front tanks valves c cs ss f in
    let e = words_case (6 * 2 ^ 28) d case_good g in
    let r = write (map length (c ∷ cs)) (begin tanks valves) 1 (front_words d) d (begin_sound tanks valves) g refl in
    (omega arith, rw e (record { end = r.end; runs = r.runs; ends = r.ends; says = ap (say (6 * 2 ^ 28)) r.says }))

written_is_read : (tanks valves : ℕ) (d : BarrierDocument) → BarrierFormed tanks valves d → barrier_read tanks valves (bytes (barrier_words d)) ≡ Ok d
written_is_read tanks valves d f =
    let r = written tanks valves d.cases d.steps f in
    let count = counted_written most_evidence_words (barrier_words d) r.0 f.few_words in
    let back = words_of_bytes (barrier_words d) (words_small tanks valves d f) in
    let ends = between_ended r.1.end.phase (length (barrier_words d)) r.1.ends in
    simp (count, back, r.1.runs, ends, r.1.says)

-- ---- what is read is written

formed : (tanks valves : ℕ) (ws : List ℕ) (e : BarrierForm) (n : ℕ) (u : Unit {0}) → 1 ≤ length ws → length ws ≤ most_evidence_words → run barrier_step (start tanks valves) 0 ws ≡ Ok e → ended e.phase n ≡ Ok u → BarrierFormed tanks valves (barrier_document ws) × (ws ≡ barrier_words (barrier_document ws))
formed tanks valves [] e n u some few p q = absurd (omega arith)
formed tanks valves (w ∷ ws) e n u some few p q =
    let a = through (by_phase Start (start tanks valves) 0 w) (λ t. run barrier_step t 1 ws) e p in
    let b = first_taken (start tanks valves) 0 w a.0 (omega arith) a.1 in
    let r = read (begin tanks valves) 1 ws e n u (begin_sound tanks valves) (rw b.1 at a.2) q in
    let f = r.0 in
    let d = said ws in
    let cs = d.lines ∷ d.cases in
    let none = nil_from_length d.matches f.tail.matched in
    let counts : counts_of e.lines ≡ map length cs = f.body.counted ∙ rw zero-add in
    let words_are : w ∷ ws ≡ barrier_words (record { cases = cs; steps = d.steps }) = ap (λ vs. w ∷ vs) (sym r.1) ∙ sym (words_case w d b.0 f) ∙ rw (b.0.kind_is, none) in
    rw b.0.kind_is (
      record {
        some_cases = omega arith;
        few_cases = omega (arith, f.body.few_cases);
        cases_fit = (record { few_lines = omega (arith, f.body.few_lines); lines_fit = f.body.lines_fit }, f.body.cases_fit);
        steps_fit = All-weaker _ _ (step_fits valves cs) d.steps (rw counts at f.steps_fit);
        steps_rise = f.tail.steps_rise;
        few_words = omega (arith, few, ap length words_are);
      },
      words_are,
    )

read_is_written : (tanks valves : ℕ) (bs : List ℕ) → Bytes bs → (d : BarrierDocument) → barrier_read tanks valves bs ≡ Ok d → BarrierFormed tanks valves d × (bs ≡ bytes (barrier_words d))
read_is_written tanks valves bs small d p =
    let a = through (barrier_form tanks valves bs) (λ _. Ok (barrier_document (words bs))) d p in
    let b = through (whole barrier_step (start tanks valves) most_evidence_words bs) _ a.0 a.1 in
    let c = through (ended b.0.phase (length (words bs))) _ a.0 b.2 in
    let w = whole_read barrier_step (start tanks valves) most_evidence_words bs b.0 b.1 in
    let f = formed tanks valves (words bs) b.0 (length (words bs)) c.0 w.0.some w.0.few w.1 c.1 in
    let says : barrier_document (words bs) ≡ d = cc a.2 in
    rw (← says) (f.0, sym (bytes_of_words bs small w.0.fours) ∙ ap bytes f.1)

pub barrier_papers_are_exact : BarrierPapersAreExact
barrier_papers_are_exact = record { written_is_read = written_is_read; read_is_written = read_is_written }
