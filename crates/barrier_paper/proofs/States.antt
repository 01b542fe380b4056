-- The states that the words of a barrier paper lead to: how many lines each case has, and what a phase waits for.
use Rattle.std.proofs.Common.{◌≡◌, ℕ, zero, suc, ◌+◌, ◌<◌, ◌≤◌, eqb, List, [], ◌∷◌, ◌++◌, length, get_or, set, ⊎_elim, arith}
use Rattle.std.proofs.lemmas.List.{get_or-set_same, get_or-set_other, length-set, length_push}
use Rattle.std.proofs.lemmas.Bool.{cases_eq, cond_both, eqb-true}
use Rattle.std.proofs.lemmas.Bool.Decides.{nat_tests}
use Rattle.barrier_paper.specs.declared.form.Pending.{Pending}
use Rattle.barrier_paper.specs.declared.form.Phase.{Phase}
use Rattle.barrier_paper.specs.declared.form.Phase.TheVariants.{Steps, Matches}
use Rattle.barrier_paper.specs.declared.form.BarrierForm.{BarrierForm}
use Rattle.barrier_paper.specs.Limits.{most_cases, most_lines}
use Rattle.barrier_paper.specs.Form.{in_phase, counts_of, last, waiting}
use Rattle.barrier_paper.proofs.Tables.{Tabled, case_tabled, case_counted, line_tabled, line_counted}
use Rattle.barrier_paper.proofs.Taking.{pending, Begun, Taken, a_case, a_line, a_left, a_right, a_step, a_match}

-- how many lines the cases have, and the phase, of a state that words lead to
pub record Sound (s : BarrierForm) : Type 0 where
  pub begun : Begun s.phase
  pub few_named : (pending s.phase).lines ≤ most_lines
  pub tabled : Tabled s.lines
  pub some_cases : 1 ≤ length (counts_of s.lines)
  pub few_cases : length (counts_of s.lines) ≤ most_cases
  pub few : (i : ℕ) → get_or (counts_of s.lines) i 0 ≤ most_lines

-- a phase that waits for matches is one of two
pub waits : (p : Pending) (P : Phase → Type 0) → (p.matches ≡ 0 → P (Steps p.least)) → (1 ≤ p.matches → P (Matches p)) → P (waiting p)
waits p P none some =
    cond_both (eqb p.matches 0) (Steps p.least) (Matches p) P (λ e. none (eqb-true p.matches 0 e)) (λ e. some (grind (arith, nat_tests)))

-- the same state in another phase
in_phase_sound : (s : BarrierForm) (ph : Phase) → Sound s → Begun ph → (pending ph).lines ≤ most_lines → Sound (in_phase ph s)
in_phase_sound s ph h b n = record { begun = b; few_named = n; tabled = h.tabled; some_cases = h.some_cases; few_cases = h.few_cases; few = h.few }

waiting_sound : (s : BarrierForm) (p : Pending) → Sound s → p.lines ≤ most_lines → Sound (in_phase (waiting p) s)
waiting_sound s p h n = waits p (λ ph. Sound (in_phase ph s)) (λ _. in_phase_sound s (Steps p.least) h tt (omega arith)) (λ b. in_phase_sound s (Matches p) h b n)

push_few : (table : List ℕ) (i : ℕ) → ((j : ℕ) → get_or table j 0 ≤ most_lines) → get_or (table ++ 0 ∷ []) i 0 ≤ most_lines
push_few [] zero h = omega arith
push_few [] (suc i) h = omega arith
push_few (x ∷ table) zero h = h 0
push_few (x ∷ table) (suc i) h = push_few table i (λ j. h (suc j))

set_few : (table : List ℕ) (i j v : ℕ) → get_or table j 0 ≤ most_lines → v ≤ most_lines → i < length table → get_or (set table i v) j 0 ≤ most_lines
set_few table i j v old new h =
    ⊎_elim (λ (e : j ≡ i). rw (e, get_or-set_same table i v 0 h) new) (λ (n : j ≡ i → ⊥). rw (get_or-set_other table i j v 0 n) old) (cases_eq j i)

pub sound_kept : (s : BarrierForm) (w : ℕ) (t : BarrierForm) → Taken s.phase s w t → Sound s → Sound t
sound_kept s w t (a_case i c few e) h =
    let table = counts_of s.lines in
    let is = case_counted s.lines h.tabled few in
    let n = length_push table 0 in
    rw e (record {
      begun = tt;
      few_named = omega arith;
      tabled = case_tabled s.lines h.tabled few;
      some_cases = rw is (omega (arith, n));
      few_cases = rw is (omega (arith, n, few));
      few = λ j. rw is (push_few table j h.few);
    })
sound_kept s w t (a_line i l few e) h =
    let table = counts_of s.lines in
    let is = line_counted s.lines h.tabled in
    let k = last table in
    let more = get_or table k 0 + 1 in
    let n = length-set table k more in
    rw e (record {
      begun = tt;
      few_named = omega arith;
      tabled = line_tabled s.lines h.tabled;
      some_cases = rw is (omega (arith, n, h.some_cases));
      few_cases = rw is (omega (arith, n, h.few_cases));
      few = λ j. rw is (set_few table k j more (h.few j) (omega arith) (omega (arith, h.some_cases)));
    })
sound_kept s w t (a_left least i x e) h = rw e (in_phase_sound s _ h tt (omega arith))
sound_kept s w t (a_right least i x e) h = rw e (in_phase_sound s _ h tt (omega arith))
sound_kept s w t (a_step b x e) h = rw e (waiting_sound s _ h (h.few _))
sound_kept s w t (a_match b x e) h = rw e (waiting_sound s _ h h.few_named)
