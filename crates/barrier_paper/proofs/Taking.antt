-- Which words the form of a barrier paper takes in each phase, and what they lead to.
use Rattle.std.proofs.Common.{◌≡◌, ℕ, ◌+◌, ◌<◌, ◌≤◌, cond, eqb, ◌⊎◌, length, get_or, Some, None, Ok, Err, Option, Result, sym, refl, ap, ◌∙◌, ⊎_elim, arith}
use Rattle.std.proofs.lemmas.Bool.Decides.{nat_tests}
use Rattle.words.specs.declared.faults.PaperFault.{PaperFault}
use Rattle.words.specs.Words.{kind, field}
use Rattle.paper.proofs.Steps.{through}
use Rattle.barrier_paper.specs.declared.form.Pending.{Pending}
use Rattle.barrier_paper.specs.declared.form.Phase.{Phase}
use Rattle.barrier_paper.specs.declared.form.Phase.TheVariants.{Start, Case, Left, Right, Steps, Matches}
use Rattle.barrier_paper.specs.declared.form.BarrierForm.{BarrierForm}
use Rattle.barrier_paper.specs.Limits.{most_cases, most_lines}
use Rattle.barrier_paper.specs.Form as spec
use Rattle.barrier_paper.specs.Form.{counts_of, in_phase, after_case, last, after_line, waiting, after_step, after_match, by_phase}
use Rattle.barrier_paper.proofs.WordParts.{CaseWord, LineWord, WeightWord, StepWord, MatchWord}

-- ---- what may come in a phase

-- a line or a further case
abbrev pub InCase : Phase → Type 0
InCase Case = Unit {0}
InCase (Left least) = Unit {0}
InCase (Right least) = Unit {0}
InCase _ = ⊥

-- a left weight, a right weight, of a tank not below what is given
abbrev pub lefts_from : Phase → Option ℕ
lefts_from (Left least) = Some least
lefts_from _ = None

abbrev pub rights_from : Phase → Option ℕ
rights_from (Left least) = Some 0
rights_from (Right least) = Some least
rights_from _ = None

-- matches, and after them a step, of which this is the least key
abbrev pub none_pending : ℕ → Pending
none_pending least = record { matches = 0; lines = 0; least = least }

abbrev pub pending : Phase → Pending
pending (Steps least) = none_pending least
pending (Matches p) = p
pending _ = none_pending 0

-- a step, where there has been a case and no match is due
abbrev pub Between : Phase → Type 0
Between Start = ⊥
Between (Matches p) = ⊥
Between _ = Unit {0}

-- a phase after the first case, which waits for no match or for some
abbrev pub Begun : Phase → Type 0
Begun Start = ⊥
Begun (Matches p) = 1 ≤ p.matches
Begun _ = Unit {0}

-- a word that is taken in a phase
pub data Taken (ph : Phase) (s : BarrierForm) (w : ℕ) (t : BarrierForm) : Type 0 where
  a_case : InCase ph → CaseWord w → length (counts_of s.lines) < most_cases → t ≡ after_case s → Taken ph s w t
  a_line : InCase ph → LineWord w → get_or (counts_of s.lines) (last (counts_of s.lines)) 0 < most_lines → t ≡ after_line s → Taken ph s w t
  a_left : (least : ℕ) → lefts_from ph ≡ Some least → WeightWord 8 s.counts.tanks least w → t ≡ in_phase (Left (field w 22 6 + 1)) s → Taken ph s w t
  a_right : (least : ℕ) → rights_from ph ≡ Some least → WeightWord 9 s.counts.tanks least w → t ≡ in_phase (Right (field w 22 6 + 1)) s → Taken ph s w t
  a_step : Between ph → StepWord (length (counts_of s.lines)) s.counts.valves (pending ph).least w → t ≡ in_phase (waiting (after_step s w)) s → Taken ph s w t
  a_match : 1 ≤ (pending ph).matches → MatchWord (pending ph).lines w → t ≡ in_phase (waiting (after_match (pending ph))) s → Taken ph s w t

-- ---- a word that leads on is taken

-- by its kind, or else by the tests that follow
ways : {A : Type 0} (k w : ℕ) (x rest : Result A PaperFault) (t : A) → cond (eqb (kind w) k) x rest ≡ Ok t → ((kind w ≡ k) × (x ≡ Ok t)) ⊎ (rest ≡ Ok t)
ways k w x rest t p = grind (arith, nat_tests)

pick : {A P : Type 0} {x rest : Result A PaperFault} {t : A} (k w : ℕ) → (kind w ≡ k → x ≡ Ok t → P) → (rest ≡ Ok t → P) → cond (eqb (kind w) k) x rest ≡ Ok t → P
pick {x = x} {rest = rest} {t = t} k w here there p = ⊎_elim (λ e. here e.0 e.1) there (ways k w x rest t p)

none : {A P : Type 0} (e : PaperFault) (t : A) → ◌≡◌ {A = Result A PaperFault} (Err e) (Ok t) → P
none e t p = absurd (let z : ◌≡◌ {A = ℕ} 0 1 = cc in omega arith)

module _ (ph : Phase) (s : BarrierForm) (at w : ℕ) (t : BarrierForm) where
  case_taken : InCase ph → kind w ≡ 6 → spec.case s at w ≡ Ok t → Taken ph s w t
  case_taken i k p = a_case i (record { kind_is = k; plain = grind (arith, nat_tests) }) (grind (arith, nat_tests)) (grind (arith, nat_tests))

  line_taken : InCase ph → kind w ≡ 7 → spec.line s at w ≡ Ok t → Taken ph s w t
  line_taken i k p = a_line i (record { kind_is = k; plain = grind (arith, nat_tests) }) (grind (arith, nat_tests)) (grind (arith, nat_tests))

  weight_taken : (k least : ℕ) (then : ℕ → Phase) → kind w ≡ k → spec.weight then least s at w ≡ Ok t → WeightWord k s.counts.tanks least w × (t ≡ in_phase (then (field w 22 6 + 1)) s)
  weight_taken k least then e p =
      let a = through (spec.weight_checked least s.counts.tanks at w) _ t p in
      let c = a.1 in
      let q = a.2 in (
        record {
          kind_is = e;
          plain = grind (arith, nat_tests);
          tank_there = grind (arith, nat_tests);
          some = grind (arith, nat_tests);
          few = grind (arith, nat_tests);
          rises = grind (arith, nat_tests);
        },
        cc,
      )

  left_taken : (least : ℕ) → lefts_from ph ≡ Some least → kind w ≡ 8 → spec.weight Left least s at w ≡ Ok t → Taken ph s w t
  left_taken least i k p = let a = weight_taken 8 least Left k p in a_left least i a.0 a.1

  right_taken : (least : ℕ) → rights_from ph ≡ Some least → kind w ≡ 9 → spec.weight Right least s at w ≡ Ok t → Taken ph s w t
  right_taken least i k p = let a = weight_taken 9 least Right k p in a_right least i a.0 a.1

  step_taken : Between ph → kind w ≡ 10 → spec.step (pending ph).least s at w ≡ Ok t → Taken ph s w t
  step_taken i k p = a_step i (record {
    kind_is = k;
    plain = grind (arith, nat_tests);
    from_there = grind (arith, nat_tests);
    valve_there = grind (arith, nat_tests);
    to_there = grind (arith, nat_tests);
    rises = grind (arith, nat_tests);
  }) (grind (arith, nat_tests))

  match_taken : 1 ≤ (pending ph).matches → kind w ≡ 11 → spec.match (pending ph) s at w ≡ Ok t → Taken ph s w t
  match_taken i k p = a_match i (record { kind_is = k; line_there = grind (arith, nat_tests) }) (grind (arith, nat_tests))

pub taken : (ph : Phase) (s : BarrierForm) (at w : ℕ) (t : BarrierForm) → Begun ph → by_phase ph s at w ≡ Ok t → Taken ph s w t
taken Start s at w t b p = elim b [ ]
taken Case s at w t b p =
    pick 6 w (case_taken Case s at w t tt) (
    pick 7 w (line_taken Case s at w t tt) (
    pick 10 w (step_taken Case s at w t tt) (
    none _ _))) p
taken (Left least) s at w t b p =
    pick 6 w (case_taken (Left least) s at w t tt) (
    pick 7 w (line_taken (Left least) s at w t tt) (
    pick 8 w (left_taken (Left least) s at w t least refl) (
    pick 9 w (right_taken (Left least) s at w t 0 refl) (
    pick 10 w (step_taken (Left least) s at w t tt) (
    none _ _))))) p
taken (Right least) s at w t b p =
    pick 6 w (case_taken (Right least) s at w t tt) (
    pick 7 w (line_taken (Right least) s at w t tt) (
    pick 9 w (right_taken (Right least) s at w t least refl) (
    pick 10 w (step_taken (Right least) s at w t tt) (
    none _ _)))) p
taken (Steps least) s at w t b p =
    pick 10 w (step_taken (Steps least) s at w t tt) (
    none _ _) p
taken (Matches m) s at w t b p =
    pick 11 w (match_taken (Matches m) s at w t b) (
    none _ _) p

-- ---- a word that is taken leads on

in_case_comes : (ph : Phase) (s : BarrierForm) (at w : ℕ) → InCase ph → (kind w ≡ 6 → by_phase ph s at w ≡ spec.case s at w) × (kind w ≡ 7 → by_phase ph s at w ≡ spec.line s at w)
in_case_comes Case s at w i = (λ k. rw k, λ k. rw k)
in_case_comes (Left least) s at w i = (λ k. rw k, λ k. rw k)
in_case_comes (Right least) s at w i = (λ k. rw k, λ k. rw k)
in_case_comes _ s at w i = elim i [ ]

step_comes : (ph : Phase) (s : BarrierForm) (at w : ℕ) → Between ph → kind w ≡ 10 → by_phase ph s at w ≡ spec.step (pending ph).least s at w
step_comes Start s at w i k = elim i [ ]
step_comes (Matches m) s at w i k = elim i [ ]
step_comes _ s at w i k = rw k

match_comes : (ph : Phase) (s : BarrierForm) (at w : ℕ) → 1 ≤ (pending ph).matches → kind w ≡ 11 → by_phase ph s at w ≡ spec.match (pending ph) s at w
match_comes (Matches m) s at w i k = rw k
match_comes _ s at w i k = absurd (omega arith)

unlike : {P : Type 0} (n : ℕ) → None ≡ Some n → P
unlike n e = absurd (let z : ◌≡◌ {A = ℕ} 0 1 = cc in omega arith)

left_comes : (ph : Phase) (s : BarrierForm) (at w least : ℕ) → lefts_from ph ≡ Some least → kind w ≡ 8 → by_phase ph s at w ≡ spec.weight Left least s at w
left_comes (Left least') s at w least i k = let e : least' ≡ least = cc in rw (k, e)
left_comes _ s at w least i k = unlike least i

right_comes : (ph : Phase) (s : BarrierForm) (at w least : ℕ) → rights_from ph ≡ Some least → kind w ≡ 9 → by_phase ph s at w ≡ spec.weight Right least s at w
right_comes (Left least') s at w least i k = let e : 0 ≡ least = cc in rw (k, ← e)
right_comes (Right least') s at w least i k = let e : least' ≡ least = cc in rw (k, e)
right_comes _ s at w least i k = unlike least i

takes_weight : (then : ℕ → Phase) (s : BarrierForm) (k at w least : ℕ) → WeightWord k s.counts.tanks least w → spec.weight then least s at w ≡ Ok (in_phase (then (field w 22 6 + 1)) s)
takes_weight then s k at w least h = let c : spec.weight_checked least s.counts.tanks at w ≡ Ok tt = grind (arith, nat_tests) in rw c

pub takes : (ph : Phase) (s : BarrierForm) (at w : ℕ) (t : BarrierForm) → Taken ph s w t → by_phase ph s at w ≡ Ok t
takes ph s at w t (a_case i h few e) =
    let good : spec.case s at w ≡ Ok (after_case s) = grind (arith, nat_tests) in
    (in_case_comes ph s at w i).0 h.kind_is ∙ good ∙ ap Ok (sym e)
takes ph s at w t (a_line i h few e) =
    let good : spec.line s at w ≡ Ok (after_line s) = grind (arith, nat_tests) in
    (in_case_comes ph s at w i).1 h.kind_is ∙ good ∙ ap Ok (sym e)
takes ph s at w t (a_left least i h e) = left_comes ph s at w least i h.kind_is ∙ takes_weight Left s 8 at w least h ∙ ap Ok (sym e)
takes ph s at w t (a_right least i h e) = right_comes ph s at w least i h.kind_is ∙ takes_weight Right s 9 at w least h ∙ ap Ok (sym e)
takes ph s at w t (a_step i h e) =
    let good : spec.step (pending ph).least s at w ≡ Ok (in_phase (waiting (after_step s w)) s) = grind (arith, nat_tests) in
    step_comes ph s at w i h.kind_is ∙ good ∙ ap Ok (sym e)
takes ph s at w t (a_match i h e) =
    let good : spec.match (pending ph) s at w ≡ Ok (in_phase (waiting (after_match (pending ph))) s) = grind (arith, nat_tests) in
    match_comes ph s at w i h.kind_is ∙ good ∙ ap Ok (sym e)

-- ---- weights come in a case, the left ones first, and a step where no match is due

pub left_in_case : (ph : Phase) (least : ℕ) → lefts_from ph ≡ Some least → InCase ph × (rights_from ph ≡ Some 0)
left_in_case (Left least') least i = (tt, refl)
left_in_case _ least i = unlike least i

pub right_in_case : (ph : Phase) (least : ℕ) → rights_from ph ≡ Some least → InCase ph
right_in_case (Left least') least i = tt
right_in_case (Right least') least i = tt
right_in_case _ least i = unlike least i

pub none_in_case : (ph : Phase) → InCase ph → pending ph ≡ none_pending 0
none_in_case Case i = refl
none_in_case (Left least) i = refl
none_in_case (Right least) i = refl
none_in_case _ i = elim i [ ]

pub between_none : (ph : Phase) → Between ph → (pending ph).matches ≡ 0
between_none Start b = refl
between_none (Matches m) b = elim b [ ]
between_none _ b = refl

pub none_between : (ph : Phase) → Begun ph → (pending ph).matches ≡ 0 → Between ph
none_between Start b e = b
none_between (Matches m) b e = absurd (omega arith)
none_between _ b e = tt

-- at the end no match is due
pub ended_between : (ph : Phase) (n : ℕ) (u : Unit {0}) → Begun ph → spec.ended ph n ≡ Ok u → Between ph
ended_between Start n u b e = b
ended_between (Matches m) n u b e = none _ _ e
ended_between _ n u b e = tt

pub between_ended : (ph : Phase) (n : ℕ) → Between ph → spec.ended ph n ≡ Ok tt
between_ended (Matches m) n b = elim b [ ]
between_ended _ n b = refl

-- the first word of all
pub first_taken : (s : BarrierForm) (at w : ℕ) (t : BarrierForm) → length (counts_of s.lines) < most_cases → by_phase Start s at w ≡ Ok t → CaseWord w × (t ≡ after_case s)
first_taken s at w t few p = (record { kind_is = grind (arith, nat_tests); plain = grind (arith, nat_tests) }, grind (arith, nat_tests))
