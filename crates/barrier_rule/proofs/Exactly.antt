-- What the whole judgement of a barrier comes to.
use Rattle.std.proofs.Common.{◌≡◌, ℕ, ◌/◌, ◌%◌, ◌<◌, List, length, Ok, Err, Decides, Result, sym, refl, ◌∙◌, subst, arith}
use Rattle.std.proofs.ByRecursion.{All-get_or}
use Rattle.std.proofs.lemmas.Bool.{cond_both}
use Rattle.std.proofs.lemmas.Bool.Decides.{not_from_Decides}
use Rattle.plant.specs.Net.{Net, Bounded}
use Rattle.plant.specs.Walk.{held}
use Rattle.walks.proofs.Sufficient.{open_below}
use Rattle.barriers.specs.Lines.{Barrier, HoldsOf}
use Rattle.barriers.specs.Steps.{Way, Step, no_step, step_at, Closes, ClosedBy, Accepts}
use Rattle.barriers.specs.Tests.{holds_of?}
use Rattle.barriers.proofs.Decided.{barrier_decided}
use Rattle.barrier_paper.specs.Document.{BarrierDocument, BarrierFormed, StepFits, barrier_of, joined, case_words}
use Rattle.barrier_paper.proofs.Parts.{cases_kept}
use Rattle.barrier_rule.specs.declared.faults.BarrierFault.{BarrierFault}
use Rattle.barrier_rule.specs.declared.faults.BarrierFault.TheVariants.{FailsSource, FailsTarget, HoldsAcross, Missing, BadMatch}
use Rattle.barrier_rule.specs.Judgement.{steps_judged, barrier_judged}
use Rattle.barrier_rule.specs.Exact.{Wanted, Leaves, FirstMissing, FirstBad, PartsThem, Refused, BarriersAreJudgedExactly}
use Rattle.barrier_rule.proofs.Places.{place_below, key_place, leaving_key, way_at, place_at, wanted_small}
use Rattle.barrier_rule.proofs.Steps.{rising_apart, MissingFrom, BadFrom, ComesTo, cases_small, steps_come_to}

-- what is so of a barrier by each result
abbrev Says : Net → List ℕ → List ℕ → BarrierDocument → Result (Unit {0}) BarrierFault → Type 0
Says N A B d (Ok x) = Accepts N (barrier_of d) d.steps A B
Says N A B d (Err e) = Refused N A B d e

closing_leaves : {N : Net} {β : Barrier} {way : Way} {i t : ℕ} {s : Step} → Closes N β way i t s → Leaves s way i t
closing_leaves c = record { its_way = c.its_way; its_case = c.its_case; its_valve = c.its_valve }

module _ (N : Net) (b : Bounded N) (A B : List ℕ) (d : BarrierDocument) (f : BarrierFormed N.tanks N.valves d) where
  abbrev β : Barrier
  β = barrier_of d

  -- the word of the first step
  abbrev first : ℕ
  first = length (joined case_words d.cases)

  fits : (n : ℕ) → n < length d.steps → StepFits N.valves d.cases (step_at d.steps n)
  fits n l = All-get_or (StepFits N.valves d.cases) d.steps n no_step l f.steps_fit

  -- ---- each result says what is so

  first_missing : (k : ℕ) → MissingFrom N β d.steps 0 k → FirstMissing N β d.steps k
  first_missing k m = record {
    way = way_at k;
    case = k / 64 % 16;
    valve = k % 64;
    is = place_at k m.to;
    wants = m.wants;
    missing = λ n l leaves. m.missing n l (leaving_key leaves ∙ sym (place_at k m.to));
    closed_before = λ way i t w l. m.closed way i t w (omega arith) l;
  }

  first_bad_match : (w : ℕ) → BadFrom N β d.steps 0 first w → FirstBad N d w
  first_bad_match w x = record {
    step = x.step;
    match = x.match;
    is = x.is;
    step_there = x.there;
    match_there = x.bad.match_there;
    valve_open = x.bad.valve_open;
    bad = x.bad.bad;
    good_before = x.bad.good_before;
    closed_before = λ way i t v l. x.closed way i t v (omega arith) (omega (arith, key_place (step_at d.steps x.step)));
  }

  steps_say : PartsThem N β A B → (r : Result (Unit {0}) BarrierFault) → ComesTo N β d.steps 0 first r → Says N A B d r
  steps_say p (Ok x) h = record {
    at_source = p.at_source;
    at_target = p.at_target;
    apart = p.apart;
    closed = λ way i l t _ o.
        let wants : Wanted N β i t = record { case_there = l; valve_open = o } in
        h way i t wants (omega arith) (place_below way i t (wanted_small N b β (cases_small d f.few_cases) i t wants));
  }
  steps_say p (Err FailsSource) h = absurd h
  steps_say p (Err FailsTarget) h = absurd h
  steps_say p (Err HoldsAcross) h = absurd h
  steps_say p (Err (Missing k)) h = (p, first_missing k h)
  steps_say p (Err (BadMatch w)) h = (p, first_bad_match w h)

  held_decided : (C D : List ℕ) → Decides (holds_of? N β C D) (HoldsOf N β C D)
  held_decided C D = barrier_decided N.tanks β (held C) (held D)

  -- the judgement after the three pairs of fillings
  abbrev by_steps : Result (Unit {0}) BarrierFault
  by_steps = steps_judged N β 0 first d.steps

  judgement_says : Says N A B d (barrier_judged N (held A) (held B) d)
  judgement_says =
      cond_both (holds_of? N β A A) _ _ (Says N A B d)
      (λ a. cond_both (holds_of? N β B B) _ _ (Says N A B d)
      (λ z. cond_both (holds_of? N β A B) _ by_steps (Says N A B d)
      (λ x. ((held_decided A A).0 a, (held_decided B B).0 z, (held_decided A B).0 x))
      (λ x. steps_say (record { at_source = (held_decided A A).0 a; at_target = (held_decided B B).0 z; apart = not_from_Decides _ (held_decided A B) x }) by_steps
      (steps_come_to N b d f.few_cases d.steps 0 first f.steps_rise f.steps_fit)))
      (λ z. ((held_decided A A).0 a, not_from_Decides _ (held_decided B B) z)))
      (λ a. not_from_Decides _ (held_decided A A) a)

  -- ---- what is accepted is refused by no fault

  never_missing : (k : ℕ) → FirstMissing N β d.steps k → ClosedBy N β d.steps → ⊥
  never_missing k m closed =
      let (n, l, c) = closed m.way m.case m.wants.case_there m.valve (open_below N b m.valve m.wants.valve_open) m.wants.valve_open in
      m.missing n l (closing_leaves c)

  -- only a step itself stands at its place, so it is the one that closes it
  never_bad : (w : ℕ) → FirstBad N d w → ClosedBy N β d.steps → ⊥
  never_bad w x closed =
      let s : Step = step_at d.steps x.step in
      let fit = fits x.step x.step_there in
      let (n, l, c) = closed s.way s.from (omega (arith, fit.from_there, cases_kept d)) s.valve fit.valve_there x.valve_open in
      let same : n ≡ x.step = rising_apart 0 d.steps f.steps_rise n x.step l x.step_there (leaving_key (closing_leaves c) ∙ sym (key_place s)) in
      x.bad ((subst (λ m. Closes N β s.way s.from s.valve (step_at d.steps m)) same c).all_good x.match x.match_there)

  never_refused : (e : BarrierFault) → Refused N A B d e → Accepts N β d.steps A B → ⊥
  never_refused FailsSource r a = r a.at_source
  never_refused FailsTarget r a = r.1 a.at_target
  never_refused HoldsAcross r a = a.apart r.2
  never_refused (Missing k) r a = never_missing k r.1 a.closed
  never_refused (BadMatch w) r a = never_bad w r.1 a.closed

  only_accepted : (r : Result (Unit {0}) BarrierFault) → Says N A B d r → Accepts N β d.steps A B → r ≡ Ok tt
  only_accepted (Ok x) says a = refl
  only_accepted (Err e) says a = absurd (never_refused e says a)

pub barriers_are_judged_exactly : BarriersAreJudgedExactly
barriers_are_judged_exactly = record {
  accepted_keeps = λ N b A B d f e. subst (Says N A B d) e (judgement_says N b A B d f);
  keeps_accepted = λ N b A B d f a. only_accepted N b A B d f _ (judgement_says N b A B d f) a;
  refused_so = λ N b A B d f e r. subst (Says N A B d) r (judgement_says N b A B d f);
}
