-- The words of a barrier paper after its first: they are taken to the end exactly when they are the words of a well-formed front,
-- and then they say that front.
use Rattle.std.proofs.Common.{◌≡◌, ℕ, ◌+◌, List, [], ◌∷◌, length, Ok, sym, refl, ap, ◌∙◌, inr, ⊎_elim, arith}
use Rattle.std.proofs.lemmas.List.{append-nil}
use Rattle.paper.specs.Runs.{run}
use Rattle.paper.proofs.Steps.{through}
use Rattle.barrier_paper.specs.declared.form.BarrierForm.{BarrierForm}
use Rattle.barrier_paper.specs.Document.{Said, said, say, nothing_said}
use Rattle.barrier_paper.specs.Form.{counts_of, last, longer, by_phase, barrier_step, ended}
use Rattle.barrier_paper.proofs.Taking.{lefts_from, rights_from, Between, taken, takes, between_none, ended_between}
use Rattle.barrier_paper.proofs.States.{Sound, sound_kept}
use Rattle.barrier_paper.proofs.Fronts.{Front, no_weights, longer_none, front_more}
use Rattle.barrier_paper.proofs.FrontWords.{front_words, words_more}
use Rattle.barrier_paper.proofs.Peeling.{Peeled, peel}

front_end : (s : BarrierForm) → Sound s → Between s.phase → Front (counts_of s.lines) s.phase s nothing_said
front_end s h b = record {
  lefts_fit = no_weights s.counts.tanks (lefts_from s.phase);
  rights_fit = no_weights s.counts.tanks (rights_from s.phase);
  in_case = inr (refl, refl);
  body = record {
    few_lines = omega (arith, h.few (last (counts_of s.lines)));
    lines_fit = tt;
    few_cases = omega (arith, h.few_cases);
    cases_fit = tt;
    counted = sym (append-nil (longer (counts_of s.lines) 0) ∙ longer_none (counts_of s.lines));
  };
  tail = record { matched = sym (between_none s.phase b); matches_fit = tt; steps_rise = tt };
  steps_fit = tt;
}

pub read : (s : BarrierForm) (at : ℕ) (ws : List ℕ) (e : BarrierForm) (n : ℕ) (u : Unit {0}) → Sound s → run barrier_step s at ws ≡ Ok e → ended e.phase n ≡ Ok u → Front (counts_of e.lines) s.phase s (said ws) × (front_words (said ws) ≡ ws)
read s at [] e n u h p q =
    let same : s ≡ e = cc in
    (rw (← same) (front_end s h (ended_between s.phase n u h.begun (rw (← same) at q))), refl)
read s at (w ∷ ws) e n u h p q =
    let a = through (by_phase s.phase s at w) (λ t. run barrier_step t (at + 1) ws) e p in
    let t = taken s.phase s at w a.0 h.begun a.1 in
    let r = read a.0 (at + 1) ws e n u (sound_kept s w a.0 t h) a.2 q in
    (front_more (counts_of e.lines) s w a.0 (said ws) h t r.0, words_more (counts_of e.lines) s w a.0 (said ws) t r.0 ∙ ap (λ vs. w ∷ vs) r.1)

-- words that are taken to the end, and that say a front
pub record Run (s : BarrierForm) (at : ℕ) (ws : List ℕ) (d : Said) : Type 0 where
  pub end : BarrierForm
  pub runs : run barrier_step s at ws ≡ Ok end
  pub ends : Between end.phase
  pub says : said ws ≡ d

-- the words of what is peeled
peeled_words : (counts : List ℕ) (s : BarrierForm) (d : Said) (p : Peeled counts s d) → front_words d ≡ p.word ∷ front_words p.after
peeled_words counts s d p = rw p.same at (words_more counts s p.word p.next p.after p.took p.front)

one_more : (counts : List ℕ) (s : BarrierForm) (at : ℕ) (ws : List ℕ) (d : Said) (p : Peeled counts s d) → Run p.next (at + 1) ws p.after → Run s at (p.word ∷ ws) d
one_more counts s at ws d p r = record {
  end = r.end;
  runs = rw (takes s.phase s at p.word p.next p.took) r.runs;
  ends = r.ends;
  says = ap (say p.word) r.says ∙ p.same;
}

pub write : (counts : List ℕ) (s : BarrierForm) (at : ℕ) (ws : List ℕ) (d : Said) → Sound s → Front counts s.phase s d → front_words d ≡ ws → Run s at ws d
write counts s at [] d h f e =
    ⊎_elim (λ (p : Peeled counts s d). absurd (let n = ap length (sym (peeled_words counts s d p) ∙ e) in omega arith)) (λ (z : (d ≡ nothing_said) × Between s.phase). record { end = s; runs = refl; ends = z.1; says = sym z.0 }) (peel counts s h d f)
write counts s at (v ∷ ws) d h f e =
    ⊎_elim (λ (p : Peeled counts s d).
    let q = peeled_words counts s d p in
    let same : p.word ≡ v = cc in
    let rest : front_words p.after ≡ ws = cc in
    rw (← same) (one_more counts s at ws d p (write counts p.next (at + 1) ws p.after (sound_kept s p.word p.next p.took h) p.front rest))) (λ (z : (d ≡ nothing_said) × Between s.phase). absurd (let n = ap length (sym (ap front_words z.0) ∙ e) in omega arith)) (peel counts s h d f)
