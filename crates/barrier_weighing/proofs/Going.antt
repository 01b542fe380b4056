-- Step after step: what is yet to be judged, and that its answer is the answer to the whole.
use Rattle.std.proofs.Common.{◌≡◌, ℕ, suc, ◌+◌, ◌-◌, ◌*◌, ◌/◌, ◌≤◌, List, [], ◌∷◌, ◌++◌, map, length, take, drop, Some, Ok, Err, Option, Result, sym, refl, ap, ◌∙◌, subst, arith, length-append}
use Rattle.std.specs.List.{AllByRecursion}
use Rattle.std.proofs.lemmas.List.{length-map, take_at, drop_at, take_rest}
use Rattle.plant.specs.Net.{Net}
use Rattle.words.specs.Words.{words}
use Rattle.words.specs.Placed.{word_at}
use Rattle.words.specs.declared.word.Word.{Word}
use Rattle.words.specs.Faults.{onward, refusing}
use Rattle.words.proofs.Laws.{length_words, words_take, words_drop}
use Rattle.words.proofs.Placing.{reads}
use Rattle.barriers.specs.Steps.{Match, Step}
use Rattle.barrier_paper.specs.Document.{BarrierDocument, BarrierFormed, StepFits, MatchFits, barrier_of, lines_in, joined, step_words, step_said, match_word, match_said}
use Rattle.barrier_paper.proofs.WordParts.{step_head, step_says, match_says}
use Rattle.barrier_rule.specs.declared.faults.BarrierFault.{BarrierFault}
use Rattle.barrier_rule.specs.declared.faults.BarrierFault.TheVariants.{Missing}
use Rattle.barrier_rule.specs.Judgement.{most_places, gap, step_judged, steps_judged}
use Rattle.barrier_weighing.specs.OfMatches.{whole_step}

-- the bytes after the first word
abbrev pub after : List ℕ → List ℕ
after bs = take (length bs - 4) (drop 4 bs)

pub read_next : (bs : List ℕ) (w : Word) → Some w ≡ word_at 0 (words bs) → words bs ≡ w.bits ∷ words (after bs)
read_next bs w e = (reads 0 bs w e).left ∙ ap (λ vs. w.bits ∷ vs) (sym (ap words (take_rest bs 4) ∙ words_drop 1 bs))

module _ (N : Net) (d : BarrierDocument) (whole : Result (Unit {0}) BarrierFault) where
  -- the words are those of steps whose answer is the answer to the whole
  pub record Going (ws : List ℕ) (next at : ℕ) : Type 0 where
    pub steps : List Step
    pub fits : AllByRecursion (StepFits N.valves d.cases) steps
    pub written : ws ≡ joined step_words steps
    pub judged : steps_judged N (barrier_of d) next at steps ≡ whole

  -- a word more: there is a step more
  pub record NextStep (w : ℕ) (ws : List ℕ) (next at : ℕ) : Type 0 where
    pub step : Step
    pub more : List Step
    pub fit : StepFits N.valves d.cases step
    pub more_fit : AllByRecursion (StepFits N.valves d.cases) more
    pub written : w ∷ ws ≡ step_words step ++ joined step_words more
    pub judged : onward (step_judged N (barrier_of d) next at step) (λ n. steps_judged N (barrier_of d) n (at + suc (length step.matches)) more) ≡ whole

  pub peel : (vs : List ℕ) (next at : ℕ) → Going vs next at → (w : ℕ) (ws : List ℕ) → vs ≡ w ∷ ws → NextStep w ws next at
  peel vs next at g w ws e = from g.steps g.fits (sym e ∙ g.written) g.judged
    where
      from : (ss : List Step) → AllByRecursion (StepFits N.valves d.cases) ss → w ∷ ws ≡ joined step_words ss → steps_judged N (barrier_of d) next at ss ≡ whole → NextStep w ws next at
      from [] fits written judged = absurd (omega (arith, ap length written))
      from (s ∷ ss) fits written judged = record { step = s; more = ss; fit = fits.0; more_fit = fits.1; written = written; judged = judged }

  -- no word more: there is none
  pub last : (vs : List ℕ) (next at : ℕ) → Going vs next at → vs ≡ [] → (o : Option ℕ) → o ≡ gap N (length (barrier_of d)) next most_places → refusing o Missing (Ok tt) ≡ whole
  last vs next at g e o is = from g.steps (sym e ∙ g.written) g.judged
    where
      from : (ss : List Step) → [] ≡ joined step_words ss → steps_judged N (barrier_of d) next at ss ≡ whole → refusing o Missing (Ok tt) ≡ whole
      from [] written judged = ap (λ u. refusing u Missing (Ok tt)) is ∙ judged
      from (s ∷ ss) written judged = absurd (omega (arith, ap length written))

-- the next step is cut off, as many matches as it has: `vs` are the bytes after its word
module _ {N : Net} {d : BarrierDocument} {whole : Result (Unit {0}) BarrierFault} {tanks : ℕ} (f : BarrierFormed tanks N.valves d) {w : ℕ} (vs : List ℕ) {next at : ℕ} (n : NextStep N d whole w (words vs) next at) where
  tail_is : words vs ≡ map match_word n.step.matches ++ joined step_words n.more
  tail_is = let e : words vs ≡ map match_word n.step.matches ++ joined step_words n.more = cc n.written in e

  head_is : w ≡ step_head n.step
  head_is = let e : w ≡ step_head n.step = cc n.written in e

  step_is : step_said w n.step.matches ≡ n.step
  step_is = ap (λ v. step_said v n.step.matches) head_is ∙ (step_says N.valves d.cases f.few_cases n.step n.fit).step_is

  pub from_is : (step_said w []).from ≡ n.step.from
  from_is = ap (λ (s : Step). s.from) step_is

  pub to_is : (step_said w []).to ≡ n.step.to
  to_is = ap (λ (s : Step). s.to) step_is

  pub enough : length n.step.matches ≤ length vs / 4
  enough = omega (arith, ap length tail_is, length-append (map match_word n.step.matches) (joined step_words n.more), length-map n.step.matches match_word, length_words vs)

  said : (ms : List Match) → AllByRecursion (MatchFits (lines_in d.cases n.step.from)) ms → map match_said (map match_word ms) ≡ ms
  said [] h = refl
  said (m ∷ ms) h = rw (match_says tanks N.valves d.cases f.few_cases f.cases_fit n.step.from n.fit.from_there m h.0, said ms h.1) refl

  module _ {due : ℕ} (due_is : due ≡ length n.step.matches) {ms : List ℕ} (front : ms ≡ take (4 * due) vs) where
    whole_is : whole_step w (words ms) ≡ n.step
    whole_is =
        let front_is : words ms ≡ map match_word n.step.matches =
        ap words front ∙ words_take due vs ∙ rw (due_is, tail_is) (take_at _ _ (length n.step.matches) (length-map n.step.matches match_word)) in
        rw (front_is, said n.step.matches n.fit.matches_fit) step_is

    pub whole_fits : StepFits N.valves d.cases (whole_step w (words ms))
    whole_fits = subst (StepFits N.valves d.cases) (sym whole_is) n.fit

    -- the step is refused
    pub refuses : (e : BarrierFault) → Err e ≡ step_judged N (barrier_of d) next at (whole_step w (words ms)) → Err e ≡ whole
    refuses e is =
        ap (λ r. onward r (λ k. steps_judged N (barrier_of d) k (at + suc (length n.step.matches)) n.more)) (is ∙ ap (step_judged N (barrier_of d) next at) whole_is) ∙ n.judged

    -- the step is in order
    pub goes_on : {os : List ℕ} → os ≡ drop (4 * due) vs → (next' : ℕ) → Ok next' ≡ step_judged N (barrier_of d) next at (whole_step w (words ms)) → Going N d whole (words os) next' (at + (1 + due))
    goes_on {os} back next' is =
        let count : 1 + due ≡ suc (length n.step.matches) = omega (arith, due_is) in
        record {
          steps = n.more;
          fits = n.more_fit;
          written = ap words back ∙ words_drop due vs ∙ rw (due_is, tail_is) (drop_at _ _ (length n.step.matches) (length-map n.step.matches match_word));
          judged =
              rw count (ap (λ r. onward r (λ k. steps_judged N (barrier_of d) k (at + suc (length n.step.matches)) n.more)) (is ∙ ap (step_judged N (barrier_of d) next at) whole_is) ∙ n.judged);
        }
