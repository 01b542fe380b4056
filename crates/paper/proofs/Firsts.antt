-- The first fault of a run.
use Rattle.std.proofs.Common.{◌≡◌, ℕ, ◌+◌, List, [], ◌∷◌, length, Ok, Err, Result, refl, ap, ◌∙◌, subst, arith}
use Rattle.words.specs.declared.faults.PaperFault.{PaperFault}
use Rattle.words.specs.Faults.{onward}
use Rattle.paper.specs.Runs.{run}
use Rattle.paper.specs.PlantForm.{plant_step}
use Rattle.paper.specs.TotalsForm.{totals_step}
use Rattle.paper.specs.First.{none, more, Reached, First, PapersAreRefusedAtTheFirstFault}

further : (at : ℕ) (ws : List ℕ) (w : ℕ) → at + 1 + length ws ≡ at + length (w ∷ ws)
further at ws w = omega arith

module _ {S : Type 0} (step : S → ℕ → ℕ → Result S PaperFault) where
  turn : (s : S) (at w : ℕ) (ws : List ℕ) (e : PaperFault) → ((t : S) → run step t (at + 1) ws ≡ Err e → Reached step t (at + 1) ws e) → (r : Result S PaperFault) → step s at w ≡ r → onward r (λ t. run step t (at + 1) ws) ≡ Err e → Reached step s at (w ∷ ws) e
  turn s at w ws e next (Ok t) q p =
      let f = next t p in
      record {
        front = w ∷ f.front;
        word = f.word;
        back = f.back;
        state = f.state;
        split = ap (λ l. w ∷ l) f.split;
        passes = more q f.passes;
        faulty = subst (λ n. step f.state n f.word ≡ Err e) (further at f.front w) f.faulty;
      }
  turn s at w ws e next (Err d) q p =
      let z : d ≡ e = cc in
      record { front = []; word = w; back = ws; state = s; split = refl; passes = none; faulty = subst (λ n. step s n w ≡ Err e) (omega arith) (q ∙ ap Err z) }

  pub first : First step
  first s at [] e p = absurd (let z : ◌≡◌ {A = ℕ} 0 1 = cc in omega arith)
  first s at (w ∷ ws) e p = turn s at w ws e (λ t. first t (at + 1) ws e) (step s at w) refl p

pub refused_at_the_first : PapersAreRefusedAtTheFirstFault
refused_at_the_first = record { plants = first plant_step; totals = first totals_step }
