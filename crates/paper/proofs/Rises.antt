-- What a plant paper that is read without fault gives: counts within the limits, and arcs that rise.
use Rattle.std.proofs.Common.{◌≡◌, ℕ, zero, suc, ◌+◌, ◌/◌, ◌^◌, ◌<◌, ◌≤◌, List, [], ◌∷◌, map, length, get_or, Ok, sym, ap, ◌∙◌, arith}
use Rattle.plant.specs.Limits.{most_tanks, most_valves}
use Rattle.plant.specs.declared.question.Counts.{Counts}
use Rattle.words.specs.Words.{words, rest, field}
use Rattle.paper.specs.declared.plant_form.PlantForm.{PlantForm}
use Rattle.paper.specs.declared.plant_form.PlantForm.TheVariants.{Head, Arcs}
use Rattle.paper.specs.Runs.{run}
use Rattle.paper.specs.Limits.{most_plant_words}
use Rattle.paper.specs.Arcs.{PlantDocument, arc_of, plant_document}
use Rattle.paper.specs.PlantForm.{plant_step, plant_form, plant_read}
use Rattle.paper.specs.Plants.{Rises}
use Rattle.paper.proofs.Steps.{through, whole_read}
use Rattle.paper.proofs.PlantSteps.{arcs, headed, ordered}

-- each word's kind, valve and tank are at least what the form asks of the first
above : (tanks valves least at : ℕ) (ws : List ℕ) (s : PlantForm) → run plant_step (arcs tanks valves least) at ws ≡ Ok s → (j : ℕ) → j < length ws → least ≤ get_or ws j 0 / 2 ^ 16
above tanks valves least at [] s p j h = absurd (omega arith)
above tanks valves least at (w ∷ ws) s p zero h = (ordered tanks valves least at w ws s p).0
above tanks valves least at (w ∷ ws) s p (suc j) h =
    let o = ordered tanks valves least at w ws s p in
    let a = above tanks valves (w / 2 ^ 16 + 1) (at + 1) ws s o.1 j (omega arith) in
    omega arith

pub rises : (tanks valves least at : ℕ) (ws : List ℕ) (s : PlantForm) → run plant_step (arcs tanks valves least) at ws ≡ Ok s → Rises ws
rises tanks valves least at [] s p i j h k = absurd (omega arith)
rises tanks valves least at (w ∷ ws) s p i zero h k = absurd (omega arith)
rises tanks valves least at (w ∷ ws) s p zero (suc j) h k =
    let o = ordered tanks valves least at w ws s p in
    let a = above tanks valves (w / 2 ^ 16 + 1) (at + 1) ws s o.1 j (omega arith) in
    omega arith
rises tanks valves least at (w ∷ ws) s p (suc i) (suc j) h k =
    rises tanks valves (w / 2 ^ 16 + 1) (at + 1) ws s (ordered tanks valves least at w ws s p).1 i j (omega arith) (omega arith)

-- the counts stay as the head gave them
pub same_counts : (tanks valves least at : ℕ) (ws : List ℕ) (s : PlantForm) → run plant_step (arcs tanks valves least) at ws ≡ Ok s → (k : ℕ) × (s ≡ arcs tanks valves k)
same_counts tanks valves least at [] s p = (least, cc)
same_counts tanks valves least at (w ∷ ws) s p = same_counts tanks valves (w / 2 ^ 16 + 1) (at + 1) ws s (ordered tanks valves least at w ws s p).1

-- what the words of a good plant paper say
pub record Opened (tanks valves : ℕ) (ws : List ℕ) : Type 0 where
  pub some_words : 1 ≤ length ws
  pub some_tanks : 1 ≤ tanks
  pub few_tanks : tanks ≤ most_tanks
  pub some_valves : 1 ≤ valves
  pub few_valves : valves ≤ most_valves
  pub says : plant_document ws ≡ record { tanks = tanks; valves = valves; arcs = map arc_of (rest ws) }
  pub rise : Rises (rest ws)

-- forms past their head are alike only with the same counts
same_arcs : (a b : Counts) (k l : ℕ) → Arcs a k ≡ Arcs b l → a ≡ b
same_arcs a b k l e = cc

pub opened_run : (ws : List ℕ) (tanks valves least : ℕ) → run plant_step Head 0 ws ≡ Ok (arcs tanks valves least) → Opened tanks valves ws
opened_run [] tanks valves least p = absurd (let z : ◌≡◌ {A = ℕ} 0 1 = cc in omega arith)
opened_run (h ∷ ws) tanks valves least p =
    let a = headed h ws _ p in
    let same = (same_counts (field h 7 7) (field h 0 7) 0 1 ws _ a.1).1 in
    let counts = same_arcs _ _ _ _ same in
    let t : tanks ≡ field h 7 7 = ap (λ c. c.tanks) counts in
    let v : valves ≡ field h 0 7 = ap (λ c. c.valves) counts in
    record {
      some_words = omega arith;
      some_tanks = omega (arith, a.0.some_tanks);
      few_tanks = omega (arith, a.0.few_tanks);
      some_valves = omega (arith, a.0.some_valves);
      few_valves = omega (arith, a.0.few_valves);
      says = cc;
      rise = rises (field h 7 7) (field h 0 7) 0 1 ws _ a.1;
    }

-- a good plant paper ends past its head
pub past_head : (ws : List ℕ) → 1 ≤ length ws → run plant_step Head 0 ws ≡ Ok Head → ⊥
past_head [] h p = absurd (omega arith)
past_head (w ∷ ws) h p =
    let same = (same_counts (field w 7 7) (field w 0 7) 0 1 ws _ (headed w ws _ p).1).1 in
    absurd (let z : ◌≡◌ {A = ℕ} 0 1 = cc in omega arith)

-- the same of a paper's bytes
pub opened : (bs : List ℕ) (tanks valves least : ℕ) → plant_form bs ≡ Ok (arcs tanks valves least) → Opened tanks valves (words bs)
opened bs tanks valves least p = opened_run (words bs) tanks valves least (whole_read plant_step Head most_plant_words bs _ p).1

pub never_head : (bs : List ℕ) → plant_form bs ≡ Ok Head → ⊥
never_head bs p = let a = whole_read plant_step Head most_plant_words bs _ p in past_head (words bs) a.0.some a.1

-- the counts are those of the document that is read
at_end : (bs : List ℕ) (d : PlantDocument) (s : PlantForm) → plant_form bs ≡ Ok s → plant_document (words bs) ≡ d → Opened d.tanks d.valves (words bs)
at_end bs d Head p e = absurd (never_head bs p)
at_end bs d (Arcs counts least) p e =
    let o = opened bs counts.tanks counts.valves least p in
    let t : d.tanks ≡ counts.tanks = ap (λ x. x.tanks) (sym e ∙ o.says) in
    let v : d.valves ≡ counts.valves = ap (λ x. x.valves) (sym e ∙ o.says) in
    rw (t, v) o

pub opened_read : (bs : List ℕ) (d : PlantDocument) → plant_read bs ≡ Ok d → Opened d.tanks d.valves (words bs)
opened_read bs d p = let a = through (plant_form bs) _ _ p in let e = a.2 in at_end bs d a.0 a.1 (cc)
