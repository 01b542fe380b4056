-- What a paper plant is made of: the counts of a good paper and its arcs, or nothing.
use Rattle.std.proofs.Common.{◌≡◌, ℕ, zero, suc, ◌+◌, ◌-◌, ◌/◌, ◌^◌, ◌≤◌, Bool, true, false, cond, ◌&&◌, ltb, List, [], ◌∷◌, length, take, drop, Ok, Err, Result, sym, refl, ap, ◌∙◌, subst, ⊎_elim, arith}
use Rattle.std.proofs.lemmas.Bool.{le-ltb}
use Rattle.plant.specs.Limits.{most_tanks, most_valves}
use Rattle.plant.specs.Net.{empty}
use Rattle.plant.specs.declared.question.Counts.{Counts}
use Rattle.words.specs.Words.{words, rest, kind, field}
use Rattle.words.specs.Faults.{counted, raised, onward}
use Rattle.words.specs.declared.faults.PaperFault.{PaperFault}
use Rattle.words.specs.declared.faults.PaperFault.TheVariants.{Words}
use Rattle.words.proofs.Laws.{length_words, words_rest}
use Rattle.paper.specs.declared.plant_form.PlantForm.{PlantForm}
use Rattle.paper.specs.declared.plant_form.PlantForm.TheVariants.{Head, Arcs}
use Rattle.paper.specs.Runs.{run}
use Rattle.paper.specs.Limits.{most_plant_words}
use Rattle.paper.specs.Arcs.{PlantDocument, plant_document, plant_of}
use Rattle.paper.specs.PlantForm.{plant_step, plant_form, plant_read, plant_counts, plant_made}
use Rattle.paper.specs.Plants.{Rises, Sided, arcs_plant}
use Rattle.paper.proofs.Steps.{through}
use Rattle.paper.proofs.PlantSteps.{arcs, arc_taken, headed, ordered}
use Rattle.paper.proofs.Rises.{opened, never_head}

-- the plant without counts and arcs is the empty plant
pub nothing : (ws : List ℕ) → ws ≡ [] → arcs_plant 0 0 ws ≡ empty
nothing ws e = ap (λ vs. arcs_plant 0 0 vs) e ∙ shut
  where
    none : (b : Bool) → ◌≡◌ {A = ℕ} (cond b 0 0) 0
    none true = refl
    none false = refl

    shut : arcs_plant 0 0 [] ≡ empty
    shut = λ i. record {
      tanks = 0;
      valves = 0;
      opens = λ t. le-ltb t 0 (omega arith) i;
      intake = λ t r. none (ltb t 0 && ltb r 0) i;
      outlet = λ t r. none (ltb t 0 && ltb r 0) i;
    }

-- every arc of a good paper is an intake or an outlet
sided_run : (tanks valves least at : ℕ) (ws : List ℕ) (s : PlantForm) → run plant_step (arcs tanks valves least) at ws ≡ Ok s → Sided ws
sided_run tanks valves least at [] s p i h = absurd (omega arith)
sided_run tanks valves least at (w ∷ ws) s p zero h =
    let t = through (plant_step (arcs tanks valves least) at w) _ _ p in
    let k = (arc_taken tanks valves least at w t.0 t.1).0.kind_is in
    (⊎_elim (λ (e : kind w ≡ 2). omega arith) (λ (e : kind w ≡ 3). omega arith) k, ⊎_elim (λ (e : kind w ≡ 2). omega arith) (λ (e : kind w ≡ 3). omega arith) k)
sided_run tanks valves least at (w ∷ ws) s p (suc i) h =
    sided_run tanks valves (w / 2 ^ 16 + 1) (at + 1) ws s (ordered tanks valves least at w ws s p).1 i (omega arith)

sided : (ws : List ℕ) (s : PlantForm) → run plant_step Head 0 ws ≡ Ok s → Sided (rest ws)
sided [] s p i h = absurd (omega arith)
sided (w ∷ ws) s p i h = sided_run (field w 7 7) (field w 0 7) 0 1 ws s (headed w ws s p).1 i h

-- the counts that the form comes to are those of the document
pub form_counts : (bs : List ℕ) (tanks valves least : ℕ) → plant_form bs ≡ Ok (arcs tanks valves least) → plant_counts (plant_read bs) ≡ Ok (record { tanks = tanks; valves = valves })
form_counts bs tanks valves least p =
    ap (λ f. plant_counts (onward f (λ _. Ok (plant_document (words bs))))) p
    ∙ ap (λ d. Ok (record { tanks = d.tanks; valves = d.valves })) (opened bs tanks valves least p).says

-- a good paper, taken apart: the counts, and the words after the head
pub record Good (counts : Counts) (bs : List ℕ) : Type 0 where
  pub four : 4 ≤ length bs
  pub few_tanks : counts.tanks ≤ most_tanks
  pub few_valves : counts.valves ≤ most_valves
  pub sided : Sided (words (take (length bs - 4) (drop 4 bs)))
  pub rises : Rises (words (take (length bs - 4) (drop 4 bs)))
  pub made : arcs_plant counts.tanks counts.valves (words (take (length bs - 4) (drop 4 bs))) ≡ plant_made (plant_read bs)

good_form : (bs : List ℕ) (tanks valves least : ℕ) → plant_form bs ≡ Ok (arcs tanks valves least) → Good (record { tanks = tanks; valves = valves }) bs
good_form bs tanks valves least p =
    let o = opened bs tanks valves least p in
    let t = through (raised Words (counted most_plant_words bs)) _ _ p in
    let four : 4 ≤ length bs = omega (arith, o.some_words, length_words bs) in
    let tail : rest (words bs) ≡ words (take (length bs - 4) (drop 4 bs)) = ap rest (words_rest bs four) in
    record {
      four = four;
      few_tanks = o.few_tanks;
      few_valves = o.few_valves;
      sided = subst Sided tail (sided (words bs) (arcs tanks valves least) t.2);
      rises = subst Rises tail o.rise;
      made =
          ap (λ ws. arcs_plant tanks valves ws) (sym tail)
          ∙ (ap plant_of (sym o.says) ∙ ap (λ f. plant_made (onward f (λ _. Ok (plant_document (words bs))))) (sym p));
    }

pub good : (bs : List ℕ) (counts : Counts) → Ok counts ≡ plant_counts (plant_read bs) → Good counts bs
good bs counts p = by (plant_form bs) refl
  where
    by : (f : Result PlantForm PaperFault) → plant_form bs ≡ f → Good counts bs
    by (Err e) q =
        let z : Ok counts ≡ Err e = p ∙ ap (λ f. plant_counts (onward f (λ _. Ok (plant_document (words bs))))) q in
        absurd (let y : ◌≡◌ {A = ℕ} 0 1 = cc in omega arith)
    by (Ok Head) q = absurd (never_head bs q)
    by (Ok (Arcs k least)) q =
        let z : Ok counts ≡ Ok k = p ∙ form_counts bs k.tanks k.valves least q in
        let e : counts ≡ k = cc in
        subst (λ c. Good c bs) (sym e) (good_form bs k.tanks k.valves least q)

-- a bad paper makes the empty plant
pub bad : (bs : List ℕ) (e : PaperFault) → Err e ≡ plant_counts (plant_read bs) → plant_made (plant_read bs) ≡ empty
bad bs e p = by (plant_read bs) refl
  where
    by : (r : Result PlantDocument PaperFault) → plant_read bs ≡ r → plant_made (plant_read bs) ≡ empty
    by (Err d) q = ap plant_made q
    by (Ok d) q =
        let z : Err e ≡ plant_counts (Ok d) = p ∙ ap plant_counts q in
        absurd (let y : ◌≡◌ {A = ℕ} 0 1 = cc in omega arith)
