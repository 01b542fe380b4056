-- Writing and reading plant papers are inverse to each other.
use Rattle.std.proofs.Common.{◌≡◌, ℕ, suc, ◌+◌, ◌*◌, ◌/◌, ◌^◌, ◌<◌, ◌≤◌, Bool, true, false, eqb, ◌⊎◌, List, [], ◌∷◌, Ok, refl, ap, ◌∙◌, inl, inr, arith}
use Rattle.std.proofs.lemmas.List.{length-map}
use Rattle.std.proofs.lemmas.Bool.Decides.{nat_tests}
use Rattle.plant.specs.Limits.{most_tanks, most_valves, most_weight}
use Rattle.words.specs.Words.{kind, field}
use Rattle.paper.specs.declared.plant_form.PlantForm.{PlantForm}
use Rattle.paper.specs.declared.plant_form.PlantForm.TheVariants.{Head}
use Rattle.paper.specs.Limits.{most_plant_words}
use Rattle.paper.specs.Arcs.{Arc, PlantDocument, PlantFormed, ArcFits, RisingArcs, arc_kind, arc_key, arc_word, arc_of, plant_head, plant_words, plant_document}
use Rattle.paper.specs.PlantForm.{plant_step}
use Rattle.paper.specs.Inverse.{PlantPapersAreExact}
use Rattle.paper.proofs.Steps.{Legible, legible_read, read_formed}
use Rattle.paper.proofs.Lines.{Lines, lines_small, lines_say, lines_run, lines_read}
use Rattle.paper.proofs.PlantSteps.{arcs, arc_taken, takes_head, takes_arc, headed}

-- the fields of a word that is put together of an arc's parts
record Parts (k v t x w : ℕ) : Type 0 where
  kind_is : kind w ≡ k
  plain : field w 10 6 ≡ 0
  valve_is : field w 22 6 ≡ v
  tank_is : field w 16 6 ≡ t
  weight_is : field w 0 10 ≡ x
  key_is : w / 2 ^ 16 ≡ (k * 64 + v) * 64 + t
  small : w < 2 ^ 32

put : (k v t x : ℕ) → k ≤ 3 → v < 64 → t < 64 → x ≤ most_weight → Parts k v t x (k * 2 ^ 28 + v * 2 ^ 22 + t * 2 ^ 16 + x)
put k v t x hk hv ht hx = record {
  kind_is = omega arith;
  plain = omega arith;
  valve_is = omega arith;
  tank_is = omega arith;
  weight_is = omega arith;
  key_is = omega arith;
  small = omega arith;
}

-- and the word that such fields are of
taken_apart : (k w : ℕ) → k ≡ kind w → field w 10 6 ≡ 0 → w ≡ k * 2 ^ 28 + field w 22 6 * 2 ^ 22 + field w 16 6 * 2 ^ 16 + field w 0 10
taken_apart k w h p =
    let low : w / 2 ^ 16 ≡ w / 2 ^ 10 / 2 ^ 6 = omega arith in
    let middle : w / 2 ^ 22 ≡ w / 2 ^ 16 / 2 ^ 6 = omega arith in
    let high : w / 2 ^ 28 ≡ w / 2 ^ 22 / 2 ^ 6 = omega arith in
    omega arith

key_of : (k w : ℕ) → k ≡ kind w → w / 2 ^ 16 ≡ (k * 64 + field w 22 6) * 64 + field w 16 6
key_of k w h = omega arith

pub kind_low : (g : Bool) → arc_kind g ≤ 3
kind_low true = omega arith
kind_low false = omega arith

kind_says : (g : Bool) → eqb (arc_kind g) 3 ≡ g
kind_says true = refl
kind_says false = refl

kind_one : (g : Bool) → (arc_kind g ≡ 2) ⊎ (arc_kind g ≡ 3)
kind_one true = inr refl
kind_one false = inl refl

kind_back : (k : ℕ) → (k ≡ 2) ⊎ (k ≡ 3) → arc_kind (eqb k 3) ≡ k
kind_back k h = grind (arith, nat_tests)

module _ (tanks valves : ℕ) (few_tanks : tanks ≤ most_tanks) (few_valves : valves ≤ most_valves) where
  parts : (a : Arc) → ArcFits tanks valves a → Parts (arc_kind a.gives) a.valve a.tank a.weight (arc_word a)
  parts a f = put (arc_kind a.gives) a.valve a.tank a.weight (kind_low a.gives) (omega (arith, f.valve_there)) (omega (arith, f.tank_there)) f.few

  says : (a : Arc) → ArcFits tanks valves a → arc_of (arc_word a) ≡ a
  says a f =
      let p = parts a f in
      let g : eqb (kind (arc_word a)) 3 ≡ a.gives = ap (λ k. eqb k 3) p.kind_is ∙ kind_says a.gives in
      let v = p.valve_is in
      let t = p.tank_is in
      let x = p.weight_is in
      let same : arc_of (arc_word a) ≡ record { gives = a.gives; valve = a.valve; tank = a.tank; weight = a.weight } = cc in
      same

  takes : (least at : ℕ) (a : Arc) → ArcFits tanks valves a → least ≤ arc_key a → plant_step (arcs tanks valves least) at (arc_word a) ≡ Ok (arcs tanks valves (suc (arc_key a)))
  takes least at a f h =
      let p = parts a f in
      let next : arc_word a / 2 ^ 16 + 1 ≡ suc (arc_key a) = omega (arith, p.key_is) in
      takes_arc tanks valves least at (arc_word a) (record {
        kind_is = rw p.kind_is (kind_one a.gives);
        plain = p.plain;
        valve_there = rw p.valve_is f.valve_there;
        tank_there = rw p.tank_is f.tank_there;
        some = rw p.weight_is f.some;
        rises = rw p.key_is h;
      })
      ∙ ap (λ k. Ok (arcs tanks valves k)) next

  taken : (least at w : ℕ) (s : PlantForm) → plant_step (arcs tanks valves least) at w ≡ Ok s → ArcFits tanks valves (arc_of w) × (least ≤ arc_key (arc_of w)) × (w ≡ arc_word (arc_of w)) × (s ≡ arcs tanks valves (suc (arc_key (arc_of w))))
  taken least at w s p =
      let a = arc_taken tanks valves least at w s p in
      let t = a.0 in
      let k = kind_back (kind w) t.kind_is in
      let key = key_of _ w k in
      let next : w / 2 ^ 16 + 1 ≡ suc (arc_key (arc_of w)) = omega (arith, key) in (
        record { valve_there = t.valve_there; tank_there = t.tank_there; some = t.some; few = omega arith },
        omega (arith, t.rises, key),
        taken_apart _ w k t.plain,
        a.1 ∙ ap (λ n. arcs tanks valves n) next,
      )

  arc_lines : Lines plant_step (arcs tanks valves) arc_of arc_word arc_key (ArcFits tanks valves) RisingArcs
  arc_lines = record {
    none = λ least. tt;
    more = λ least a more h k. (h, k);
    parts = λ least a more h. h;
    small = λ a f. (parts a f).small;
    says = says;
    takes = takes;
    taken = taken;
  }

-- the head's fields, and the head of such fields
record HeadParts (t v w : ℕ) : Type 0 where
  kind_is : kind w ≡ 1
  plain : field w 14 14 ≡ 0
  tanks_are : field w 7 7 ≡ t
  valves_are : field w 0 7 ≡ v
  small : w < 2 ^ 32

put_head : (t v : ℕ) → t ≤ most_tanks → v ≤ most_valves → HeadParts t v (2 ^ 28 + t * 2 ^ 7 + v)
put_head t v ht hv = record { kind_is = omega arith; plain = omega arith; tanks_are = omega arith; valves_are = omega arith; small = omega arith }

head_apart : (w : ℕ) → kind w ≡ 1 → field w 14 14 ≡ 0 → w ≡ 2 ^ 28 + field w 7 7 * 2 ^ 7 + field w 0 7
head_apart w k p = omega arith

written : (d : PlantDocument) → PlantFormed d → Legible plant_step Head most_plant_words plant_document (plant_words d) d
written d f =
    let p = put_head d.tanks d.valves f.few_tanks f.few_valves in
    let lines = arc_lines d.tanks d.valves f.few_tanks f.few_valves in
    let r = lines_run lines 0 1 d.arcs f.arcs_fit f.arcs_rise in
    let t = p.tanks_are in
    let v = p.valves_are in
    let h : plant_step Head 0 (plant_head d) ≡ Ok (arcs (field (plant_head d) 7 7) (field (plant_head d) 0 7) 0) =
    takes_head 0 (plant_head d) (record {
      kind_is = p.kind_is;
      plain = p.plain;
      some_tanks = rw t f.some_tanks;
      few_tanks = rw t f.few_tanks;
      some_valves = rw v f.some_valves;
      few_valves = rw v f.few_valves;
    }) in
    let m = length-map d.arcs arc_word in
    let arcs = lines_say lines d.arcs f.arcs_fit in
    let same : plant_document (plant_words d) ≡ record { tanks = d.tanks; valves = d.valves; arcs = d.arcs } = cc in
    record {
      small = (p.small, lines_small lines d.arcs f.arcs_fit);
      some = omega arith;
      few = omega (arith, f.few_words);
      end = r.0;
      runs = rw (h, t, v) r.1;
      says = same;
    }

formed : (ws : List ℕ) (d : PlantDocument) → Legible plant_step Head most_plant_words plant_document ws d → PlantFormed d × (ws ≡ plant_words d)
formed [] d l = absurd (omega (arith, l.some))
formed (h ∷ ws) d l =
    let a = headed h ws _ l.runs in
    let w = a.0 in
    let lines = arc_lines (field h 7 7) (field h 0 7) w.few_tanks w.few_valves in
    let r = lines_read lines 0 1 ws _ a.1 in
    let m = length-map ws arc_of in
    let e = head_apart h w.kind_is w.plain in
    let g = r.2 in
    let says = l.says in
    let f : PlantFormed (plant_document (h ∷ ws)) = record {
      some_tanks = w.some_tanks;
      few_tanks = w.few_tanks;
      some_valves = w.some_valves;
      few_valves = w.few_valves;
      arcs_fit = r.0;
      arcs_rise = r.1;
      few_words = omega (arith, l.few);
    } in
    let back : h ∷ ws ≡ plant_words (plant_document (h ∷ ws)) = cc in
    rw (← says) (f, back)

pub plant_papers_are_exact : PlantPapersAreExact
plant_papers_are_exact = record {
  written_is_read = λ d f. legible_read plant_step Head most_plant_words plant_document (plant_words d) d (written d f);
  read_is_written = read_formed plant_step Head most_plant_words plant_document PlantFormed plant_words formed;
}
