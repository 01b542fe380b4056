-- A search for an arc by its kind, valve and tank, and the weight that it finds.
use Rattle.std.proofs.Common.{◌≡◌, ℕ, zero, suc, ◌+◌, ◌*◌, ◌/◌, ◌^◌, ◌<◌, ◌≤◌, Bool, true, false, cond, ◌&&◌, eqb, ltb, List, [], ◌∷◌, map, length, get_or, drop, Some, None, Option, sym, refl, ap, ◌∙◌, ⊎_elim, arith}
use Rattle.std.proofs.lemmas.Bool.{eqb-true, eqb-false, eq-eqb, ne_eqb, cond-true, cond-false, cases_eq, cases_order, and_from, lt-ltb}
use Rattle.std.proofs.lemmas.Bool.Decides.{nat_tests}
use Rattle.std.specs.Option.{option_map}
use Rattle.words.specs.declared.word.Word.{Word}
use Rattle.words.specs.Words.{kind, field, first}
use Rattle.words.specs.Placed.{word_at}
use Rattle.words.proofs.Laws.{read_some, read_none}
use Rattle.std.proofs.lemmas.Map.Entries.{option_filter}
use Rattle.paper.specs.Arcs.{arc_kind, arc_of, sits, weight_in}
use Rattle.paper.specs.Plants.{Rises, Sided, find_arc}

-- where it stands, with none before it
pub found_at : (key : ℕ) (ws : List ℕ) (i : ℕ) → i < length ws → ((j : ℕ) → j < i → get_or ws j 0 / 2 ^ 16 ≡ key → ⊥) → get_or ws i 0 / 2 ^ 16 ≡ key → find_arc key ws ≡ Some (get_or ws i 0)
found_at key [] i l none here = absurd (omega arith)
found_at key (w ∷ ws) zero l none here = cond-true (eqb (w / 2 ^ 16) key) _ _ (eq-eqb (w / 2 ^ 16) key here)
found_at key (w ∷ ws) (suc i) l none here =
    cond-false (eqb (w / 2 ^ 16) key) _ _ (ne_eqb (w / 2 ^ 16) key (none 0 (omega arith)))
    ∙ found_at key ws i (omega arith) (λ j k. none (suc j) (omega arith)) here

-- nowhere
pub found_none : (key : ℕ) (ws : List ℕ) → ((j : ℕ) → j < length ws → get_or ws j 0 / 2 ^ 16 ≡ key → ⊥) → find_arc key ws ≡ None
found_none key [] none = refl
found_none key (w ∷ ws) none =
    cond-false (eqb (w / 2 ^ 16) key) _ _ (ne_eqb (w / 2 ^ 16) key (none 0 (omega arith)))
    ∙ found_none key ws (λ j k. none (suc j) (omega arith))

-- the weight of the word that was found
abbrev pub found_weight : Option ℕ → ℕ
found_weight None = 0
found_weight (Some w) = field w 0 10

-- the arc of a word is the one that is asked for exactly when the word's top 16 bits are the key
sits_by_key : (gives : Bool) (t r w : ℕ) → t < 64 → r < 64 → 2 ≤ kind w → kind w ≤ 3 → sits gives t r (arc_of w) ≡ eqb (w / 2 ^ 16) ((arc_kind gives * 64 + t) * 64 + r)
sits_by_key true t r w ht hr a b = grind (arith, nat_tests)
sits_by_key false t r w ht hr a b = grind (arith, nat_tests)

pub weight_found : (gives : Bool) (t r : ℕ) (ws : List ℕ) → t < 64 → r < 64 → Sided ws → weight_in gives (map arc_of ws) t r ≡ found_weight (find_arc ((arc_kind gives * 64 + t) * 64 + r) ws)
weight_found gives t r [] ht hr s = refl
weight_found gives t r (w ∷ ws) ht hr s =
    let key = (arc_kind gives * 64 + t) * 64 + r in
    let here = s 0 (omega arith) in
    let more = weight_found gives t r ws ht hr (λ i l. s (suc i) (omega arith)) in
    ap (λ b. cond b (field w 0 10) (weight_in gives (map arc_of ws) t r)) (sits_by_key gives t r w ht hr here.0 here.1)
    ∙ (ap (λ x. cond (eqb (w / 2 ^ 16) key) (field w 0 10) x) more ∙ pulled (eqb (w / 2 ^ 16) key) w (find_arc key ws))
  where
    pulled : (b : Bool) (w : ℕ) (o : Option ℕ) → cond b (field w 0 10) (found_weight o) ≡ found_weight (cond b (Some w) o)
    pulled true w o = refl
    pulled false w o = refl

-- where the arc in the middle is below the key, so are all before it
pub below_middle : (key : ℕ) (ws : List ℕ) (m : ℕ) → Rises ws → m < length ws → get_or ws m 0 / 2 ^ 16 < key → (i : ℕ) → i < m + 1 → get_or ws i 0 / 2 ^ 16 < key
below_middle key ws m rises inside h i k =
    ⊎_elim (λ (e : i ≡ m). rw e h) (λ (ne : i ≡ m → ⊥). omega (arith, rises i m (omega arith) inside)) (cases_eq i m)

-- where the first arc that is not below the key is another, no arc is the one
pub passed_by : (key : ℕ) (ws : List ℕ) (m : ℕ) → Rises ws → ((i : ℕ) → i < m → get_or ws i 0 / 2 ^ 16 < key) → ((i : ℕ) → m ≤ i → i < length ws → key ≤ get_or ws i 0 / 2 ^ 16) → m < length ws → (get_or ws m 0 / 2 ^ 16 ≡ key → ⊥) → (j : ℕ) → j < length ws → get_or ws j 0 / 2 ^ 16 ≡ key → ⊥
passed_by key ws m rises before after inside other j h e =
    ⊎_elim
    (λ (k : j ≡ m). other (ap (λ x. get_or ws x 0 / 2 ^ 16) (sym k) ∙ e))
    (λ k. ⊎_elim
    (λ (l : j < m). omega (arith, before j l))
    (λ (l : m < j). omega (arith, rises m j l h, after m (omega arith) inside))
    k)
    (cases_order j m)

-- inside the counts, what the search finds is what the plant weighs
pub weighs_found : (gives : Bool) (t r tanks valves k : ℕ) (ws : List ℕ) (o : Option ℕ) → t < valves → r < tanks → valves ≤ 64 → tanks ≤ 64 → Sided ws → k ≡ arc_kind gives → o ≡ find_arc ((k * 64 + t) * 64 + r) ws →
    found_weight o ≡ cond (ltb t valves && ltb r tanks) (weight_in gives (map arc_of ws) t r) 0
weighs_found gives t r tanks valves k ws o ht hr few_valves few_tanks s e f =
    ap found_weight f
    ∙ (ap (λ x. found_weight (find_arc ((x * 64 + t) * 64 + r) ws)) e
    ∙ (sym (weight_found gives t r ws (omega arith) (omega arith) s)
    ∙ sym (cond-true (ltb t valves && ltb r tanks) _ 0 (and_from (ltb t valves) (ltb r tanks) (lt-ltb t valves ht) (lt-ltb r tanks hr)))))

-- the word at the place that the search found, if it is the one
pub found : (key p : ℕ) (ws : List ℕ) → Rises ws → ((i : ℕ) → i < p → get_or ws i 0 / 2 ^ 16 < key) → ((i : ℕ) → p ≤ i → i < length ws → key ≤ get_or ws i 0 / 2 ^ 16) → option_map (λ (w : Word). w.bits) (option_filter (λ w. eqb (w.bits / 2 ^ 16) key) (word_at p ws)) ≡ find_arc key ws
found key p ws rises before after = at (first (drop p ws)) refl
  where
    is : (w : ℕ) (b : Bool) → eqb (w / 2 ^ 16) key ≡ b → (p < length ws) × (get_or ws p 0 ≡ w) → option_map (λ (w : Word). w.bits) (cond b (Some (record { place = p; bits = w })) None) ≡ find_arc key ws
    is w true e there = sym (found_at key ws p there.0 (λ j h k. omega (arith, before j h)) (ap (λ x. x / 2 ^ 16) there.1 ∙ eqb-true (w / 2 ^ 16) key e) ∙ ap Some there.1)
    is w false e there = sym (found_none key ws (passed_by key ws p rises before after there.0 (λ k. eqb-false (w / 2 ^ 16) key e (ap (λ x. x / 2 ^ 16) (sym there.1) ∙ k))))

    at : (o : Option ℕ) → o ≡ first (drop p ws) → option_map (λ (w : Word). w.bits) (option_filter (λ w. eqb (w.bits / 2 ^ 16) key) (option_map (λ w. record { place = p; bits = w }) o)) ≡ find_arc key ws
    at None e = let past = (read_none p ws e).0 in sym (found_none key ws (λ j h k. omega (arith, before j (omega arith))))
    at (Some w) e = is w (eqb (w / 2 ^ 16) key) refl (read_some p ws w e)
