-- What is asked of each word of a totals paper, against the totals that the words say.
use Rattle.std.proofs.Common.{◌≡◌, ℕ, ◌+◌, ◌*◌, ◌/◌, ◌^◌, ◌≤◌, Bool, not, eqb, List, [], ◌∷◌, map, length, refl, ap, sum_by, arith, mod-lt, lit<, le_of_suc-le-suc, length-drop}
use Rattle.std.proofs.lemmas.List.Sums.{sum_by-cons}
use Rattle.std.proofs.lemmas.Nat.{mul-le}
use Rattle.std.specs.List.{find, list_any}
use Rattle.std.specs.Option.{option_map}
use Rattle.plant.specs.Net.{Net, Bounded}
use Rattle.plant.specs.Firings.{given, named}
use Rattle.words.specs.declared.word.Word.{Word}
use Rattle.words.specs.declared.reader.Reader.{Reader}
use Rattle.words.specs.Left.{left, to_come}
use Rattle.words.specs.Placed.{placed}
use Rattle.words.specs.Words.{words}
use Rattle.words.proofs.Laws.{length_words}
use Rattle.words.proofs.Placing.{length_placed}
use Rattle.paper.specs.Limits.{most_evidence_words}
use Rattle.paper.specs.Totals.{total_of}
use Rattle.paper.specs.declared.totals.TotalsPaper.{TotalsPaper}
use Rattle.weighing.specs.Judgement.{closed_at}

-- whether a word totals a closed valve
abbrev pub closed : Net → Word → Bool
closed N w = not (N.opens (total_of w.bits).valve)

-- what a word gives to a tank
abbrev pub gives : Net → ℕ → Word → ℕ
gives N r w = (total_of w.bits).amount * N.outlet (total_of w.bits).valve r

-- whether a word totals a valve
abbrev pub totals : ℕ → Word → Bool
totals t w = eqb (total_of w.bits).valve t

pub closed_found : (N : Net) (at : ℕ) (ws : List ℕ) → option_map (λ w. w.place) (find (closed N) (placed at ws)) ≡ closed_at N at (map total_of ws)
closed_found N at [] = refl
closed_found N at (w ∷ ws) = grind (arith, closed_found N (at + 1) ws)

pub given_summed : (N : Net) (r at : ℕ) (ws : List ℕ) → sum_by (gives N r) (placed at ws) ≡ given N (map total_of ws) r
given_summed N r at [] = refl
given_summed N r at (w ∷ ws) = omega (arith, sum_by-cons (gives N r) (record { place = at; bits = w }) (placed (at + 1) ws), given_summed N r (at + 1) ws)

pub valve_named : (t at : ℕ) (ws : List ℕ) → list_any (totals t) (placed at ws) ≡ named (map total_of ws) t
valve_named t at [] = refl
valve_named t at (w ∷ ws) = grind (arith, valve_named t (at + 1) ws)

-- what one word gives is small, and there are few words
pub gives_few : (N : Net) → Bounded N → (r : ℕ) (w : Word) → gives N r w ≤ 2 ^ 30
gives_few N b r w = omega (arith, mul-le (total_of w.bits).amount (N.outlet (total_of w.bits).valve r) 1048575 1023 (le_of_suc-le-suc (mod-lt (w.bits / 2 ^ 0) (lit< tt))) (b.outlet_small (total_of w.bits).valve r))

-- the words to come are within the bytes
pub words_inside : (r : Reader) → 4 * length (to_come r) ≤ length r.bytes.now
words_inside r = omega (arith, length_placed r.at (left r), length-drop r.at (words r.bytes.now), length_words r.bytes.now)

pub few_words : (r : Reader) (x : TotalsPaper) → r.bytes.now ≡ x.bytes.now → length (to_come r) ≤ most_evidence_words
few_words r x e = omega (arith, words_inside r, ap length e)
