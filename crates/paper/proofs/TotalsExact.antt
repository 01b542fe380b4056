-- Writing and reading totals papers are inverse to each other.
use Rattle.std.proofs.Common.{◌≡◌, ℕ, suc, ◌+◌, ◌*◌, ◌/◌, ◌^◌, ◌<◌, ◌≤◌, List, [], ◌∷◌, length, Ok, ap, ◌∙◌, arith}
use Rattle.std.specs.List.{AllByRecursion}
use Rattle.std.proofs.lemmas.List.{length-map}
use Rattle.std.proofs.ByRecursion.{All-weaker}
use Rattle.plant.specs.Limits.{most_valves, most_divisor, most_total}
use Rattle.plant.specs.Walk.{Firing}
use Rattle.plant.specs.Totals.{Positive, Rising, Tallied}
use Rattle.words.specs.Words.{kind, field}
use Rattle.words.specs.Inverse.{Bytes}
use Rattle.paper.specs.declared.totals_form.TotalsForm.{TotalsForm}
use Rattle.paper.specs.declared.totals_form.TotalsForm.TheVariants.{Head, Totals}
use Rattle.paper.specs.Limits.{most_evidence_words}
use Rattle.paper.specs.Totals.{TotalsDocument, TotalsFormed, TotalFits, total_word, total_of, totals_head, totals_words, totals_paper, totals_document}
use Rattle.paper.specs.TotalsForm.{totals_step, totals_read}
use Rattle.paper.specs.Inverse.{TotalsPapersAreExact}
use Rattle.paper.proofs.Steps.{Legible, legible_read, read_formed}
use Rattle.paper.proofs.Lines.{Lines, lines_small, lines_say, lines_run, lines_read}
use Rattle.paper.proofs.TotalsSteps.{total_taken, takes_head, takes_total, headed}

-- the fields of a word that is put together of a total's parts
record Parts (v x w : ℕ) : Type 0 where
  kind_is : kind w ≡ 5
  plain : field w 20 2 ≡ 0
  valve_is : field w 22 6 ≡ v
  amount_is : field w 0 20 ≡ x
  small : w < 2 ^ 32

put : (v x : ℕ) → v < most_valves → x ≤ most_total → Parts v x (5 * 2 ^ 28 + v * 2 ^ 22 + x)
put v x hv hx = record { kind_is = omega arith; plain = omega arith; valve_is = omega arith; amount_is = omega arith; small = omega arith }

-- and the word that such fields are of
taken_apart : (w : ℕ) → kind w ≡ 5 → field w 20 2 ≡ 0 → w ≡ 5 * 2 ^ 28 + field w 22 6 * 2 ^ 22 + field w 0 20
taken_apart w k p =
    let low : w / 2 ^ 22 ≡ w / 2 ^ 20 / 2 ^ 2 = omega arith in
    let high : w / 2 ^ 28 ≡ w / 2 ^ 22 / 2 ^ 6 = omega arith in
    omega arith

valve_small : (w : ℕ) → field w 22 6 < most_valves
valve_small w = omega arith

module _ (valves : ℕ) where
  parts : (f : Firing) → TotalFits valves f → Parts f.valve f.amount (total_word f)
  parts f h = put f.valve f.amount h.valve_small h.few

  says : (f : Firing) → TotalFits valves f → total_of (total_word f) ≡ f
  says f h =
      let p = parts f h in
      let v = p.valve_is in
      let x = p.amount_is in
      let same : total_of (total_word f) ≡ record { valve = f.valve; amount = f.amount } = cc in
      same

  takes : (least at : ℕ) (f : Firing) → TotalFits valves f → least ≤ f.valve → totals_step (Totals valves least) at (total_word f) ≡ Ok (Totals valves (suc f.valve))
  takes least at f h k =
      let p = parts f h in
      let next : field (total_word f) 22 6 + 1 ≡ suc f.valve = omega (arith, p.valve_is) in
      takes_total valves least at (total_word f) (record {
        kind_is = p.kind_is;
        plain = p.plain;
        valve_there = rw p.valve_is h.valve_there;
        some = rw p.amount_is h.some;
        few = rw p.amount_is h.few;
        rises = rw p.valve_is k;
      })
      ∙ ap (λ n. Ok (Totals valves n)) next

  taken : (least at w : ℕ) (s : TotalsForm) → totals_step (Totals valves least) at w ≡ Ok s → TotalFits valves (total_of w) × (least ≤ (total_of w).valve) × (w ≡ total_word (total_of w)) × (s ≡ Totals valves (suc (total_of w).valve))
  taken least at w s p =
      let a = total_taken valves least at w s p in
      let t = a.0 in
      let next : field w 22 6 + 1 ≡ suc (field w 22 6) = omega arith in (
        record { valve_there = t.valve_there; valve_small = valve_small w; some = t.some; few = t.few },
        t.rises,
        taken_apart w t.kind_is t.plain,
        a.1 ∙ ap (λ n. Totals valves n) next,
      )

  total_lines : Lines totals_step (Totals valves) total_of total_word (λ f. f.valve) (TotalFits valves) Rising
  total_lines = record {
    none = λ least. tt;
    more = λ least f fs h k. (h, k);
    parts = λ least f fs h. h;
    small = λ f h. (parts f h).small;
    says = says;
    takes = takes;
    taken = taken;
  }

-- the head's fields, and the head of such fields
record HeadParts (n w : ℕ) : Type 0 where
  kind_is : kind w ≡ 4
  plain : field w 20 8 ≡ 0
  divisor_is : field w 0 20 ≡ n
  small : w < 2 ^ 32

put_head : (n : ℕ) → n ≤ most_divisor → HeadParts n (4 * 2 ^ 28 + n)
put_head n h = record { kind_is = omega arith; plain = omega arith; divisor_is = omega arith; small = omega arith }

head_apart : (w : ℕ) → kind w ≡ 4 → field w 20 8 ≡ 0 → w ≡ 4 * 2 ^ 28 + field w 0 20
head_apart w k p = omega arith

written : (valves : ℕ) (d : TotalsDocument) → TotalsFormed valves d → Legible totals_step (Head valves) most_evidence_words totals_document (totals_words d) d
written valves d f =
    let p = put_head d.divisor f.small_divisor in
    let lines = total_lines valves in
    let r = lines_run lines 0 1 d.totals f.totals_fit f.totals_rise in
    let n = p.divisor_is in
    let h = takes_head valves 0 (totals_head d) (record {
      kind_is = p.kind_is;
      plain = p.plain;
      some = rw n f.some_divisor;
      few = rw n f.small_divisor;
    }) in
    let m = length-map d.totals total_word in
    let totals = lines_say lines d.totals f.totals_fit in
    let same : totals_document (totals_words d) ≡ record { divisor = d.divisor; totals = d.totals } = cc in
    record {
      small = (p.small, lines_small lines d.totals f.totals_fit);
      some = omega arith;
      few = omega (arith, f.few_words);
      end = r.0;
      runs = rw h r.1;
      says = same;
    }

formed : (valves : ℕ) (ws : List ℕ) (d : TotalsDocument) → Legible totals_step (Head valves) most_evidence_words totals_document ws d → TotalsFormed valves d × (ws ≡ totals_words d)
formed valves [] d l = absurd (omega (arith, l.some))
formed valves (h ∷ ws) d l =
    let a = headed valves h ws _ l.runs in
    let w = a.0 in
    let r = lines_read (total_lines valves) 0 1 ws _ a.1 in
    let m = length-map ws total_of in
    let e = head_apart h w.kind_is w.plain in
    let g = r.2 in
    let says = l.says in
    let f : TotalsFormed valves (totals_document (h ∷ ws)) = record {
      some_divisor = w.some;
      small_divisor = w.few;
      totals_fit = r.0;
      totals_rise = r.1;
      few_words = omega (arith, l.few);
    } in
    let back : h ∷ ws ≡ totals_words (totals_document (h ∷ ws)) = cc in
    rw (← says) (f, back)

pub formed_of_read : (valves : ℕ) (bs : List ℕ) (d : TotalsDocument) → totals_read valves bs ≡ Ok d → Bytes bs → TotalsFormed valves d × (bs ≡ totals_paper d)
formed_of_read valves bs d p small = read_formed totals_step (Head valves) most_evidence_words totals_document (TotalsFormed valves) totals_words (formed valves) bs small d p

pub totals_papers_are_exact : TotalsPapersAreExact
totals_papers_are_exact = record {
  written_is_read = λ valves d f. legible_read totals_step (Head valves) most_evidence_words totals_document (totals_words d) d (written valves d f);
  read_is_written = λ valves bs small d p. formed_of_read valves bs d p small;
}

positive : (valves : ℕ) (fs : List Firing) → AllByRecursion (TotalFits valves) fs → Positive fs
positive valves [] h = tt
positive valves (f ∷ fs) h = (h.0.some, positive valves fs h.1)

pub tallied : (valves : ℕ) (d : TotalsDocument) → TotalsFormed valves d → Tallied d.divisor d.totals
tallied valves d f = record { divisor = f.some_divisor; positive = positive valves d.totals f.totals_fit; rising = f.totals_rise }

-- valves that rise from n on and stay below v are at most v - n
pub rising_few : (n v : ℕ) (fs : List Firing) → n ≤ v → Rising n fs → AllByRecursion (λ f. f.valve < v) fs → length fs + n ≤ v
rising_few n v [] h r a = omega arith
rising_few n v (f ∷ fs) h r a = omega (arith, r.0, rising_few (suc f.valve) v fs a.0 r.1 a.1)

pub few_totals : (valves : ℕ) (d : TotalsDocument) → TotalsFormed valves d → length d.totals ≤ most_valves
few_totals valves d f =
    omega (arith, rising_few 0 most_valves d.totals (omega arith) f.totals_rise (All-weaker (TotalFits valves) (λ g. g.valve < most_valves) (λ g h. h.valve_small) d.totals f.totals_fit))
