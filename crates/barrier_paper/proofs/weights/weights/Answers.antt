use Rattle.std.proofs.Common.{◌≡◌, ℕ, ◌≤◌, length, get_or, ℤ, pos, nat_abs, sym, refl, ap, ◌∙◌, subst, arith}
use Rattle.words.specs.Words.{words}
use Rattle.words.specs.Kinds.{number_of}
use Rattle.words.specs.Left.{to_come}
use Rattle.words.proofs.Laws.{length_words}
use Rattle.words.proofs.Placing.{all_to_come}
use Rattle.paper.specs.Limits.{most_evidence_words}
use Rattle.lines.specs.Limits.{most_weight_sum}
use Rattle.barrier_paper.specs.Windows.{word_weight, part_weight}
use Rattle.barrier_paper.proofs.Summing.{bits, bits_placed, part_within, summed_small, turn, started, summed, everywhere}
use Rattle.barrier_paper.proofs.weights.weights.Goals as goal
use Rattle.barrier_paper.proofs.weights.weights.Goals.{In-None}

pub loop-word-init : goal.loop-word-init
loop-word-init c =
    let it = c.into_iter-word-iterator in
    let all : bits (to_come it.result) ≡ words c.args.part.now = ap bits (ap to_come it.ensures.into_iter_gives ∙ all_to_come c.new-word-items.result c.args.part.now c.new-word-items.ensures.at c.new-word-items.ensures.bytes) ∙ bits_placed 0 (words c.args.part.now) in
    let n = ap length all in
    (tt, tt, omega (arith, length_words c.args.part.now), λ r h. started (number_of c.args.kind) r (bits (to_come it.result)) h ∙ ap (λ ws. part_weight (number_of c.args.kind) ws r) all, refl)

pub add_weight-requires : goal.add_weight-requires
add_weight-requires c = λ r h.
    let few : length (words c.args.part.now) ≤ most_evidence_words = omega (arith, length_words c.args.part.now) in
    summed_small (number_of c.args.kind) r (get_or c.loop-word.each r (pos 0)) (bits (to_come c.loop-word.word-iterator)) (words c.args.part.now) c.loop-word.invariant.2 few (c.loop-word.invariant.3 r h)

pub loop-word-preserved : goal.loop-word-preserved
loop-word-preserved c =
    let k = number_of c.args.kind in
    let rest = bits (to_come c.next.new.self) in
    let told = ap bits c.in-Some.ensures.steps in
    let n = ap length told in (
      tt,
      tt,
      omega (arith, c.loop-word.invariant.2),
      λ r h. turn (get_or c.loop-word.each r (pos 0)) _ (word_weight k c.in-Some.word.bits r) (part_weight k rest r) _ (rw told at (c.loop-word.invariant.3 r h)) (c.add_weight.ensures r h),
      c.add_weight.array_long,
    )

-- at the end nothing is to come
whole : (c : In-None) (r : ℕ) → get_or c.loop-word.each r (pos 0) ≡ part_weight (number_of c.args.kind) (words c.args.part.now) r
whole c =
    everywhere (number_of c.args.kind) (words c.args.part.now) c.loop-word.each c.loop-word.invariant.4 (λ r h. summed (get_or c.loop-word.each r (pos 0)) _ (rw c.in-None.ensures.steps.0 at (c.loop-word.invariant.3 r h)))

pub invariant_of-result : goal.invariant_of-result
invariant_of-result c =
    let few : length (words c.args.part.now) ≤ most_evidence_words = omega (arith, length_words c.args.part.now) in
    record { small = λ r. subst (λ (z : ℤ). nat_abs z ≤ most_weight_sum) (sym (whole c r)) (part_within (number_of c.args.kind) c.args.part.now r few) }

pub returns : goal.returns
returns c = whole (goal.at.returns c).In-None
