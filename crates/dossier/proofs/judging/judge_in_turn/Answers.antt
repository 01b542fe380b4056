use Rattle.std.proofs.Common.{◌≡◌, ℕ, Ok, Err, sym, ap, ◌∙◌}
use Rattle.std.proofs.lemmas.Result.{err_from_is_err_and}
use Rattle.std.specs.Result.{result_map_both}
use Rattle.arrayvec.specs.declared.array_vec.ArrayVec.{ArrayVec}
use Rattle.words.specs.declared.faults.PaperFault.{PaperFault}
use Rattle.words.specs.Faults.{raised}
use Rattle.dossier.specs.declared.faults.DossierFault.TheVariants.{Weighing}
use Rattle.dossier.specs.Judging.{judged}
use Rattle.dossier.proofs.Judged.{gave, weighed_of}
use Rattle.dossier.proofs.judging.judge_in_turn.Goals as goal
use Rattle.dossier.proofs.judging.judge_in_turn.Goals.{After-weigh}

-- what was weighed is the answer
come : (c : After-weigh) → raised Weighing c.weigh.result ≡ judged c.args.input.now
come c =
    let parts = c.split-parts.result in
    let are = c.split-parts.ensures in
    let amounts = result_map_both {E = PaperFault} (λ (v : ArrayVec ℕ 64 (Unit {0})). v.items) (λ e. e) in
    ap (raised Weighing) c.weigh.ensures.answer
    ∙ weighed_of c.args.input.now parts.plant.now parts.source.now parts.target.now parts.evidence.now c.as_slice.result.now c.as_slice-2.result.now c.in_ok-map_err.field-0 _ (record {
      size = c.in_ok-check_size.ensures;
      plant_is = are.plant;
      source_is = are.source;
      target_is = are.target;
      evidence_is = are.evidence;
      counted = gave c.in_ok-map_err.field-0 c.check_plant.result c.in_ok-map_err.ensures.cases ∙ c.check_plant.ensures;
      source_read = ap Ok c.as_slice.ensures.value ∙ (ap amounts (gave c.in_ok-source.source c.read_filling.result c.in_ok-source.ensures.cases) ∙ c.read_filling.ensures);
      target_read = ap Ok c.as_slice-2.ensures.value ∙ (ap amounts (gave c.in_ok-target.target c.read_filling-2.result c.in_ok-target.ensures.cases) ∙ c.read_filling-2.ensures);
      made = c.new-plant.ensures;
    })

pub returns-in_err-weigh : goal.returns-in_err-weigh
returns-in_err-weigh c =
    let p = err_from_is_err_and c.from_residual-in_err-weigh.result c.from_residual-in_err-weigh.ensures.1 in
    p.1 ∙ (ap Err p.2 ∙ (ap (raised Weighing) (sym c.in_err-weigh.was) ∙ come (goal.at.returns-in_err-weigh c).After-weigh))
