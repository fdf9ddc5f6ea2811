-- An atomic combines each fold with its element.
use Rattle.std.proofs.Common.{◌∙◌, [], ap, length, get_or, refl}
use Rattle.std.proofs.lemmas.Result.{on_ok_weaker}
use Rattle.op_laws.proofs.Bytes.{length-part}
use Rattle.plan_terms.proofs.Landing.{atomic_landed}
use Rattle.plan_terms.proofs.folding.land_atomic.Goals as goal

pub returns-else-not-is_whole-clause-landed : goal.returns-else-not-is_whole-clause-landed
returns-else-not-is_whole-clause-landed c =
    let k = c.args.link.now in
    let whole = c.if-not-is_whole.ensures in
    let long = ap length c.carried.ensures
    ∙ length-part k.source_offset k.length (get_or c.args.before.now k.source []) (whole.within refl)
    ∙ whole.long refl in
    on_ok_weaker c.land_elements.result
    (atomic_landed c.land_elements.new.terms c.args.target.op k c.args.target.cell c.carried.result.now _
    (length c.args.folds.now) c.args.folds.now c.land_elements.new.folds c.requires c.in-Atomic.is (whole.begins refl) long
    refl c.carried.ensures)
    c.land_elements.ensures.combined
