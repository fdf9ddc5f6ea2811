-- From what a text comes to, to the cuts of its plan.
use Rattle.op_laws.proofs.OpLaws.{op_laws}
use Rattle.op_laws.proofs.Starts.{combined-starts}
use Rattle.op_laws.proofs.Swaps.{combined-swaps}
use Rattle.coll_lang.proofs.Coming.{comes}
use Rattle.cuts.proofs.orders.Steps.{reached_moment}
use Rattle.cuts.proofs.rest.Moments.{still_rest}
use Rattle.schedule_compiler.specs.shapes.Drawing.{plan_of}
use Rattle.schedule_compiler.proofs.shapes.Final.{inputs_fit}
use Rattle.job_laws.proofs.Cuts.{complete_at, meant_where_complete, sound_for}
use Rattle.portals_top.specs.Headline.{Headline}

pub every_interleaving : Headline
every_interleaving bytes d slots world held is accepted reached still =
    let ok = (comes bytes d is).readable in
    let moment = reached_moment combined-starts (plan_of d.shape) d.inputs slots (sound_for d.shape d.inputs ok.formed accepted ok.given)
    (inputs_fit d.shape d.inputs ok.formed ok.given) (combined-swaps op_laws) world held reached in
    let done = complete_at d.shape d.inputs slots world ok.formed accepted ok.given moment.cut
    (still_rest (plan_of d.shape) d.inputs slots world held moment still) in
    (done, meant_where_complete d.shape d.inputs slots world ok.formed ok.given done)
