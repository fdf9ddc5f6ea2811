use Rattle.std.proofs.Common.{◌≡◌, ◌≤◌, None, refl, sym, ap, subst, ◌∙◌, arith}
use Rattle.std.proofs.lemmas.Result.{err_from_is_err_and}
use Rattle.ni_model.specs.Refusals.{triggered_fault}
use Rattle.ni_model.specs.Conditions.{MayStart}
use Rattle.ni_model.specs.State.{State}
use Rattle.initiator_engine.specs.Initiators.{room_for}
use Rattle.ni_model.specs.Counts.{total}
use Rattle.triggered_ops.specs.Operations.{posted_all, told, with_posted}
use Rattle.portals_ni.specs.declared.posted_op.PostedOp.{PostedOp}
use Rattle.portals_ni.specs.Pendings.{action_in, sum_at}
use Rattle.portals_ni.specs.Sound.{IsSound}
use Rattle.portals_ni.proofs.Kept.{post-sound, posts-armed, posts-live, may-start}
use Rattle.portals_ni.proofs.Ends.{no-fault, fault-is, enough-refused, lacks}
use Rattle.portals_ni.proofs.Equations.{post-may}
use Rattle.portals_ni.proofs.Stands.{may-stands, triggered-stands}
use Rattle.portals_ni.proofs.nic.Nic.triggered.Goals as goal

pub returns-in_err-check_triggered : goal.returns-in_err-check_triggered
returns-in_err-check_triggered c =
    let p = err_from_is_err_and c.from_residual.result c.from_residual.ensures.1 in
    record {
      does = rw (p.1, p.2, ← c.self.view_is) (enough-refused _ _ _ _ _
          (fault-is _ _ (sym (rw c.waiting.ensures.value at c.check_triggered.ensures) ∙ c.in_err-check_triggered.was)));
    }

pub returns-in-Err : goal.returns-in-Err
returns-in-Err c =
    record {
      does = rw (← c.self.view_is) (lacks _ _ _ _ (no-fault _ (sym (rw c.waiting.ensures.value at c.check_triggered.ensures)
          ∙ c.in_ok-check_triggered.was)));
    }

pub invariant_of-self-2 : goal.invariant_of-self-2
invariant_of-self-2 c =
    let n = c.self.inside in
    let armed : PostedOp = record { action = c.args.action; room = c.in-Ok.room } in
    let none : triggered_fault c.args.action c.args.ct n.cts n.initiator.mds (posted_all action_in n.pending) ≡ None =
    no-fault _ (sym (rw c.waiting.ensures.value at c.check_triggered.ensures) ∙ c.in_ok-check_triggered.was) in
    let may : MayStart c.args.action n.initiator.ranks n.initiator.limits = may-start c.args.action n.initiator.ranks n.target.limit
    n.initiator.limits c.self.invariant.sound.limit (subst (λ (s : State). MayStart c.args.action s.ranks s.limits)
    (sym c.self.view_is) c.requires) in
    let room : room_for c.args.action ≤ c.in-Ok.room.room = rw (c.in-Ok.ensures, c.room_for.ensures) (omega arith) in
    let live = posts-live c.args.action c.args.ct n.cts n.initiator.mds (posted_all action_in n.pending) none in
    let sum : c.sum_of-sum.result ≡ total live.0 = c.sum_of-sum.ensures ∙ ap sum_at live.1 in
    let made : c.post.new.self ≡ with_posted armed c.args.ct c.args.threshold (total live.0) (told c.args.ct (total live.0) n.pending) =
    rw sum at c.in-Ok-post.ensures.ok in
    let may-be = post-may n.target n.region n.cts n.eqs n.initiator n.pending n.drops n.violations c.args.action c.args.ct c.args.threshold
    (total live.0) n.pending.given armed c.post.new.self none refl refl made in
    record {
      sound = subst (IsSound n.target n.region n.cts n.initiator) (sym made)
          (post-sound n.target n.region n.cts n.initiator n.pending armed c.args.ct c.args.threshold live.0 c.self.invariant.sound
          (posts-armed c.args.action c.args.ct n.cts n.initiator.mds (posted_all action_in n.pending) n.initiator.ranks n.initiator.limits
          c.in-Ok.room none may room) live.1);
      stands = may-stands _ _ _ _ may-be c.self.invariant.stands
          (triggered-stands c.args.action c.args.ct c.args.threshold _ c.self.invariant.stands);
    }

pub invariant_of-self : goal.invariant_of-self
invariant_of-self c = rw c.in-Err-post.ensures.err c.self.invariant

pub returns : goal.returns
returns c =
    let n = c.self.inside in
    let armed : PostedOp = record { action = c.args.action; room = c.in-Ok.room } in
    let none : triggered_fault c.args.action c.args.ct n.cts n.initiator.mds (posted_all action_in n.pending) ≡ None =
    no-fault _ (sym (rw c.waiting.ensures.value at c.check_triggered.ensures) ∙ c.in_ok-check_triggered.was) in
    record {
      does = rw (← c.self.view_is) (post-may n.target n.region n.cts n.eqs n.initiator n.pending n.drops n.violations c.args.action
          c.args.ct c.args.threshold c.sum_of-sum.result c.in-Ok-post.number armed c.post.new.self none refl c.in-Ok-post.ensures.number
          c.in-Ok-post.ensures.ok);
    }

pub returns-in-Err-post : goal.returns-in-Err-post
returns-in-Err-post c =
    record {
      does = rw (c.in-Err-post.ensures.err, ← c.self.view_is)
          (lacks _ _ _ _ (no-fault _ (sym (rw c.waiting.ensures.value at c.check_triggered.ensures) ∙ c.in_ok-check_triggered.was)));
    }
