use Rattle.std.proofs.Common.{◌<◌, length, sym, subst, ◌∙◌}
use Rattle.ni_model.specs.Ready.{ready_numbers, target_at}
use Rattle.rank_node.specs.Gates.{goes_out}
use Rattle.rank_node.proofs.Opened.{ahead-found, ahead-next, ahead-passed, is-none, none-closed, ready-posted}
use Rattle.rank_node.proofs.choice.open_at.Goals.{then-is_open+else-rest-eq0, else-is_open}
use Rattle.rank_node.proofs.choice.open_at.Goals as goal

pub ready_at-requires : goal.ready_at-requires
ready_at-requires c =
    let all = none-closed c.args.gates.now (target_at c.args.nic.now) (ready_numbers c.args.nic.now)
    (is-none c.any.result _ c.if-not-any.true c.any.ensures) in
    subst (λ xs. c.args.i < length xs) all c.requires

pub returns-then-not-any : goal.returns-then-not-any
returns-then-not-any c =
    let all = none-closed c.args.gates.now (target_at c.args.nic.now) (ready_numbers c.args.nic.now)
    (is-none c.any.result _ c.if-not-any.true c.any.ensures) in
    rw all c.ready_at.ensures.value

pub is_open-requires : goal.is_open-requires
is_open-requires c = ready-posted c.args.nic.now c.loop-position.position c.ready_at-number.result c.ready_at-number.ensures.value

pub returns-then-rest-eq0 : goal.returns-then-rest-eq0
returns-then-rest-eq0 c =
    ahead-found (λ t. goes_out c.args.gates.now (target_at c.args.nic.now t)) (ready_numbers c.args.nic.now) c.args.i
    c.loop-position.position c.loop-position.rest c.ready_at-number.result
    c.ready_at-number.ensures.value c.loop-position.invariant (sym c.is_open.ensures ∙ c.if-is_open.true) c.if-rest-eq0.true

pub loop-position-preserved : goal.loop-position-preserved
loop-position-preserved c =
    elim c.if-is_open.branch [
      | then-is_open+else-rest-eq0 w ↦ rw w.rest-is (ahead-next (λ t. goes_out c.args.gates.now (target_at c.args.nic.now t))
          (ready_numbers c.args.nic.now) c.args.i c.loop-position.position c.loop-position.rest c.ready_at-number.result
          c.ready_at-number.ensures.value c.loop-position.invariant (sym c.is_open.ensures ∙ w.if-is_open.true) w.if-rest-eq0.false)
      | else-is_open w ↦ rw w.rest-is (ahead-passed (λ t. goes_out c.args.gates.now (target_at c.args.nic.now t))
          (ready_numbers c.args.nic.now) c.args.i c.loop-position.position c.loop-position.rest c.ready_at-number.result
          c.ready_at-number.ensures.value c.loop-position.invariant (sym c.is_open.ensures ∙ w.if-is_open.false))
    ]
