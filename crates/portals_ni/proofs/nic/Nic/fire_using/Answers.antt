use Rattle.std.proofs.Common.{◌≡◌, true, false, arith, sym, subst, ◌∙◌}
use Rattle.ni_model.specs.Answers.{home}
use Rattle.ni_model.specs.Ready.{is_ready}
use Rattle.ni_model.specs.Starts.{Started}
use Rattle.initiator_engine.specs.Initiators.{is_start}
use Rattle.portals_ni.specs.Pendings.{told_by}
use Rattle.portals_ni.specs.Sound.{IsSound}
use Rattle.portals_ni.proofs.Counts.{ChangesAt}
use Rattle.portals_ni.proofs.Equations.{fire-counts, fire-starts, fired-stands}
use Rattle.portals_ni.proofs.Firing.{ready-none, taken-armed}
use Rattle.portals_ni.proofs.Homes.{KeepsHome, started-keeps, fits-unrefused}
use Rattle.portals_ni.proofs.Kept.{count-sound, home-sound, taken-sound, changes-action}
use Rattle.portals_ni.proofs.Stands.{fires-stands}
use Rattle.portals_ni.proofs.nic.Nic.fire_using.Goals as goal

pub returns-in_err-action : goal.returns-in_err-action
returns-in_err-action c =
    let n = c.self.inside in
    let none : is_ready c.args.self.now c.args.number ≡ false =
    rw (← c.self.view_is) (ready-none c.args.number n.cts n.pending c.self.invariant.sound.told (sym c.take.ensures.value
    ∙ c.in_err-action.was)) in
    record { does = cc (c.requires, none) }

pub count_action-counted-requires : goal.count_action-counted-requires
count_action-counted-requires c =
    let n = c.self.inside in
    (taken-armed c.args.number n.pending c.in_ok-action.field-0 n.initiator.mds n.initiator.ranks n.initiator.limits
    (sym c.take.ensures.value ∙ c.in_ok-action.was) c.self.invariant.sound.armed).counts

pub invariant_of-self-then-not-is_start : goal.invariant_of-self-then-not-is_start
invariant_of-self-then-not-is_start c =
    let n = c.self.inside in
    let changes : ChangesAt c.count_action-counted.result n.cts c.count_action-counted.new.cts =
    rw (c.count_action-counted.ensures.counter, c.count_action-counted.ensures.counts)
    (changes-action c.in_ok-action.field-0.action n.cts) in
    let sound : IsSound n.target n.region n.cts n.initiator c.take.new.self =
    rw c.take.ensures.rest (taken-sound n.target n.region n.cts n.initiator n.pending c.args.number c.self.invariant.sound) in
    let counts : is_start c.in_ok-action.field-0.action ≡ false = sym c.is_start.ensures ∙ c.if-not-is_start.true in
    let armed = taken-armed c.args.number n.pending c.in_ok-action.field-0 n.initiator.mds n.initiator.ranks n.initiator.limits
    (sym c.take.ensures.value ∙ c.in_ok-action.was) c.self.invariant.sound.armed in
    record {
      sound = rw c.tell.ensures (count-sound n.target n.region n.cts c.count_action-counted.new.cts n.initiator c.take.new.self
          c.count_action-counted.result sound changes);
      stands = fires-stands _ _ _ (fire-counts n.target n.region n.cts n.eqs n.initiator n.pending n.drops n.violations c.args.number
          c.in_ok-action.field-0 c.count_action-counted.new.cts c.take.new.self c.tell.new.pending c.count_action-counted.result
          (sym c.take.ensures.value ∙ c.in_ok-action.was) counts c.take.ensures.rest c.count_action-counted.ensures.counts c.tell.ensures)
          (fired-stands n.target n.region n.cts n.eqs n.initiator n.pending n.drops n.violations c.args.number c.in_ok-action.field-0
          (sym c.take.ensures.value ∙ c.in_ok-action.was) armed.counts c.self.invariant.stands);
    }

pub returns-then-not-is_start : goal.returns-then-not-is_start
returns-then-not-is_start c =
    let n = c.self.inside in
    let counts : is_start c.in_ok-action.field-0.action ≡ false = sym c.is_start.ensures ∙ c.if-not-is_start.true in
    record {
      does = rw (← c.self.view_is) (fire-counts n.target n.region n.cts n.eqs n.initiator n.pending n.drops n.violations
          c.args.number c.in_ok-action.field-0 c.count_action-counted.new.cts c.take.new.self c.tell.new.pending
          c.count_action-counted.result
          (sym c.take.ensures.value ∙ c.in_ok-action.was) counts c.take.ensures.rest c.count_action-counted.ensures.counts c.tell.ensures);
    }

pub start-message-requires-clause-may : goal.start-message-requires-clause-may
start-message-requires-clause-may c =
    let n = c.self.inside in
    (taken-armed c.args.number n.pending c.in_ok-action.field-0 n.initiator.mds n.initiator.ranks n.initiator.limits
    (sym c.take.ensures.value ∙ c.in_ok-action.was) c.self.invariant.sound.armed).may

pub start-message-requires-clause-checked : goal.start-message-requires-clause-checked
start-message-requires-clause-checked c =
    let n = c.self.inside in
    let armed = taken-armed c.args.number n.pending c.in_ok-action.field-0 n.initiator.mds n.initiator.ranks n.initiator.limits
    (sym c.take.ensures.value ∙ c.in_ok-action.was) c.self.invariant.sound.armed in
    fits-unrefused c.in_ok-action.field-0.action n.initiator.mds armed.fits

pub start-message-requires-clause-room : goal.start-message-requires-clause-room
start-message-requires-clause-room c =
    let n = c.self.inside in
    let own = (taken-armed c.args.number n.pending c.in_ok-action.field-0 n.initiator.mds n.initiator.ranks n.initiator.limits
    (sym c.take.ensures.value ∙ c.in_ok-action.was) c.self.invariant.sound.armed).room in
    let exchanged = c.exchange-room.ensures in
    omega (arith, own, exchanged)

pub invariant_of-self-2 : goal.invariant_of-self-2
invariant_of-self-2 c =
    let n = c.self.inside in
    let new = c.start-message.new in
    let ct = c.start-message.result.1 in
    let old = home n.initiator.mds n.region n.cts n.eqs in
    let keeps : KeepsHome old (home new.self.mds n.region new.cts new.eqs) ct = subst (λ (s : Started). KeepsHome old s.home s.counted)
    (sym c.start-message.ensures.started) (started-keeps n.initiator.rank old c.in_ok-action.field-0.action
    c.self.invariant.sound.bound) in
    let sound : IsSound n.target n.region n.cts n.initiator c.take.new.self =
    rw c.take.ensures.rest (taken-sound n.target n.region n.cts n.initiator n.pending c.args.number c.self.invariant.sound) in
    let starts : is_start c.in_ok-action.field-0.action ≡ true = sym c.is_start.ensures ∙ c.if-not-is_start.false in
    let armed = taken-armed c.args.number n.pending c.in_ok-action.field-0 n.initiator.mds n.initiator.ranks n.initiator.limits
    (sym c.take.ensures.value ∙ c.in_ok-action.was) c.self.invariant.sound.armed in
    record {
      sound = rw c.tell-2.ensures (subst (λ x. IsSound n.target n.region new.cts x (told_by ct new.cts c.take.new.self))
          (sym c.start-message.ensures.rest) (home-sound n.target n.region n.region n.cts new.cts n.eqs new.eqs n.initiator new.self.mds
          c.take.new.self ct sound keeps));
      stands = fires-stands _ _ _ (fire-starts n.target n.region n.cts n.eqs n.initiator n.pending n.drops n.violations c.args.number
          c.in_ok-action.field-0 new.self new.cts new.eqs c.take.new.self c.tell-2.new.pending c.start-message.result.0
          c.start-message.result.1 (sym c.take.ensures.value ∙ c.in_ok-action.was) starts c.take.ensures.rest c.self.invariant.sound.rank
          c.start-message.ensures.started c.start-message.ensures.rest c.tell-2.ensures)
          (fired-stands n.target n.region n.cts n.eqs n.initiator n.pending n.drops n.violations c.args.number c.in_ok-action.field-0
          (sym c.take.ensures.value ∙ c.in_ok-action.was) armed.counts c.self.invariant.stands);
    }

pub returns : goal.returns
returns c =
    let n = c.self.inside in
    let new = c.start-message.new in
    let starts : is_start c.in_ok-action.field-0.action ≡ true = sym c.is_start.ensures ∙ c.if-not-is_start.false in
    record {
      does = rw (← c.self.view_is) (fire-starts n.target n.region n.cts n.eqs n.initiator n.pending n.drops n.violations
          c.args.number c.in_ok-action.field-0 new.self new.cts new.eqs c.take.new.self c.tell-2.new.pending c.start-message.result.0
          c.start-message.result.1 (sym c.take.ensures.value ∙ c.in_ok-action.was) starts c.take.ensures.rest c.self.invariant.sound.rank
          c.start-message.ensures.started c.start-message.ensures.rest c.tell-2.ensures);
    }
