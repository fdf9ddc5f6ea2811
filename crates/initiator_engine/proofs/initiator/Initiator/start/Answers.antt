use Rattle.std.proofs.Common.{◌≡◌, ℕ, ◌≤◌, Some, List, [], length, sym, ap, ◌∙◌}
use Rattle.ptl_types.specs.Messages.{message}
use Rattle.ni_model.specs.Answers.{Home, home}
use Rattle.ni_model.specs.Starts.{header_of, put_args, bytes_read, awaits_more}
use Rattle.initiator_engine.specs.Initiators.{args_length, room_for}
use Rattle.initiator_engine.proofs.Naming.{users-awaiting}
use Rattle.initiator_engine.proofs.Starting.{bytes-read, start-fills, started-is}
use Rattle.initiator_engine.proofs.initiator.Initiator.start.Goals as goal

pub new-message-requires : goal.new-message-requires
new-message-requires c =
    let e : header_of c.self.inside.rank c.args.action.now ≡ Some c.in-Some.header = sym c.header_of.ensures ∙ c.in-Some.is in
    let len : length c.read_bytes-bytes.result.list ≡ args_length (put_args c.args.action.now) =
    rw (← c.put_args.ensures) c.read_bytes-bytes.ensures.length in
    let room : room_for c.args.action.now ≤ c.read_bytes-bytes.result.room = rw c.read_bytes-bytes.ensures.room c.requires.room in
    start-fills c.self.inside.rank c.args.action.now c.in-Some.header c.read_bytes-bytes.result c.args.self.now.ranks c.args.self.now.limits
    e c.requires.may len room

pub invariant_of-self : goal.invariant_of-self
invariant_of-self c =
    let i = c.self.inside in
    let after : c.started_with-counted.new.mds ≡ awaits_more c.in-Some.header.home i.mds =
    ap (λ (h : Home). h.mds) (c.started_with-counted.ensures.sent []) in
    rw after (users-awaiting i.limits i.mds i.cts i.eqs c.in-Some.header.home c.self.invariant)

pub returns-clause-started : goal.returns-clause-started
returns-clause-started c =
    let i = c.self.inside in
    let d = c.args.action.now in
    let h = c.in-Some.header in
    let p = home i.mds c.args.region.now c.args.cts.now c.args.eqs.now in
    let bytes : c.read_bytes-bytes.result.list ≡ bytes_read p d = c.read_bytes-bytes.ensures.list
    ∙ rw c.put_args.ensures (bytes-read d i.mds c.args.region.now c.args.cts.now c.args.eqs.now) in
    rw (← c.self.view_is)
    (started-is i.rank p (home c.started_with-counted.new.mds c.args.region.now c.started_with-counted.new.cts
    c.started_with-counted.new.eqs) d h c.new-message.result c.started_with-counted.result
    (sym c.header_of.ensures ∙ c.in-Some.is)
    (c.new-message.ensures ∙ ap (λ (bs : List ℕ). message h bs) bytes)
    (c.started_with-counted.ensures.sent c.args.region.now)
    c.started_with-counted.ensures.counted)
