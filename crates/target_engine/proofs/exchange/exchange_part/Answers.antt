use Rattle.std.proofs.Common.{◌≡◌, length}
use Rattle.ni_model.specs.Arrive.{delivered}
use Rattle.target_engine.proofs.Exchanging.{place-within, delivered-bytes, delivered-whole, delivered-one}
use Rattle.target_engine.proofs.exchange.exchange_part.Goals as goal

pub exchange_at-requires-clause-part : goal.exchange_at-requires-clause-part
exchange_at-requires-clause-part c =
    let len : length c.first_bytes-items.result.items ≡ delivered c.args.linked.now c.args.header.now =
    rw (c.first_bytes-items.ensures, c.delivered-count.ensures)
    (delivered-bytes c.args.linked.now c.args.header.now c.args.bytes c.requires.elements c.requires.kept) in
    rw (c.first_byte-at.ensures, c.deref_mut.ensures.value, len)
    (place-within (length c.args.region.now) c.args.linked.now c.args.header.now
    c.requires.part)

pub exchange_at-requires-clause-whole : goal.exchange_at-requires-clause-whole
exchange_at-requires-clause-whole c =
    let len : length c.first_bytes-items.result.items ≡ delivered c.args.linked.now c.args.header.now =
    rw (c.first_bytes-items.ensures, c.delivered-count.ensures)
    (delivered-bytes c.args.linked.now c.args.header.now c.args.bytes c.requires.elements c.requires.kept) in
    rw (c.deref_mut.ensures.value, len) (delivered-whole c.args.linked.now c.args.header.now c.requires.elements)

pub exchange_at-requires-clause-one : goal.exchange_at-requires-clause-one
exchange_at-requires-clause-one c =
    let len : length c.first_bytes-items.result.items ≡ delivered c.args.linked.now c.args.header.now =
    rw (c.first_bytes-items.ensures, c.delivered-count.ensures)
    (delivered-bytes c.args.linked.now c.args.header.now c.args.bytes c.requires.elements c.requires.kept) in
    λ is. rw (c.deref_mut.ensures.value, len) (delivered-one c.args.linked.now c.args.header.now c.requires.elements
    (c.requires.kept.one is))
