-- The place of the buffer lies in the list of places.
use Rattle.std.proofs.Common.{◌≡◌, ◌<◌, ◌∙◌, Some, None, ap, arith, get_or, length, subst, sym}
use Rattle.std.proofs.lemmas.List.{get_or_read}
use Rattle.rank_process.specs.lines.Lines.{PrintsOf, part_at}
use Rattle.rank_process.proofs.lines.prints.Prints.list.Goals as goal

pub index-requires : goal.index-requires
index-requires c =
    let s = c.self.inside in
    let h = subst (λ (v : PrintsOf). c.args.buffer < length v.shape.buffers) (sym c.self.view_is) c.requires in
    let many = c.self.invariant in
    let ok = s.places.ok.0 in
    omega (arith, h, many, ok)

pub returns-in-Some : goal.returns-in-Some
returns-in-Some c =
    let s = c.self.inside in
    let h = subst (λ (v : PrintsOf). c.args.buffer < length v.shape.buffers) (sym c.self.view_is) c.requires in
    let many = c.self.invariant in
    let inside : c.args.buffer < length s.places.items = omega (arith, h, many) in
    let read : get_or s.places.items c.args.buffer None ≡ Some c.in-Some.place =
    sym (get_or_read s.places.items c.args.buffer c.index.result.now inside c.index.ensures None) ∙ c.in-Some.is in
    c.part_of.ensures
    ∙ ap (λ x. part_at x c.args.memory.now) (sym read)
    ∙ ap (λ (v : PrintsOf). part_at (get_or v.places c.args.buffer None) c.args.memory.now) c.self.view_is

pub returns-in-None : goal.returns-in-None
returns-in-None c =
    let s = c.self.inside in
    let h = subst (λ (v : PrintsOf). c.args.buffer < length v.shape.buffers) (sym c.self.view_is) c.requires in
    let many = c.self.invariant in
    let inside : c.args.buffer < length s.places.items = omega (arith, h, many) in
    let read : get_or s.places.items c.args.buffer None ≡ None =
    sym (get_or_read s.places.items c.args.buffer c.index.result.now inside c.index.ensures None) ∙ c.in-None.is in
    ap (λ x. part_at x c.args.memory.now) (sym read)
    ∙ ap (λ (v : PrintsOf). part_at (get_or v.places c.args.buffer None) c.args.memory.now) c.self.view_is
