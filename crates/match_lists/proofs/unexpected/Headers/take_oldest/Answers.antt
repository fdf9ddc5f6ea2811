use Rattle.std.proofs.Common.{◌≡◌, ◌+◌, ◌<◌, List, Some, length, drop, ap, sym, ◌∙◌, arith}
use Rattle.std.specs.Vec.{with_items}
use Rattle.std.proofs.lemmas.List.{length-drop, with_items_is}
use Rattle.ni_model.specs.declared.IndexedHeader.{IndexedHeader}
use Rattle.ni_model.specs.Headers.{UnexpectedList, unexpected_list}
use Rattle.match_lists.proofs.unexpected.Headers.take_oldest.Goals as goal

pub take_after-taken-requires : goal.take_after-taken-requires
take_after-taken-requires c =
    let s = c.self.inside in
    let live : c.as_slice.result.now ≡ drop s.gone s.unexpected.items = c.as_slice.ensures
    ∙ ap (λ (h : UnexpectedList). h.unexpected) (sym c.self.view_is) in
    let within : c.in_ok-at.at < length (drop s.gone s.unexpected.items) = rw live at c.in_ok-at.ensures.within in
    rw c.deref_mut.ensures.value (omega (arith, within, length-drop s.gone s.unexpected.items))

pub returns-clause-oldest : goal.returns-clause-oldest
returns-clause-oldest c =
    let s = c.self.inside in
    let live : c.as_slice.result.now ≡ drop s.gone s.unexpected.items = c.as_slice.ensures
    ∙ ap (λ (h : UnexpectedList). h.unexpected) (sym c.self.view_is) in
    let a = rw c.deref_mut.ensures.value at (c.take_after-taken.ensures.taken c.take_after-taken.result) in
    let b = rw live at (c.in_ok-at.ensures.some c.take_after-taken.result).0 in
    rw (← c.self.view_is) (ap (λ x. Some x) a ∙ sym b)

pub returns-clause-rest : goal.returns-clause-rest
returns-clause-rest c =
    let s = c.self.inside in
    let live : c.as_slice.result.now ≡ drop s.gone s.unexpected.items = c.as_slice.ensures
    ∙ ap (λ (h : UnexpectedList). h.unexpected) (sym c.self.view_is) in
    let a = rw c.deref_mut.ensures.value at c.take_after-taken.ensures.rest in
    let b = rw live at (c.in_ok-at.ensures.some c.take_after-taken.result).1 in
    let whole : (with_items s.unexpected c.take_after-taken.new.unexpected).items ≡ c.take_after-taken.new.unexpected =
    with_items_is s.unexpected c.take_after-taken.new.unexpected (c.take_after-taken.ensures.len ∙ c.deref_mut.ensures.len) in
    c.begin_again.ensures ∙ rw (← c.self.view_is) (ap (λ (xs : List IndexedHeader). unexpected_list xs s.limit)
    (ap (drop (s.gone + 1)) whole ∙ a ∙ sym b))
