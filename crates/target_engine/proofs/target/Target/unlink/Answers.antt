use Rattle.std.proofs.Common.{◌≡◌, ◌-◌, true, false, map, length, ap, sym, refl, ◌∙◌, arith, nat_lt}
use Rattle.std.specs.Prelude.{slice_set}
use Rattle.std.proofs.lemmas.List.{with_items_is}
use Rattle.std.proofs.lemmas.Bool.Decides.{nat_tests}
use Rattle.ni_model.specs.Headers.{names_entry}
use Rattle.ni_model.specs.Lists.{index_at}
use Rattle.ni_model.specs.Calls.{unlinked_in}
use Rattle.ni_model.specs.Refusals.{is_linked_anywhere}
use Rattle.target_engine.specs.PortalTable.{seen_in, is_on, headers_in}
use Rattle.target_engine.specs.declared.entry_records.Records.{Records}
use Rattle.target_engine.proofs.Counted.{counted-unlinked, queues-unlinked, whole-lent}
use Rattle.target_engine.proofs.Kept.{kept-unlinked}
use Rattle.target_engine.proofs.Recorded.{recorded-anywhere, recorded-names, on-none, on-here, unlinked-at}
use Rattle.target_engine.proofs.Records.{given-by}
use Rattle.target_engine.proofs.target.Target.unlink.Goals as goal

pub returns-in-None-clause-err : goal.returns-in-None-clause-err
returns-in-None-clause-err c =
    let gone : is_linked_anywhere c.args.me (seen_in c.self.inside.indices.items) ≡ false =
    recorded-anywhere c.args.me (seen_in c.self.inside.indices.items) c.self.inside.headers.unexpected
    c.self.inside.records.by_entry c.self.invariant.kept.recorded ∙ on-none _ (sym c.linked_record.ensures ∙ c.in-None.is) in
    rw (← c.self.view_is, gone) refl

pub returns-then-recorded-gt0-clause-err : goal.returns-then-recorded-gt0-clause-err
returns-then-recorded-gt0-clause-err c =
    let on = on-here _ _ (sym c.linked_record.ensures ∙ c.in-Some.is) in
    let there : is_linked_anywhere c.args.me (seen_in c.self.inside.indices.items) ≡ true =
    recorded-anywhere c.args.me (seen_in c.self.inside.indices.items) c.self.inside.headers.unexpected
    c.self.inside.records.by_entry c.self.invariant.kept.recorded ∙ ap is_on on.0 ∙ on.1 in
    let names : names_entry c.args.me c.self.inside.headers.unexpected ≡ nat_lt 0 c.in-Some.recorded.headers =
    recorded-names c.args.me (seen_in c.self.inside.indices.items) c.self.inside.headers.unexpected c.self.inside.records.by_entry
    c.self.invariant.kept.recorded ∙ ap (λ o. nat_lt 0 (headers_in o)) on.0 in
    let some : nat_lt 0 c.in-Some.recorded.headers ≡ true = grind (arith, nat_tests, c.if-recorded-gt0.true) in
    rw (← c.self.view_is, there, names, some) refl

pub invariant_of-self : goal.invariant_of-self
invariant_of-self c =
    let on = on-here _ _ (sym c.linked_record.ensures ∙ c.in-Some.is) in
    let i = c.self.inside in
    let was = c.deref_mut.result.now in
    let new = c.unlink_at.new.indices in
    let stays = c.unlink_at.auto.indices in
    let pt = c.in-Some.recorded.pt in
    let me = c.args.me in
    let after = c.unlink_record.ensures in
    rw c.saturating_sub-self-inside.ensures
    (whole-lent i.limit i.indices.len (i.linked - 1) i.indices.items was new
    (slice_set (seen_in i.indices.items) pt (unlinked_in me (index_at pt (seen_in i.indices.items)))) c.unlink_record.new.records
    i.headers i.eqs
    c.deref_mut.ensures.value stays (stays ∙ c.deref_mut.ensures.len)
    (kept-unlinked i.limit i.indices.len i.linked me c.in-Some.recorded i.indices.items was new i.records.by_entry
    c.unlink_record.new.records.by_entry i.headers c.self.invariant.kept c.deref_mut.ensures.value (stays ∙ c.deref_mut.ensures.len)
    c.unlink_at.ensures.after c.unlink_at.ensures.kept (ap (λ (r : Records). r.by_entry) after) on.0 on.1)
    (rw after (counted-unlinked me i.headers.unexpected i.records c.self.invariant.counted c.self.invariant.kept.recorded.once))
    (c.unlink_at.ensures.after ∙ ap (λ x. slice_set (seen_in x) pt (unlinked_in me (index_at pt (seen_in x)))) c.deref_mut.ensures.value)
    (queues-unlinked me pt (seen_in i.indices.items) i.eqs c.self.invariant.queues)
    (ap (λ (r : Records). length r.waiting) after ∙ c.self.invariant.long) c.self.invariant.small)

pub returns-clause-ok : goal.returns-clause-ok
returns-clause-ok c =
    let on = on-here _ _ (sym c.linked_record.ensures ∙ c.in-Some.is) in
    let there : is_linked_anywhere c.args.me (seen_in c.self.inside.indices.items) ≡ true =
    recorded-anywhere c.args.me (seen_in c.self.inside.indices.items) c.self.inside.headers.unexpected
    c.self.inside.records.by_entry c.self.invariant.kept.recorded ∙ ap is_on on.0 ∙ on.1 in
    let names : names_entry c.args.me c.self.inside.headers.unexpected ≡ nat_lt 0 c.in-Some.recorded.headers =
    recorded-names c.args.me (seen_in c.self.inside.indices.items) c.self.inside.headers.unexpected c.self.inside.records.by_entry
    c.self.invariant.kept.recorded ∙ ap (λ o. nat_lt 0 (headers_in o)) on.0 in
    let none : nat_lt 0 c.in-Some.recorded.headers ≡ false = grind (arith, nat_tests, c.if-recorded-gt0.false) in
    rw (← c.self.view_is, there, names, none) refl

pub returns-clause-unlinked : goal.returns-clause-unlinked
returns-clause-unlinked c =
    let on = on-here _ _ (sym c.linked_record.ensures ∙ c.in-Some.is) in
    let whole = with_items_is c.self.inside.indices c.unlink_at.new.indices (c.unlink_at.auto.indices ∙ c.deref_mut.ensures.len) in
    let e : seen_in c.unlink_at.new.indices ≡ map (unlinked_in c.args.me) (seen_in c.self.inside.indices.items) =
    c.unlink_at.ensures.after ∙ ap (λ x. slice_set (seen_in x) c.in-Some.recorded.pt
    (unlinked_in c.args.me (index_at c.in-Some.recorded.pt (seen_in x)))) c.deref_mut.ensures.value
    ∙ sym (unlinked-at c.args.me c.in-Some.recorded (seen_in c.self.inside.indices.items) c.self.inside.headers.unexpected
    c.self.inside.records.by_entry c.self.invariant.kept.recorded on.0) in
    rw (← c.self.view_is, whole, e, c.unlink_record.ensures, given-by) refl
