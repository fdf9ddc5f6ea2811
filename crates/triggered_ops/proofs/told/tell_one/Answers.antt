use Rattle.std.proofs.Common.{nat_le, map, refl, sym, ap, ◌∙◌}
use Rattle.std.specs.Prelude.{is_some}
use Rattle.std.proofs.lemmas.Bool.{ne_eqb}
use Rattle.triggered_ops.specs.Operations.{told_if, waits_on}
use Rattle.triggered_ops.specs.Layout.{Spotted, numbers_of, operations_in, wait_at}
use Rattle.triggered_ops.proofs.Entering.{stray-noted}
use Rattle.triggered_ops.proofs.Places.{waits-is, is-waits, noted-at, noted-numbers}
use Rattle.triggered_ops.proofs.Telling.{noted-told, noted-due}
use Rattle.triggered_ops.proofs.told.tell_one.Goals as goal

pub threshold-requires : goal.threshold-requires
threshold-requires g c = let w = waits-is _ _ (c.waits_on.ensures.yes c.if-waits_on.true) in ap is_some w.1

pub note_due-requires : goal.note_due-requires
note_due-requires g c = let w = waits-is _ _ (c.waits_on.ensures.yes c.if-waits_on.true) in ap is_some w.1

pub returns-then-waits_on-clause-hung : goal.returns-then-waits_on-clause-hung
returns-then-waits_on-clause-hung g c =
    let w = waits-is _ _ (c.waits_on.ensures.yes c.if-waits_on.true) in
    stray-noted (wait_at c.args.spots.now.spots) c.args.threads.now c.args.stamps.now c.requires.hung c.args.ct c.args.place w.0 _
    (wait_at c.note_due.new.self.spots) c.requires.belongs w.1 w.2
    (λ q. ap (λ (s : Spotted _). wait_at s.spots q) c.note_due.ensures ∙ noted-at c.args.place _ c.args.spots.now.spots q)

pub returns-then-waits_on-clause-same : goal.returns-then-waits_on-clause-same
returns-then-waits_on-clause-same g c = record {
  numbers = ap (λ (s : Spotted _). numbers_of s.spots) c.note_due.ensures ∙ noted-numbers c.args.place _ c.args.spots.now.spots;
  room = ap (λ (s : Spotted _). s.room) c.note_due.ensures;
}

pub returns-then-waits_on-clause-told : goal.returns-then-waits_on-clause-told
returns-then-waits_on-clause-told g c =
    let w = waits-is _ _ (c.waits_on.ensures.yes c.if-waits_on.true) in
    ap (λ (s : Spotted _). map (told_if (waits_on c.args.ct) c.args.sum) (operations_in s.spots)) c.note_due.ensures
    ∙ noted-told c.args.spots.now.spots c.args.place _ c.args.ct c.args.sum w.0 w.1 w.2

pub returns-then-waits_on-clause-here : goal.returns-then-waits_on-clause-here
returns-then-waits_on-clause-here g c = λ x e is.
    noted-due c.args.spots.now.spots c.args.place (nat_le c.threshold.result c.args.sum) c.args.sum
    (ap (λ t. nat_le t c.args.sum) c.threshold.ensures) x (ap (λ (s : Spotted _). wait_at s.spots c.args.place) (sym c.note_due.ensures)
    ∙ e)

pub returns-then-waits_on-clause-others : goal.returns-then-waits_on-clause-others
returns-then-waits_on-clause-others g c = λ p n.
    ap (λ (s : Spotted _). wait_at s.spots p) c.note_due.ensures ∙ noted-at c.args.place _ c.args.spots.now.spots p
    ∙ rw (ne_eqb p c.args.place n) refl

pub returns-else-waits_on-clause-here : goal.returns-else-waits_on-clause-here
returns-else-waits_on-clause-here g c = λ x e is. absurd (c.waits_on.ensures.no c.if-waits_on.false (is-waits c.args.ct _ x e is))
