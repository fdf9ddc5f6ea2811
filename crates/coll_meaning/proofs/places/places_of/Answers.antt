use Rattle.std.proofs.Common.{◌++◌, ◌∷◌, [], map, ap, sym, ◌∙◌}
use Rattle.number_lists.specs.Numbers.{from_to}
use Rattle.coll_shape.specs.Meaning.{place_from}
use Rattle.coll_meaning.proofs.Rows.{row_more}
use Rattle.coll_meaning.proofs.PlaceAt.{stands_next}
use Rattle.coll_meaning.proofs.places.places_of.Goals as goal
use Rattle.coll_meaning.proofs.places.places_of.Goals.{then-is_some, else-is_some}

pub loop-r-preserved : goal.loop-r-preserved
loop-r-preserved c = record {
  stands = stands_next c.args.group.now c.loop-r.next c.if-is_some.next c.loop-r.r c.place_here-place.result c.loop-r.invariant.stands
      c.requires.rising c.place_here-place.ensures.others
      (λ e. elim c.if-is_some.branch [ then-is_some w ↦ w.next-is | else-is_some w ↦ cc (w.if-is_some.false, c.is_some.ensures) ])
      (λ e. elim c.if-is_some.branch [ then-is_some w ↦ cc (w.if-is_some.true, c.is_some.ensures) | else-is_some w ↦ w.next-is ]);
  places = c.in_ok-push.ensures.items ∙ ap (λ v. v ++ c.place_here-place.result ∷ []) c.loop-r.invariant.places
      ∙ ap (λ v. map (place_from 0 c.args.group.now) (from_to 0 c.loop-r.r) ++ v ∷ []) c.place_here-place.ensures.place
      ∙ sym (row_more (place_from 0 c.args.group.now) c.loop-r.r);
}
