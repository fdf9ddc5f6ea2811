use Rattle.std.proofs.Common.{◌≡◌, true, Some, None, get_or, set, refl, sym, ap, subst, ◌∙◌}
use Rattle.std.specs.Option.{is_some}
use Rattle.std.proofs.lemmas.List.{get_or_default}
use Rattle.chain_list.proofs.PlaceLemmas.{set-held, held-filled, get-held}
use Rattle.chain_list.proofs.block.Block.get_mut.Goals as goal

pub returns : goal.returns
returns g c =
    let xs = c.self.inside.places.items in
    let len = c.self.inside.len in
    let place = c.args.place in
    let lt = held-filled _ xs len place (subst (λ v. is_some (get_or v place None) ≡ true) (sym c.self.view_is) c.requires) in
    let here = ap (λ v. get_or v place None) (sym c.self.view_is) ∙ get-held xs len None place None lt
    ∙ get_or_default xs place None c.index_mut.result.now lt in (
      (refl, λ w. set-held xs len None place (Some w) lt ∙ ap (λ v. set v place (Some w)) c.self.view_is),
      record { writes_back = tt; value = here ∙ sym c.index_mut.ensures.value ∙ c.held_mut.ensures.value },
    )
