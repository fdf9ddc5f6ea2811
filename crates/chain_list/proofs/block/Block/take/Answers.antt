use Rattle.std.proofs.Common.{◌≡◌, true, None, get_or, set, sym, ap, subst, ◌∙◌}
use Rattle.std.specs.Option.{is_some}
use Rattle.chain_list.specs.Places.{filled_up}
use Rattle.chain_list.proofs.PlaceLemmas.{set-held, held-filled}
use Rattle.chain_list.proofs.block.Block.take.Goals as goal

pub returns-clause-places : goal.returns-clause-places
returns-clause-places g c =
    let xs = c.self.inside.places.items in
    let len = c.self.inside.len in
    let place = c.args.place in
    let lt = held-filled _ xs len place (subst (λ v. is_some (get_or v place None) ≡ true) (sym c.self.view_is) c.requires) in
    ap (λ o. filled_up (set xs place o) len None) c.take.ensures.after ∙ set-held xs len None place None lt
    ∙ ap (λ v. set v place None) c.self.view_is
