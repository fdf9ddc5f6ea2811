use Rattle.std.proofs.Common.{◌≡◌, ◌<◌, ◌≤◌, ◌-◌, ◌++◌, ◌∷◌, [], Some, None, length, replicate, set, sym, ap, subst, ◌∙◌, arith}
use Rattle.std.specs.Vec.{vec_len}
use Rattle.chain_list.specs.Places.{filled_up}
use Rattle.chain_list.proofs.PlaceLemmas.{length-filled, set-held, set-blank}
use Rattle.chain_list.proofs.block.Block.put.Goals as goal

pub returns-then-place-len : goal.returns-then-place-len
returns-then-place-len g c =
    let xs = c.self.inside.places in
    let lt : c.args.place < length xs.items = omega (arith, c.if-place-len.true, c.len.ensures, xs.ok.0) in
    ap (λ o. filled_up (set xs.items c.args.place o) c.self.inside.len None) c.fill_place.ensures
    ∙ set-held xs.items c.self.inside.len None c.args.place (Some c.args.item) lt ∙ ap (λ v. set v c.args.place (Some c.args.item))
    c.self.view_is

pub returns-else-place-len : goal.returns-else-place-len
returns-else-place-len g c =
    let xs = c.self.inside.places in
    let len = c.self.inside.len in
    let place = c.args.place in
    let item = Some c.args.item in
    let long : vec_len xs ≡ length xs.items = omega (arith, xs.ok.0) in
    let within = subst (λ v. place < length v) (sym c.self.view_is) c.requires.within in
    let lt : place < len = omega (arith, within, length-filled xs.items len None c.self.invariant.0) in
    let le : length xs.items ≤ place = omega (arith, c.if-place-len.false, c.len.ensures, long) in
    let items : c.push_reserved.new.self.items ≡ filled_up xs.items place None ++ item ∷ [] =
    c.push_reserved.ensures.items ∙ ap (λ l. l ++ item ∷ []) (c.fill_up.ensures.items ∙ ap (λ n. xs.items ++ replicate (place - n) None)
    long) in
    ap (λ l. filled_up l len None) items ∙ set-blank xs.items len None place item le lt ∙ ap (λ v. set v place item) c.self.view_is
