use Rattle.std.proofs.Common.{◌≡◌, ◌<◌, ◌≤◌, ◌-◌, ◌++◌, ◌∷◌, [], length, replicate, set, sym, ap, subst, ◌∙◌, arith}
use Rattle.std.specs.Vec.{vec_len}
use Rattle.chain_list.specs.Places.{filled_up}
use Rattle.chain_list.proofs.PlaceLemmas.{length-filled, set-held, set-blank}
use Rattle.chain_list.proofs.places.Places.set.Goals as goal

pub returns-then-place-len-clause-items : goal.returns-then-place-len-clause-items
returns-then-place-len-clause-items g c =
    let xs = c.self.inside.filled in
    let lt : c.args.place < length xs.items = omega (arith, c.if-place-len.true, c.len.ensures, xs.ok.0) in
    set-held xs.items c.self.inside.len c.self.inside.blank c.args.place c.args.item lt ∙ ap (λ v. set v.items c.args.place c.args.item)
    c.self.view_is

pub returns-else-place-len-clause-items : goal.returns-else-place-len-clause-items
returns-else-place-len-clause-items g c =
    let xs = c.self.inside.filled in
    let len = c.self.inside.len in
    let blank = c.self.inside.blank in
    let place = c.args.place in
    let long : vec_len xs ≡ length xs.items = omega (arith, xs.ok.0) in
    let within = subst (λ v. place < length v.items) (sym c.self.view_is) c.requires in
    let lt : place < len = omega (arith, within, length-filled xs.items len blank c.self.invariant.0) in
    let le : length xs.items ≤ place = omega (arith, c.if-place-len.false, c.len.ensures, long) in
    let items : c.push_reserved.new.self.items ≡ filled_up xs.items place blank ++ c.args.item ∷ [] =
    c.push_reserved.ensures.items ∙ ap (λ l. l ++ c.args.item ∷ []) (c.fill_with.ensures.items
    ∙ ap (λ n. xs.items ++ replicate (place - n) blank) long) in
    ap (λ l. filled_up l len blank) items ∙ set-blank xs.items len blank place c.args.item le lt
    ∙ ap (λ v. set v.items place c.args.item) c.self.view_is
