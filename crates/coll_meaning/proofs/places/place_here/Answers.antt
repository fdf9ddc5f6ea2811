use Rattle.std.proofs.Common.{◌≡◌, ◌<◌, ◌≤◌, ℕ, length, get_or, sym, arith}
use Rattle.coll_meaning.proofs.PlaceAt.{place_beyond}
use Rattle.coll_meaning.proofs.places.place_here.Goals as goal

greater : (r m x : ℕ) → (m ≡ r → ⊥) → m ≡ x → r ≤ x → r < x
greater r m x h e l = omega (arith, h, e, l)

pub returns-else-member-r-clause-place : goal.returns-else-member-r-clause-place
returns-else-member-r-clause-place c =
    let found = c.in-Some.ensures.lookup in
    let l : c.args.next < length c.args.group.now = found.3.0 in
    let m : c.in-Some.member.now ≡ get_or c.args.group.now c.args.next 0 = found.4 (omega arith) 0 in
    let a : c.args.r ≤ get_or c.args.group.now c.args.next 0 = c.requires.above c.args.next (omega arith) l in
    sym (place_beyond c.args.group.now c.args.next c.args.r l c.requires.below c.requires.rising (greater _ _ _ c.if-member-r.false m a))
