use Rattle.std.proofs.Common.{◌≡◌, ◌++◌, ◌∙◌, ap, arith, drop, length, subst, sym, take}
use Rattle.std.proofs.Math.Seq.{take-append_seam}
use Rattle.std.proofs.lemmas.List.Elements.{All-same}
use Rattle.std.specs.Prelude.{All, None}
use Rattle.work_sharing.specs.Sharing.{AreGiven}
use Rattle.work_sharing.proofs.Placed.{shared-none}
use Rattle.work_sharing.proofs.sharing.map_indices.Goals as goal

pub place_all-requires-clause-lists : goal.place_all-requires-clause-lists
place_all-requires-clause-lists g c =
    let lists = c.fill_lists.new.lists in let rest = drop (length lists) c.resize_with.new.self.items in
    let all : c.resize_with.new.self.len ≡ length lists = omega arith in
    let count = ap (λ l. length l) c.deref_mut-2.ensures.value ∙ c.in_ok-places.ensures.count in
    All-same (λ v. AreGiven g.F.Fn c.args.f.now (length c.deref_mut-2.result.now) v.items) _ lists
    (ap (λ n. take n (lists ++ rest)) all ∙ take-append_seam lists rest)
    (subst (λ n. All (λ v. AreGiven g.F.Fn c.args.f.now n v.items) lists) (sym count) c.fill_lists.ensures)

pub place_all-requires-clause-places : goal.place_all-requires-clause-places
place_all-requires-clause-places g c =
    shared-none g.F.Fn c.args.f.now c.deref_mut-2.result.now
    (All-same (λ o. o ≡ None) _ _ c.deref_mut-2.ensures.value c.in_ok-places.ensures.none)
