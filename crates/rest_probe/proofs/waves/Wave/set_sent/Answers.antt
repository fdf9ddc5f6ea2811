use Rattle.std.proofs.Common.{◌≡◌, ◌<◌, ◌∙◌, List, length, set, ap, sym, subst}
use Rattle.std.specs.Prelude.{slice_set}
use lib.ListN.{get_elem?}
use Rattle.atomic_table.proofs.Lists.{at_index}
use Rattle.rest_probe.specs.declared.notes.RankNote.{RankNote}
use Rattle.rest_probe.specs.Counted.{counted}
use Rattle.rest_probe.specs.Waves.{with_sent}
use Rattle.rest_probe.proofs.Elements.{same-at}
use Rattle.rest_probe.proofs.waves.Wave.set_sent.Goals as goal

pub set-requires : goal.set-requires
set-requires c = let is = c.self.view_is in let old = c.self.inside.ranks.items in let m = c.index_mut-noted.result.now in
    let here = at_index old c.args.r m (subst (λ (l : List RankNote). c.args.r < length l) (sym is) c.requires.rank)
    c.index_mut-noted.ensures.value in
    c.requires.lane m (ap (λ (l : List RankNote). get_elem? l c.args.r) (sym is) ∙ here)

pub returns : goal.returns
returns c = λ x count there at. let is = c.self.view_is in let old = c.self.inside.ranks.items in let m = c.index_mut-noted.result.now in
    let here = at_index old c.args.r m (subst (λ (l : List RankNote). c.args.r < length l) (sym is) c.requires.rank)
    c.index_mut-noted.ensures.value in
    let one = same-at old c.args.r m x here (ap (λ (l : List RankNote). get_elem? l c.args.r) is ∙ there) in
    let now : c.set.new.self ≡ slice_set x.note.sent c.args.i (counted count c.args.number) =
    c.set.ensures count (ap (λ (z : RankNote). get_elem? z.note.sent c.args.i) one ∙ at)
    ∙ ap (λ (z : RankNote). slice_set z.note.sent c.args.i (counted count c.args.number)) one in
    λ k. set (is k) c.args.r (with_sent (one k) (now k))
