use Rattle.std.proofs.Common.{◌<◌, ◌∙◌, List, length, ap, sym, subst}
use lib.ListN.{get_elem?}
use Rattle.atomic_table.proofs.Lists.{at_index}
use Rattle.rest_probe.specs.declared.notes.RankNote.{RankNote}
use Rattle.rest_probe.proofs.Elements.{same-at}
use Rattle.rest_probe.proofs.waves.Wave.note.Goals as goal

pub returns : goal.returns
returns c = λ x there. let is = c.self.view_is in let old = c.self.inside.ranks.items in let m = c.index.result.now in
    let here = at_index old c.args.r m (subst (λ (l : List RankNote). c.args.r < length l) (sym is) c.requires.rank) c.index.ensures in
    ap (λ (z : RankNote). z.note) (same-at old c.args.r m x here (ap (λ (l : List RankNote). get_elem? l c.args.r) is ∙ there))
