use Rattle.std.proofs.Common.{◌≡◌, ◌<◌, ◌∙◌, true, List, length, set, ap, sym, subst}
use lib.ListN.{get_elem?}
use Rattle.atomic_table.proofs.Lists.{at_index}
use Rattle.rest_probe.specs.declared.notes.RankNote.{RankNote}
use Rattle.rest_probe.specs.Counted.{cleared}
use Rattle.rest_probe.proofs.Elements.{same-at}
use Rattle.rest_probe.proofs.waves.Wave.begin.Goals as goal

pub returns : goal.returns
returns c = λ x there. let is = c.self.view_is in let old = c.self.inside.ranks.items in let m = c.index_mut-noted.result.now in
    let here = at_index old c.args.r m (subst (λ (l : List RankNote). c.args.r < length l) (sym is) c.requires.rank)
    c.index_mut-noted.ensures.value in
    let one = same-at old c.args.r m x here (ap (λ (l : List RankNote). get_elem? l c.args.r) is ∙ there) in
    let sent : c.clear.new.self ≡ cleared x.note.sent = c.clear.ensures ∙ ap (λ (z : RankNote). cleared z.note.sent) one in
    let got : c.clear-2.new.self ≡ cleared x.note.got = c.clear-2.ensures ∙ ap (λ (z : RankNote). cleared z.note.got) one in
    λ k. set (is k) c.args.r (record {
      there = true;
      note = record {
        started = c.args.started;
        ready = c.args.ready;
        sent = sent k;
        got =
            got k;
      };
    })
