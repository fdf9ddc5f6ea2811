-- So many entries more in each turn.
use Rattle.std.proofs.Common.{false, ◌||◌, length, get_or, ap, ◌∙◌, sym, subst}
use Rattle.std.specs.List.{list_any}
use Rattle.mark_judge.specs.Due.{mark_at}
use Rattle.mark_judge.specs.Tables.{AreBegun, AreReached, AreRoots, AreSources, does_miss}
use Rattle.mark_judge.proofs.Opening.{some_more, unmet_is}
use Rattle.mark_judge.proofs.Rooted.{kept_drop, kept_take}
use Rattle.mark_judge.proofs.barriers.note_entries.Goals as goal

pub reach-requires-clause-words : goal.reach-requires-clause-words
reach-requires-clause-words c = c.begin.ensures.many ∙ c.loop-roots.invariant.room

pub reach-requires-clause-begun : goal.reach-requires-clause-begun
reach-requires-clause-begun c =
    subst (λ n. AreBegun c.split_at.result.0.now n c.begin.new.words.items) c.loop-roots.invariant.room c.begin.ensures.begun

pub reach-requires-clause-cells : goal.reach-requires-clause-cells
reach-requires-clause-cells c = ap length c.as_slice-roots.ensures.value ∙ c.in_ok-root_table.ensures.many

pub reach-requires-clause-roots : goal.reach-requires-clause-roots
reach-requires-clause-roots c =
    subst (AreRoots c.args.plan.now (length c.args.plan.now.cells)) (sym c.as_slice-roots.ensures.value) c.in_ok-root_table.ensures.roots

pub reach-requires-clause-kept : goal.reach-requires-clause-kept
reach-requires-clause-kept c =
    kept_take c.loop-roots.left.now c.split_at.result.0.now c.min.result (length c.args.plan.now.cells) c.as_slice-roots.result.now
    c.split_at.ensures.front c.loop-roots.invariant.kept

pub reach-requires-clause-known : goal.reach-requires-clause-known
reach-requires-clause-known c = ap length c.as_slice-sources.ensures.value ∙ c.in_ok-source_table.ensures.many

pub reach-requires-clause-sources : goal.reach-requires-clause-sources
reach-requires-clause-sources c =
    subst (AreSources c.args.plan.now c.as_slice-roots.result.now (length c.args.plan.now.links)) (sym c.as_slice-sources.ensures.value)
    c.in_ok-source_table.ensures.sources

pub loop-roots-preserved : goal.loop-roots-preserved
loop-roots-preserved c =
    let p = c.args.plan.now in
    let ms = c.args.marks.now in
    let left = c.loop-roots.left.now in
    let some = c.split_at.result.0.now in
    let rest = c.split_at.result.1.now in
    let roots = c.as_slice-roots.result.now in
    let words = c.as_slice.result.now in
    record {
      many = c.note_unmet.ensures.many;
      room = c.reach.ensures.many ∙ c.begin.ensures.many ∙ c.loop-roots.invariant.room;
      kept = kept_drop left rest c.min.result (length p.cells) roots c.split_at.ensures.back c.loop-roots.invariant.kept;
      noted = λ i h.
          some_more (does_miss p (mark_at ms i)) left some rest c.min.result (get_or c.loop-roots.unmet.items i false)
          (get_or c.note_unmet.new.unmet.items i false)
          (get_or c.args.unmet.now.items i false || list_any (does_miss p (mark_at ms i)) c.args.entries.now)
          c.split_at.ensures.front c.split_at.ensures.back
          (c.note_unmet.ensures.noted i h
          ∙ ap (λ b. get_or c.loop-roots.unmet.items i false || b)
          (unmet_is p some roots words (mark_at ms i)
          (subst (AreReached p some roots) (sym c.as_slice.ensures.value) c.reach.ensures.reached) (c.requires.known i h)))
          (c.loop-roots.invariant.noted i h);
    }
