use Rattle.std.proofs.Common.{◌≡◌, ◌<◌, ◌+◌, ◌++◌, length, drop, get_or, subst, sym, ◌≤◌, arith}
use Rattle.std.specs.List.{flat_map}
use Rattle.run_text.specs.Lines.{buffer_lines}
use Rattle.run_text.specs.Putting.{Takes, FailsWithin}
use Rattle.run_text.proofs.Taking.{Takes-next, Fails-next, Puts-stops, flat_map-drop}
use Rattle.run_text.specs.Made.{AreMadeFrom}
use Rattle.run_text.proofs.Numbering.{by-print}
use Rattle.run_text.proofs.results.put_prints.Goals as goal

pub put_buffer-requires-clause-made : goal.put_buffer-requires-clause-made
put_buffer-requires-clause-made g c =
    let o = g.H.ResultLists.outline c.args.held.now in
    let lists = g.H.ResultLists.lists c.args.held.now in
    let n = c.loop-buffer.buffer-index in
    subst (λ xs. AreMadeFrom o lists (get_or xs n 0) c.loop-buffer.first c.args.texts.now)
    (sym (rw c.shape-shape.ensures at c.prints-buffer-items.ensures.value))
    (subst (λ f. AreMadeFrom o lists (get_or o.prints n 0) f c.args.texts.now) (sym c.loop-buffer.invariant.place)
    (by-print o lists c.args.texts.now c.requires.made n))

pub returns-in_err-put_buffer : goal.returns-in_err-put_buffer
returns-in_err-put_buffer g c =
    let o = g.H.ResultLists.outline c.args.held.now in
    let lines = buffer_lines o (g.H.ResultLists.lists c.args.held.now) in
    let prints = o.prints in
    let n = c.loop-buffer.buffer-index in
    let old = g.K.Sink.outflow c.args.sink.now in
    let before = g.K.Sink.outflow c.loop-buffer.sink in
    let new = g.K.Sink.outflow c.put_buffer.new.sink in
    let text = c.args.out.now ++ flat_map lines prints in
    let same : c.prints-buffer-items.result.now ≡ prints = rw c.shape-shape.ensures at c.prints-buffer-items.ensures.value in
    let in_range : n < length prints = subst (λ xs. n < length xs) same c.loop-buffer-test.true in
    Puts-stops old new c.args.out.now c.put_buffer.new.out (flat_map lines prints) _ c.from_residual.ensures.0
    (Fails-next old before new text c.loop-buffer.out (lines (get_or prints n 0)) (flat_map lines (drop (n + 1) prints))
    (subst (λ rest. Takes old before text (c.loop-buffer.out ++ rest)) (flat_map-drop lines prints n 0 in_range)
    c.loop-buffer.invariant.taken)
    (subst (λ xs. FailsWithin before new (c.loop-buffer.out ++ lines (get_or xs n 0))) same c.in_err-put_buffer.ensures))

pub loop-buffer-preserved : goal.loop-buffer-preserved
loop-buffer-preserved g c =
    let o = g.H.ResultLists.outline c.args.held.now in
    let lines = buffer_lines o (g.H.ResultLists.lists c.args.held.now) in
    let prints = o.prints in
    let n = c.loop-buffer.buffer-index in
    let old = g.K.Sink.outflow c.args.sink.now in
    let before = g.K.Sink.outflow c.loop-buffer.sink in
    let new = g.K.Sink.outflow c.put_buffer.new.sink in
    let text = c.args.out.now ++ flat_map lines prints in
    let same : c.prints-buffer-items.result.now ≡ prints = rw c.shape-shape.ensures at c.prints-buffer-items.ensures.value in
    let in_range : n < length prints = subst (λ xs. n < length xs) same c.loop-buffer-test.true in
    let ranks : c.ranks-ranks.result ≡ o.ranks = rw c.shape-shape.ensures at c.ranks-ranks.ensures.value in
    let at_most : o.ranks ≤ 256 = rw c.shape-shape.ensures at c.recall_form.ensures.shape.shape.few_ranks in
    record {
      taken = Takes-next old before new text c.loop-buffer.out c.put_buffer.new.out (lines (get_or prints n 0))
          (flat_map lines (drop (n + 1) prints))
          (subst (λ rest. Takes old before text (c.loop-buffer.out ++ rest)) (flat_map-drop lines prints n 0 in_range)
          c.loop-buffer.invariant.taken)
          (subst (λ xs. Takes before new (c.loop-buffer.out ++ lines (get_or xs n 0)) c.put_buffer.new.out) same
          c.in_ok-put_buffer.ensures);
      place = omega (arith, c.loop-buffer.invariant.place, ranks);
      at_most = omega (arith, ranks, at_most, c.loop-buffer.invariant.at_most);
    }
