-- The part is that of the cell.
use Rattle.std.proofs.Common.{◌≡◌, ◌*◌, ◌∷◌, [], ap, ap₂, map, subst, sym, ◌∙◌}
use Rattle.plan_core.specs.declared.Part.{Part}
use Rattle.plan_core.specs.Draw.{HasRoom, add, new_cell}
use Rattle.plan_steps.specs.StepContext.{count, holding_part, places, rank_at}
use Rattle.plan_steps.specs.Collectives.Allgather.{collect_link}
use Rattle.plan_steps.proofs.allgather.CollectedRows.draw.Goals as goal

pub draw_wide-requires-clause-room : goal.draw_wide-requires-clause-room
draw_wide-requires-clause-room c =
    let s = c.args.site.now in
    let r = rank_at s c.args.place in
    let n : c.from.result * c.length.result ≡ count s * s.length =
    ap₂ (λ a b. a * b) (c.from.ensures ∙ c.count.ensures.value) c.length.ensures.value in
    let e : c.holding-part.result ≡ holding_part s (count s * s.length) r = c.holding-part.ensures ∙ ap (λ n. holding_part s n r) n in
    let P : Part → Type 0 = λ k. HasRoom c.args.plan.now (new_cell k (map (collect_link s c.args.place) (places s)) ∷ []) in
    subst P (sym e) c.requires.room

pub returns : goal.returns
returns c =
    let s = c.args.site.now in
    let r = rank_at s c.args.place in
    let n : c.from.result * c.length.result ≡ count s * s.length =
    ap₂ (λ a b. a * b) (c.from.ensures ∙ c.count.ensures.value) c.length.ensures.value in
    c.in_ok-draw_wide.ensures
    ∙ ap (λ k. add c.args.plan.now (new_cell k (map (collect_link s c.args.place) (places s))))
    (c.holding-part.ensures ∙ ap (λ n. holding_part s n r) n)
