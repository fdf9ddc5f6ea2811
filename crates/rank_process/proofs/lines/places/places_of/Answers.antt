use Rattle.std.proofs.Common.{◌++◌, ◌∷◌, [], List, Option, ap₂, sym, ◌∙◌}
use Rattle.plan_core.proofs.Drawing.{row-more}
use Rattle.schedule_compiler.specs.declared.schedule.Place.{Place}
use Rattle.rank_process.specs.lines.Places.{place_held}
use Rattle.rank_process.proofs.lines.places.places_of.Goals as goal

pub loop-buffer-preserved : goal.loop-buffer-preserved
loop-buffer-preserved c =
    c.in_ok-push.ensures.items
    ∙ ap₂ (λ (l : List (Option Place)) x. l ++ x ∷ []) c.loop-buffer.invariant c.place_at.ensures
    ∙ sym (row-more (place_held c.args.schedule.now c.args.me) c.loop-buffer.buffer)
