use Rattle.std.proofs.Common.{◌∙◌, ap, length}
use Rattle.std.proofs.lemmas.List.{length-map}
use Rattle.plan_choice.specs.ranks.Seats.{kind_of}
use Rattle.portals_top.specs.Answered.{LeavesChosen}
use Rattle.portals_top.specs.declared.ran.Ran.{Ran}
use Rattle.portals_top.specs.declared.words.Command.TheVariants.{Execute}
use Rattle.job_runs.specs.declared.modes.Mode.TheVariants.{Once}
use Rattle.portals_top.proofs.Rests.{handed-of, written-of}
use Rattle.portals_top.proofs.choosing.once.Goals as goal

pub write_values-written-requires-clause-steps : goal.write_values-written-requires-clause-steps
write_values-written-requires-clause-steps g c =
    ap length c.in-Ok-run_choices.ensures.kinds ∙ length-map c.args.text.now.choices.now.steps kind_of

pub returns : goal.returns
returns g c = rw c.status_of.ensures (record {
  written = written-of _ _ _ _ c.write_values-written.ensures;
  world = handed-of (LeavesChosen (Execute Once) c.args.text.now.ranks c.args.text.now.choices.now) _ _
      ((c.in-Ok-run_choices.ensures, tt), ap (λ (r : Ran). r.world) c.requires.none);
})
