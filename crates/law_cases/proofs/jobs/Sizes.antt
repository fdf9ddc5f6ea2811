-- How large plans are: what each step adds on three members of which two hold what is read, a list of six bytes; limits; and the job by
-- hand.
use Rattle.std.specs.Prelude.{◌≡◌, Some, None, refl}
use Rattle.ptl_types.specs.declared.elements.AtomicOp.TheVariants.{Sum}
use Rattle.plan_core.specs.Draw.{add, add_all, add_cell, add_link, add_links, go_plan, hold}
use Rattle.coll_shape.specs.declared.types.CollStep.TheVariants.{Allgather, Allreduce, Alltoall, Barrier, Broadcast, Exscan, Gather}
use Rattle.coll_shape.specs.declared.types.CollStep.TheVariants.{Gatherv}
use Rattle.coll_shape.specs.declared.types.CollStep.TheVariants.{Reduce, Reducescatter, Scan, Scatter}
use Rattle.plan_steps.specs.Steps.{exits_by, held_by}
use Rattle.plan_steps.specs.Trees.{parent}
use Rattle.plan_steps.specs.Rounds.{rounds}
use Rattle.schedule_compiler.specs.shapes.Drawing.{drawn_inputs, drawn_upto, hold_row}
use Rattle.plan_steps.specs.Collectives.{step_bytes, step_links}
use Rattle.schedule_compiler.specs.shapes.Footprint.{footprint, judged, refusal, refused_at}
use Rattle.schedule_compiler.specs.shapes.Footprint.Excess.{Bytes, Links}
use Rattle.schedule_compiler.specs.shapes.Judging.{size_upto}
use Rattle.law_cases.proofs.jobs.Job.{job}

links_of_steps : (step_links Barrier 3 3 ≡ 15) × (step_links (Broadcast 0 0 1) 3 3 ≡ 9) × (step_links (Reduce 0 Sum 0 1) 3 3 ≡ 11)
    × (step_links (Allreduce Sum 0 1) 3 3 ≡ 16) × (step_links (Gather 0 0 1) 3 3 ≡ 9) × (step_links (Allgather 0 1) 3 3 ≡ 24)
    × (step_links (Alltoall 0 1) 3 3 ≡ 15) × (step_links (Scan Sum 0 1) 3 3 ≡ 18) × (step_links (Scatter 0 0 1) 3 3 ≡ 9)
    × (step_links (Reducescatter Sum 0 1) 3 3 ≡ 16) × (step_links (Exscan Sum 0 1) 3 3 ≡ 22) × (step_links (Gatherv 0 0 1) 3 2 ≡ 8)
unfolding rounds
links_of_steps = (refl, refl, refl, refl, refl, refl, refl, refl, refl, refl, refl, refl)

bytes_of_steps : (step_bytes Barrier 3 3 6 ≡ 0) × (step_bytes (Broadcast 0 0 1) 3 3 6 ≡ 24) × (step_bytes (Reduce 0 Sum 0 1) 3 3 6 ≡ 36)
    × (step_bytes (Allreduce Sum 0 1) 3 3 6 ≡ 54) × (step_bytes (Gather 0 0 1) 3 3 6 ≡ 36) × (step_bytes (Allgather 0 1) 3 3 6 ≡ 126)
    × (step_bytes (Alltoall 0 1) 3 3 6 ≡ 36) × (step_bytes (Scan Sum 0 1) 3 3 6 ≡ 72) × (step_bytes (Scatter 0 0 1) 3 3 6 ≡ 12)
    × (step_bytes (Reducescatter Sum 0 1) 3 3 6 ≡ 42) × (step_bytes (Exscan Sum 0 1) 3 3 6 ≡ 84) × (step_bytes (Gatherv 0 0 1) 3 2 6 ≡ 24)
unfolding rounds
bytes_of_steps = (refl, refl, refl, refl, refl, refl, refl, refl, refl, refl, refl, refl)

-- ---- limits: links are judged first
at_the_limits : judged (record { links = 500000; bytes = 134217728 }) ≡ None
at_the_limits = refl

past_them : (judged (record { links = 500001; bytes = 0 }) ≡ Some Links) × (judged (record { links = 0; bytes = 134217729 }) ≡ Some Bytes)
    × (judged (record { links = 500001; bytes = 134217729 }) ≡ Some Links)
past_them = (refl, refl, refl)

the_first_counts : refused_at 2 (Some Bytes) (Some (record { step = 3; name = Links })) ≡ Some (record { step = 2; name = Bytes })
the_first_counts = refl

-- ---- the job of three ranks: 9, then 16, then 31 links, and 3, then 7 bytes
size_of_the_job : (footprint job 0 ≡ record { links = 9; bytes = 3 }) × (footprint job 1 ≡ record { links = 16; bytes = 7 })
    × (footprint job 2 ≡ record { links = 31; bytes = 7 })
unfolding drawn_upto drawn_inputs hold_row add add_all add_cell add_link add_links go_plan hold exits_by held_by parent rounds
size_of_the_job = (refl, refl, refl)

judged_alike : (size_upto job 0 ≡ record { links = 3; bytes = 3 }) × (size_upto job 1 ≡ record { links = 9; bytes = 3 })
    × (size_upto job 2 ≡ record { links = 16; bytes = 7 }) × (size_upto job 3 ≡ record { links = 31; bytes = 7 })
unfolding rounds
judged_alike = (refl, refl, refl, refl)

the_job_is_accepted : refusal job ≡ None
unfolding refusal drawn_upto drawn_inputs hold_row add add_all add_cell add_link add_links go_plan hold exits_by held_by parent rounds
the_job_is_accepted = refl
