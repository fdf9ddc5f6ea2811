use Rattle.std.proofs.Common.{◌≡◌, ◌++◌, drop}
use Rattle.coll_lang.specs.Spelling.{steps_text}
use Rattle.coll_lang.proofs.printing.print_steps.Given as goal

-- what stands there with what is left is the whole
abbrev pub invariant-loop-step : goal.invariant-loop-step
invariant-loop-step l =
    l.out.items ++ steps_text l.groups l.buffers (drop l.step-index l.steps) l.rest
    ≡ l.fn.out.items ++ steps_text l.groups l.buffers l.steps l.on
