use Rattle.std.proofs.Common.{◌≡◌, [], drop, get_or}
use Rattle.plan_core.specs.Plan.{link}
use Rattle.plan_core.specs.Values.{carried_of, land_all}
use Rattle.plan_judge.proofs.values.landing.land_all.Given as goal

-- all links do what the rest of them does to these bytes
abbrev pub invariant-loop-l : goal.invariant-loop-l
invariant-loop-l l =
    land_all l.plan (λ k. carried_of l.plan (get_or l.before (link l.plan k).source []) k) l.links l.fn.bytes
    ≡ land_all l.plan (λ k. carried_of l.plan (get_or l.before (link l.plan k).source []) k) (drop l.l-index l.links) l.bytes
