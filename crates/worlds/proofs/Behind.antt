-- The fields of a world after a step.
use Rattle.std.proofs.Common.{ℕ, ◌-◌, ◌^◌, ◌<◌, ◌≡◌, ◌∙◌, List, ap, refl, sym, subst}
use Rattle.ptl_types.specs.Messages.{Sent}
use Rattle.plan_core.specs.Members.{In}
use Rattle.cuts.specs.view.Slots.{Slots}
use Rattle.cuts.specs.histories.Cut.{IsPrefixOf}
use Rattle.cuts.specs.histories.Plans.{system_of}
use Rattle.cuts.specs.orders.Chosen.{Scene, step_made}
use Rattle.cuts.specs.declared.orders.Step.{Step}
use Rattle.rank_node.specs.Node.{NodeState}
use Rattle.schedule_compiler.specs.Jobs.{JobOf}
use Rattle.cuts.specs.cells.Cells.{AreRoundsKept}
use Rattle.worlds.specs.declared.parts.lanes.Setting.{Setting}
use Rattle.worlds.specs.declared.parts.traffic.Traffic.{Traffic}
use Rattle.worlds.specs.parts.Keeps.{AgreeAll, IsSomeWorld, IsWorld}
use Rattle.worlds.specs.parts.Layout.{scene_of}
use Rattle.worlds.specs.parts.Steps.{IsInjected, IsStepped, injected}
use Rattle.worlds.specs.Allowed.{Allows}
use Rattle.worlds.specs.Standing.{AreFields}
use Rattle.worlds.specs.Later.{IsLater}
use Rattle.worlds.specs.World.{AreSlots, WorldState, histories_in, scene_in, state_of, steps_in}
use Rattle.worlds.proofs.Ends.{barriers_in, given_slots, slots_given}
use Rattle.worlds.proofs.Listed.{allowed, listed_by}
use Rattle.worlds.proofs.Standing.{of_ranks, stands, world_is}
use Rattle.worlds.proofs.Stepping.{IsMade, MayMake, begins_with, same_world}

module _ (job : JobOf) (nodes : List NodeState) (traffic : Traffic) (fields : AreFields job nodes traffic) where
  abbrev w : WorldState
  w = state_of job nodes traffic

  abbrev ranks : ℕ
  ranks = job.schedule.plan.ranks

  pub some_world : IsSomeWorld nodes traffic
  some_world = record { plan = job.schedule.plan; inputs = job.inputs; world = fields.world }

  -- what is possible is allowed, and nothing else
  by_ranks : (x : Step) → Allows nodes (of_ranks ranks traffic) x → Allows nodes traffic x
  by_ranks x a = subst (λ m. Allows nodes (of_ranks m traffic) x) (sym fields.ranks) a

  pub allowed_in : (slots : ℕ → Slots) → AreSlots w slots → (x : Step) → In x (steps_in w slots) → Allows nodes traffic x
  allowed_in slots agree x i = by_ranks x (allowed job.schedule.plan job.inputs nodes (of_ranks ranks traffic)
      (world_is job nodes traffic fields) slots agree x i)

  pub allowed_now : (x : Step) → MayMake x w → Allows nodes traffic x
  allowed_now x may =
      let slots = given_slots w in
      let agree = slots_given w (stands job nodes traffic fields) in
      allowed_in slots agree x (may slots agree)

  pub listed_now : (slots : ℕ → Slots) → AreSlots w slots → (x : Step) → Allows nodes traffic x → In x (steps_in w slots)
  listed_now slots agree x a =
      listed_by job.schedule.plan job.inputs nodes (of_ranks ranks traffic) (world_is job nodes traffic fields) slots agree x
      (subst (λ m. Allows nodes (of_ranks m traffic) x) fields.ranks a)

  module _ (x : Step) (nexts : List NodeState) (after : Traffic)
      (step : IsStepped job.schedule.plan job.inputs x nodes traffic nexts after)
      (world : IsWorld job.schedule.plan job.inputs nexts after) where
    abbrev v : WorldState
    v = state_of job nexts after

    pub fields_behind : AreFields job nexts after
    fields_behind = record {
      ranks = ap (λ (s : Setting). s.ranks) step.setting ∙ fields.ranks;
      spare = subst (λ (s : Setting). s.spare < 2 ^ 32) (sym step.setting) fields.spare;
      world = world;
    }

    scene_behind : (slots : ℕ → Slots) → AgreeAll ranks slots nexts
        → scene_of ranks nexts after.lanes ≡ step_made (system_of job.schedule.plan job.inputs slots) x (scene_of ranks nodes traffic.lanes)
    scene_behind = subst (λ m. (slots : ℕ → Slots) → AgreeAll m slots nexts → scene_of m nexts after.lanes
        ≡ step_made (system_of job.schedule.plan job.inputs slots) x (scene_of m nodes traffic.lanes)) fields.ranks step.scene

    slots_behind : (slots : ℕ → Slots) → AgreeAll ranks slots nexts → AgreeAll ranks slots nodes
    slots_behind = subst (λ m. (slots : ℕ → Slots) → AgreeAll m slots nexts → AgreeAll m slots nodes) fields.ranks step.slots

    pub made_behind : IsMade x w v
    made_behind slots agree = scene_behind slots agree

    pub later_behind : IsLater w v
    later_behind = record {
      schedule = refl;
      inputs = refl;
      window = ap (λ (s : Setting). s.window) step.setting;
      spare = ap (λ (s : Setting). s.spare) step.setting;
      begins = begins_with w v x (stands job nexts after fields_behind) made_behind;
      slots = slots_behind;
    }

    pub strays_behind : v.strays ≡ w.strays
    strays_behind = ap (λ (s : Setting). s.strays) step.setting

    pub barriers_behind : (slots : ℕ → Slots) → AreSlots v slots → AreRoundsKept job.schedule.plan job.inputs slots (histories_in v)
    barriers_behind slots agree = barriers_in v slots (stands job nexts after fields_behind) agree

  -- ---- after an injection
  module _ (s d : ℕ) (m : Sent) (nexts : List NodeState) (after : Traffic) (step : IsInjected s d m nodes traffic nexts after)
      (world : IsWorld job.schedule.plan job.inputs nexts after) where
    abbrev u : WorldState
    u = state_of job nexts after

    pub fields_injected : AreFields job nexts after
    fields_injected = record {
      ranks = ap (λ (x : Setting). x.ranks) step.setting ∙ fields.ranks;
      spare = subst (λ (x : Setting). x.spare < 2 ^ 32) (sym step.setting) fields.spare;
      world = world;
    }

    pub put_behind : scene_in u ≡ injected s d m (scene_in w)
    put_behind = subst (λ n. scene_of n nexts after.lanes ≡ injected s d m (scene_of n nodes traffic.lanes)) fields.ranks step.scene

    pub later_injected : IsLater w u
    later_injected = record {
      schedule = refl;
      inputs = refl;
      window = ap (λ (x : Setting). x.window) step.setting;
      spare = ap (λ (x : Setting). x.spare) step.setting;
      begins = λ r. subst (λ (z : Scene). IsPrefixOf (histories_in w r) (z.world r)) (sym put_behind) ((same_world w).begins r);
      slots = subst (λ n. (slots : ℕ → Slots) → AgreeAll n slots nexts → AgreeAll n slots nodes) fields.ranks step.slots;
    }

    pub strays_injected : u.strays ≡ w.strays - 1
    strays_injected = ap (λ (x : Setting). x.strays) step.setting

  -- ---- by the nodes that a call was given, and those that it left
  module _ (held : List NodeState) (same : held ≡ nodes) where
    pub lent_world : IsWorld job.schedule.plan job.inputs held traffic
    lent_world = subst (λ ns. IsWorld job.schedule.plan job.inputs ns traffic) (sym same) fields.world

    pub lent_allowed : (x : Step) → Allows nodes traffic x → Allows held traffic x
    lent_allowed x a = subst (λ ns. Allows ns traffic x) (sym same) a

    pub lent_step : (x : Step) (new nexts : List NodeState) (after : Traffic) → nexts ≡ new
        → IsStepped job.schedule.plan job.inputs x held traffic new after → IsStepped job.schedule.plan job.inputs x nodes traffic nexts
        after
    lent_step x new nexts after e step =
        subst (λ ns. IsStepped job.schedule.plan job.inputs x ns traffic nexts after) same
        (subst (λ ns. IsStepped job.schedule.plan job.inputs x held traffic ns after) (sym e) step)

    pub lent_put : (s d : ℕ) (m : Sent) (new nexts : List NodeState) (after : Traffic) → nexts ≡ new
        → IsInjected s d m held traffic new after → IsInjected s d m nodes traffic nexts after
    lent_put s d m new nexts after e step =
        subst (λ ns. IsInjected s d m ns traffic nexts after) same
        (subst (λ ns. IsInjected s d m held traffic ns after) (sym e) step)
