-- What the fields of a world keep is what is said of it.
use Rattle.std.proofs.Common.{ℕ, ◌+◌, ◌*◌, ◌<◌, ◌≡◌, ◌∙◌, List, Some, sym, ap, subst, arith, length, get_or, sum, take}
use Rattle.std.specs.List.{slice_get}
use Rattle.pair_wires.specs.Lanes.{Plain}
use Rattle.plan_core.specs.Plan.{Plan}
use Rattle.plan_core.specs.Values.{Inputs}
use Rattle.cuts.specs.view.Slots.{Slots}
use Rattle.cuts.specs.histories.Plans.{system_of}
use Rattle.cuts.specs.histories.System.{System}
use Rattle.worlds.proofs.parts.Delivers.{rank-state}
use Rattle.cuts.specs.orders.Chosen.{Scene, start_at}
use Rattle.cuts.specs.declared.orders.Step.{Step}
use Rattle.cuts.specs.declared.orders.Step.TheVariants.{Deliver, Fire, Start}
use Rattle.cuts.specs.windows.Places.{counts, delivery_at, fires_at, destination_at, kind_at, source_at}
use Rattle.cuts.specs.windows.Possible.{possible_steps}
use Rattle.rank_node.specs.Gates.{open_numbers}
use Rattle.rank_node.specs.Node.{NodeState}
use Rattle.schedule_compiler.specs.Jobs.{JobOf}
use Rattle.worlds.specs.parts.Keeps.{AgreeAll, IsWorld}
use Rattle.worlds.specs.declared.parts.traffic.Traffic.{Traffic}
use Rattle.worlds.specs.parts.Layout.{node_at, scene_of}
use Rattle.worlds.specs.Standing.{AreFields, IsStanding}
use Rattle.worlds.specs.World.{AreSlots, state_of, steps_in}
use Rattle.worlds.proofs.Numbered.{delivery_numbered, firing_numbered, start_numbered, total_of}
use Rattle.worlds.proofs.Places.{deliveries_are, fires_are, firings_are, rank_is, starts_are}

-- ---- the step of a number
module _ (p : Plan) (inputs : Inputs) (nodes : List NodeState) (traffic : Traffic)
    (world : IsWorld p inputs nodes traffic) (slots : ℕ → Slots)
    (agree : AgreeAll traffic.setting.ranks slots nodes) where
  abbrev n : ℕ
  n = traffic.setting.ranks

  abbrev lanes : List Plain
  lanes = traffic.lanes

  abbrev starts : List ℕ
  starts = traffic.starts

  abbrev deliveries : List ℕ
  deliveries = traffic.deliveries

  abbrev firings : List ℕ
  firings = traffic.firings

  abbrev window : ℕ
  window = traffic.setting.window

  abbrev spare : ℕ
  spare = traffic.setting.spare

  abbrev ranks : System
  ranks = system_of p inputs slots

  abbrev z : Scene
  z = scene_of n nodes lanes

  abbrev steps : List Step
  steps = possible_steps ranks window z

  starts_is : starts ≡ counts (start_at z) ranks.count
  starts_is = starts_are p inputs nodes traffic world slots agree

  deliveries_is : deliveries ≡ counts (delivery_at ranks window z) (2 * (ranks.count * ranks.count))
  deliveries_is = deliveries_are p inputs nodes traffic world slots agree

  firings_is : firings ≡ counts (fires_at ranks window z) ranks.count
  firings_is = firings_are p inputs nodes traffic world slots agree

  pub total : sum starts + (sum deliveries + sum firings) ≡ length steps
  total = total_of ranks z window starts deliveries firings starts_is deliveries_is firings_is

  pub start_found : (r rest i : ℕ) → r < length starts → sum (take r starts) + rest ≡ i → rest < get_or starts r 0 → i < sum starts
      → slice_get steps i ≡ Some (Start r)
  start_found = start_numbered ranks z window starts deliveries firings starts_is deliveries_is firings_is

  pub delivery_found : (j rest i : ℕ) → j < length deliveries → sum (take j deliveries) + rest ≡ i → rest < get_or deliveries j 0
      → i < sum deliveries
      → slice_get steps (sum starts + i) ≡ Some (Deliver (source_at n j) (destination_at n j) (kind_at j))
  delivery_found j rest i h before within small =
      delivery_numbered ranks z window starts deliveries firings starts_is deliveries_is firings_is j rest i h before within small
      ∙ ap (λ m. Some (Deliver (source_at m j) (destination_at m j) (kind_at j))) world.parts.count

  pub firing_found : (r rest i t : ℕ) → r < n → sum (take r firings) + rest ≡ i → rest < get_or firings r 0 → i < sum firings
      → slice_get (open_numbers (node_at nodes r).closed (node_at nodes r).nic) rest ≡ Some t
      → slice_get steps (sum starts + (sum deliveries + i)) ≡ Some (Fire r t)
  firing_found r rest i t h before within small number =
      let c = world.parts.count in
      firing_numbered ranks z window starts deliveries firings starts_is deliveries_is firings_is r rest i t
      (open_numbers (node_at nodes r).closed (node_at nodes r).nic)
      (fires_are p inputs nodes traffic world slots agree r h) (omega (arith, h, c)) before
      within small number

-- ---- the world

-- the same traffic, of so many ranks
abbrev pub of_ranks : ℕ → Traffic → Traffic
of_ranks m t = record t { setting = record t.setting { ranks = m } }

module _ (job : JobOf) (nodes : List NodeState) (traffic : Traffic) (fields : AreFields job nodes traffic) where
  -- by the plan's ranks
  pub world_is : IsWorld job.schedule.plan job.inputs nodes (of_ranks job.schedule.plan.ranks traffic)
  world_is = subst (λ m. IsWorld job.schedule.plan job.inputs nodes (of_ranks m traffic)) fields.ranks
      (record { parts = fields.world.parts; counted = fields.world.counted; stray = fields.world.stray })

  pub stands : IsStanding (state_of job nodes traffic)
  stands = record {
    sound = fields.world.parts.sound;
    fit = fields.world.parts.fit;
    some = fields.world.parts.some;
    size = world_is.parts.size;
    node = world_is.parts.node;
    nic = λ slots agree r h.
        rank-state job.schedule.plan job.inputs slots (scene_of job.schedule.plan.ranks nodes traffic.lanes) r (node_at nodes r)
        (rank_is job.schedule.plan job.inputs nodes (of_ranks job.schedule.plan.ranks traffic) world_is slots agree r h);
    moment = world_is.parts.moment;
    at_most = world_is.stray.at_most;
    spare = fields.spare;
  }

  pub number : (slots : ℕ → Slots) → AreSlots (state_of job nodes traffic) slots
      → sum traffic.starts + (sum traffic.deliveries + sum traffic.firings) ≡ length (steps_in (state_of job nodes traffic) slots)
  number slots agree = total job.schedule.plan job.inputs nodes (of_ranks job.schedule.plan.ranks traffic) world_is slots agree

  -- the step of a number, by the counts
  pub start_in : (slots : ℕ → Slots) → AreSlots (state_of job nodes traffic) slots → (r rest i : ℕ) → r < length traffic.starts
      → sum (take r traffic.starts) + rest ≡ i → rest < get_or traffic.starts r 0 → i < sum traffic.starts
      → slice_get (steps_in (state_of job nodes traffic) slots) i ≡ Some (Start r)
  start_in slots agree = start_found job.schedule.plan job.inputs nodes (of_ranks job.schedule.plan.ranks traffic) world_is slots agree

  pub delivery_in : (slots : ℕ → Slots) → AreSlots (state_of job nodes traffic) slots → (j rest i : ℕ) → j < length traffic.deliveries
      → sum (take j traffic.deliveries) + rest ≡ i → rest < get_or traffic.deliveries j 0 → i < sum traffic.deliveries
      → slice_get (steps_in (state_of job nodes traffic) slots) (sum traffic.starts + i) ≡ Some
      (Deliver (source_at traffic.setting.ranks j) (destination_at traffic.setting.ranks j) (kind_at j))
  delivery_in slots agree j rest i h before within small =
      delivery_found job.schedule.plan job.inputs nodes (of_ranks job.schedule.plan.ranks traffic) world_is slots agree j rest i h before
      within small
      ∙ ap (λ n. Some (Deliver (source_at n j) (destination_at n j) (kind_at j))) (sym fields.ranks)

  pub firing_in : (slots : ℕ → Slots) → AreSlots (state_of job nodes traffic) slots → (r rest i t : ℕ) → r < length traffic.firings
      → sum (take r traffic.firings) + rest ≡ i → rest < get_or traffic.firings r 0 → i < sum traffic.firings
      → slice_get (open_numbers (node_at nodes r).closed (node_at nodes r).nic) rest ≡ Some t
      → slice_get (steps_in (state_of job nodes traffic) slots) (sum traffic.starts + (sum traffic.deliveries + i)) ≡ Some (Fire r t)
  firing_in slots agree r rest i t h before within small number =
      let size = world_is.counted.wide_firings in
      firing_found job.schedule.plan job.inputs nodes (of_ranks job.schedule.plan.ranks traffic) world_is slots agree r rest i t
      (omega (arith, h, size)) before within small number

  -- a rank with firings has a node, which has as many ready
  pub firings_there : (r rest : ℕ) → r < length traffic.firings → rest < get_or traffic.firings r 0 → (r < length nodes)
      × (rest < length (open_numbers (node_at nodes r).closed (node_at nodes r).nic))
  firings_there r rest h within =
      let wide = fields.world.counted.wide_firings in
      let size = fields.world.parts.size in
      let right = fields.world.counted.of_firings r (omega (arith, h, wide)) in
      (omega (arith, h, wide, size), omega (arith, within, right))
