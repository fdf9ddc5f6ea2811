-- What a rank of a plan takes of an interface (Portals 4.3, network interface limits), and how many messages it exchanges.
use Rattle.std.specs.Prelude.{ℕ, ◌==◌, List, if◌then◌else◌, map, sum_by}
use Rattle.ptl_types.specs.declared.headers.Lane.TheVariants.{Request}
use Rattle.number_lists.specs.Numbers.{from_to}
use Rattle.plan_core.specs.Plan.{Plan, link}
use Rattle.plan_core.specs.calls.Areas.{links_to}
use Rattle.plan_core.specs.calls.Lanes.{lane_messages}
use Rattle.plan_tables.specs.Installed.{installed}
use Rattle.plan_words.specs.declared.takes.Takes.{Takes}

-- the messages that go from one rank to another; not those that a rank sends to itself
abbrev pub to_other : Plan → ℕ → ℕ → ℕ
to_other p s d = if s == d then 0 else lane_messages p s d Request

-- the limits of its interface and its region as they are installed, the bytes of all messages that come to it, which may lie there
-- before its start, and the messages on its request lanes
abbrev pub takes_of : Plan → ℕ → Takes
takes_of p r = record {
  triggered = (installed p r).limits.triggered;
  counting = (installed p r).limits.cts;
  entries = (installed p r).limits.entries;
  headers = (installed p r).limits.unexpected;
  early = sum_by (λ l. (link p l).length) (links_to p r);
  descriptors = (installed p r).limits.mds;
  region = (installed p r).region;
  longest = (installed p r).limits.msg;
  sent = sum_by (to_other p r) (from_to 0 p.ranks);
  received = sum_by (λ s. to_other p s r) (from_to 0 p.ranks);
  own = lane_messages p r r Request;
}

-- of each rank
abbrev pub all_takes : Plan → List Takes
all_takes p = map (takes_of p) (from_to 0 p.ranks)
