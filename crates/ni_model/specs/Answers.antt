-- What an acknowledgement or a reply does where it comes home (Portals 4.3, acknowledgements and replies). Which answer is due, and
-- what is counted and told of it, is this profile's own.
use Rattle.std.specs.Prelude.{ℕ, Bool, false, [], ◌∷◌, ◌&&◌, ◌||◌, not, nat_lt, nat_le, ◌+◌, ◌-◌, List, Option, Some, None, if◌then◌else◌}
use Rattle.ptl_types.specs.declared.handles.Handle.{Handle}
use Rattle.ptl_types.specs.declared.handles.Count.{Count}
use Rattle.ptl_types.specs.declared.headers.Header.{Header}
use Rattle.ptl_types.specs.declared.calls.Outcome.{Outcome}
use Rattle.ptl_types.specs.declared.calls.Outcome.TheVariants.{Answered, Dropped}
use Rattle.ptl_types.specs.Elements.{written}
use Rattle.ptl_types.specs.Messages.{Sent}
use Rattle.ni_model.specs.declared.Bound.{Bound}
use Rattle.ni_model.specs.Tables.{Table, Live, lookup, changed, where_set}
use Rattle.ni_model.specs.Counts.{successes, failures, counted}
use Rattle.ni_model.specs.Queues.{Waiting}
use Rattle.ni_model.specs.Events.{is_reply, asks_event, answer_event}
use Rattle.ni_model.specs.Shown.{told_of_descriptor}

-- what an initiator has, and what is handed to it
pub record Home : Type 0 where
  pub mds : Table Bound
  pub region : List ℕ
  pub cts : Table Count
  pub eqs : Table Waiting

-- these four together
abbrev pub home : Table Bound → List ℕ → Table Count → Table Waiting → Home
home mds region cts eqs = record { mds = mds; region = region; cts = cts; eqs = eqs }

-- what is left after an answer: the parts, the outcome, and the counting event that rose
pub record Returned : Type 0 where
  pub home : Home
  pub outcome : Outcome
  pub counted : Option Handle

-- the live descriptor that the message names
abbrev pub bound_at : Option Handle → Table Bound → Option Bound
bound_at None mds = None
bound_at (Some h) mds = lookup h mds.live

-- it awaits an answer, and the bytes of a reply that is ok fit it
abbrev pub is_due : Header → Bound → Bool
is_due h b = nat_lt 0 b.awaits && (not (is_reply h.kind && h.ok) || nat_le (h.home_offset + h.length) b.md.length)

-- a reply that is ok writes its bytes where the operation said
abbrev pub memory_home : Bound → Sent → List ℕ → List ℕ
memory_home b m memory =
    if is_reply m.header.kind && m.header.ok then written (b.md.start + m.header.home_offset) m.bytes memory else memory

-- a failure where the answer isn't ok
abbrev pub one_answer : Bool → Count
one_answer ok = if ok then successes 1 else failures 1

-- the counting event of the descriptor, where it counts answers of this kind
abbrev pub counter_home : Header → Bound → Option Handle
counter_home h b = where_set (if is_reply h.kind then b.md.count_reply else b.md.count_ack) b.md.ct

-- an acknowledgement is told as an event only where one was asked for, and an answer where the descriptor shows it
abbrev pub events_home : Header → Bound → Table Waiting → Table Waiting
events_home h b eqs =
    if is_reply h.kind || asks_event h.ack then told_of_descriptor b.md.hidden b.md.eq (answer_event b h) eqs else eqs

-- one answer fewer is awaited
abbrev pub one_less : Bound → Bound
one_less b = record b { awaits = b.awaits - 1 }

-- at the descriptor that the message names
abbrev pub awaits_less : Option Handle → Table Bound → Table Bound
awaits_less None mds = mds
awaits_less (Some h) mds = changed h one_less mds

-- an answer that is due: memory, count, event, and one answer fewer to come
abbrev pub came_home : Home → Sent → Bound → Returned
came_home p m b = record {
  home =
      home (awaits_less m.header.home p.mds) (memory_home b m p.region) (counted (counter_home m.header b) (one_answer m.header.ok) p.cts)
      (events_home m.header b p.eqs);
  outcome = Answered;
  counted = counter_home m.header b;
}

-- an answer that isn't due changes nothing here
abbrev pub lost_answer : Home → Returned
lost_answer p = record { home = p; outcome = Dropped; counted = None }

-- by the descriptor that it names, if any
abbrev pub answered_at : Home → Sent → Option Bound → Returned
answered_at p m None = lost_answer p
answered_at p m (Some b) = if is_due m.header b then came_home p m b else lost_answer p

-- an acknowledgement or a reply at the initiator
unfoldable pub answered : Home → Sent → Returned
answered p m = answered_at p m (bound_at m.header.home p.mds)

-- some live descriptor awaits an answer
abbrev pub is_awaited : List (Live Bound) → Bool
is_awaited [] = false
is_awaited (x ∷ xs) = nat_lt 0 x.value.awaits || is_awaited xs
