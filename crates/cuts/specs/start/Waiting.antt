-- The interface of a rank that hasn't started, in closed form: these messages of its links came, and lie in the areas.
use Rattle.std.specs.Prelude.{ℕ, Bool, ◌==◌, ◌+◌, ◌-◌, ◌*◌, ◌^◌, List, Option, Some, None, [], ◌∷◌, ◌++◌, if◌then◌else◌, length, map}
use Rattle.std.specs.Prelude.{filter, flat_map, sum_by}
use Rattle.ptl_types.specs.declared.handles.Handle.{Handle}
use Rattle.ptl_types.specs.declared.elements.AtomicOp.{AtomicOp}
use Rattle.ptl_types.specs.declared.elements.ElemType.{ElemType}
use Rattle.ptl_types.specs.declared.entries.TheConstants.HiddenEntryEvents as hidden_entry_events
use Rattle.ptl_types.specs.Elements.{combined, starting}
use Rattle.ni_model.specs.declared.Linked.{Linked}
use Rattle.ni_model.specs.declared.IndexedHeader.{IndexedHeader}
use Rattle.ni_model.specs.Headers.{unexpected_list}
use Rattle.ni_model.specs.Tables.{handle}
use Rattle.ni_model.specs.State.{State}
use Rattle.plan_core.specs.Plan.{Plan, cell, link}
use Rattle.plan_core.specs.Places.{place_in}
use Rattle.plan_core.specs.Values.{Inputs}
use Rattle.cuts.specs.machine.Seen.{Came, Seen}
use Rattle.cuts.specs.view.View.{Annex, view}
use Rattle.cuts.specs.view.Slots.{Slots}
use Rattle.plan_core.specs.calls.Bits.{bits_above}
use Rattle.cuts.specs.view.TriggeredOps.{link_header}
use Rattle.cuts.specs.view.Calls.{area_entry}
use Rattle.plan_core.specs.calls.Areas.{area_length, area_start, areas_length, blank_area, classes, link_class, links_to}

-- a message that came early: what it brought, who sent it, and where it lies
pub record Early : Type 0 where
  pub came : Came
  pub slots : Slots  -- of its sender
  pub entry : Handle
  pub place : ℕ

-- its header; the area hides no event
abbrev pub arrived_of : Plan → Early → IndexedHeader
arrived_of p x = record {
  pt = 0;
  header = record { entry = x.entry; place = x.place; delivered = (link p x.came.link).length; header = link_header p x.slots x.came.link };
  hidden = hidden_entry_events.NONE;
}

-- what lies in the area: an atomic came upon starting values
abbrev pub stored_as : Option AtomicOp → ElemType → List ℕ → List ℕ
stored_as None ty bytes = bytes
stored_as (Some o) ty bytes = combined o ty (starting o ty (length bytes)) bytes

-- of a message of the plan
abbrev pub stored : Plan → Came → List ℕ
stored p a = stored_as (cell p (link p a.link).target).op (cell p (link p a.link).target).ty a.bytes

-- ---- the areas after these messages

-- it is of the class
abbrev pub came_class : Plan → ℕ → Came → Bool
came_class p k a = link_class p a.link == k

-- those of the class, in order
abbrev pub of_class : Plan → ℕ → List Came → List Came
of_class p k early = filter (came_class p k) early

-- how many bytes of the area they fill
abbrev pub filled : Plan → ℕ → List Came → ℕ
filled p k early = sum_by (λ a. (link p a.link).length) (of_class p k early)

-- the bytes of the area
abbrev pub area : Plan → ℕ → List Came → ℕ → List ℕ
area p r early k = flat_map (stored p) (of_class p k early) ++ blank_area k (area_length p r k - filled p k early)

-- its entry's handle, and the entry as it is linked
abbrev pub area_me : Plan → Slots → ℕ → ℕ → Handle
area_me p s r k = handle (s.me (place_in (classes p r) k)) (place_in (classes p r) k)

abbrev pub area_linked : Plan → Slots → ℕ → List Came → ℕ → Linked
area_linked p s r early k = record {
  handle = area_me p s r k;
  running = filled p k early;
  entry = area_entry (area_start p r k) (area_length p r k) (bits_above k 0 * 2 ^ 16) (2 ^ 40 - 1);
}

-- what the interface has beside its cells
abbrev pub annex_of : Plan → Slots → ℕ → List Came → Annex
annex_of p s r early = record {
  tail = flat_map (area p r early) (classes p r);
  after = areas_length p r;
  before = map (area_linked p s r early) (classes p r);
  unexpected = length (links_to p r);
}

-- the message a, after those in front
abbrev pub early_of : Plan → Slots → ℕ → (ℕ → Slots) → List Came → Came → Early
early_of p s r senders front a = record {
  came = a;
  slots = senders (cell p (link p a.link).source).rank;
  entry = area_me p s r (link_class p a.link);
  place = if (link p a.link).length == 0 then 0 else area_start p r (link_class p a.link) + filled p (link_class p a.link) front;
}

-- messages, after those in front
abbrev pub early_from : Plan → Slots → ℕ → (ℕ → Slots) → List Came → List Came → List Early
early_from p s r senders front [] = []
early_from p s r senders front (a ∷ later) = early_of p s r senders front a ∷ early_from p s r senders (front ++ a ∷ []) later

-- all of them
abbrev pub early_all : Plan → Slots → ℕ → (ℕ → Slots) → List Came → List Early
early_all p s r senders early = early_from p s r senders [] early

-- the interface of rank r that has appended the entries of some of its cells, with these headers left
abbrev pub partly : Annex → Plan → Inputs → Slots → ℕ → Seen → List Early → List Linked → ℕ → State
partly annex p inputs s r g xs entries stamps = record (view annex p inputs s r g) {
  headers = unexpected_list (map (arrived_of p) xs) annex.unexpected;
  indices = Some (record { eq = None; priority = entries; overflow = annex.before }) ∷ [];
  entries_given = stamps;
}

-- that has appended none
abbrev pub waiting_view : Plan → Inputs → Slots → ℕ → (ℕ → Slots) → List Came → Seen → State
waiting_view p inputs s r senders early g =
    partly (annex_of p s r early) p inputs s r g (early_all p s r senders early) [] (length (annex_of p s r early).before)

-- ---- and what it has seen once these landed

-- what came, as the machine takes it
abbrev pub early_came : Early → Came
early_came x = x.came

-- after what came before
abbrev pub took : Seen → List Came → Seen
took g arrived = record g { came = g.came ++ arrived }
