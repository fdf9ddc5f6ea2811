-- What a request, an append and a search leave of what an interface keeps.
use Rattle.std.proofs.Common.{◌≡◌, ℕ, ◌+◌, ◌≤◌, ◌&&◌, Bool, true, false, List, [], ◌∷◌, Option, Some, None, length, if◌then◌else◌, refl}
use Rattle.std.specs.Prelude.{All}
use Rattle.ptl_types.specs.declared.handles.Handle.{Handle}
use Rattle.ptl_types.specs.declared.entries.Entry.{Entry}
use Rattle.ptl_types.specs.declared.entries.List.{List as EntryList}
use Rattle.ptl_types.specs.declared.entries.List.TheVariants.{Priority, Overflow}
use Rattle.ptl_types.specs.declared.calls.Outcome.TheVariants.{Dropped, Violation}
use Rattle.ptl_types.specs.Messages.{Sent}
use Rattle.ni_model.specs.declared.Found.{Found}
use Rattle.ni_model.specs.declared.IndexedHeader.{IndexedHeader}
use Rattle.ni_model.specs.Counts.{successes}
use Rattle.ni_model.specs.Headers.{allows, no_room, oldest, found_in}
use Rattle.ni_model.specs.Arrive.{Parts, Received, received, refused, request, judged, accepted, chosen, is_overflow, counter_of}
use Rattle.ni_model.specs.Append.{Appends, append, append_once, linked_as, take_all, overflow_counter, counted_by, fresh, next_handle}
use Rattle.ni_model.specs.Append.{search, searched_at, found_header}
use Rattle.ni_model.specs.Conditions.{IsPartIn, HasPartsIn}
use Rattle.target_engine.proofs.Within.{chosen-within}
use Rattle.portals_ni.proofs.Counts.{ChangesAt, changes-none, changes-counted, changes-each}
use Rattle.portals_ni.proofs.Parts.{length-memory, indices-parts, append-parts}

-- the target's parts before and after: the region keeps its length, the entries' parts lie in it, the rank and the limit
-- stay, and no counting event changed but the one that is told
pub record Keeps (p q : Parts) (ct : Option Handle) : Type 0 where
  pub size : length q.region ≡ length p.region
  pub parts : All (HasPartsIn (length p.region)) q.side.indices
  pub rank : q.side.rank ≡ p.side.rank
  pub limit : q.side.limit ≡ p.side.limit
  pub counts : ChangesAt ct p.cts q.cts

pub keeps-same : (p : Parts) (ct : Option Handle) → All (HasPartsIn (length p.region)) p.side.indices → Keeps p p ct
keeps-same p ct all = record { size = refl; parts = all; rank = refl; limit = refl; counts = changes-none ct p.cts }

-- ---- a request

abbrev pub RequestKeeps : Parts → Received → Type 0
RequestKeeps p r = Keeps p r.parts r.arrived.counted

accepted-keeps : (p : Parts) (m : Sent) (f : Found) → All (HasPartsIn (length p.region)) p.side.indices →
    IsPartIn (length p.region) f.linked → RequestKeeps p (accepted p m f)
accepted-keeps p m f all part = record {
  size = length-memory f.linked m p.region part;
  parts = indices-parts (length p.region) f m.header p.side.indices all;
  rank = refl;
  limit = refl;
  counts = changes-counted (counter_of f.linked) (successes 1) p.cts;
}

either : {D : Type 0} (P : D → Type 0) (b : Bool) (x y : D) → P x → P y → P (if b then x else y)
either P true x y px py = px
either P false x y px py = py

judged-keeps : (p : Parts) (m : Sent) (o : Option Found) → All (HasPartsIn (length p.region)) p.side.indices →
    ((f : Found) → o ≡ Some f → IsPartIn (length p.region) f.linked) → RequestKeeps p (judged p m o)
judged-keeps p m None all part = keeps-same p None all
judged-keeps p m (Some f) all part =
    either (RequestKeeps p) (allows f.linked.entry m.header.kind)
    (if is_overflow f.list && no_room p.side.headers then received p (refused Dropped m.header) else accepted p m f)
    (received p (refused Violation m.header))
    (either (RequestKeeps p) (is_overflow f.list && no_room p.side.headers) (received p (refused Dropped m.header)) (accepted p m f)
    (keeps-same p None all) (accepted-keeps p m f all (part f refl)))
    (keeps-same p None all)

pub request-keeps : (p : Parts) (m : Sent) → All (HasPartsIn (length p.region)) p.side.indices → RequestKeeps p (request p m)
unfolding request
request-keeps p m all = judged-keeps p m (chosen m.header p.side.indices) all
    (λ f e. chosen-within (length p.region) m.header p.side.indices f all e)

-- ---- an append

abbrev pub AppendKeeps : Parts → Appends → Type 0
AppendKeeps p a = Keeps p a.parts a.counted

linked-keeps : (slot pt : ℕ) (list : EntryList) (e : Entry) (p : Parts) (found : List IndexedHeader) →
    All (HasPartsIn (length p.region)) p.side.indices → e.start + e.length ≤ length p.region →
    AppendKeeps p (linked_as slot pt list e found p)
linked-keeps slot pt list e p found all part = record {
  size = refl;
  parts = append-parts (length p.region) pt list (fresh (next_handle slot p.side) e) p.side.indices part all;
  rank = refl;
  limit = refl;
  counts = changes-none (counted_by e found) p.cts;
}

taken-keeps : (slot pt : ℕ) (e : Entry) (p : Parts) (found : List IndexedHeader) → found ≡ found_in pt e p.side.headers.unexpected →
    All (HasPartsIn (length p.region)) p.side.indices → e.start + e.length ≤ length p.region →
    AppendKeeps p (linked_as slot pt Priority e found (take_all pt e p))
taken-keeps slot pt e p [] is all part = record {
  size = refl;
  parts = append-parts (length p.region) pt Priority (fresh (next_handle slot p.side) e) p.side.indices part all;
  rank = refl;
  limit = refl;
  counts = rw (← is) (changes-none None p.cts);
}
taken-keeps slot pt e p (a ∷ hs) is all part = record {
  size = refl;
  parts = append-parts (length p.region) pt Priority (fresh (next_handle slot p.side) e) p.side.indices part all;
  rank = refl;
  limit = refl;
  counts = rw (← is) (changes-each (overflow_counter e) (a ∷ hs) p.cts);
}

once-keeps : (slot pt : ℕ) (e : Entry) (p : Parts) (o : Option IndexedHeader) → All (HasPartsIn (length p.region)) p.side.indices →
    e.start + e.length ≤ length p.region → AppendKeeps p (append_once slot pt e p o)
once-keeps slot pt e p None all part = linked-keeps slot pt Priority e p [] all part
once-keeps slot pt e p (Some a) all part = record {
  size = refl;
  parts = all;
  rank = refl;
  limit = refl;
  counts = changes-counted (overflow_counter e) (successes 1) p.cts;
}

pub append-keeps : (slot pt : ℕ) (list : EntryList) (e : Entry) (p : Parts) → All (HasPartsIn (length p.region)) p.side.indices →
    e.start + e.length ≤ length p.region → AppendKeeps p (append slot pt list e p)
unfolding append
append-keeps slot pt Priority e p all part =
    either (AppendKeeps p) e.use_once (append_once slot pt e p (oldest pt e p.side.headers.unexpected))
    (linked_as slot pt Priority e (found_in pt e p.side.headers.unexpected) (take_all pt e p))
    (once-keeps slot pt e p (oldest pt e p.side.headers.unexpected) all part)
    (taken-keeps slot pt e p (found_in pt e p.side.headers.unexpected) refl all part)
append-keeps slot pt Overflow e p all part = linked-keeps slot pt Overflow e p [] all part

-- ---- a search

found-keeps : (pt : ℕ) (e : Entry) (delete : Bool) (a : IndexedHeader) (p : Parts) → All (HasPartsIn (length p.region)) p.side.indices →
    Keeps p (found_header pt e delete a p) None
found-keeps pt e true a p all = record { size = refl; parts = all; rank = refl; limit = refl; counts = changes-none None p.cts }
found-keeps pt e false a p all = record { size = refl; parts = all; rank = refl; limit = refl; counts = changes-none None p.cts }

searched-keeps : (pt : ℕ) (e : Entry) (delete : Bool) (p : Parts) (o : Option IndexedHeader) →
    All (HasPartsIn (length p.region)) p.side.indices → Keeps p (searched_at pt e delete p o).parts None
searched-keeps pt e delete p None all = record { size = refl; parts = all; rank = refl; limit = refl; counts = changes-none None p.cts }
searched-keeps pt e delete p (Some a) all = found-keeps pt e delete a p all

pub search-keeps : (pt : ℕ) (e : Entry) (delete : Bool) (p : Parts) → All (HasPartsIn (length p.region)) p.side.indices →
    Keeps p (search pt e delete p).parts None
unfolding search
search-keeps pt e delete p all = searched-keeps pt e delete p (oldest pt e p.side.headers.unexpected) all
