-- The interface of a rank that has started, in closed form: the state in which these messages came and these operations were fired.
use Rattle.std.specs.Prelude.{ℕ, suc, not, ◌+◌, ◌-◌, ◌*◌, ◌^◌, List, Some, None, [], ◌∷◌, ◌++◌, length, map, filter, flat_map, min}
use Rattle.ptl_types.specs.declared.handles.Handle.{Handle}
use Rattle.ptl_types.specs.declared.handles.Count.{Count}
use Rattle.ptl_types.specs.declared.entries.Entry.{Entry}
use Rattle.ptl_types.specs.declared.entries.Descriptor.{Descriptor}
use Rattle.ptl_types.specs.declared.calls.Limits.{Limits}
use Rattle.ptl_types.specs.Handles.{top}
use Rattle.ni_model.specs.declared.Linked.{Linked}
use Rattle.ni_model.specs.declared.Bound.{Bound}
use Rattle.ni_model.specs.Tables.{Table, Live, handle, changed, no_things}
use Rattle.ni_model.specs.Counts.{successes, bump}
use Rattle.ni_model.specs.Headers.{unexpected_list}
use Rattle.ni_model.specs.State.{State}
use Rattle.plan_core.specs.Plan.{Plan, cell, own, out_links}
use Rattle.plan_core.specs.Values.{Inputs, initial}
use Rattle.plan_core.specs.Places.{start_in, place_in}
use Rattle.plan_core.specs.calls.Areas.{longest, region_length}
use Rattle.plan_core.specs.calls.Bits.{cell_bits}
use Rattle.plan_core.specs.calls.RankOps.{rank_ops}
use Rattle.cuts.specs.machine.Seen.{Seen, content, reached_count, was_fired}
use Rattle.cuts.specs.view.Slots.{Slots, done_ct, cell_ct, the_md}
use Rattle.cuts.specs.view.TriggeredOps.{operation}
use Rattle.cuts.specs.view.Calls.{cell_entry as entry_with, whole_region}

-- what an interface has beside its cells: the bytes after them in the region, the overflow entries, which were appended before
-- theirs, and the room for headers
pub record Annex : Type 0 where
  pub tail : List ℕ
  pub after : ℕ  -- the length of the tail
  pub before : List Linked
  pub unexpected : ℕ

-- the stamp of the entry of cell c: those before it came first
abbrev pub me_stamp : Annex → Plan → ℕ → ℕ
me_stamp annex p c = length annex.before + place_in (own p (cell p c).rank) c

-- the handle of the entry of cell c
abbrev pub cell_me : Annex → Plan → Slots → ℕ → Handle
cell_me annex p s c = handle (s.me (me_stamp annex p c)) (me_stamp annex p c)

-- the match entry of cell c: its part, its counter, its class and number, whoever sends
abbrev pub cell_entry : Plan → Slots → ℕ → Entry
cell_entry p s c =
    entry_with (cell_ct p s c) (start_in p (own p (cell p c).rank) c) (cell p c).length (cell_bits p c * 2 ^ 16) (2 ^ 16 - 1)

-- as it is linked
abbrev pub entry_of : Annex → Plan → Slots → ℕ → Linked
entry_of annex p s c = record { handle = cell_me annex p s c; running = 0; entry = cell_entry p s c }

-- the limits that the interface was opened with
abbrev pub limits_of : Annex → Plan → ℕ → Limits
limits_of annex p r = record {
  entries = length annex.before + length (own p r);
  unexpected = annex.unexpected;
  mds = 1;
  cts = length (own p r) + 1;
  eqs = 0;
  pts = 1;
  triggered = length (out_links p r) + length (own p r);
  msg = longest p (out_links p r);
  atomic = longest p (out_links p r);
  fetch_atomic = 0;
}

-- the whole region
abbrev pub descriptor_of : Annex → Plan → Slots → ℕ → Descriptor
descriptor_of annex p s r = whole_region (done_ct s) (region_length p r + annex.after) p.remote

-- the counting event of cell c
abbrev pub counter_of : Plan → Slots → ℕ → Seen → ℕ → Live Count
counter_of p s r g c = record { handle = cell_ct p s c; value = successes (min (reached_count p g r c) top) }

-- the one descriptor, which awaits n answers
abbrev pub md_of : Annex → Plan → Slots → ℕ → ℕ → Bound
md_of annex p s r n = record { md = descriptor_of annex p s r; awaits = n }

-- the table of descriptors
abbrev pub mds_of : Annex → Plan → Slots → ℕ → ℕ → Table Bound
mds_of annex p s r n = record { live = record { handle = the_md s; value = md_of annex p s r n } ∷ []; given = 1; limit = 1 }

-- the interface of rank r after it has seen g
abbrev pub view : Annex → Plan → Inputs → Slots → ℕ → Seen → State
view annex p inputs s r g = record {
  rank = r;
  ranks = p.ranks;
  limits = limits_of annex p r;
  memory = flat_map (λ c. content p g.came c (initial p inputs c)) (own p r) ++ annex.tail;
  indices = Some (record { eq = None; priority = map (entry_of annex p s) (own p r); overflow = annex.before }) ∷ [];
  entries_given = length annex.before + length (own p r);
  headers = unexpected_list [] annex.unexpected;
  cts = record {
    live = record { handle = done_ct s; value = g.done } ∷ map (counter_of p s r g) (own p r);
    given = suc (length (own p r));
    limit = length (own p r) + 1;
  };
  eqs = no_things 0;
  mds = mds_of annex p s r g.awaits;
  pending = record {
    waiting = map (operation p s r) (filter (λ w. not (was_fired g.fired w)) (rank_ops p r));
    given = length (rank_ops p r);
    limit = length (out_links p r) + length (own p r);
  };
  drops = min g.strays top;
  violations = 0;
}

-- the start of a rank whose entries are there: its go counter rises by one, as far as it can
abbrev pub raise_go : Handle → State → State
raise_go go s = record s { cts = changed go (bump (successes 1)) s.cts }
