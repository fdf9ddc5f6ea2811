-- Which events the options of a match entry or a memory descriptor hide (Portals 4.3, options of match list entries and of memory
-- descriptors). An event that is hidden is never raised: no queue has it, and none loses it. What is counted looks at no option. Which of
-- this profile's events each option hides is its own.
use Rattle.std.specs.Prelude.{Bool, false, ◌&&◌, ◌||◌, not, Option, Some, None, if◌then◌else◌}
use Rattle.ptl_types.specs.declared.handles.Handle.{Handle}
use Rattle.ptl_types.specs.declared.entries.HiddenEntryEvents.{HiddenEntryEvents}
use Rattle.ptl_types.specs.declared.entries.HiddenDescriptorEvents.{HiddenDescriptorEvents}
use Rattle.ptl_types.specs.declared.events.Event.{Event}
use Rattle.ptl_types.specs.declared.events.EventKind.{EventKind}
use Rattle.ptl_types.specs.declared.events.EventKind.TheVariants.{Put, Get, Atomic, FetchAtomic, PutOverflow, AtomicOverflow, Link}
use Rattle.ptl_types.specs.declared.events.EventKind.TheVariants.{AutoUnlink, AutoFree, Send}
use Rattle.ni_model.specs.Tables.{Table}
use Rattle.ni_model.specs.Queues.{Waiting, raised}

-- the kinds of event of an entry that an option names
abbrev pub entry_hides : HiddenEntryEvents → EventKind → Bool
entry_hides o Link = o.link
entry_hides o AutoUnlink = o.unlink
entry_hides o AutoFree = o.unlink
entry_hides o Put = o.comm
entry_hides o Get = o.comm
entry_hides o Atomic = o.comm
entry_hides o FetchAtomic = o.comm
entry_hides o PutOverflow = o.overflow
entry_hides o AtomicOverflow = o.overflow
entry_hides o _ = false

-- and each event that is ok, where successes are hidden
abbrev pub entry_shows : HiddenEntryEvents → Event → Bool
entry_shows o e = not (entry_hides o e.kind || (o.success && e.ok))

-- the kinds of event of a descriptor that an option names
abbrev pub descriptor_hides : HiddenDescriptorEvents → EventKind → Bool
descriptor_hides o Send = o.send
descriptor_hides o _ = false

-- and each event that is ok, where successes are hidden
abbrev pub descriptor_shows : HiddenDescriptorEvents → Event → Bool
descriptor_shows o e = not (descriptor_hides o e.kind || (o.success && e.ok))

-- the queue that is named, if any, for an event that is shown
abbrev pub where_shown : Bool → Option Handle → Option Handle
where_shown shown None = None
where_shown shown (Some eq) = if shown then Some eq else None

-- the queue that is named, if any, gets the event of an entry, where the entry's options show it
abbrev pub told_of_entry : HiddenEntryEvents → Option Handle → Event → Table Waiting → Table Waiting
told_of_entry o eq e t = raised (where_shown (entry_shows o e) eq) e t

-- of a descriptor, likewise
abbrev pub told_of_descriptor : HiddenDescriptorEvents → Option Handle → Event → Table Waiting → Table Waiting
told_of_descriptor o eq e t = raised (where_shown (descriptor_shows o e) eq) e t
