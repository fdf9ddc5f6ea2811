-- Events are told and counters counted on under renamed handles, and what stands at a portal table index.
use Rattle.std.proofs.Common.{◌≡◌, Bool, true, false, Option, Some, None, option_map, refl}
use Rattle.ptl_types.specs.declared.handles.Handle.{Handle}
use Rattle.ptl_types.specs.declared.handles.Count.{Count}
use Rattle.ptl_types.specs.declared.entries.HiddenEntryEvents.{HiddenEntryEvents}
use Rattle.ptl_types.specs.declared.entries.HiddenDescriptorEvents.{HiddenDescriptorEvents}
use Rattle.ptl_types.specs.declared.events.Event.{Event}
use Rattle.ni_model.specs.Tables.{Table}
use Rattle.ni_model.specs.Counts.{bump, counted}
use Rattle.ni_model.specs.Queues.{Waiting, add_event, raised}
use Rattle.ni_model.specs.Shown.{descriptor_shows, entry_shows, told_of_descriptor, told_of_entry, where_shown}
use Rattle.slot_laws.specs.Renaming.{KeepsApart}
use Rattle.slot_laws.specs.Renamed.{renamed_things}
use Rattle.slot_laws.proofs.Base.{changed_renamed}

-- ---- events and counts

pub raised_renamed : (f : Handle → Handle) → KeepsApart f → (eq : Option Handle) (e : Event) (t : Table Waiting) →
    raised (option_map f eq) e (renamed_things f t) ≡ renamed_things f (raised eq e t)
raised_renamed f k None e t = refl
raised_renamed f k (Some h) e t = changed_renamed f (λ x. x) (add_event e) (add_event e) k (λ x. refl) h t

pub where_shown_renamed : (f : Handle → Handle) (shown : Bool) (eq : Option Handle) →
    where_shown shown (option_map f eq) ≡ option_map f (where_shown shown eq)
where_shown_renamed f shown None = refl
where_shown_renamed f true (Some h) = refl
where_shown_renamed f false (Some h) = refl

pub told_of_entry_renamed : (f : Handle → Handle) → KeepsApart f → (o : HiddenEntryEvents) (eq : Option Handle) (e : Event)
    (t : Table Waiting) → told_of_entry o (option_map f eq) e (renamed_things f t) ≡ renamed_things f (told_of_entry o eq e t)
told_of_entry_renamed f k o eq e t =
    rw (where_shown_renamed f (entry_shows o e) eq) (raised_renamed f k (where_shown (entry_shows o e) eq) e t)

pub told_of_descriptor_renamed : (f : Handle → Handle) → KeepsApart f → (o : HiddenDescriptorEvents) (eq : Option Handle) (e : Event)
    (t : Table Waiting) → told_of_descriptor o (option_map f eq) e (renamed_things f t) ≡ renamed_things f (told_of_descriptor o eq e t)
told_of_descriptor_renamed f k o eq e t =
    rw (where_shown_renamed f (descriptor_shows o e) eq) (raised_renamed f k (where_shown (descriptor_shows o e) eq) e t)

pub counted_renamed : (f : Handle → Handle) → KeepsApart f → (o : Option Handle) (by : Count) (t : Table Count) →
    counted (option_map f o) by (renamed_things f t) ≡ renamed_things f (counted o by t)
counted_renamed f k None by t = refl
counted_renamed f k (Some h) by t = changed_renamed f (λ x. x) (bump by) (bump by) k (λ x. refl) h t
