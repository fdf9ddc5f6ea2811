-- The calls: the words of each up to `->`, and what they say.
use Rattle.std.specs.Prelude.{ℕ, List, Option, Some, None, Result, Ok, Err, codes, if◌then◌else◌, unwrap_or}
use Rattle.std.specs.Str.{bytes_eq}
use Rattle.ptl_types.specs.declared.handles.Count.{Count}
use Rattle.ptl_types.specs.declared.calls.GetArgs.{GetArgs}
use Rattle.ptl_types.specs.declared.calls.TriggeredOp.{TriggeredOp}
use Rattle.ptl_types.specs.declared.calls.TriggeredOp.TheVariants as deeds
use Rattle.ptl_types.specs.declared.elements.AtomicOp.{AtomicOp}
use Rattle.ptl_types.specs.declared.elements.SwapOp.{SwapOp}
use Rattle.ptl_types.specs.declared.elements.ElemType.{ElemType}
use Rattle.log_words.specs.Words.{Word, Rest}
use Rattle.log_words.specs.Reading.{◌>>=◌, Taken, taken, next, name_next, amount_next, small_next, bytes_next, fields_next, flaw_at}
use Rattle.log_words.specs.declared.faults.Flaw.TheVariants.{BadCall, BadWord}
use Rattle.log_words.specs.declared.faults.LineFault.{LineFault}
use Rattle.log_words.specs.call_fields.Choices.{list_next, deletes_next, op_next, start_named, swap_next, type_next}
use Rattle.log_words.specs.call_fields.Fields.{set_entry, set_md, set_opening, set_queue, set_start}
use Rattle.log_words.specs.call_fields.Plain.{plain_entry, plain_md, plain_opening, plain_queue, plain_start}
use Rattle.log_words.specs.declared.call_fields.said.EntrySaid.{EntrySaid}
use Rattle.log_words.specs.declared.call_fields.said.StartName.{StartName}
use Rattle.log_words.specs.declared.call_fields.said.StartName.TheVariants as names
use Rattle.log_words.specs.declared.call_fields.said.StartSaid.{StartSaid}
use Rattle.log_words.specs.declared.call_fields.said.TheConstants.{NO_HANDLE}
use Rattle.log_lines.specs.declared.calls.TriggeredOpSaid.{TriggeredOpSaid}
use Rattle.log_lines.specs.declared.calls.Call.{Call}
use Rattle.log_lines.specs.declared.calls.Call.TheVariants as calls
use Rattle.log_lines.specs.declared.calls.NameCall.{NameCall}
use Rattle.log_lines.specs.declared.calls.NameCall.TheVariants as of_name
use Rattle.log_lines.specs.declared.calls.NumberCall.{NumberCall}
use Rattle.log_lines.specs.declared.calls.NumberCall.TheVariants as of_number

-- ---- deeds

-- a get's arguments among those of a start
abbrev pub get_of : StartSaid → GetArgs
get_of a = record {
  md = NO_HANDLE;
  local_offset = a.args.local_offset;
  length = a.args.length;
  target = a.args.target;
  pt = a.args.pt;
  match_bits = a.args.match_bits;
  remote_offset = a.args.remote_offset;
}

-- the getting half of a fetching operation: what it doesn't name is the sending half's
abbrev pub back_of : StartSaid → GetArgs
back_of a = record {
  md = NO_HANDLE;
  local_offset = a.back_offset;
  length = unwrap_or a.back_length a.args.length;
  target = unwrap_or a.back_target a.args.target;
  pt = unwrap_or a.back_pt a.args.pt;
  match_bits = unwrap_or a.back_bits a.args.match_bits;
  remote_offset = unwrap_or a.back_at a.args.remote_offset;
}

abbrev pub deed_said : TriggeredOp → Word → Option Word → TriggeredOpSaid
deed_said deed on back = record { deed = deed; on = on; back = back }

-- the fields of a start
abbrev pub start_fields : StartName → Rest → Result (Taken StartSaid) LineFault
start_fields name r = fields_next set_start (plain_start name) r

-- a descriptor and the fields of a start
unfoldable pub started_next : StartName → Rest → Result (Taken (Word × StartSaid)) LineFault
started_next name r = do
  on ← name_next r
  a ← start_fields name on.left
  Ok (taken (on.value, a.value) a.left)

-- an operation and a type
unfoldable pub elements_next : Rest → Result (Taken (AtomicOp × ElemType)) LineFault
elements_next r = do
  op ← op_next r
  ty ← type_next op.left
  Ok (taken (op.value, ty.value) ty.left)

-- what stands behind the word of each start
unfoldable pub put_next : Rest → Result (Taken TriggeredOpSaid) LineFault
put_next r = do
  s ← started_next names.Put r
  Ok (taken (deed_said (deeds.Put s.value.1.args) s.value.0 None) s.left)

unfoldable pub get_next : Rest → Result (Taken TriggeredOpSaid) LineFault
get_next r = do
  s ← started_next names.Get r
  Ok (taken (deed_said (deeds.Get (get_of s.value.1)) s.value.0 None) s.left)

unfoldable pub atomic_next : Rest → Result (Taken TriggeredOpSaid) LineFault
atomic_next r = do
  e ← elements_next r
  s ← started_next names.Atomic e.left
  Ok (taken (deed_said (deeds.Atomic s.value.1.args e.value.0 e.value.1) s.value.0 None) s.left)

abbrev pub fetch_of : AtomicOp × ElemType → StartSaid → TriggeredOp
fetch_of e a = deeds.FetchAtomic (back_of a) a.args e.0 e.1

unfoldable pub fetch_atomic_next : Rest → Result (Taken TriggeredOpSaid) LineFault
fetch_atomic_next r = do
  e ← elements_next r
  s ← started_next names.FetchAtomic e.left
  Ok (taken (deed_said (fetch_of e.value s.value.1) s.value.0 s.value.1.back) s.left)

abbrev pub swap_of : SwapOp → ElemType → StartSaid → TriggeredOp
swap_of op ty a = deeds.Swap (back_of a) a.args op ty a.operand

unfoldable pub swapping_next : Rest → Result (Taken TriggeredOpSaid) LineFault
swapping_next r = do
  op ← swap_next r
  ty ← type_next op.left
  s ← started_next names.Swap ty.left
  Ok (taken (deed_said (swap_of op.value ty.value s.value.1) s.value.0 s.value.1.back) s.left)

abbrev pub start_of : StartName → Rest → Result (Taken TriggeredOpSaid) LineFault
start_of names.Put = put_next
start_of names.Get = get_next
start_of names.Atomic = atomic_next
start_of names.FetchAtomic = fetch_atomic_next
start_of names.Swap = swapping_next

unfoldable pub start_next : StartName → Rest → Result (Taken TriggeredOpSaid) LineFault
start_next name r = start_of name r

-- two numbers of a counting event
unfoldable pub count_next : Rest → Result (Taken Count) LineFault
count_next r = do
  success ← amount_next r
  failure ← amount_next success.left
  Ok (taken (record { success = success.value; failure = failure.value }) failure.left)

-- a counting event and such numbers
unfoldable pub counted_next : Rest → Result (Taken (Word × Count)) LineFault
counted_next r = do
  ct ← name_next r
  c ← count_next ct.left
  Ok (taken (ct.value, c.value) c.left)

unfoldable pub counting_deed : (Count → TriggeredOp) → Rest → Result (Taken TriggeredOpSaid) LineFault
counting_deed deed r = do
  x ← counted_next r
  Ok (taken (deed_said (deed x.value.1) x.value.0 None) x.left)

-- what a triggered operation does: it starts, or it counts
abbrev pub deed_by : Option StartName → Word → Rest → Result (Taken TriggeredOpSaid) LineFault
deed_by (Some name) w r = start_next name r
deed_by None w r =
    if bytes_eq w.text (codes "inc") then counting_deed (λ c. deeds.Inc NO_HANDLE c) r
    else if bytes_eq w.text (codes "set") then counting_deed (λ c. deeds.Set NO_HANDLE c) r
    else Err (flaw_at w.column BadWord)

unfoldable pub deed_of : Word → Rest → Result (Taken TriggeredOpSaid) LineFault
deed_of w r = deed_by (start_named w.text) w r

unfoldable pub deed_next : Rest → Result (Taken TriggeredOpSaid) LineFault
deed_next r = next r >>= (λ w. deed_of w.value w.left)

-- ---- calls: what stands behind their words

-- one thing
abbrev pub one : {A : Type 0} → (A → Call) → (Rest → Result (Taken A) LineFault) → Rest → Result (Taken Call) LineFault
one make next_ r = next_ r >>= (λ t. Ok (taken (make t.value) t.left))

-- two things
abbrev pub both : {A B : Type 0} → (A → B → Call) → (Rest → Result (Taken A) LineFault) → (Rest → Result (Taken B) LineFault)
    → Rest → Result (Taken Call) LineFault
both make first second r = first r >>= (λ t. second t.left >>= (λ u. Ok (taken (make t.value u.value) u.left)))

unfoldable pub pt_alloc_next : Rest → Result (Taken Call) LineFault
pt_alloc_next r = do
  index ← small_next r
  said ← fields_next set_queue plain_queue index.left
  Ok (taken (calls.PtAlloc index.value said.value.eq) said.left)

unfoldable pub entry_next : Rest → Result (Taken EntrySaid) LineFault
entry_next = fields_next set_entry plain_entry

unfoldable pub me_append_next : Rest → Result (Taken Call) LineFault
me_append_next r = do
  index ← small_next r
  list ← list_next index.left
  entry ← entry_next list.left
  Ok (taken (calls.MeAppend index.value list.value entry.value) entry.left)

unfoldable pub me_search_next : Rest → Result (Taken Call) LineFault
me_search_next r = do
  index ← small_next r
  deletes ← deletes_next index.left
  entry ← entry_next deletes.left
  Ok (taken (calls.MeSearch index.value deletes.value entry.value) entry.left)

-- the names of a triggered operation and of its counting event
unfoldable pub two_names_next : Rest → Result (Taken (Word × Word)) LineFault
two_names_next r = do
  first ← name_next r
  second ← name_next first.left
  Ok (taken (first.value, second.value) second.left)

unfoldable pub triggered_next : Rest → Result (Taken Call) LineFault
triggered_next r = do
  both_names ← two_names_next r
  threshold ← amount_next both_names.left
  deed ← deed_next threshold.left
  Ok (taken (calls.Triggered both_names.value.0 both_names.value.1 threshold.value deed.value) deed.left)

unfoldable pub open_next : Rest → Result (Taken Call) LineFault
open_next = one calls.Open (fields_next set_opening plain_opening)

unfoldable pub md_bind_next : Rest → Result (Taken Call) LineFault
md_bind_next = one calls.MdBind (fields_next set_md plain_md)

unfoldable pub header_next : Rest → Result (Taken Call) LineFault
header_next = both calls.Header small_next small_next

unfoldable pub ct_set_next : Rest → Result (Taken Call) LineFault
ct_set_next = one (λ (x : Word × Count). calls.CtSet x.0 x.1) counted_next

unfoldable pub ct_inc_next : Rest → Result (Taken Call) LineFault
ct_inc_next = one (λ (x : Word × Count). calls.CtInc x.0 x.1) counted_next

unfoldable pub read_next : Rest → Result (Taken Call) LineFault
read_next = both calls.Read amount_next amount_next

unfoldable pub write_next : Rest → Result (Taken Call) LineFault
write_next = both calls.Write amount_next bytes_next

-- ---- calls: by their word

-- calls of nothing
unfoldable pub plain_call : List ℕ → Option Call
plain_call w =
    if bytes_eq w (codes "ct_alloc") then Some calls.CtAlloc
    else if bytes_eq w (codes "awaits_any") then Some calls.AwaitsAny
    else if bytes_eq w (codes "headers") then Some calls.Headers
    else if bytes_eq w (codes "ready") then Some calls.Ready
    else if bytes_eq w (codes "ready_count") then Some calls.ReadyCount
    else if bytes_eq w (codes "pending") then Some calls.Pending
    else if bytes_eq w (codes "drops") then Some calls.Drops
    else if bytes_eq w (codes "violations") then Some calls.Violations
    else None

-- calls of a name
unfoldable pub name_call : List ℕ → Option NameCall
name_call w =
    if bytes_eq w (codes "ct_get") then Some of_name.CtGet
    else if bytes_eq w (codes "ct_free") then Some of_name.CtFree
    else if bytes_eq w (codes "ct_cancel") then Some of_name.CtCancel
    else if bytes_eq w (codes "eq_get") then Some of_name.EqGet
    else if bytes_eq w (codes "eq_free") then Some of_name.EqFree
    else if bytes_eq w (codes "md_release") then Some of_name.MdRelease
    else if bytes_eq w (codes "awaits") then Some of_name.Awaits
    else if bytes_eq w (codes "me_unlink") then Some of_name.MeUnlink
    else if bytes_eq w (codes "is_ready") then Some of_name.IsReady
    else if bytes_eq w (codes "lane_of") then Some of_name.LaneOf
    else if bytes_eq w (codes "fire") then Some of_name.Fire
    else if bytes_eq w (codes "deliver") then Some of_name.Deliver
    else None

abbrev pub called_on : NameCall → Word → Call
called_on of_name.CtGet w = calls.CtGet w
called_on of_name.CtFree w = calls.CtFree w
called_on of_name.CtCancel w = calls.CtCancel w
called_on of_name.EqGet w = calls.EqGet w
called_on of_name.EqFree w = calls.EqFree w
called_on of_name.MdRelease w = calls.MdRelease w
called_on of_name.Awaits w = calls.Awaits w
called_on of_name.MeUnlink w = calls.MeUnlink w
called_on of_name.IsReady w = calls.IsReady w
called_on of_name.LaneOf w = calls.LaneOf w
called_on of_name.Fire w = calls.Fire w
called_on of_name.Deliver w = calls.Deliver w

unfoldable pub named_next : NameCall → Rest → Result (Taken Call) LineFault
named_next name = one (called_on name) name_next

-- calls of a number below 2^32
unfoldable pub number_call : List ℕ → Option NumberCall
number_call w =
    if bytes_eq w (codes "eq_alloc") then Some of_number.EqAlloc
    else if bytes_eq w (codes "pt_free") then Some of_number.PtFree
    else if bytes_eq w (codes "ready_at") then Some of_number.ReadyAt
    else if bytes_eq w (codes "ready_count_to") then Some of_number.ReadyCountTo
    else None

abbrev pub called_with : NumberCall → ℕ → Call
called_with of_number.EqAlloc n = calls.EqAlloc n
called_with of_number.PtFree n = calls.PtFree n
called_with of_number.ReadyAt n = calls.ReadyAt n
called_with of_number.ReadyCountTo n = calls.ReadyCountTo n

unfoldable pub numbered_next : NumberCall → Rest → Result (Taken Call) LineFault
numbered_next name = one (called_with name) small_next

-- the others: counting events, triggered operations and the region
unfoldable pub other_call : Word → Rest → Result (Taken Call) LineFault
other_call w r =
    if bytes_eq w.text (codes "ct_inc") then ct_inc_next r
    else if bytes_eq w.text (codes "ct_set") then ct_set_next r
    else if bytes_eq w.text (codes "triggered") then triggered_next r
    else if bytes_eq w.text (codes "read") then read_next r
    else if bytes_eq w.text (codes "write") then write_next r
    else Err (flaw_at w.column BadCall)

-- and interfaces, indices, descriptors and entries
unfoldable pub table_call : Word → Rest → Result (Taken Call) LineFault
table_call w r =
    if bytes_eq w.text (codes "open") then open_next r
    else if bytes_eq w.text (codes "pt_alloc") then pt_alloc_next r
    else if bytes_eq w.text (codes "md_bind") then md_bind_next r
    else if bytes_eq w.text (codes "me_append") then me_append_next r
    else if bytes_eq w.text (codes "me_search") then me_search_next r
    else if bytes_eq w.text (codes "header") then header_next r
    else other_call w r

abbrev pub by_number : Option NumberCall → Word → Rest → Result (Taken Call) LineFault
by_number (Some name) w r = numbered_next name r
by_number None w r = table_call w r

abbrev pub by_nothing : Option Call → Word → Rest → Result (Taken Call) LineFault
by_nothing (Some call) w r = Ok (taken call r)
by_nothing None w r = by_number (number_call w.text) w r

abbrev pub by_name : Option NameCall → Word → Rest → Result (Taken Call) LineFault
by_name (Some name) w r = named_next name r
by_name None w r = by_nothing (plain_call w.text) w r

-- starts
unfoldable pub starting_next : StartName → Rest → Result (Taken Call) LineFault
starting_next name = one calls.Start (start_next name)

abbrev pub by_start : Option StartName → Word → Rest → Result (Taken Call) LineFault
by_start (Some name) w r = starting_next name r
by_start None w r = by_name (name_call w.text) w r

-- any call
unfoldable pub call_of : Word → Rest → Result (Taken Call) LineFault
call_of w r = by_start (start_named w.text) w r

unfoldable pub call_next : Rest → Result (Taken Call) LineFault
call_next r = next r >>= (λ w. call_of w.value w.left)
