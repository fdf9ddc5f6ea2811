-- What the fields and flags of each call say.
use Rattle.std.specs.Prelude.{ℕ, List, Option, Some, None, Result, Ok, Err, codes, if◌then◌else◌}
use Rattle.std.specs.Str.{bytes_eq}
use Rattle.ptl_types.specs.declared.calls.Limits.{Limits}
use Rattle.ptl_types.specs.declared.calls.PutArgs.{PutArgs}
use Rattle.ptl_types.specs.declared.entries.Entry.{Entry}
use Rattle.ptl_types.specs.declared.entries.Descriptor.{Descriptor}
use Rattle.ptl_types.specs.declared.entries.HiddenEntryEvents.{HiddenEntryEvents}
use Rattle.ptl_types.specs.declared.entries.HiddenDescriptorEvents.{HiddenDescriptorEvents}
use Rattle.ptl_types.specs.declared.headers.AckRequest.{AckRequest}
use Rattle.ptl_types.specs.declared.headers.AckRequest.TheVariants.{NoAck, CtAck, Ack}
use Rattle.log_words.specs.Words.{Word}
use Rattle.log_words.specs.Reading.{amount_in, bytes_in, flag_in, name_in, small_in}
use Rattle.log_words.specs.declared.faults.Flaw.{Flaw}
use Rattle.log_words.specs.declared.faults.Flaw.TheVariants.{BadWord}
use Rattle.log_words.specs.declared.call_fields.said.Opening.{Opening}
use Rattle.log_words.specs.declared.call_fields.said.EntrySaid.{EntrySaid}
use Rattle.log_words.specs.declared.call_fields.said.MdSaid.{MdSaid}
use Rattle.log_words.specs.declared.call_fields.said.QueueSaid.{QueueSaid}
use Rattle.log_words.specs.declared.call_fields.said.StartName.{StartName}
use Rattle.log_words.specs.declared.call_fields.said.StartName.TheVariants.{Put, Get, Atomic, FetchAtomic, Swap}
use Rattle.log_words.specs.declared.call_fields.said.StartSaid.{StartSaid}

-- the value, where it has no flaw, put into its place
abbrev pub put_in : {A X : Type 0} → Result A Flaw → (A → X) → Result X Flaw
put_in (Ok x) place = Ok (place x)
put_in (Err flaw) place = Err flaw

-- ---- `open`

abbrev pub limited : (Limits → Limits) → Opening → Opening
limited f o = record o { limits = f o.limits }

-- lengths, and the region
unfoldable pub set_sizes : List ℕ → Option Word → Opening → Result Opening Flaw
set_sizes key v o =
    if bytes_eq key (codes "msg") then put_in (amount_in v) (λ n. limited (λ l. record l { msg = n }) o)
    else if bytes_eq key (codes "atomic") then put_in (amount_in v) (λ n. limited (λ l. record l { atomic = n }) o)
    else if bytes_eq key (codes "fetch") then put_in (amount_in v) (λ n. limited (λ l. record l { fetch_atomic = n }) o)
    else if bytes_eq key (codes "region") then put_in (bytes_in v) (λ w. record o { region = Some w })
    else Err BadWord

-- and before these how many of each thing
unfoldable pub set_opening : List ℕ → Option Word → Opening → Result Opening Flaw
set_opening key v o =
    if bytes_eq key (codes "entries") then put_in (small_in v) (λ n. limited (λ l. record l { entries = n }) o)
    else if bytes_eq key (codes "unexpected") then put_in (small_in v) (λ n. limited (λ l. record l { unexpected = n }) o)
    else if bytes_eq key (codes "mds") then put_in (small_in v) (λ n. limited (λ l. record l { mds = n }) o)
    else if bytes_eq key (codes "cts") then put_in (small_in v) (λ n. limited (λ l. record l { cts = n }) o)
    else if bytes_eq key (codes "eqs") then put_in (small_in v) (λ n. limited (λ l. record l { eqs = n }) o)
    else if bytes_eq key (codes "pts") then put_in (small_in v) (λ n. limited (λ l. record l { pts = n }) o)
    else if bytes_eq key (codes "triggered") then put_in (small_in v) (λ n. limited (λ l. record l { triggered = n }) o)
    else set_sizes key v o

-- ---- `pt_alloc`: the event queue

unfoldable pub set_queue : List ℕ → Option Word → QueueSaid → Result QueueSaid Flaw
set_queue key v q = if bytes_eq key (codes "eq") then put_in (name_in v) (λ w. record q { eq = Some w }) else Err BadWord

-- ---- `md_bind`

abbrev pub bound_as : (Descriptor → Descriptor) → MdSaid → MdSaid
bound_as f m = record m { md = f m.md }

abbrev pub bound_hiding : (HiddenDescriptorEvents → HiddenDescriptorEvents) → MdSaid → MdSaid
bound_hiding f m = bound_as (λ d. record d { hidden = f d.hidden }) m

-- the events that it hides
unfoldable pub set_md_hidden : List ℕ → Option Word → MdSaid → Result MdSaid Flaw
set_md_hidden key v m =
    if bytes_eq key (codes "hide_send") then put_in (flag_in v) (λ b. bound_hiding (λ h. record h { send = b }) m)
    else if bytes_eq key (codes "hide_success") then put_in (flag_in v) (λ b. bound_hiding (λ h. record h { success = b }) m)
    else Err BadWord

unfoldable pub set_md : List ℕ → Option Word → MdSaid → Result MdSaid Flaw
set_md key v m =
    if bytes_eq key (codes "start") then put_in (amount_in v) (λ n. bound_as (λ d. record d { start = n }) m)
    else if bytes_eq key (codes "length") then put_in (amount_in v) (λ n. bound_as (λ d. record d { length = n }) m)
    else if bytes_eq key (codes "eq") then put_in (name_in v) (λ w. record m { eq = Some w })
    else if bytes_eq key (codes "ct") then put_in (name_in v) (λ w. record m { ct = Some w })
    else if bytes_eq key (codes "send") then put_in (flag_in v) (λ b. bound_as (λ d. record d { count_send = b }) m)
    else if bytes_eq key (codes "reply") then put_in (flag_in v) (λ b. bound_as (λ d. record d { count_reply = b }) m)
    else if bytes_eq key (codes "ack") then put_in (flag_in v) (λ b. bound_as (λ d. record d { count_ack = b }) m)
    else set_md_hidden key v m

-- ---- `me_append` and `me_search`

abbrev pub entered : (Entry → Entry) → EntrySaid → EntrySaid
entered f e = record e { entry = f e.entry }

abbrev pub hiding : (HiddenEntryEvents → HiddenEntryEvents) → EntrySaid → EntrySaid
hiding f e = entered (λ x. record x { hidden = f x.hidden }) e

-- the events that it hides
unfoldable pub set_entry_hidden : List ℕ → Option Word → EntrySaid → Result EntrySaid Flaw
set_entry_hidden key v e =
    if bytes_eq key (codes "hide_link") then put_in (flag_in v) (λ b. hiding (λ h. record h { link = b }) e)
    else if bytes_eq key (codes "hide_unlink") then put_in (flag_in v) (λ b. hiding (λ h. record h { unlink = b }) e)
    else if bytes_eq key (codes "hide_comm") then put_in (flag_in v) (λ b. hiding (λ h. record h { comm = b }) e)
    else if bytes_eq key (codes "hide_overflow") then put_in (flag_in v) (λ b. hiding (λ h. record h { overflow = b }) e)
    else if bytes_eq key (codes "hide_success") then put_in (flag_in v) (λ b. hiding (λ h. record h { success = b }) e)
    else Err BadWord

unfoldable pub set_entry_flag : List ℕ → Option Word → EntrySaid → Result EntrySaid Flaw
set_entry_flag key v e =
    if bytes_eq key (codes "put") then put_in (flag_in v) (λ b. entered (λ x. record x { allow_put = b }) e)
    else if bytes_eq key (codes "get") then put_in (flag_in v) (λ b. entered (λ x. record x { allow_get = b }) e)
    else if bytes_eq key (codes "once") then put_in (flag_in v) (λ b. entered (λ x. record x { use_once = b }) e)
    else if bytes_eq key (codes "local") then put_in (flag_in v) (λ b. entered (λ x. record x { manage_local = b }) e)
    else if bytes_eq key (codes "no_truncate") then put_in (flag_in v) (λ b. entered (λ x. record x { no_truncate = b }) e)
    else if bytes_eq key (codes "comm") then put_in (flag_in v) (λ b. entered (λ x. record x { count_comm = b }) e)
    else if bytes_eq key (codes "overflow") then put_in (flag_in v) (λ b. entered (λ x. record x { count_overflow = b }) e)
    else set_entry_hidden key v e

unfoldable pub set_entry : List ℕ → Option Word → EntrySaid → Result EntrySaid Flaw
set_entry key v e =
    if bytes_eq key (codes "start") then put_in (amount_in v) (λ n. entered (λ x. record x { start = n }) e)
    else if bytes_eq key (codes "length") then put_in (amount_in v) (λ n. entered (λ x. record x { length = n }) e)
    else if bytes_eq key (codes "bits") then put_in (amount_in v) (λ n. entered (λ x. record x { match_bits = n }) e)
    else if bytes_eq key (codes "ignore") then put_in (amount_in v) (λ n. entered (λ x. record x { ignore_bits = n }) e)
    else if bytes_eq key (codes "source") then put_in (small_in v) (λ n. entered (λ x. record x { match_id = Some n }) e)
    else if bytes_eq key (codes "ct") then put_in (name_in v) (λ w. record e { ct = Some w })
    else if bytes_eq key (codes "min_free") then put_in (amount_in v) (λ n. entered (λ x. record x { min_free = n }) e)
    else set_entry_flag key v e

-- ---- starts: what a put, an atomic and the sending half of a fetching operation name, and a get

-- the acknowledgement that is asked for
abbrev pub ack_of : List ℕ → Result AckRequest Flaw
ack_of w =
    if bytes_eq w (codes "none") then Ok NoAck
    else if bytes_eq w (codes "ct") then Ok CtAck
    else if bytes_eq w (codes "full") then Ok Ack
    else Err BadWord

unfoldable pub ack_in : Option Word → Result AckRequest Flaw
ack_in None = Err BadWord
ack_in (Some w) = ack_of w.text

abbrev pub sending : (PutArgs → PutArgs) → StartSaid → StartSaid
sending f a = record a { args = f a.args }

-- what each start may name
unfoldable pub set_any : List ℕ → Option Word → StartSaid → Result StartSaid Flaw
set_any key v a =
    if bytes_eq key (codes "offset") then put_in (amount_in v) (λ n. sending (λ x. record x { local_offset = n }) a)
    else if bytes_eq key (codes "length") then put_in (amount_in v) (λ n. sending (λ x. record x { length = n }) a)
    else if bytes_eq key (codes "target") then put_in (small_in v) (λ n. sending (λ x. record x { target = n }) a)
    else if bytes_eq key (codes "pt") then put_in (small_in v) (λ n. sending (λ x. record x { pt = n }) a)
    else if bytes_eq key (codes "bits") then put_in (amount_in v) (λ n. sending (λ x. record x { match_bits = n }) a)
    else if bytes_eq key (codes "at") then put_in (amount_in v) (λ n. sending (λ x. record x { remote_offset = n }) a)
    else Err BadWord

-- and beside that what sends
unfoldable pub set_sending : List ℕ → Option Word → StartSaid → Result StartSaid Flaw
set_sending key v a =
    if bytes_eq key (codes "ack") then put_in (ack_in v) (λ x. sending (λ y. record y { ack = x }) a)
    else if bytes_eq key (codes "data") then put_in (amount_in v) (λ n. sending (λ x. record x { hdr_data = n }) a)
    else set_any key v a

-- and beside that what fetches: where the reply goes, and what the getting half names otherwise
unfoldable pub set_fetching : List ℕ → Option Word → StartSaid → Result StartSaid Flaw
set_fetching key v a =
    if bytes_eq key (codes "back") then put_in (name_in v) (λ w. record a { back = Some w })
    else if bytes_eq key (codes "back_offset") then put_in (amount_in v) (λ n. record a { back_offset = n })
    else if bytes_eq key (codes "back_length") then put_in (amount_in v) (λ n. record a { back_length = Some n })
    else if bytes_eq key (codes "back_target") then put_in (small_in v) (λ n. record a { back_target = Some n })
    else if bytes_eq key (codes "back_pt") then put_in (small_in v) (λ n. record a { back_pt = Some n })
    else if bytes_eq key (codes "back_bits") then put_in (amount_in v) (λ n. record a { back_bits = Some n })
    else if bytes_eq key (codes "back_at") then put_in (amount_in v) (λ n. record a { back_at = Some n })
    else set_sending key v a

-- and beside that a swap
unfoldable pub set_swapping : List ℕ → Option Word → StartSaid → Result StartSaid Flaw
set_swapping key v a = if bytes_eq key (codes "operand") then put_in (amount_in v) (λ n. record a { operand = n }) else set_fetching key v a

-- by what is started
abbrev pub set_named : StartName → List ℕ → Option Word → StartSaid → Result StartSaid Flaw
set_named Get = set_any
set_named Put = set_sending
set_named Atomic = set_sending
set_named FetchAtomic = set_fetching
set_named Swap = set_swapping

unfoldable pub set_start : List ℕ → Option Word → StartSaid → Result StartSaid Flaw
set_start key v a = set_named a.name key v a
