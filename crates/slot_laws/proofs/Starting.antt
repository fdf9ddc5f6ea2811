-- Starts, and answers that come home, under renamed handles.
use Rattle.std.proofs.Common.{◌≡◌, ℕ, Bool, true, false, ◌||◌, List, [], ◌∷◌, map, Option, Some, None, refl, ap, ◌∙◌, option_map}
use Rattle.std.proofs.Common.{cond, nat_lt}
use Rattle.ptl_types.specs.declared.handles.Handle.{Handle}
use Rattle.ptl_types.specs.declared.headers.Header.{Header}
use Rattle.ptl_types.specs.declared.headers.MessageKind.TheVariants as kinds
use Rattle.ptl_types.specs.declared.elements.AtomicOp.{AtomicOp}
use Rattle.ptl_types.specs.declared.elements.ElemType.{ElemType}
use Rattle.ptl_types.specs.declared.elements.ElemType.TheVariants.{U8}
use Rattle.ptl_types.specs.declared.calls.PutArgs.{PutArgs}
use Rattle.ptl_types.specs.declared.calls.TriggeredOp.{TriggeredOp}
use Rattle.ptl_types.specs.declared.calls.TriggeredOp.TheVariants.{Put, Get, Atomic, FetchAtomic, Swap, Inc, Set}
use Rattle.ptl_types.specs.declared.headers.MessageKind.{MessageKind}
use Rattle.ptl_types.specs.Kinds.{is_answer, is_no_ack}
use Rattle.ptl_types.specs.Messages.{Sent}
use Rattle.log_answers.specs.Items.{home_rank}
use Rattle.ni_model.specs.declared.Bound.{Bound}
use Rattle.ni_model.specs.Tables.{Live, Table, lookup}
use Rattle.ni_model.specs.Counts.{successes}
use Rattle.ni_model.specs.Queues.{Waiting}
use Rattle.ni_model.specs.Events.{answer_event, asks_event, is_reply, send_event}
use Rattle.ni_model.specs.Shown.{told_of_descriptor}
use Rattle.ni_model.specs.Answers.{Home, answered, answered_at, awaits_less, bound_at, came_home, counter_home, events_home}
use Rattle.ni_model.specs.Answers.{is_awaited, is_due, lost_answer, one_answer, one_less}
use Rattle.ni_model.specs.Starts.{awaits_more, bytes_at, bytes_read, counted_on, header_of, one_awaited, put_header, send_counter}
use Rattle.ni_model.specs.Starts.{send_told, sent_from, started, started_by}
use Rattle.slot_laws.specs.Renaming.{IsRenaming, Renaming}
use Rattle.slot_laws.specs.Renamed.{renamed_action, renamed_bound, renamed_header, renamed_home, renamed_live, renamed_message, renamed_put}
use Rattle.slot_laws.specs.Renamed.{renamed_table, renamed_things}
use Rattle.slot_laws.proofs.terms.Started.{renamed_returned, renamed_started}
use Rattle.slot_laws.proofs.Base.{changed_renamed, lookup_renamed, where_set_renamed}
use Rattle.slot_laws.proofs.Telling.{counted_renamed, told_of_descriptor_renamed}

-- ---- general: the one of two

pub either_renamed : {A B : Type 0} (f : A → B) (b : Bool) {x y : B} (u v : A) → x ≡ f u → y ≡ f v → cond b x y ≡ f (cond b u v)
either_renamed f true u v first second = first
either_renamed f false u v first second = second

-- ---- descriptors

pub bound_at_renamed : (r : Renaming) → IsRenaming r → (rank : ℕ) (o : Option Handle) (mds : Table Bound) →
    bound_at (option_map (r.md rank) o) (renamed_table (r.md rank) (renamed_bound r) mds) ≡ option_map (renamed_bound r) (bound_at o mds)
bound_at_renamed r k rank None mds = refl
bound_at_renamed r k rank (Some h) mds = lookup_renamed (r.md rank) (renamed_bound r) (k.md rank) h mds.live

-- ---- starts: the header and the bytes

put_header_renamed : (r : Renaming) (rank : ℕ) (kind : MessageKind) (a : PutArgs) (op : Option AtomicOp) (ty : ElemType) →
    is_answer kind ≡ false → put_header rank kind (renamed_put r rank a) op ty ≡ renamed_header r (put_header rank kind a op ty)
put_header_renamed r rank kind a op ty is =
    rw is
    (ap (λ (o : Option Handle). record (put_header rank kind a op ty) { home = o })
    (either_renamed (option_map (r.md rank)) (is_no_ack a.ack) None (Some a.md) refl refl))

header_of_renamed : (r : Renaming) (rank : ℕ) (d : TriggeredOp) →
    header_of rank (renamed_action r rank d) ≡ option_map (renamed_header r) (header_of rank d)
header_of_renamed r rank (Put a) = ap Some (put_header_renamed r rank kinds.Put a None U8 refl)
header_of_renamed r rank (Get g) = refl
header_of_renamed r rank (Atomic a op ty) = ap Some (put_header_renamed r rank kinds.Atomic a (Some op) ty refl)
header_of_renamed r rank (FetchAtomic g a op ty) = refl
header_of_renamed r rank (Swap g a sw ty operand) = refl
header_of_renamed r rank (Inc ct by) = refl
header_of_renamed r rank (Set ct to) = refl

bytes_at_renamed : (r : Renaming) (o : Option Bound) (at n : ℕ) (memory : List ℕ) →
    bytes_at (option_map (renamed_bound r) o) at n memory ≡ bytes_at o at n memory
bytes_at_renamed r None at n memory = refl
bytes_at_renamed r (Some b) at n memory = refl

put_bytes_renamed : (r : Renaming) → IsRenaming r → (rank : ℕ) (p : Home) (a : PutArgs) →
    bytes_at (lookup (r.md rank a.md) (renamed_home r rank p).mds.live) a.local_offset a.length p.region
    ≡ bytes_at (lookup a.md p.mds.live) a.local_offset a.length p.region
put_bytes_renamed r k rank p a =
    ap (λ (o : Option Bound). bytes_at o a.local_offset a.length p.region)
    (lookup_renamed (r.md rank) (renamed_bound r) (k.md rank) a.md p.mds.live)
    ∙ bytes_at_renamed r (lookup a.md p.mds.live) a.local_offset a.length p.region

bytes_read_renamed : (r : Renaming) → IsRenaming r → (rank : ℕ) (p : Home) (d : TriggeredOp) →
    bytes_read (renamed_home r rank p) (renamed_action r rank d) ≡ bytes_read p d
bytes_read_renamed r k rank p (Put a) = put_bytes_renamed r k rank p a
bytes_read_renamed r k rank p (Get g) = refl
bytes_read_renamed r k rank p (Atomic a op ty) = put_bytes_renamed r k rank p a
bytes_read_renamed r k rank p (FetchAtomic g a op ty) = put_bytes_renamed r k rank p a
bytes_read_renamed r k rank p (Swap g a sw ty operand) = put_bytes_renamed r k rank p a
bytes_read_renamed r k rank p (Inc ct by) = refl
bytes_read_renamed r k rank p (Set ct to) = refl

-- ---- starts: what is counted, told and awaited

counted_on_renamed : (r : Renaming) (rank : ℕ) (d : TriggeredOp) →
    counted_on (renamed_action r rank d) ≡ option_map (r.md rank) (counted_on d)
counted_on_renamed r rank (Put a) = refl
counted_on_renamed r rank (Get g) = refl
counted_on_renamed r rank (Atomic a op ty) = refl
counted_on_renamed r rank (FetchAtomic g a op ty) = refl
counted_on_renamed r rank (Swap g a sw ty operand) = refl
counted_on_renamed r rank (Inc ct by) = refl
counted_on_renamed r rank (Set ct to) = refl

counting_renamed : (r : Renaming) → IsRenaming r → (rank : ℕ) (p : Home) (d : TriggeredOp) →
    bound_at (counted_on (renamed_action r rank d)) (renamed_home r rank p).mds
    ≡ option_map (renamed_bound r) (bound_at (counted_on d) p.mds)
counting_renamed r k rank p d = rw (counted_on_renamed r rank d) (bound_at_renamed r k rank (counted_on d) p.mds)

send_counter_renamed : (r : Renaming) (o : Option Bound) →
    send_counter (option_map (renamed_bound r) o) ≡ option_map r.ct (send_counter o)
send_counter_renamed r None = refl
send_counter_renamed r (Some b) = where_set_renamed r.ct b.md.count_send b.md.ct

send_told_renamed : (r : Renaming) → IsRenaming r → (o : Option Bound) (h : Header) (eqs : Table Waiting) →
    send_told (option_map (renamed_bound r) o) (renamed_header r h) (renamed_things r.eq eqs) ≡ renamed_things r.eq (send_told o h eqs)
send_told_renamed r k None h eqs = refl
send_told_renamed r k (Some b) h eqs = told_of_descriptor_renamed r.eq k.eq b.md.hidden b.md.eq (send_event h) eqs

awaits_more_renamed : (r : Renaming) → IsRenaming r → (rank : ℕ) (o : Option Handle) (mds : Table Bound) →
    awaits_more (option_map (r.md rank) o) (renamed_table (r.md rank) (renamed_bound r) mds)
    ≡ renamed_table (r.md rank) (renamed_bound r) (awaits_more o mds)
awaits_more_renamed r k rank None mds = refl
awaits_more_renamed r k rank (Some h) mds =
    changed_renamed (r.md rank) (renamed_bound r) one_awaited one_awaited (k.md rank) (λ x. refl) h mds

-- a header whose home is a descriptor of this rank
sent_from_renamed : (r : Renaming) → IsRenaming r → (rank : ℕ) (p : Home) (d : TriggeredOp) (h : Header) → home_rank h ≡ rank →
    sent_from (renamed_home r rank p) (renamed_action r rank d) (renamed_header r h) ≡ renamed_home r rank (sent_from p d h)
sent_from_renamed r k rank p d h is =
    rw (
      counting_renamed r k rank p d,
      send_counter_renamed r (bound_at (counted_on d) p.mds),
      counted_renamed r.ct k.ct (send_counter (bound_at (counted_on d) p.mds)) (successes 1) p.cts,
      send_told_renamed r k (bound_at (counted_on d) p.mds) h p.eqs,
      is,
      awaits_more_renamed r k rank h.home p.mds,
    )
    refl

started_by_renamed : (r : Renaming) → IsRenaming r → (rank : ℕ) (p : Home) (d : TriggeredOp) (h : Header) → home_rank h ≡ rank →
    started_by (renamed_home r rank p) (renamed_action r rank d) (Some (renamed_header r h))
    ≡ renamed_started r rank (started_by p d (Some h))
started_by_renamed r k rank p d h is =
    rw (
      sent_from_renamed r k rank p d h is,
      bytes_read_renamed r k rank p d,
      counting_renamed r k rank p d,
      send_counter_renamed r (bound_at (counted_on d) p.mds),
    )
    refl

-- a header is none, or its home is a descriptor of this rank
abbrev IsHomeAt : ℕ → Option Header → Type 0
IsHomeAt rank None = Unit
IsHomeAt rank (Some h) = home_rank h ≡ rank

header_of_home : (rank : ℕ) (d : TriggeredOp) → IsHomeAt rank (header_of rank d)
header_of_home rank (Put a) = refl
header_of_home rank (Get g) = refl
header_of_home rank (Atomic a op ty) = refl
header_of_home rank (FetchAtomic g a op ty) = refl
header_of_home rank (Swap g a sw ty operand) = refl
header_of_home rank (Inc ct by) = tt
header_of_home rank (Set ct to) = tt

by_header_renamed : (r : Renaming) → IsRenaming r → (rank : ℕ) (p : Home) (d : TriggeredOp) (o : Option Header) → IsHomeAt rank o →
    started_by (renamed_home r rank p) (renamed_action r rank d) (option_map (renamed_header r) o)
    ≡ renamed_started r rank (started_by p d o)
by_header_renamed r k rank p d None is = refl
by_header_renamed r k rank p d (Some h) is = started_by_renamed r k rank p d h is

pub started_renamed : (r : Renaming) → IsRenaming r → (rank : ℕ) (p : Home) (d : TriggeredOp) →
    started rank (renamed_home r rank p) (renamed_action r rank d) ≡ renamed_started r rank (started rank p d)
unfolding started
started_renamed r k rank p d =
    rw (header_of_renamed r rank d) (by_header_renamed r k rank p d (header_of rank d) (header_of_home rank d))

-- ---- answers

is_due_renamed : (r : Renaming) (h : Header) (b : Bound) → is_due (renamed_header r h) (renamed_bound r b) ≡ is_due h b
is_due_renamed r h b = refl

counter_home_renamed : (r : Renaming) (h : Header) (b : Bound) →
    counter_home (renamed_header r h) (renamed_bound r b) ≡ option_map r.ct (counter_home h b)
counter_home_renamed r h b = where_set_renamed r.ct (cond (is_reply h.kind) b.md.count_reply b.md.count_ack) b.md.ct

events_home_renamed : (r : Renaming) → IsRenaming r → (h : Header) (b : Bound) (eqs : Table Waiting) →
    events_home (renamed_header r h) (renamed_bound r b) (renamed_things r.eq eqs) ≡ renamed_things r.eq (events_home h b eqs)
events_home_renamed r k h b eqs =
    either_renamed (renamed_things r.eq) (is_reply h.kind || asks_event h.ack)
    (told_of_descriptor b.md.hidden b.md.eq (answer_event b h) eqs) eqs
    (told_of_descriptor_renamed r.eq k.eq b.md.hidden b.md.eq (answer_event b h) eqs) refl

awaits_less_renamed : (r : Renaming) → IsRenaming r → (rank : ℕ) (o : Option Handle) (mds : Table Bound) →
    awaits_less (option_map (r.md rank) o) (renamed_table (r.md rank) (renamed_bound r) mds)
    ≡ renamed_table (r.md rank) (renamed_bound r) (awaits_less o mds)
awaits_less_renamed r k rank None mds = refl
awaits_less_renamed r k rank (Some h) mds =
    changed_renamed (r.md rank) (renamed_bound r) one_less one_less (k.md rank) (λ x. refl) h mds

came_home_renamed : (r : Renaming) → IsRenaming r → (rank : ℕ) (p : Home) (m : Sent) (b : Bound) → home_rank m.header ≡ rank →
    came_home (renamed_home r rank p) (renamed_message r m) (renamed_bound r b) ≡ renamed_returned r rank (came_home p m b)
came_home_renamed r k rank p m b is =
    rw (
      is,
      counter_home_renamed r m.header b,
      awaits_less_renamed r k rank m.header.home p.mds,
      counted_renamed r.ct k.ct (counter_home m.header b) (one_answer m.header.ok) p.cts,
      events_home_renamed r k m.header b p.eqs,
    )
    refl

answered_at_renamed : (r : Renaming) → IsRenaming r → (rank : ℕ) (p : Home) (m : Sent) (o : Option Bound) → home_rank m.header ≡ rank →
    answered_at (renamed_home r rank p) (renamed_message r m) (option_map (renamed_bound r) o) ≡ renamed_returned r rank (answered_at p m o)
answered_at_renamed r k rank p m None is = refl
answered_at_renamed r k rank p m (Some b) is =
    either_renamed (renamed_returned r rank) (is_due m.header b) (came_home p m b) (lost_answer p)
    (came_home_renamed r k rank p m b is) refl

due_at_renamed : (r : Renaming) → IsRenaming r → (rank : ℕ) (p : Home) (h : Header) → home_rank h ≡ rank →
    bound_at (renamed_header r h).home (renamed_home r rank p).mds ≡ option_map (renamed_bound r) (bound_at h.home p.mds)
due_at_renamed r k rank p h is = rw is (bound_at_renamed r k rank h.home p.mds)

pub answered_renamed : (r : Renaming) → IsRenaming r → (rank : ℕ) (p : Home) (m : Sent) → home_rank m.header ≡ rank →
    answered (renamed_home r rank p) (renamed_message r m) ≡ renamed_returned r rank (answered p m)
unfolding answered
answered_renamed r k rank p m is =
    ap (λ (o : Option Bound). answered_at (renamed_home r rank p) (renamed_message r m) o) (due_at_renamed r k rank p m.header is)
    ∙ answered_at_renamed r k rank p m (bound_at m.header.home p.mds) is

pub is_awaited_renamed : (r : Renaming) (f : Handle → Handle) (xs : List (Live Bound)) →
    is_awaited (map (renamed_live f (renamed_bound r)) xs) ≡ is_awaited xs
is_awaited_renamed r f [] = refl
is_awaited_renamed r f (x ∷ xs) = ap (λ b. nat_lt 0 x.value.awaits || b) (is_awaited_renamed r f xs)

-- an answer's home is a descriptor of its target
pub home_of_answer : (rank : ℕ) (h : Header) → is_answer h.kind ≡ true → h.target ≡ rank → home_rank h ≡ rank
home_of_answer rank h is at = rw is at
