-- A start that is allowed has a header, its parts fit, and what it sends belongs together.
use Rattle.std.proofs.Common.{◌≡◌, ℕ, ◌%◌, ◌≤◌, Bool, true, false, ◌&&◌, List, length, Option, Some, None, is_some, refl, sym, ap, subst}
use Rattle.std.proofs.Common.{arith}
use Rattle.std.proofs.Math.Nat.{mod_self}
use Rattle.ptl_types.specs.declared.headers.Header.{Header}
use Rattle.ptl_types.specs.declared.headers.MessageKind.TheVariants.{Put as PutKind, Atomic as AtomicKind, FetchAtomic as FetchAtomicKind}
use Rattle.ptl_types.specs.declared.headers.MessageKind.TheVariants.{Swap as SwapKind}
use Rattle.ptl_types.specs.declared.elements.ElemType.TheVariants.{U8}
use Rattle.ptl_types.specs.declared.calls.Limits.{Limits}
use Rattle.ptl_types.specs.declared.calls.NiFault.{NiFault}
use Rattle.ptl_types.specs.declared.calls.TriggeredOp.{TriggeredOp}
use Rattle.ptl_types.specs.declared.calls.TriggeredOp.TheVariants.{Put, Get, Atomic, FetchAtomic, Swap, Inc, Set}
use Rattle.ptl_types.specs.Operations.{bytes_of}
use Rattle.ptl_types.specs.Filled.{Filled}
use Rattle.ptl_types.specs.Messages.{Sent, FillsHeader, message}
use Rattle.ptl_types.specs.declared.handles.Handle.{Handle}
use Rattle.ptl_types.specs.declared.handles.Count.{Count}
use Rattle.ni_model.specs.declared.Bound.{Bound}
use Rattle.ni_model.specs.Tables.{Table}
use Rattle.ni_model.specs.Queues.{Waiting}
use Rattle.ni_model.specs.Append.{need}
use Rattle.ni_model.specs.Answers.{Home, home, bound_at}
use Rattle.ni_model.specs.Starts.{header_of, put_header, get_header, fetch_header, put_args, bytes_read, counted_on, send_counter}
use Rattle.ni_model.specs.Starts.{sent_from, started, started_by}
use Rattle.ni_model.specs.Refusals.{action_fault}
use Rattle.ni_model.specs.Conditions.{MayStart}
use Rattle.initiator_engine.specs.Initiators.{is_start, room_for, args_fit, args_length, args_bytes, has_started}

pub start-has_header : (rank : ℕ) (d : TriggeredOp) → is_start d ≡ true → is_some (header_of rank d) ≡ true
start-has_header rank (Put a) is = refl
start-has_header rank (Get g) is = refl
start-has_header rank (Atomic a op ty) is = refl
start-has_header rank (FetchAtomic g a op ty) is = refl
start-has_header rank (Swap g a op ty operand) is = refl
start-has_header rank (Inc ct by) is = cc
start-has_header rank (Set ct to) is = cc

pub need-test : (t : Bool) (f : NiFault) (later : Option NiFault) → need t f later ≡ None → t ≡ true
need-test true f later e = refl
need-test false f later e = cc

pub need-later : (t : Bool) (f : NiFault) (later : Option NiFault) → need t f later ≡ None → later ≡ None
need-later true f later e = e
need-later false f later e = cc

both-right : (a b : Bool) → (a && b) ≡ true → b ≡ true
both-right true b e = e
both-right false b e = cc

pub args-fit : (d : TriggeredOp) (mds : Table Bound) → action_fault d mds ≡ None → args_fit (put_args d) mds ≡ true
args-fit (Put a) mds e = need-test _ _ _ (need-later _ _ _ e)
args-fit (Get g) mds e = refl
args-fit (Atomic a op ty) mds e = need-test _ _ _ (need-later _ _ _ e)
args-fit (FetchAtomic g a op ty) mds e = both-right _ _ (need-test _ _ _ (need-later _ _ _ e))
args-fit (Swap g a op ty operand) mds e = both-right _ _ (need-test _ _ _ (need-later _ _ _ e))
args-fit (Inc ct by) mds e = refl
args-fit (Set ct to) mds e = refl

pub args-room : (d : TriggeredOp) → args_length (put_args d) ≤ room_for d
args-room (Put a) = omega arith
args-room (Get g) = omega arith
args-room (Atomic a op ty) = omega arith
args-room (FetchAtomic g a op ty) = omega arith
args-room (Swap g a op ty operand) = omega arith
args-room (Inc ct by) = omega arith
args-room (Set ct to) = omega arith

pub bytes-read : (d : TriggeredOp) (mds : Table Bound) (memory : List ℕ) (cts : Table Count) (eqs : Table Waiting) →
    args_bytes (put_args d) mds memory ≡ bytes_read (home mds memory cts eqs) d
bytes-read (Put a) mds memory cts eqs = refl
bytes-read (Get g) mds memory cts eqs = refl
bytes-read (Atomic a op ty) mds memory cts eqs = refl
bytes-read (FetchAtomic g a op ty) mds memory cts eqs = refl
bytes-read (Swap g a op ty operand) mds memory cts eqs = refl
bytes-read (Inc ct by) mds memory cts eqs = refl
bytes-read (Set ct to) mds memory cts eqs = refl

same-header : (b : Filled) (x h : Header) → Some x ≡ Some h → FillsHeader x b → FillsHeader h b
same-header b x h e fills = let same : x ≡ h = cc in subst (λ (k : Header). FillsHeader k b) same fills

pub start-fills : (rank : ℕ) (d : TriggeredOp) (h : Header) (b : Filled) (ranks : ℕ) (l : Limits) → header_of rank d ≡ Some h →
    MayStart d ranks l → length b.list ≡ args_length (put_args d) → room_for d ≤ b.room → FillsHeader h b
start-fills rank (Put a) h b ranks l e may len room = same-header b (put_header rank PutKind a None U8) h e
    (record { bytes = len; room = omega arith; whole = λ is. cc; op = refl; swap = refl; one = λ is. cc })
start-fills rank (Get g) h b ranks l e may len room = same-header b (get_header rank g) h e
    (record { bytes = len; room = room; whole = λ is. cc; op = refl; swap = refl; one = λ is. cc })
start-fills rank (Atomic a op ty) h b ranks l e may len room =
    same-header b (put_header rank AtomicKind a (Some op) ty) h e
    (record { bytes = len; room = omega arith; whole = λ is. may.1.whole; op = refl; swap = refl; one = λ is. cc })
start-fills rank (FetchAtomic g a op ty) h b ranks l e may len room =
    same-header b (fetch_header rank FetchAtomicKind g a (Some op) None ty 0) h e
    (record { bytes = len; room = omega arith; whole = λ is. may.1.whole; op = refl; swap = refl; one = λ is. cc })
start-fills rank (Swap g a op ty operand) h b ranks l e may len room =
    let whole : a.length % bytes_of ty ≡ 0 = rw may.1 (mod_self (bytes_of ty)) in
    same-header b (fetch_header rank SwapKind g a None (Some op) ty operand) h e
    (record { bytes = len; room = omega arith; whole = λ is. whole; op = refl; swap = refl; one = λ is. may.1 })
start-fills rank (Inc ct by) h b ranks l e may len room = cc
start-fills rank (Set ct to) h b ranks l e may len room = cc

-- a start by its header, its message, what it does to the descriptors, the counting events and the queues, and the counting event
pub started-is : (rank : ℕ) (p q : Home) (d : TriggeredOp) (h : Header) (m : Sent) (ct : Option Handle) → header_of rank d ≡ Some h →
    m ≡ message h (bytes_read p d) → q ≡ sent_from p d h → ct ≡ send_counter (bound_at (counted_on d) p.mds) →
    has_started q m ct ≡ started rank p d
unfolding started
started-is rank p q d h m ct e sent after counted = rw (sent, after, counted) (ap (λ (o : Option Header). started_by p d o) (sym e))

pub ruleset starting = (start-has_header, args-fit, args-room, bytes-read, start-fills)
