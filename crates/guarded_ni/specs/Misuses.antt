-- What is wrong with the arguments of a call: the first rule that they break, if they break one.
use Rattle.std.specs.Prelude.{ℕ, Bool, ◌&&◌, ◌==◌, ◌%◌, nat_lt, Option, Some, None, if◌then◌else◌}
use Rattle.ptl_types.specs.declared.calls.PutArgs.{PutArgs}
use Rattle.ptl_types.specs.declared.calls.GetArgs.{GetArgs}
use Rattle.ptl_types.specs.declared.calls.Limits.{Limits}
use Rattle.ptl_types.specs.declared.calls.TriggeredOp.{TriggeredOp}
use Rattle.ptl_types.specs.declared.calls.TriggeredOp.TheVariants.{Put, Get, Atomic, FetchAtomic, Swap}
use Rattle.ptl_types.specs.Kinds.{is_no_ack}
use Rattle.ptl_types.specs.Operations.{bytes_of}
use Rattle.guarded_ni.specs.declared.faults.Misuse.{Misuse}
use Rattle.guarded_ni.specs.declared.faults.Misuse.TheVariants.{AsksAcknowledgement, HalvesDiffer, PartialElement, TooLong, UnknownRank}

-- the first of two, where there is one
abbrev pub or_else : Option Misuse → Option Misuse → Option Misuse
or_else (Some m) later = Some m
or_else None later = later

-- this, unless the rule is kept
abbrev pub unless : Bool → Misuse → Option Misuse
unless kept m = if kept then None else Some m

-- the target is a rank
abbrev pub rank_misuse : ℕ → ℕ → Option Misuse
rank_misuse target ranks = unless (nat_lt target ranks) UnknownRank

-- no more bytes than the limit
abbrev pub length_misuse : ℕ → ℕ → Option Misuse
length_misuse length most = if nat_lt most length then Some TooLong else None

-- the two halves of a fetching operation agree
abbrev pub agree : GetArgs → PutArgs → Bool
agree g a = (g.length == a.length)
    && ((g.target == a.target) && ((g.pt == a.pt) && ((g.match_bits == a.match_bits) && (g.remote_offset == a.remote_offset))))

-- and no acknowledgement is asked for
abbrev pub halves_misuse : GetArgs → PutArgs → Option Misuse
halves_misuse g a = or_else (unless (agree g a) HalvesDiffer) (unless (is_no_ack a.ack) AsksAcknowledgement)

-- what is wrong with a start, for so many ranks and these limits
abbrev pub start_misuse : TriggeredOp → ℕ → Limits → Option Misuse
start_misuse (Put a) ranks l = or_else (rank_misuse a.target ranks) (or_else (length_misuse a.length l.msg) None)
start_misuse (Get g) ranks l = or_else (rank_misuse g.target ranks) (or_else (length_misuse g.length l.msg) None)
start_misuse (Atomic a op ty) ranks l =
    or_else (rank_misuse a.target ranks)
    (or_else (length_misuse a.length l.msg)
    (or_else (length_misuse a.length l.atomic) (unless ((a.length % bytes_of ty) == 0) PartialElement)))
start_misuse (FetchAtomic g a op ty) ranks l =
    or_else (rank_misuse a.target ranks)
    (or_else (length_misuse a.length l.msg)
    (or_else (length_misuse a.length l.fetch_atomic)
    (or_else (unless ((a.length % bytes_of ty) == 0) PartialElement) (halves_misuse g a))))
start_misuse (Swap g a op ty operand) ranks l =
    or_else (rank_misuse a.target ranks)
    (or_else (length_misuse a.length l.msg)
    (or_else (unless (a.length == bytes_of ty) PartialElement) (halves_misuse g a)))
start_misuse _ ranks l = None
