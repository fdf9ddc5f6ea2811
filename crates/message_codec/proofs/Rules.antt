-- Nothing is wrong with a header exactly where it and its bytes belong together.
use Rattle.std.proofs.Common.{◌≡◌, ℕ, ◌%◌, ◌≤◌, Bool, true, false, not, ◌&&◌, cond, eqb}
use Rattle.std.proofs.Common.{ltb, List, [], length, Option, Some, None, is_some, IsTrue, refl, subst, arith}
use Rattle.std.proofs.lemmas.Bool.{eqb-true, eq-eqb, ltb-false, le-ltb}
use Rattle.std.proofs.lemmas.List.{nil_from_length}
use Rattle.ptl_types.specs.declared.headers.Header.{Header}
use Rattle.ptl_types.specs.declared.headers.MessageKind.{MessageKind}
use Rattle.ptl_types.specs.declared.headers.MessageKind.TheVariants.{Put, Get, Atomic, FetchAtomic, Swap as SwapKind, Ack as AckKind, Reply}
use Rattle.ptl_types.specs.Filled.{filled}
use Rattle.ptl_types.specs.Kinds.{has_elements, has_op, is_swap}
use Rattle.ptl_types.specs.Messages.{FillsHeader, bytes_due, room_due}
use Rattle.ptl_types.specs.Operations.{bytes_of}
use Rattle.message_codec.specs.declared.fault.Fault.{Fault}
use Rattle.message_codec.specs.declared.fault.Fault.TheVariants.{Short, OperationOfKind, SwapOfKind, PartElement, OneElement, Long}
use Rattle.message_codec.specs.Reading.{differ, fault_of, is_get}

same-differ : (a b : Bool) → a ≡ b → differ a b ≡ false
same-differ true true e = refl
same-differ true false e = absurd cc
same-differ false true e = absurd cc
same-differ false false e = refl

differ-same : (a b : Bool) → differ a b ≡ false → a ≡ b
differ-same true true e = refl
differ-same true false e = absurd cc
differ-same false true e = absurd cc
differ-same false false e = refl

unnot : (b : Bool) → not b ≡ false → b ≡ true
unnot true e = refl
unnot false e = absurd cc

-- a test of two numbers that is made only where b holds
only-where : (b : Bool) (x y : ℕ) → (IsTrue b → x ≡ y) → (b && not (eqb x y)) ≡ false
only-where true x y h = rw (eq-eqb x y (h refl)) refl
only-where false x y h = refl

where-only : (b : Bool) (x y : ℕ) → (b && not (eqb x y)) ≡ false → IsTrue b → x ≡ y
where-only true x y e is = eqb-true x y (unnot (eqb x y) e)
where-only false x y e is = absurd cc

-- a test that finds nothing wrong
passed : (b : Bool) (fault : Fault) (others : Option Fault) → cond b (Some fault) others ≡ None → (b ≡ false) × (others ≡ None)
passed true fault others e = absurd cc
passed false fault others e = (refl, e)

pub sound : (h : Header) (list : List ℕ) (room : ℕ) → FillsHeader h (filled list room) → fault_of h (length list) ≡ None
unfolding fault_of
sound h list room f =
    let op = same-differ (is_some h.op) (has_op h.kind) f.op in
    let swap = same-differ (is_some h.swap) (is_swap h.kind) f.swap in
    let whole = only-where (has_elements h.kind) (h.length % bytes_of h.ty) 0 f.whole in
    let one = only-where (is_swap h.kind) h.length (bytes_of h.ty) f.one in
    let due = f.bytes in
    let short : ltb (length list) (bytes_due h.kind h.ok h.length) ≡ false = le-ltb _ _ (omega (arith, due)) in
    let long : ltb (bytes_due h.kind h.ok h.length) (length list) ≡ false = le-ltb _ _ (omega (arith, due)) in
    rw (op, swap, whole, one, short, long) refl

pub fills : (h : Header) (list : List ℕ) (room : ℕ) → fault_of h (length list) ≡ None → room_due h.kind h.length ≤ room
    → FillsHeader h (filled list room)
unfolding fault_of
fills h list room none enough =
    let n = length list in
    let due = bytes_due h.kind h.ok h.length in
    let last : Option Fault = cond (ltb due n) (Some Long) None in
    let lengths : Option Fault = cond (ltb n due) (Some Short) last in
    let ones : Option Fault = cond (is_swap h.kind && not (eqb h.length (bytes_of h.ty))) (Some OneElement) lengths in
    let wholes : Option Fault = cond (has_elements h.kind && not (eqb (h.length % bytes_of h.ty) 0)) (Some PartElement) ones in
    let swaps : Option Fault = cond (differ (is_some h.swap) (is_swap h.kind)) (Some SwapOfKind) wholes in
    let a = passed (differ (is_some h.op) (has_op h.kind)) OperationOfKind swaps none in
    let b = passed (differ (is_some h.swap) (is_swap h.kind)) SwapOfKind wholes a.1 in
    let c = passed (has_elements h.kind && not (eqb (h.length % bytes_of h.ty) 0)) PartElement ones b.1 in
    let d = passed (is_swap h.kind && not (eqb h.length (bytes_of h.ty))) OneElement lengths c.1 in
    let e = passed (ltb n due) Short last d.1 in
    let f = passed (ltb due n) Long None e.1 in
    let least : due ≤ n = ltb-false _ _ e.0 in
    let most : n ≤ due = ltb-false _ _ f.0 in
    record {
      bytes = omega arith;
      room = enough;
      whole = where-only (has_elements h.kind) (h.length % bytes_of h.ty) 0 c.0;
      op = differ-same (is_some h.op) (has_op h.kind) a.0;
      swap = differ-same (is_some h.swap) (is_swap h.kind) b.0;
      one = where-only (is_swap h.kind) h.length (bytes_of h.ty) d.0;
    }

no-room : (k : MessageKind) (n : ℕ) → is_get k ≡ false → room_due k n ≡ 0
no-room Put n e = refl
no-room Get n e = absurd cc
no-room Atomic n e = refl
no-room FetchAtomic n e = refl
no-room SwapKind n e = refl
no-room AckKind n e = refl
no-room Reply n e = refl

room-of-get : (k : MessageKind) (ok : Bool) (n : ℕ) → is_get k ≡ true → (room_due k n ≤ n) × (bytes_due k ok n ≡ 0)
room-of-get Put ok n e = absurd cc
room-of-get Get ok n e = (omega arith, refl)
room-of-get Atomic ok n e = absurd cc
room-of-get FetchAtomic ok n e = absurd cc
room-of-get SwapKind ok n e = absurd cc
room-of-get AckKind ok n e = absurd cc
room-of-get Reply ok n e = absurd cc

-- of all kinds but a get the bytes are those that came, with no further room
pub others_fill : (h : Header) (list : List ℕ) → is_get h.kind ≡ false → fault_of h (length list) ≡ None
    → FillsHeader h (filled list (length list))
others_fill h list other none = let e = no-room h.kind h.length other in fills h list (length list) none (omega (arith, e))

-- a get comes without bytes, and is given room
pub get_brings_none : (h : Header) (list : List ℕ) → is_get h.kind ≡ true → fault_of h (length list) ≡ None → list ≡ []
get_brings_none h list get none =
    let r = room-of-get h.kind h.ok h.length get in
    let f = fills h list h.length none r.0 in
    nil_from_length list (omega (arith, f.bytes, r.1))

pub get_fills : (h : Header) (list : List ℕ) → is_get h.kind ≡ true → fault_of h (length list) ≡ None → FillsHeader h (filled [] h.length)
get_fills h list get none =
    let r = room-of-get h.kind h.ok h.length get in
    let P : List ℕ → Type 0 = λ l. FillsHeader h (filled l h.length) in
    subst P (get_brings_none h list get none) (fills h list h.length none r.0)
