-- An arrival at an installed interface is a move of its plan's machine.
use Rattle.std.proofs.Common.{ℕ, zero, suc, Bool, true, false, cond, not, ◌||◌, ◌&&◌, IsTrue, nat_lt, ◌+◌, ◌-◌, ◌*◌, ◌/◌, ◌^◌, ◌%◌, ◌≡◌}
use Rattle.std.proofs.Common.{◌≤◌, ◌<◌, ◌==◌, nat_le, List, [], ◌∷◌, ◌++◌, refl, length, ap, ap₂, ◌∙◌, sym, subst, arith, map, find, Option}
use Rattle.std.proofs.Common.{Some, None, eq-eqb, min, le-leb, count_by, add-zero, if◌then◌else◌, take, take_all, lit<}
use Rattle.std.proofs.lemmas.Bool.{eqb-false, ne_eqb, and_from, and_parts, and_left, false_from_ne_true}
use Rattle.ptl_types.specs.declared.handles.Handle.{Handle}
use Rattle.ptl_types.specs.declared.handles.Count.{Count}
use Rattle.ptl_types.specs.declared.headers.Header.{Header}
use Rattle.ptl_types.specs.Messages.{Sent, message}
use Rattle.ptl_types.specs.declared.elements.AtomicOp.{AtomicOp}
use Rattle.ptl_types.specs.declared.elements.ElemType.{ElemType}
use Rattle.ptl_types.specs.declared.headers.AckRequest.{AckRequest}
use Rattle.ptl_types.specs.declared.headers.MessageKind.{MessageKind}
use Rattle.ptl_types.specs.Handles.{top}
use Rattle.ptl_types.specs.Kinds.{is_answer, is_no_ack, is_put_or_atomic}
use Rattle.ptl_types.specs.declared.headers.MessageKind.TheVariants.{Ack as AckKind, Atomic as AtomicKind, FetchAtomic as FetchAtomicKind}
use Rattle.ptl_types.specs.declared.headers.MessageKind.TheVariants.{Get as GetKind, Put as PutKind, Reply as ReplyKind, Swap as SwapKind}
use Rattle.ptl_types.specs.declared.headers.AckRequest.TheVariants.{CtAck, NoAck}
use Rattle.ptl_types.specs.declared.elements.AtomicOp.TheVariants.{Band, Bor, Bxor, Land, Lor, Lxor, Max, Min, Prod, Sum}
use Rattle.ptl_types.specs.declared.elements.ElemType.TheVariants.{I16, I32, I64, I8, U16, U32, U64, U8}
use Rattle.plan_core.specs.Members.{In}
use Rattle.ptl_types.specs.Elements.{combined, part, written}
use Rattle.ptl_types.specs.Operations.{bytes_of}
use Rattle.ni_model.specs.State.{State, home_of, target, delivers, after_request, after_answer, parts_of}
use Rattle.ni_model.specs.declared.Linked.{Linked}
use Rattle.ni_model.specs.Counts.{bump, successes, counted}
use Rattle.ni_model.specs.Tables.{change, where_set}
use Rattle.ni_model.specs.Queues.{raised}
use Rattle.ptl_types.specs.Matching.{bits_match, is_match}
use Rattle.ptl_types.specs.declared.calls.Outcome.{Outcome}
use Rattle.ptl_types.specs.declared.calls.Outcome.TheVariants.{Matched, Answered, Dropped, Violation}
use Rattle.ptl_types.specs.declared.entries.List.TheVariants.{Priority, Overflow as InOverflow}
use Rattle.ni_model.specs.declared.Found.{Found}
use Rattle.ni_model.specs.Lists.{Index, index_at, fits}
use Rattle.ni_model.specs.Headers.{allows}
use Rattle.ni_model.specs.Events.{is_reply, asks_event, answer_event}
use Rattle.ni_model.specs.Arrive.{or_else, as_found, choose, chosen, chosen_at, whole, delivered, place, old_bytes, new_bytes, writes}
use Rattle.ni_model.specs.Arrive.{memory_after, answer, ack_header, reply_header, received, refused, accepted, judged, request}
use Rattle.ni_model.specs.Answers.{bound_at, is_due, is_awaited, one_answer, one_less, awaits_less, came_home, lost_answer, answered_at}
use Rattle.ni_model.specs.Answers.{answered}
use Rattle.plan_core.specs.declared.LinkKind.{LinkKind}
use Rattle.plan_core.specs.Plan.{Plan, cell, is_bump, link, own}
use Rattle.plan_core.specs.declared.Cell.{Cell}
use Rattle.plan_core.specs.Sound.{SoundPlan}
use Rattle.plan_core.specs.Values.{Inputs, initial, land, land_as}
use Rattle.plan_core.specs.declared.LinkKind.TheVariants.{Atomic, Bump, Put}
use Rattle.cuts.specs.view.View.{Annex, counter_of, descriptor_of, entry_of, view, md_of, mds_of}
use Rattle.cuts.specs.view.Slots.{Slots, cell_ct, done_ct, the_md}
use Rattle.plan_core.specs.calls.Bits.{bits_above, cell_bits, class_of, op_number, type_number}
use Rattle.cuts.specs.view.TriggeredOps.{kind_for, link_header, link_message, send_args, type_for, ack_of}
use Rattle.cuts.specs.view.Steps.{IsLinkHere, IsAckHere, IsQuiet, Sized}
use Rattle.cuts.specs.machine.Seen.{Came, Seen, content, reached_count, to_cell}
use Rattle.plan_core.specs.Places.{cell_length, start_in}
use Rattle.cuts.specs.machine.Machine.{came, note}
use Rattle.cuts.specs.machine.Machine.Move.{Heard, Strayed, Took}
use Rattle.ni_model.specs.Starts.{put_header}
use Rattle.plan_core.proofs.Lists.{In-map_cases, count-append, count-cons}
use Rattle.plan_core.proofs.Links.{Distinct-own, In-own, Lands, own-In}
use Rattle.op_laws.proofs.Bytes.{length-combined, length-part}
use Rattle.plan_core.proofs.Flat.{part_flat, write_flat, written-nil}
use Rattle.cuts.proofs.view.Tables.{done_change, find-none, find-one, same_handle-refl}
use Rattle.cuts.proofs.view.MatchBits.{bits_match-from, bits_match-true, high, high-of}
use Rattle.plan_core.proofs.Values.{Lands-of}
use Rattle.cuts.proofs.view.StepFire.{cts_rise}

-- ---- match bits
pub op_number-le : (o : AtomicOp) → op_number o ≤ 9
op_number-le Min = omega arith
op_number-le Max = omega arith
op_number-le Sum = omega arith
op_number-le Prod = omega arith
op_number-le Lor = omega arith
op_number-le Land = omega arith
op_number-le Bor = omega arith
op_number-le Band = omega arith
op_number-le Lxor = omega arith
op_number-le Bxor = omega arith

pub type_number-le : (t : ElemType) → type_number t ≤ 7
type_number-le U8 = omega arith
type_number-le I8 = omega arith
type_number-le U16 = omega arith
type_number-le I16 = omega arith
type_number-le U32 = omega arith
type_number-le I32 = omega arith
type_number-le U64 = omega arith
type_number-le I64 = omega arith

pub class-lt : (o : Option AtomicOp) (t : ElemType) → class_of o t < 256
class-lt None t = omega arith
class-lt (Some o) t = let a = op_number-le o in let b = type_number-le t in omega arith

pub above-lt : (k c : ℕ) → k < 256 → c < 2 ^ 24 → bits_above k c < 2 ^ 48
above-lt k c h i = omega arith

pub above-one : (k c m d : ℕ) → c < 2 ^ 24 → d < 2 ^ 24 → bits_above k c ≡ bits_above m d → c ≡ d
above-one k c m d h i e = omega arith

pub above-job : (k c : ℕ) → k < 256 → c < 2 ^ 24 → bits_above k c / 2 ^ 32 ≡ 1
above-job k c h i = omega arith

pub cell_bits-lt : (p : Plan) (c : ℕ) → c < 2 ^ 24 → cell_bits p c < 2 ^ 48
cell_bits-lt p c h = above-lt (class_of (cell p c).op (cell p c).ty) c (class-lt (cell p c).op (cell p c).ty) h

pub entry-high : (p : Plan) (c : ℕ) → c < 2 ^ 24 → high (cell_bits p c * 2 ^ 16) ≡ cell_bits p c
entry-high p c h = let q = high-of (cell_bits p c) 0 (cell_bits-lt p c h) (lit< tt) in rw (add-zero (cell_bits p c * 2 ^ 16)) at q

-- ---- the bytes
pub content-push : (p : Plan) (cs : List Came) (a : Came) (c : ℕ) (x : List ℕ) →
    content p (cs ++ a ∷ []) c x ≡ (if (link p a.link).target == c then land p a.link a.bytes (content p cs c x) else content p cs c x)
content-push p [] a c x = refl
content-push p (b ∷ cs) a c x = content-push p cs a c (if (link p b.link).target == c then land p b.link b.bytes x else x)

pub written-place : (n q : ℕ) (bs xs : List ℕ) → length bs ≡ n → written (if n == 0 then 0 else q) bs xs ≡ written q bs xs
written-place n q [] xs e = written-nil (if n == 0 then 0 else q) xs ∙ sym (written-nil q xs)
written-place n q (b ∷ bs) xs e = let z : (n == 0) ≡ false = ne_eqb n 0 (λ i. absurd (omega arith)) in
    ap (λ t. written (cond t 0 q) (b ∷ bs) xs) z

pub part-place : (n q : ℕ) (xs : List ℕ) → part (if n == 0 then 0 else q) n xs ≡ part q n xs
part-place zero q xs = refl
part-place (suc n) q xs = let z : (suc n == 0) ≡ false = ne_eqb (suc n) 0 (λ i. absurd (omega arith)) in
    ap (λ t. part (cond t 0 q) (suc n) xs) z

minus-zero : (n m : ℕ) → m ≡ 0 → n - m ≡ n
minus-zero n m e = omega arith

-- all of a link's message is delivered
pub whole-by : (o : Option AtomicOp) (ty : ElemType) (n at size : ℕ) → at + n ≤ size → ((v : AtomicOp) → o ≡ Some v → n % bytes_of ty ≡ 0)
    → whole (kind_for o) (type_for o ty) (min n (size - at)) ≡ n
whole-by None ty n at size h w = omega arith
whole-by (Some v) ty n at size h w = let m : min n (size - at) ≡ n = omega arith in rw m (minus-zero n (n % bytes_of ty) (w v refl))

-- what it leaves of its part is what the link leaves
abbrev pub header_as : Plan → Slots → ℕ → Option AtomicOp → Header
header_as p k l o = put_header (cell p (link p l).source).rank (kind_for o) (send_args p k l) o (type_for o (cell p (link p l).target).ty)

land-new : (p : Plan) (k : Slots) (l : ℕ) (t : Cell) (a : LinkKind) (o : Option AtomicOp) (at : ℕ) (bs x : List ℕ) → t.op ≡ o →
    t.ty ≡ (cell p (link p l).target).ty → Lands t a at bs → is_bump a ≡ false
    → written at (new_bytes (kind_for o) (header_as p k l o) (part at (length bs) x) bs) x ≡ land_as a t at bs x
land-new p k l t Bump o at bs x e f h b = cc
land-new p k l t Put None at bs x e f h b = refl
land-new p k l t Put (Some v) at bs x e f h b = let q = h.here v e in cc
land-new p k l t Atomic None at bs x e f h b = absurd (h.no_op e refl)
land-new p k l t Atomic (Some v) at bs x e f h b = ap (λ u. written at u x) (ap (λ y. combined v y (part at (length bs) x) bs) (sym f)
    ∙ sym (ap (λ (w : Option AtomicOp). elim w [ Some z ↦ combined z t.ty (part at (length bs) x) bs | None ↦ part at (length bs) x ]) e))

length-new : (p : Plan) (k : Slots) (l : ℕ) (o : Option AtomicOp) (old bs : List ℕ) → length old ≡ length bs →
    ((v : AtomicOp) → o ≡ Some v → length bs % bytes_of (cell p (link p l).target).ty ≡ 0) →
    length (new_bytes (kind_for o) (header_as p k l o) old bs) ≡ length bs
length-new p k l None old bs e w = refl
length-new p k l (Some v) old bs e w = length-combined v (cell p (link p l).target).ty old bs (rw e (w v refl)) ∙ e

-- ---- what the machine says
pub came-counted : (p : Plan) (r : ℕ) (g : Seen) (a : Came) (d : ℕ) (b : Bool) → to_cell p d a ≡ b →
    reached_count p (record g { came = g.came ++ a ∷ [] }) r d ≡ cond b (suc (reached_count p g r d)) (reached_count p g r d)
came-counted p r g a d true e =
    let m = count-append (to_cell p d) g.came (a ∷ []) in
    let n = count-cons (to_cell p d) a [] in
    let c : count_by (to_cell p d) (a ∷ []) ≡ 1 = n ∙ ap (λ b. cond b 1 0 + count_by (to_cell p d) []) e ∙ refl in
    omega (arith, m, c)
came-counted p r g a d false e =
    let m = count-append (to_cell p d) g.came (a ∷ []) in
    let n = count-cons (to_cell p d) a [] in
    let c : count_by (to_cell p d) (a ∷ []) ≡ 0 = n ∙ ap (λ b. cond b 1 0 + count_by (to_cell p d) []) e ∙ refl in
    omega (arith, m, c)

-- ---- the step
pub Lands-here : (p : Plan) (inputs : Inputs) → SoundPlan p (length inputs) → (r l : ℕ) → IsLinkHere p r l → (bs : List ℕ) →
    length bs ≡ (link p l).length → Lands (cell p (link p l).target) (link p l).kind (link p l).target_offset bs
Lands-here p inputs sound r l h bs e = Lands-of p l (sound.links_sound l h.known) bs e

pub atomic-whole : (p : Plan) (inputs : Inputs) → SoundPlan p (length inputs) → (r l : ℕ) → IsLinkHere p r l → (v : AtomicOp) →
    (cell p (link p l).target).op ≡ Some v → (link p l).length % bytes_of (cell p (link p l).target).ty ≡ 0
atomic-whole p inputs sound r l h v e =
    let w = sound.links_sound l h.known in
    let a = w.atomic_whole (w.atomic_here v e) in
    rw a.1 (sound.whole (link p l).target w.cells)

pub not_answer : (o : Option AtomicOp) → is_answer (kind_for o) ≡ false
not_answer None = refl
not_answer (Some v) = refl

pub is_put : (o : Option AtomicOp) → is_put_or_atomic (kind_for o) ≡ true
is_put None = refl
is_put (Some v) = refl

pub writes-for : (o : Option AtomicOp) → writes (kind_for o) ≡ true
writes-for None = refl
writes-for (Some v) = refl

pub delivered-pair : (a b : State) (o : Outcome) (m n : Option Sent) → a ≡ b → m ≡ n → delivers a o m ≡ delivers b o n
delivered-pair a b o m n e f = ap₂ (λ x y. delivers x o y) e f

-- the acknowledgement of a message that asks as b says
abbrev pub ack_as : ℕ → Header → AckRequest → Option Sent
ack_as n h a = Some (message (record (ack_header true n h) { ack = a }) [])

pub ack-as : (b : Bool) (n : ℕ) (bs : List ℕ) (h : Header) → is_put_or_atomic h.kind ≡ true → h.ack ≡ (if b then CtAck else NoAck) →
    answer true n bs h ≡ (if b then ack_as n h CtAck else None)
ack-as true n bs h e f = ap₂ (λ t a. if t then (if is_no_ack a then None else ack_as n h a) else Some
    (message (reply_header true n h) bs)) e f
ack-as false n bs h e f = ap₂ (λ t a. if t then (if is_no_ack a then None else ack_as n h a) else Some
    (message (reply_header true n h) bs)) e f

pub put-no-answer : (k : MessageKind) → is_put_or_atomic k ≡ true → is_answer k ≡ false
put-no-answer PutKind e = refl
put-no-answer AtomicKind e = refl
put-no-answer GetKind e = cc
put-no-answer FetchAtomicKind e = cc
put-no-answer SwapKind e = cc
put-no-answer AckKind e = cc
put-no-answer ReplyKind e = cc

pub none-chosen : (h : Header) (i : Index) → find (fits h) i.priority ≡ None → find (fits h) i.overflow ≡ None → choose h i ≡ None
none-chosen h i e f = ap₂ (λ x y. or_else (as_found Priority x) (if is_put_or_atomic h.kind then as_found InOverflow y else None)) e f
    ∙ either (is_put_or_atomic h.kind)
  where
    either : (b : Bool) → (let x : Option Found = if b then None else None in x) ≡ None
    either true = refl
    either false = refl

-- of one index alone
pub one-index : (h : Header) (i : Index) (pt : ℕ) → choose h i ≡ None → chosen_at h (index_at pt (Some i ∷ [])) ≡ None
one-index h i zero e = e
one-index h i (suc pt) e = refl

pub more-min : (n t : ℕ) → min (suc (min n t)) t ≡ min (suc n) t
more-min n t = omega arith

-- the job bits of a link's message
pub bits-job : (p : Plan) (inputs : Inputs) → SoundPlan p (length inputs) → (r l : ℕ) → IsLinkHere p r l →
    (cell_bits p (link p l).target * 2 ^ 16 + (cell p (link p l).source).rank) / 2 ^ 48 % 2 ^ 16 ≡ 1
bits-job p inputs sound r l h =
    let w = sound.links_sound l h.known in
    let up = w.rising in
    let t = w.cells in
    let at_most = sound.few_cells in
    let a = sound.ranks_known (link p l).source (omega arith) in
    let b = sound.few_ranks in
    job (class_of (cell p (link p l).target).op (cell p (link p l).target).ty) (link p l).target (cell p (link p l).source).rank
    (class-lt (cell p (link p l).target).op (cell p (link p l).target).ty) (omega arith) (omega arith)
  where
    job : (k c s : ℕ) → k < 256 → c < 2 ^ 24 → s < 2 ^ 16 → (bits_above k c * 2 ^ 16 + s) / 2 ^ 48 % 2 ^ 16 ≡ 1
    job k c s h i j = omega arith

module _ (annex : Annex) (quiet : IsQuiet annex) where
  fits-target : (p : Plan) (inputs : Inputs) → SoundPlan p (length inputs) → (s k : Slots) (r l : ℕ) → IsLinkHere p r l →
      fits (link_header p k l) (entry_of annex p s (link p l).target) ≡ true
  fits-target p inputs sound s k r l h =
      let w = sound.links_sound l h.known in
      let up = w.rising in
      let top = w.cells in
      let at_most = sound.few_cells in
      let t : (link p l).target < 2 ^ 24 = omega arith in
      let rank_small : (cell p (link p l).source).rank < 2 ^ 16 =
      (let a = sound.ranks_known (link p l).source (omega arith) in let b = sound.few_ranks in omega arith) in
      let m : bits_match (2 ^ 16 - 1) (cell_bits p (link p l).target * 2 ^ 16 + (cell p (link p l).source).rank)
      (cell_bits p (link p l).target * 2 ^ 16) ≡ true =
      bits_match-from _ _ (high-of (cell_bits p (link p l).target) (cell p (link p l).source).rank (cell_bits-lt p (link p l).target t)
      rank_small ∙ sym (entry-high p (link p l).target t)) in
      let n : nat_le (link p l).length ((cell p (link p l).target).length - (link p l).target_offset) ≡ true =
      le-leb _ _ (let f = w.within_target in omega arith) in
      and_from _ _ (and_from _ _ m refl) n

  only-target : (p : Plan) (inputs : Inputs) → SoundPlan p (length inputs) → (s k : Slots) (r l : ℕ) → IsLinkHere p r l → (c : ℕ) →
      c < length p.cells → fits (link_header p k l) (entry_of annex p s c) ≡ true → c ≡ (link p l).target
  only-target p inputs sound s k r l h c i e =
      let w = sound.links_sound l h.known in
      let up = w.rising in
      let top = w.cells in
      let at_most = sound.few_cells in
      let t : (link p l).target < 2 ^ 24 = omega arith in
      let d : c < 2 ^ 24 = omega arith in
      let rank_small : (cell p (link p l).source).rank < 2 ^ 16 =
      (let a = sound.ranks_known (link p l).source (omega arith) in let b = sound.few_ranks in omega arith) in
      let m = (and_parts _ _ (and_parts _ _ e).0).0 in
      let q = bits_match-true _ _ m in
      let x : cell_bits p (link p l).target ≡ cell_bits p c =
      sym (high-of (cell_bits p (link p l).target) (cell p (link p l).source).rank (cell_bits-lt p (link p l).target t) rank_small)
      ∙ q ∙ entry-high p c d in
      sym (above-one _ (link p l).target _ c t d x)

  abbrev pub found_link : Plan → Slots → ℕ → Found
  found_link p s l = record { list = Priority; linked = entry_of annex p s (link p l).target }

  chosen-link : (p : Plan) (inputs : Inputs) → SoundPlan p (length inputs) → (s k : Slots) (r l : ℕ) (g : Seen) → IsLinkHere p r l →
      chosen (link_header p k l) (view annex p inputs s r g).indices ≡ Some (found_link p s l)
  chosen-link p inputs sound s k r l g h =
      let w = sound.links_sound l h.known in
      ap (λ o. or_else (as_found Priority o) (if is_put_or_atomic (kind_for (cell p (link p l).target).op) then as_found InOverflow
      (find (fits (link_header p k l)) annex.before) else None))
      (find-one (fits (link_header p k l)) (entry_of annex p s) (own p r) (link p l).target (In-own p r (link p l).target w.cells h.here)
      (fits-target p inputs sound s k r l h)
      (λ c i e. only-target p inputs sound s k r l h c (own-In p r c i).0 e))

  delivered-link : (p : Plan) (inputs : Inputs) → SoundPlan p (length inputs) → (s k : Slots) (r l : ℕ) → IsLinkHere p r l →
      delivered (entry_of annex p s (link p l).target) (link_header p k l) ≡ (link p l).length
  delivered-link p inputs sound s k r l h =
      whole-by (cell p (link p l).target).op (cell p (link p l).target).ty (link p l).length (link p l).target_offset
      (cell p (link p l).target).length (sound.links_sound l h.known).within_target (atomic-whole p inputs sound r l h)

  pub memory-link : (p : Plan) (inputs : Inputs) → SoundPlan p (length inputs) → (s k : Slots) (r l : ℕ) (g : Seen) → IsLinkHere p r l →
      Sized p inputs g → (bs : List ℕ) → length bs ≡ (link p l).length
      → memory_after (entry_of annex p s (link p l).target) (link_message p k l bs) (view annex p inputs s r g).memory
      ≡ (view annex p inputs s r (note p g (Took l bs))).memory
  memory-link p inputs sound s k r l g h sized bs e =
      let w = sound.links_sound l h.known in
      let c = (link p l).target in
      let o = (cell p (link p l).target).op in
      let off = (link p l).target_offset in
      let q = start_in p (own p (cell p (link p l).target).rank) (link p l).target + (link p l).target_offset in
      let mem = (view annex p inputs s r g).memory in
      let d = delivered-link p inputs sound s k r l h in
      let old = part (link p l).target_offset (length bs) (content p g.came (link p l).target (initial p inputs (link p l).target)) in
      let own_c : In (link p l).target (own p r) = In-own p r (link p l).target w.cells h.here in
      let size_c = sized (link p l).target w.cells in
      let fit = w.within_target in
      let is_old : part (if (link p l).length == 0 then 0 else q) (link p l).length mem ≡ old =
      part-place (link p l).length q mem
      ∙ ap (λ v. part (start_in p (own p v) (link p l).target + (link p l).target_offset) (link p l).length mem) h.here
      ∙ part_flat (cell_length p) (λ x. content p g.came x (initial p inputs x)) (own p r) (λ x i. sized x (own-In p r x i).0)
      (link p l).target (link p l).target_offset (link p l).length own_c fit annex.tail
      ∙ ap (λ n. part (link p l).target_offset n (content p g.came (link p l).target (initial p inputs (link p l).target))) (sym e) in
      let new = new_bytes (kind_for o) (header_as p k l o) old bs in
      let new_length : length new ≡ length bs = length-new p k l o old bs
      (length-part (link p l).target_offset (length bs) (content p g.came (link p l).target (initial p inputs (link p l).target))
      (omega arith)) (λ v i. rw e (atomic-whole p inputs sound r l h v i)) in
      ap (λ b. cond b (written (place (entry_of annex p s (link p l).target) (link_header p k l))
      (new_bytes (kind_for o) (link_header p k l) (old_bytes (entry_of annex p s (link p l).target) (link_header p k l) mem)
      (take (delivered (entry_of annex p s (link p l).target) (link_header p k l)) bs)) mem) mem) (writes-for o)
      ∙ ap (λ n. written (if n == 0 then 0 else q) (new_bytes (kind_for o) (header_as p k l o) (part (if n == 0 then 0 else q) n mem)
      (take n bs)) mem) d
      ∙ ap₂ (λ x y. written (if (link p l).length == 0 then 0 else q) (new_bytes (kind_for o) (header_as p k l o) x y) mem) is_old
      (take_all (link p l).length bs (omega arith))
      ∙ written-place (link p l).length q new mem (new_length ∙ e)
      ∙ ap (λ v. written (start_in p (own p v) (link p l).target + (link p l).target_offset) new mem) h.here
      ∙ write_flat (cell_length p) (λ x. content p g.came x (initial p inputs x))
      (λ x. content p (g.came ++ came l bs ∷ []) x (initial p inputs x)) (own p r) (Distinct-own p r)
      (λ x i. sized x (own-In p r x i).0)
      (link p l).target (link p l).target_offset new own_c (omega arith)
      (content-push p g.came (came l bs) (link p l).target (initial p inputs (link p l).target)
      ∙ ap (λ t. cond t (land p l bs (content p g.came (link p l).target (initial p inputs (link p l).target)))
      (content p g.came (link p l).target (initial p inputs (link p l).target))) (eq-eqb (link p l).target (link p l).target refl)
      ∙ sym (land-new p k l (cell p (link p l).target) (link p l).kind o (link p l).target_offset bs
      (content p g.came (link p l).target (initial p inputs (link p l).target)) refl refl (Lands-here p inputs sound r l h bs e)
      h.sends))
      (λ x i n. content-push p g.came (came l bs) x (initial p inputs x)
      ∙ ap (λ t. cond t (land p l bs (content p g.came x (initial p inputs x))) (content p g.came x (initial p inputs x)))
      (ne_eqb (link p l).target x (λ j. n (sym j))))
      annex.tail

  pub cts-link : (p : Plan) (inputs : Inputs) → SoundPlan p (length inputs) → (s : Slots) (r l : ℕ) (g : Seen) → IsLinkHere p r l →
      (bs : List ℕ)
      → change (cell_ct p s (link p l).target) (bump (successes 1)) (view annex p inputs s r g).cts.live
      ≡ (view annex p inputs s r (note p g (Took l bs))).cts.live
  cts-link p inputs sound s r l g h bs =
      cts_rise annex p inputs s r g (note p g (Took l bs)) (link p l).target
      (In-own p r (link p l).target (sound.links_sound l h.known).cells h.here) refl
      (came-counted p r g (came l bs) (link p l).target true (eq-eqb _ _ refl))
      (λ d n. came-counted p r g (came l bs) d false (ne_eqb (link p l).target d (λ i. n (sym i))))

  allowed : (p : Plan) (s : Slots) (c : ℕ) (o : Option AtomicOp) → allows (entry_of annex p s c).entry (kind_for o) ≡ true
  allowed p s c None = refl
  allowed p s c (Some v) = refl

  pub step_link : (p : Plan) (inputs : Inputs) → SoundPlan p (length inputs) → (s k : Slots) (r l : ℕ) (g : Seen) → IsLinkHere p r l →
      Sized p inputs g → (bs : List ℕ) → length bs ≡ (link p l).length
      → target (view annex p inputs s r g) (link_message p k l bs) ≡ delivers (view annex p inputs s r (note p g (Took l bs))) Matched
      (ack_of p k l)
  unfolding target request answered
  step_link p inputs sound s k r l g h sized bs e =
      let o = (cell p (link p l).target).op in
      ap (λ b. cond b (after_answer (view annex p inputs s r g) (answered (home_of (view annex p inputs s r g)) (link_message p k l bs)))
      (after_request (view annex p inputs s r g) (request (parts_of (view annex p inputs s r g)) (link_message p k l bs))))
      (not_answer o)
      ∙ ap (λ f. after_request (view annex p inputs s r g) (judged (parts_of (view annex p inputs s r g)) (link_message p k l bs) f))
      (chosen-link p inputs sound s k r l g h)
      ∙ ap (λ b. after_request (view annex p inputs s r g) (cond b
      (accepted (parts_of (view annex p inputs s r g)) (link_message p k l bs) (found_link p s l))
      (received (parts_of (view annex p inputs s r g)) (refused Violation (link_header p k l))))) (allowed p s (link p l).target o)
      ∙ delivered-pair _ _ Matched _ _
      (ap₂ (λ x y. record (view annex p inputs s r g) { memory = x; cts = record (view annex p inputs s r g).cts { live = y } })
      (memory-link p inputs sound s k r l g h sized bs e) (cts-link p inputs sound s r l g h bs))
      (ack-as p.remote (delivered (entry_of annex p s (link p l).target) (link_header p k l))
      (old_bytes (entry_of annex p s (link p l).target) (link_header p k l) (view annex p inputs s r g).memory) (link_header p k l)
      (is_put o) refl
      ∙ ap (λ n. if p.remote then ack_as n (link_header p k l) CtAck else None) (delivered-link p inputs sound s k r l h))

  -- ---- a stray
  no-match : (p : Plan) (inputs : Inputs) → SoundPlan p (length inputs) → (s : Slots) (m : Sent) →
      (m.header.match_bits / 2 ^ 48 % 2 ^ 16 == 1) ≡ false → (c : ℕ) → c < length p.cells →
      is_match (entry_of annex p s c).entry m.header ≡ false
  no-match p inputs sound s m e c h = false_from_ne_true _ (λ t.
      let at_most = sound.few_cells in
      let d : c < 2 ^ 24 = omega arith in
      let q : high m.header.match_bits ≡ cell_bits p c = bits_match-true _ _ (and_parts _ _ t).0 ∙ entry-high p c d in
      let j : cell_bits p c / 2 ^ 32 ≡ 1 = above-job (class_of (cell p c).op (cell p c).ty) c (class-lt (cell p c).op (cell p c).ty) d in
      let z = eqb-false _ _ e in
      z (job_of m.header.match_bits (cell_bits p c) q j))
    where
      job_of : (b x : ℕ) → high b ≡ x → x / 2 ^ 32 ≡ 1 → b / 2 ^ 48 % 2 ^ 16 ≡ 1
      job_of b x q j = omega arith

  unmatched : (x : Linked) (h : Header) → is_match x.entry h ≡ false → fits h x ≡ false
  unmatched x h q = and_left _ _ q

  none-in-cells : (p : Plan) (inputs : Inputs) → SoundPlan p (length inputs) → (s : Slots) (r : ℕ) (m : Sent) →
      (m.header.match_bits / 2 ^ 48 % 2 ^ 16 == 1) ≡ false → find (fits m.header) (map (entry_of annex p s) (own p r)) ≡ None
  none-in-cells p inputs sound s r m e = find-none (fits m.header) (map (entry_of annex p s) (own p r)) (λ x i.
      let k = In-map_cases (entry_of annex p s) x (own p r) i in
      subst (λ y. fits m.header y ≡ false) k.2 (unmatched (entry_of annex p s k.0) m.header
      (no-match p inputs sound s m e k.0 (own-In p r k.0 k.1).0)))

  none-before : (m : Sent) → (m.header.match_bits / 2 ^ 48 % 2 ^ 16 == 1) ≡ false → find (fits m.header) annex.before ≡ None
  none-before m e = find-none (fits m.header) annex.before (λ x i. unmatched x m.header (quiet.ours x i m.header e))

  -- a put or an atomic of another job that asks for no answer
  pub step_stray : (p : Plan) (inputs : Inputs) → SoundPlan p (length inputs) → (s : Slots) (r : ℕ) (g : Seen) (m : Sent)
      → is_put_or_atomic m.header.kind ≡ true → is_no_ack m.header.ack ≡ true → (m.header.match_bits / 2 ^ 48 % 2 ^ 16 == 1) ≡ false
      → target (view annex p inputs s r g) m ≡ delivers (view annex p inputs s r (note p g Strayed)) Dropped None
  unfolding target request answered
  step_stray p inputs sound s r g m put quiet_ack job =
      ap (λ b. cond b (after_answer (view annex p inputs s r g) (answered (home_of (view annex p inputs s r g)) m))
      (after_request (view annex p inputs s r g) (request (parts_of (view annex p inputs s r g)) m))) (put-no-answer m.header.kind put)
      ∙ ap (λ f. after_request (view annex p inputs s r g) (judged (parts_of (view annex p inputs s r g)) m f))
      (one-index m.header _ m.header.pt (none-chosen m.header
      (record { eq = None; priority = map (entry_of annex p s) (own p r); overflow = annex.before })
      (none-in-cells p inputs sound s r m job) (none-before m job)))
      ∙ delivered-pair _ _ Dropped _ _
      (ap (λ n. record (view annex p inputs s r g) { drops = n }) (more-min g.strays top))
      (ap₂ (λ t a. if t then (if a then None else Some (message (ack_header false 0 m.header) [])) else Some
      (message (reply_header false 0 m.header) [])) put quiet_ack)

module _ (annex : Annex) where
  pub home-md : (p : Plan) (inputs : Inputs) (s : Slots) (r : ℕ) (g : Seen) (m : Sent) → IsAckHere s m →
      bound_at m.header.home (view annex p inputs s r g).mds ≡ Some (md_of annex p s r g.awaits)
  home-md p inputs s r g m h =
      ap (λ (o : Option Handle). bound_at o (view annex p inputs s r g).mds) h.home
      ∙ ap (λ t. cond t (Some (md_of annex p s r g.awaits)) None) (same_handle-refl (the_md s))

  pub due-here : (p : Plan) (inputs : Inputs) (s : Slots) (r : ℕ) (g : Seen) (m : Sent) → IsAckHere s m →
      IsTrue (is_awaited (view annex p inputs s r g).mds.live) → is_due m.header (md_of annex p s r g.awaits) ≡ true
  due-here p inputs s r g m h d = ack_due (nat_lt 0 g.awaits) m.header.kind m.header.ok
      (nat_le (m.header.home_offset + m.header.length) (descriptor_of annex p s r).length) h.kind d
    where
      ack_due : (b : Bool) (k : MessageKind) (ok fit : Bool) → k ≡ AckKind → IsTrue (b || false) →
          b && (not (is_reply k && ok) || fit) ≡ true
      ack_due true k ok fit e d = ap (λ k. not (is_reply k && ok) || fit) e
      ack_due false k ok fit e d = absurd (no_truth d)
        where
          no_truth : IsTrue false → ⊥
          no_truth d = cc

  done-by : (p : Plan) (inputs : Inputs) (s : Slots) (r : ℕ) (g : Seen) (by : Count) (b : Bool) →
      counted (where_set b (if b then Some (done_ct s) else None)) by (view annex p inputs s r g).cts
      ≡ record (view annex p inputs s r g).cts {
        live = record { handle = done_ct s; value = if b then bump by g.done else g.done } ∷ map
            (counter_of p s r g) (own p r);
      }
  done-by p inputs s r g by false = refl
  done-by p inputs s r g by true =
      ap₂ (λ x y. record (view annex p inputs s r g).cts { live = x ∷ y })
      (ap (λ t. record { handle = done_ct s; value = cond t (bump by g.done) g.done }) (same_handle-refl (done_ct s)))
      (done_change p s (bump by) (own p r) (λ d. successes (min (reached_count p g r d) top)))

  -- what an answer of this kind, that asked so and has this home, does to the interface
  abbrev pub home_state : Plan → Inputs → Slots → ℕ → Seen → Sent → MessageKind → AckRequest → Option Handle → State
  home_state p inputs s r g m k a o = record (view annex p inputs s r g) {
    memory = if is_reply k && m.header.ok then written (0 + m.header.home_offset) m.bytes (view annex p inputs s r g).memory else
        (view annex p inputs s r g).memory;
    cts = counted (where_set (if is_reply k then false else p.remote) (if p.remote then Some (done_ct s) else None))
        (one_answer m.header.ok) (view annex p inputs s r g).cts;
    eqs = if is_reply k || asks_event a then raised None (answer_event (md_of annex p s r g.awaits) m.header)
        (view annex p inputs s r g).eqs else (view annex p inputs s r g).eqs;
    mds = awaits_less o (view annex p inputs s r g).mds;
  }

  pub step_ack : (p : Plan) (inputs : Inputs) (s : Slots) (r : ℕ) (g : Seen) (m : Sent) → IsAckHere s m →
      is_due m.header (md_of annex p s r g.awaits) ≡ true
      → target (view annex p inputs s r g) m ≡ delivers (view annex p inputs s r (note p g (Heard m.header.ok))) Answered None
  unfolding target request answered
  step_ack p inputs s r g m h due =
      ap (λ t. cond t (after_answer (view annex p inputs s r g) (answered (home_of (view annex p inputs s r g)) m))
      (after_request (view annex p inputs s r g) (request (parts_of (view annex p inputs s r g)) m))) (ap is_answer h.kind)
      ∙ ap (λ b. after_answer (view annex p inputs s r g) (answered_at (home_of (view annex p inputs s r g)) m b))
      (home-md p inputs s r g m h)
      ∙ ap (λ t. after_answer (view annex p inputs s r g) (cond t
      (came_home (home_of (view annex p inputs s r g)) m (md_of annex p s r g.awaits))
      (lost_answer (home_of (view annex p inputs s r g))))) due
      ∙ delivered-pair _ _ Answered None None
      ((λ d. home_state p inputs s r g m (h.kind d) (h.answered d) (h.home d))
      ∙ ap₂ (λ x y. record (view annex p inputs s r g) { cts = x; mds = y })
      (done-by p inputs s r g (one_answer m.header.ok) p.remote)
      (ap (λ t. record (mds_of annex p s r g.awaits) {
        live =
            record { handle = the_md s; value = cond t (one_less (md_of annex p s r g.awaits)) (md_of annex p s r g.awaits) } ∷ [];
      })
      (same_handle-refl (the_md s))))
      refl
