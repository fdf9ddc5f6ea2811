-- What a rank receives in a cut conforms to its plan.
use Rattle.std.proofs.Common.{ℕ, Bool, true, false, not, ◌≡◌, ◌⊎◌, List, [], ◌∷◌, refl, ap, ap₂, ◌∙◌, sym, subst, inl, inr, map, filter}
use Rattle.std.proofs.Common.{Option, Some, None, if◌then◌else◌}
use Rattle.std.proofs.lemmas.Bool.{and_parts, and_left}
use Rattle.ptl_types.specs.declared.handles.Handle.{Handle}
use Rattle.ptl_types.specs.declared.headers.Header.{Header}
use Rattle.ptl_types.specs.Messages.{Sent}
use Rattle.ptl_types.specs.declared.headers.MessageKind.{MessageKind}
use Rattle.ptl_types.specs.declared.elements.AtomicOp.{AtomicOp}
use Rattle.ptl_types.specs.Kinds.{is_answer, is_no_ack, is_put_or_atomic}
use Rattle.ptl_types.specs.declared.headers.MessageKind.TheVariants.{Put as PutKind, Get as GetKind, Atomic as AtomicKind}
use Rattle.ptl_types.specs.declared.headers.MessageKind.TheVariants.{FetchAtomic as FetchAtomicKind, Swap as SwapKind, Ack as AckKind}
use Rattle.ptl_types.specs.declared.headers.MessageKind.TheVariants.{Reply as ReplyKind}
use Rattle.ptl_types.specs.declared.headers.AckRequest.TheVariants.{CtAck, NoAck}
use Rattle.ptl_types.specs.declared.headers.Lane.TheVariants.{Answer, Request}
use Rattle.plan_core.specs.Members.{In}
use Rattle.ni_model.specs.Arrive.{answer, reply_header}
use Rattle.plan_core.specs.Plan.{Plan, cell, link}
use Rattle.cuts.specs.view.Slots.{Slots}
use Rattle.cuts.specs.view.TriggeredOps.{kind_for, link_header, operation}
use Rattle.cuts.specs.machine.Seen.{was_fired}
use Rattle.plan_core.specs.calls.RankOps.{RankOp, rank_ops}
use Rattle.cuts.specs.histories.History.{Local, got}
use Rattle.cuts.specs.histories.History.Local.{Fire, Receive, Start}
use Rattle.cuts.specs.histories.Cut.{IsPrefixOf, is_stray}
use Rattle.ni_model.specs.State.{Posted}
use Rattle.plan_core.proofs.Lists.{In-append_left}
use Rattle.cuts.specs.view.Steps.{IsAckHere}
use Rattle.cuts.proofs.histories.Simulate.{AllConform, IsLink}
use Rattle.cuts.proofs.histories.Origin.{ack_with, got_first, got_later}

-- the operations that a prepared rank begins with are those of its plan
pub pending_of : (p : Plan) (s : Slots) (r : ℕ) (q : Posted) →
    In q (map (operation p s r) (filter (λ w. not (was_fired [] w)) (rank_ops p r))) → In q (map (operation p s r) (rank_ops p r))
pending_of p s r q i = all (rank_ops p r) i
  where
    all : (vs : List RankOp) → In q (map (operation p s r) (filter (λ w. not (was_fired [] w)) vs)) → In q (map (operation p s r) vs)
    all [] i = i
    all (v ∷ vs) (inl e) = inl e
    all (v ∷ vs) (inr i) = inr (all vs i)

pub stray_request : (m : Sent) → is_answer m.header.kind ≡ true → is_stray m ≡ false
stray_request m e = and_left _ _ (at m.header.kind e)
  where
    at : (k : MessageKind) → is_answer k ≡ true → is_put_or_atomic k ≡ false
    at AckKind e = refl
    at ReplyKind e = refl
    at PutKind e = cc
    at GetKind e = cc
    at AtomicKind e = cc
    at FetchAtomicKind e = cc
    at SwapKind e = cc

pub prefix-In : {X : Type 0} (x : X) (xs ys : List X) → IsPrefixOf xs ys → In x xs → In x ys
prefix-In x xs ys h i = subst (λ v. In x v) h.1 (In-append_left x xs h.0 i)

-- the answer to a link's message
pub reply-to_link : (b : Bool) (ok : Bool) (n : ℕ) (bs : List ℕ) (h : Header) (m : Sent) → is_put_or_atomic h.kind ≡ true →
    h.ack ≡ (if b then CtAck else NoAck) → answer ok n bs h ≡ Some m → (b ≡ true) × (m.header ≡ ack_with CtAck ok n h)
reply-to_link true ok n bs h m e f q =
    let x : answer ok n bs h ≡ Some (record { header = ack_with CtAck ok n h; bytes = [] }) =
    ap₂ (λ t a. if t then (if is_no_ack a then None else Some (record { header = ack_with a ok n h; bytes = [] })) else Some
    (record { header = reply_header ok n h; bytes = if ok then bs else [] })) e f in
    (refl, ap (λ (y : Sent). y.header) (one (sym q ∙ x)))
  where
    one : {a b : Sent} → Some a ≡ Some b → a ≡ b
    one e = cc
reply-to_link false ok n bs h m e f q =
    let x : answer ok n bs h ≡ None =
    ap₂ (λ t a. if t then (if is_no_ack a then None else Some (record { header = ack_with a ok n h; bytes = [] })) else Some
    (record { header = reply_header ok n h; bytes = if ok then bs else [] })) e f in
    absurd (none (sym x ∙ q))
  where
    none : {a : Sent} → None ≡ Some a → ⊥
    none e = cc

pub stray-no_answer : (ok : Bool) (n : ℕ) (bs : List ℕ) (q : Sent) → is_stray q ≡ true → answer ok n bs q.header ≡ None
stray-no_answer ok n bs q e =
    let a = and_parts _ _ e in
    let b = and_parts _ _ a.1 in
    ap₂ (λ t c. if t then (if c then None else Some (record { header = ack_with q.header.ack ok n q.header; bytes = [] })) else Some
    (record { header = reply_header ok n q.header; bytes = if ok then bs else [] })) a.0 b.0

pub link-is_put : (p : Plan) (k : Slots) (l : ℕ) → is_put_or_atomic (link_header p k l).kind ≡ true
link-is_put p k l = at (cell p (link p l).target).op
  where
    at : (o : Option AtomicOp) → is_put_or_atomic (kind_for o) ≡ true
    at None = refl
    at (Some o) = refl

pub home-remote : (b : Bool) (k : Handle) → b ≡ true → (if is_no_ack (if b then CtAck else NoAck) then None else Some k) ≡ Some k
home-remote true k e = refl
home-remote false k e = cc

pub build_conform : (p : Plan) (k : ℕ → Slots) (r : ℕ) (es : List Local)
    → ((s : ℕ) (m : Sent) → In m (got es s Request) → (is_stray m ≡ true) ⊎ IsLink p k r m)
    → ((s : ℕ) (m : Sent) → In m (got es s Answer) → IsAckHere (k r) m) → AllConform p k r es
build_conform p k r [] a b = tt
build_conform p k r (Start ∷ es) a b = (tt, build_conform p k r es a b)
build_conform p k r (Fire t ∷ es) a b = (tt, build_conform p k r es a b)
build_conform p k r (Receive s Request m ∷ es) a b = (
  a s m (got_first s Request m es),
  build_conform p k r es (λ v x i. a v x (got_later (Receive s Request m) es v Request x i))
      (λ v x i. b v x (got_later (Receive s Request m) es v Answer x i)),
)
build_conform p k r (Receive s Answer m ∷ es) a b = (
  b s m (got_first s Answer m es),
  build_conform p k r es (λ v x i. a v x (got_later (Receive s Answer m) es v Request x i))
      (λ v x i. b v x (got_later (Receive s Answer m) es v Answer x i)),
)
