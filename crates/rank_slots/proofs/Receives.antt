-- A message that came out of an in end, and what a node needs to receive it.
use Rattle.std.proofs.Common.{◌≡◌, ℕ, Bool, true, false, cond, List, [], ◌∷◌, ◌++◌, set, sym, refl, ap, ap₂, ◌∙◌, subst, append-nil, ◌&&◌}
use Rattle.std.proofs.Common.{◌==◌, eq-eqb, eqb-true}
use Rattle.std.specs.Prelude.{Some, None}
use mathlib.Core.Option.{some}
use lib.ListN.{get_elem?}
use Rattle.ptl_types.specs.declared.headers.Lane.{Lane}
use Rattle.ptl_types.specs.declared.headers.Lane.TheVariants.{Request, Answer}
use Rattle.ptl_types.specs.declared.headers.Header.{Header}
use Rattle.ptl_types.specs.declared.headers.MessageKind.{MessageKind}
use Rattle.ptl_types.specs.Kinds.{is_answer, is_no_ack, is_put_or_atomic, lane_of}
use Rattle.ptl_types.specs.Messages.{Sent, message}
use Rattle.ni_model.specs.Answers.{is_awaited}
use Rattle.ni_model.specs.Arrive.{ack_header, answer, reply_header}
use Rattle.ni_model.specs.State.{State}
use Rattle.pair_wires.specs.declared.bounds.Bounds.{Bounds}
use Rattle.pair_wires.specs.Bounds.{KeepsBounds, Travels}
use Rattle.plan_core.specs.Plan.{Plan}
use Rattle.cuts.specs.histories.History.{IsDue, got, is_for, is_lane, made_by, same_lane}
use Rattle.cuts.specs.histories.History.Local.{Receive}
use Rattle.cuts.proofs.histories.Fronts.{got-append}
use Rattle.cuts.proofs.histories.Origin.{answer_kind, target_answers}
use Rattle.rank_node.specs.Node.{NodeState, received_node}
use Rattle.rank_node.specs.Handles.{Agrees}
use Rattle.rank_slots.specs.declared.ports.OutPort.{OutPort}
use Rattle.rank_slots.specs.declared.ports.InPort.{InPort}
use Rattle.rank_slots.specs.Lists.{Pairwise}
use Rattle.rank_slots.specs.Lanes.{bounds_on}
use Rattle.rank_slots.specs.Ports.{Heard, InsDiffer, IsOpen, SameIn}
use Rattle.rank_slots.specs.Slots.{HasHeard, InOk}
use Rattle.rank_slots.proofs.Pairs.{pairs_set}
use Rattle.rank_slots.proofs.Gates.{both-true, of-for}
use Rattle.rank_slots.proofs.Sends.{all-last}
use Rattle.rank_slots.proofs.Ties.{Went, same-in}

same-lane-is : (a b : Lane) → same_lane a b ≡ true → a ≡ b
same-lane-is Request Request e = refl
same-lane-is Answer Answer e = refl
same-lane-is Request Answer e = cc
same-lane-is Answer Request e = cc

same-lane-refl : (a : Lane) → same_lane a a ≡ true
same-lane-refl Request = refl
same-lane-refl Answer = refl

-- ---- the end of the message
got-here : (s : ℕ) (l : Lane) (m : Sent) → got (Receive s l m ∷ []) s l ≡ m ∷ []
got-here s l m = ap (λ (b : Bool). cond b (m ∷ []) []) (ap₂ (λ a b. a && b) (eq-eqb s s refl) (same-lane-refl l))

heard-else : (s : ℕ) (l : Lane) (m : Sent) (z : InPort) → (z.source ≡ s → z.lane ≡ l → ⊥) → Heard (Receive s l m) z z
heard-else s l m z apart = record { same = same-in z; received = at ((s == z.source) && same_lane l z.lane) refl }
  where
    at : (b : Bool) → ((s == z.source) && same_lane l z.lane) ≡ b → z.end.received ≡ z.end.received ++ cond b (m ∷ []) []
    at true e = let f = both-true (s == z.source) (same_lane l z.lane) e in
        absurd (apart (sym (eqb-true s z.source f.0)) (sym (same-lane-is l z.lane f.1)))
    at false e = sym (append-nil z.end.received)

pub heard-set : (ins : List InPort) (at : ℕ) (o q : InPort) (m : Sent) → get_elem? ins at ≡ some o → SameIn o q →
    q.end.received ≡ o.end.received ++ m ∷ [] → InsDiffer ins
    → Pairwise (Heard (Receive o.source o.lane m)) ins (set ins at q)
heard-set ins at o q m there same received differ = pairs_set (Heard (Receive o.source o.lane m)) ins at o q there
    (record { same = same; received = received ∙ ap (λ (ms : List Sent). o.end.received ++ ms) (sym (got-here o.source o.lane m)) })
    (λ j z apart e. heard-else o.source o.lane m z (λ f g. apart (differ j at z o e there f g)))

-- ---- what came keeps what the plan says
pub heard-more : (p : Plan) (n : NodeState) (s : ℕ) (lane : Lane) (m : Sent) → HasHeard p n →
    KeepsBounds (bounds_on p s n.task.rank lane) (got n.diary.locals s lane ++ m ∷ [])
    → (q : ℕ) (l : Lane) → KeepsBounds (bounds_on p q n.task.rank l) (got (n.diary.locals ++ Receive s lane m ∷ []) q l)
heard-more p n s lane m heard keeps q l =
    subst (KeepsBounds (bounds_on p q n.task.rank l)) (sym (got-append n.diary.locals (Receive s lane m ∷ []) q l))
    (at ((s == q) && same_lane lane l) refl)
  where
    at : (b : Bool) → ((s == q) && same_lane lane l) ≡ b → KeepsBounds (bounds_on p q n.task.rank l)
        (got n.diary.locals q l ++ cond b (m ∷ []) [])
    at true e = let f = both-true (s == q) (same_lane lane l) e in
        subst (λ (z : ℕ × Lane). KeepsBounds (bounds_on p z.0 n.task.rank z.1) (got n.diary.locals z.0 z.1 ++ m ∷ []))
        (λ i. (eqb-true s q f.0 i, same-lane-is lane l f.1 i)) keeps
    at false e = subst (KeepsBounds (bounds_on p q n.task.rank l)) (sym (append-nil (got n.diary.locals q l))) (heard q l)

-- what an in end received, one message more
pub popped-keeps : (p : Plan) (n : NodeState) (o : InPort) (m : Sent) (received : List Sent) → InOk p n o →
    received ≡ o.end.received ++ m ∷ [] → KeepsBounds o.end.bounds received
    → KeepsBounds (bounds_on p o.source n.task.rank o.lane) (got n.diary.locals o.source o.lane ++ m ∷ [])
popped-keeps p n o m received ok is keeps = subst (λ (z : Bounds × List Sent). KeepsBounds z.0 z.1)
    (λ i. (ok.bounds i, (is ∙ ap (λ (ms : List Sent). ms ++ m ∷ []) ok.got_is) i)) keeps

pub travelled : (b : Bounds) (ms : List Sent) (m : Sent) → KeepsBounds b (ms ++ m ∷ []) → Travels b m
travelled b ms m keeps = all-last (Travels b) ms m keeps.travel

pub due-of : (s : State) (lane : Lane) (m : Sent) → (lane ≡ Answer → is_awaited s.mds.live ≡ true) → IsDue s lane m
due-of s Request m due = tt
due-of s Answer m due = due refl

pub received-went : (old new : NodeState) (s : ℕ) (lane : Lane) (m : Sent) → new ≡ received_node s lane m old →
    Went old new (Receive s lane m)
received-went old new s lane m is = record {
  task = ap (λ (n : NodeState). n.task) is;
  strays = ap (λ (n : NodeState). n.strays) is;
  locals = ap (λ (n : NodeState). n.diary.locals) is;
  slots = λ k a. subst (λ (n : NodeState). Agrees k n.kept) is a;
}

-- ---- the answer to it finds nothing waiting
answer-to : (ok : Bool) (n : ℕ) (bs : List ℕ) (h : Header) (m : Sent) → answer ok n bs h ≡ Some m → m.header.target ≡ h.source
answer-to ok n bs h m e = at (is_put_or_atomic h.kind) (is_no_ack h.ack) e
  where
    one : {a b : Sent} → Some a ≡ Some b → a ≡ b
    one e = cc

    at : (a b : Bool) → cond a (cond b None (Some (message (ack_header ok n h) [])))
        (Some (message (reply_header ok n h) (cond ok bs []))) ≡ Some m → m.header.target ≡ h.source
    at true true e = cc
    at true false e = sym (ap (λ (x : Sent). x.header.target) (one e))
    at false b e = sym (ap (λ (x : Sent). x.header.target) (one e))

request-is : (l : Lane) (k : MessageKind) → is_lane l k ≡ true → is_answer k ≡ false → l ≡ Request
request-is Request k e f = refl
request-is Answer k e f = cc

answer-is : (l : Lane) (k : MessageKind) → lane_of k ≡ l → is_answer k ≡ true → l ≡ Answer
answer-is l k e f = sym e ∙ ap (λ (b : Bool). cond b Answer Request) f

pub answer-free : (s : State) (lane : Lane) (m : Sent) (source : ℕ) (outs : List OutPort) → m.header.source ≡ source →
    is_lane lane m.header.kind ≡ true → (lane ≡ Request → IsOpen source Answer outs)
    → (i : ℕ) (o : OutPort) (a : Sent) → get_elem? outs i ≡ some o → made_by s (Receive source lane m) ≡ Some a →
    is_for o.target o.lane a ≡ true → o.end.waits ≡ false
answer-free s lane m source outs from kind is_open i o a there made f =
    let t = target_answers s m a made in let is = of-for o.target o.lane a f in
    let goal : o.target ≡ source = sym is.0 ∙ (answer-to t.1.ok t.1.length t.1.bytes m.header a t.1.is ∙ from) in
    let lane_is : o.lane ≡ Answer = answer-is o.lane a.header.kind is.1 (answer_kind t.1.ok t.1.length t.1.bytes m.header a t.1.is) in
    is_open (request-is lane m.header.kind kind t.0) i o there goal lane_is
