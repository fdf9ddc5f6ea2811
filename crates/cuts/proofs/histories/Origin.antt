-- What any history of an installed interface can send, whatever it receives: its requests are its plan's links, its answers answer
-- requests.
use Rattle.std.proofs.Common.{ℕ, Bool, true, false, cond, not, ◌&&◌, ◌||◌, ◌≡◌, ◌⊎◌, ◌==◌, List, [], ◌∷◌, refl, ap, ap₂, ◌∙◌, sym, subst}
use Rattle.std.proofs.Common.{inl, inr, map, Option, Some, None, if◌then◌else◌, eq-eqb, eqb-true}
use Rattle.std.proofs.lemmas.Bool.{and_parts}
use Rattle.ptl_types.specs.declared.headers.Header.{Header}
use Rattle.ptl_types.specs.declared.headers.AckRequest.{AckRequest}
use Rattle.ptl_types.specs.Messages.{Sent, message}
use Rattle.ptl_types.specs.declared.headers.Lane.{Lane}
use Rattle.ptl_types.specs.declared.calls.TriggeredOp.{TriggeredOp}
use Rattle.ptl_types.specs.declared.elements.AtomicOp.{AtomicOp}
use Rattle.ptl_types.specs.Kinds.{is_answer, is_no_ack, is_put_or_atomic}
use Rattle.cuts.specs.histories.History.{Beginning, Legal, Local, after, and_then, got, is_lane, made, made_by, same_lane}
use Rattle.ptl_types.specs.declared.calls.TriggeredOp.TheVariants.{Atomic as AtomicAction, FetchAtomic as FetchAtomicAction}
use Rattle.ptl_types.specs.declared.calls.TriggeredOp.TheVariants.{Get as GetAction}
use Rattle.ptl_types.specs.declared.calls.TriggeredOp.TheVariants.{Inc as IncAction, Put as PutAction, Set as SetAction, Swap as SwapAction}
use Rattle.ptl_types.specs.declared.headers.Lane.TheVariants.{Answer, Request}
use Rattle.plan_core.specs.Members.{In, Within}
use Rattle.ni_model.specs.State.{Posted, State, home_of, target, Operations, after_request, after_answer, parts_of}
use Rattle.ni_model.specs.Counts.{successes}
use Rattle.ni_model.specs.Arrive.{accepted, answer, ack_header, reply_header, chosen, judged, received, refused, request, is_overflow}
use Rattle.ni_model.specs.declared.Found.{Found}
use Rattle.ni_model.specs.Headers.{allows, no_room}
use Rattle.ni_model.specs.Answers.{answered}
use Rattle.ptl_types.specs.declared.calls.Outcome.TheVariants.{Dropped, Violation}
use Rattle.ni_model.specs.Ready.{fired, done, fired_op, is_number, posted_at, without_number}
use Rattle.ni_model.specs.Starts.{put_header, started}
use Rattle.plan_core.specs.Plan.{Plan, cell, is_bump, link, out_links}
use Rattle.cuts.specs.view.Slots.{Slots, cell_ct}
use Rattle.cuts.specs.view.TriggeredOps.{action_of, kind_for, link_header, operation, send_args, send_action, type_for}
use Rattle.plan_core.specs.calls.RankOps.{RankOp, rank_ops}
use Rattle.plan_core.specs.calls.RankOps.RankOp.{ForLink, ForDone}
use Rattle.ni_model.specs.Conditions.{IsKept}
use Rattle.cuts.specs.histories.History.Local.{Fire, Receive, Start}
use Rattle.plan_core.proofs.Lists.{In-filter_cases, In-map_cases}
use Rattle.cuts.proofs.machine.RankOps.{rank_ops-along}
use Rattle.plan_core.proofs.Links.{out_links-In}
use Rattle.cuts.proofs.view.Tables.{find-In}

-- ---- what stays
pub record Stays (a b : State) : Type 0 where
  pub rank : a.rank ≡ b.rank
  pub pending : a.pending ≡ b.pending

pub target_stays : (s : State) (m : Sent) → Stays (target s m).state s
unfolding target
target_stays s m = at (is_answer m.header.kind)
  where
    at : (t : Bool) → Stays (cond t (after_answer s (answered (home_of s) m)) (after_request s (request (parts_of s) m))).state s
    at true = record { rank = refl; pending = refl }
    at false = record { rank = refl; pending = refl }

-- the state in which operation t no longer waits
abbrev pub without : ℕ → State → State
without t s = record s { pending = without_number t s.pending }

pub done_stays : (s : State) (d : TriggeredOp) → Stays (done s d).state s
unfolding started
done_stays s (PutAction a) = record { rank = refl; pending = refl }
done_stays s (GetAction g) = record { rank = refl; pending = refl }
done_stays s (AtomicAction a o t) = record { rank = refl; pending = refl }
done_stays s (FetchAtomicAction g a o t) = record { rank = refl; pending = refl }
done_stays s (SwapAction g a w t n) = record { rank = refl; pending = refl }
done_stays s (IncAction c b) = record { rank = refl; pending = refl }
done_stays s (SetAction c t) = record { rank = refl; pending = refl }

-- the state is rank r's, and its operations are among those that were installed
pub record IsOf (p : Plan) (s : Slots) (r : ℕ) (v : State) : Type 0 where
  pub rank : v.rank ≡ r
  pub pending : Within v.pending.waiting (map (operation p s r) (rank_ops p r))

stays_of : (p : Plan) (s : Slots) (r : ℕ) (a b : State) → Stays a b → IsOf p s r b → IsOf p s r a
stays_of p s r a b h i = record {
  rank = h.rank ∙ i.rank;
  pending =
      λ q j. i.pending q (subst (λ (ps : Operations). In q ps.waiting) h.pending j);
}

pub after_of : (p : Plan) (s : Slots) (r : ℕ) (go : Beginning) (v : State) (e : Local) → IsOf p s r v → IsOf p s r (after go v e)
unfolding fired
after_of p s r go v Start h = record {
  rank = go.rank v ∙ h.rank;
  pending =
      λ q i. h.pending q (subst (λ (ps : Operations). In q ps.waiting) (go.pending v) i);
}
after_of p s r go v (Receive source lane m) h = stays_of p s r (target v m).state v (target_stays v m) h
after_of p s r go v (Fire t) h = at (posted_at t v.pending)
  where
    at : (o : Option Posted) → IsOf p s r (fired_op v o).state
    at None = h
    at (Some q) = stays_of p s r (done (without q.number v) q.action).state (without q.number v) (done_stays (without q.number v) q.action)
        (record { rank = h.rank; pending = λ x i. h.pending x (In-filter_cases (λ y. not (is_number q.number y)) x v.pending.waiting i).0 })

-- an acknowledgement's header, with this request for one
abbrev pub ack_with : AckRequest → Bool → ℕ → Header → Header
ack_with a ok n h = record (ack_header ok n h) { ack = a }

-- ---- the answer to a request
pub record Answers (q m : Sent) : Type 0 where
  pub ok : Bool
  pub length : ℕ
  pub bytes : List ℕ
  pub is : answer ok length bytes q.header ≡ Some m

judged_answers : (s : State) (q m : Sent) (o : Option Found) → (judged (parts_of s) q o).arrived.answer ≡ Some m → Answers q m
judged_answers s q m None e = record { ok = false; length = 0; bytes = []; is = e }
judged_answers s q m (Some x) e = at (allows x.linked.entry q.header.kind) (is_overflow x.list && no_room s.headers) e
  where
    at : (a b : Bool) → (cond a (cond b (received (parts_of s) (refused Dropped q.header)) (accepted (parts_of s) q x))
        (received (parts_of s) (refused Violation q.header))).arrived.answer ≡ Some m → Answers q m
    at true true e = record { ok = false; length = 0; bytes = []; is = e }
    at true false e = record { ok = true; length = _; bytes = _; is = e }
    at false b e = record { ok = false; length = 0; bytes = []; is = e }

pub target_answers : (s : State) (q m : Sent) → (target s q).delivered.answer ≡ Some m → (is_answer q.header.kind ≡ false) × Answers q m
unfolding target request
target_answers s q m e = at (is_answer q.header.kind) refl e
  where
    at : (t : Bool) → is_answer q.header.kind ≡ t → (cond t (after_answer s (answered (home_of s) q))
        (after_request s (request (parts_of s) q))).delivered.answer ≡ Some m → (is_answer q.header.kind ≡ false) × Answers q m
    at true i e = cc
    at false i e = (i, judged_answers s q m (chosen q.header s.indices) e)

pub some_one : {X : Type 0} {a b : X} → Some a ≡ Some b → a ≡ b
some_one e = cc

-- an answer is an acknowledgement or a reply
pub answer_kind : (ok : Bool) (n : ℕ) (bs : List ℕ) (h : Header) (m : Sent) → answer ok n bs h ≡ Some m → is_answer m.header.kind ≡ true
answer_kind ok n bs h m e = at (is_put_or_atomic h.kind) (is_no_ack h.ack) e
  where
    at : (a b : Bool) → (if a then (if b then None else Some (message (ack_header ok n h) [])) else Some
        (message (reply_header ok n h) (if ok then bs else []))) ≡ Some m → is_answer m.header.kind ≡ true
    at true true e = cc
    at true false e = sym (ap (λ (x : Sent). is_answer x.header.kind) (some_one e))
    at false b e = sym (ap (λ (x : Sent). is_answer x.header.kind) (some_one e))

-- ---- where a request comes from
pub record FromLink (p : Plan) (s : Slots) (r : ℕ) (m : Sent) : Type 0 where
  pub l : ℕ
  pub out : In l (out_links p r)
  pub sends : is_bump (link p l).kind ≡ false
  pub header : m.header ≡ link_header p s l

pub send_link : (p : Plan) (s : Slots) (r l : ℕ) (v : State) (m : Sent) (o : Option AtomicOp) → (cell p (link p l).target).op ≡ o →
    v.rank ≡ (cell p (link p l).source).rank → (done v (send_action p s l o)).message ≡ Some m → m.header ≡ link_header p s l
unfolding started
send_link p s r l v m None e h i = sym (ap (λ (x : Sent). x.header) (some_one i))
    ∙ ap₂ (λ (n : ℕ) (w : Option AtomicOp). put_header n (kind_for w) (send_args p s l) w (type_for w (cell p (link p l).target).ty)) h
    (sym e)
send_link p s r l v m (Some o) e h i = sym (ap (λ (x : Sent). x.header) (some_one i))
    ∙ ap₂ (λ (n : ℕ) (w : Option AtomicOp). put_header n (kind_for w) (send_args p s l) w (type_for w (cell p (link p l).target).ty)) h
    (sym e)

work_link : (p : Plan) (s : Slots) (r : ℕ) (v : State) (m : Sent) → v.rank ≡ r → (w : RankOp) → In w (rank_ops p r) →
    (done v (action_of p s w)).message ≡ Some m → FromLink p s r m
work_link p s r v m e (ForDone c) h i = cc
work_link p s r v m e (ForLink l) h i = at (is_bump (link p l).kind) refl i
  where
    at : (b : Bool) → is_bump (link p l).kind ≡ b → (done v (cond b (IncAction (cell_ct p s (link p l).target) (successes 1))
        (send_action p s l (cell p (link p l).target).op))).message ≡ Some m → FromLink p s r m
    at true q i = cc
    at false q i =
        let o = rank_ops-along p r l h in
        record {
          l = l;
          out = o;
          sends = q;
          header = send_link p s r l v m (cell p (link p l).target).op refl
              (e ∙ sym (out_links-In p r l o).1) i;
        }

pub fired_link : (p : Plan) (s : Slots) (r t : ℕ) (v : State) (m : Sent) → IsOf p s r v → (fired v t).message ≡ Some m → FromLink p s r m
unfolding fired
fired_link p s r t v m h e = at (posted_at t v.pending) refl e
  where
    at : (o : Option Posted) → posted_at t v.pending ≡ o → (fired_op v o).message ≡ Some m → FromLink p s r m
    at None q e = cc
    at (Some x) q e =
        let i = h.pending x (find-In (is_number t) v.pending.waiting x q).0 in
        let k = In-map_cases (operation p s r) x (rank_ops p r) i in
        work_link p s r (without x.number v) m h.rank k.0 k.1 (subst (λ (y : Posted). (done (without x.number v) y.action).message ≡ Some m)
        (sym k.2) e)

-- ---- what a history makes
pub record Reply (es : List Local) (m : Sent) : Type 0 where
  pub source : ℕ
  pub lane : Lane
  pub to : Sent
  pub came : In to (got es source lane)
  pub request : is_answer to.header.kind ≡ false
  pub answers : Answers to m

same_lane-refl : (l : Lane) → same_lane l l ≡ true
same_lane-refl Request = refl
same_lane-refl Answer = refl

pub got_first : (s : ℕ) (l : Lane) (m : Sent) (es : List Local) → In m (got (Receive s l m ∷ es) s l)
got_first s l m es = subst (λ b. In m (cond b (m ∷ got es s l) (got es s l)))
    (sym (ap₂ (λ x y. x && y) (eq-eqb s s refl) (same_lane-refl l))) (inl refl)

pub got_later : (e : Local) (es : List Local) (s : ℕ) (l : Lane) (m : Sent) → In m (got es s l) → In m (got (e ∷ es) s l)
got_later Start es s l m h = h
got_later (Fire t) es s l m h = h
got_later (Receive source lane x) es s l m h = at ((source == s) && same_lane lane l)
  where
    at : (b : Bool) → In m (cond b (x ∷ got es s l) (got es s l))
    at true = inr h
    at false = h

reply_later : (e : Local) (es : List Local) (m : Sent) → Reply es m → Reply (e ∷ es) m
reply_later e es m h = record {
  source = h.source;
  lane = h.lane;
  to = h.to;
  came = got_later e es h.source h.lane h.to h.came;
  request =
      h.request;
  answers = h.answers;
}

pub made_from : (p : Plan) (s : Slots) (r : ℕ) (go : Beginning) (es : List Local) (v : State) (m : Sent) → IsOf p s r v →
    In m (made go v es) → FromLink p s r m ⊎ Reply es m
made_from p s r go [] v m h i = absurd i
made_from p s r go (e ∷ es) v m h i = at (made_by v e) refl i (made_from p s r go es (after go v e) m (after_of p s r go v e h))
  where
    later : (FromLink p s r m ⊎ Reply es m) → FromLink p s r m ⊎ Reply (e ∷ es) m
    later d = elim d [ inl x ↦ inl x | inr x ↦ inr (reply_later e es m x) ]

    now : (e : Local) (x : Sent) → made_by v e ≡ Some x → x ≡ m → FromLink p s r m ⊎ Reply (e ∷ es) m
    now Start x q f = cc
    now (Fire t) x q f = inl (fired_link p s r t v m h (q ∙ ap Some f))
    now (Receive source lane y) x q f = let a = target_answers v y m (q ∙ ap Some f) in
        inr (record { source = source; lane = lane; to = y; came = got_first source lane y es; request = a.0; answers = a.1 })

    at : (o : Option Sent) → made_by v e ≡ o → In m (and_then o (made go (after go v e) es)) →
        (In m (made go (after go v e) es) → FromLink p s r m ⊎ Reply es m) → FromLink p s r m ⊎ Reply (e ∷ es) m
    at None q i rest = later (rest i)
    at (Some x) q (inl f) rest = now e x q f
    at (Some x) q (inr i) rest = later (rest i)

pub from_link-request : (p : Plan) (s : Slots) (r : ℕ) (m : Sent) → FromLink p s r m → is_answer m.header.kind ≡ false
from_link-request p s r m h = ap (λ (x : Header). is_answer x.kind) h.header ∙ plain (cell p (link p h.l).target).op
  where
    plain : (o : Option AtomicOp) → is_answer (kind_for o) ≡ false
    plain None = refl
    plain (Some o) = refl

pub reply-answer : (es : List Local) (m : Sent) → Reply es m → is_answer m.header.kind ≡ true
reply-answer es m h = let a = h.answers in answer_kind a.ok a.length a.bytes h.to.header m a.is

-- ---- what legal says of what was received
pub record Received (r s : ℕ) (lane : Lane) (m : Sent) : Type 0 where
  pub source : m.header.source ≡ s
  pub target : m.header.target ≡ r
  pub kind : is_lane lane m.header.kind ≡ true
  pub kept : IsKept m

pub legal_got : (p : Plan) (s : Slots) (r : ℕ) (go : Beginning) (es : List Local) (b : Bool) (v : State) → IsOf p s r v →
    Legal go b v es → (source : ℕ) (lane : Lane) (m : Sent) → In m (got es source lane) → Received r source lane m
legal_got p s r go [] b v h legal source lane m i = absurd i
legal_got p s r go (Start ∷ es) b v h legal source lane m i = legal_got p s r go es (b || true) (after go v Start)
    (after_of p s r go v Start h) legal.1 source lane m i
legal_got p s r go (Fire t ∷ es) b v h legal source lane m i = legal_got p s r go es (b || false) (after go v (Fire t))
    (after_of p s r go v (Fire t) h) legal.1 source lane m i
legal_got p s r go (Receive from l x ∷ es) b v h legal source lane m i =
    at ((from == source) && same_lane l lane) refl i (legal_got p s r go es (b || false) (after go v (Receive from l x))
    (after_of p s r go v (Receive from l x) h) legal.1 source lane m)
  where
    one_lane : (a c : Lane) → same_lane a c ≡ true → a ≡ c
    one_lane Request Request e = refl
    one_lane Answer Answer e = refl
    one_lane Request Answer e = cc
    one_lane Answer Request e = cc

    at : (t : Bool) → ((from == source) && same_lane l lane) ≡ t → In m (cond t (x ∷ got es source lane) (got es source lane)) →
        (In m (got es source lane) → Received r source lane m) → Received r source lane m
    at false e i rest = rest i
    at true e (inr i) rest = rest i
    at true e (inl q) rest =
        let k = and_parts _ _ e in
        let may = legal.0 in
        subst (λ y. Received r source lane y) q (record {
          source = may.0 ∙ eqb-true _ _ k.0;
          target = may.1 ∙ h.rank;
          kind = subst (λ z. is_lane z x.header.kind ≡ true) (one_lane l lane k.1) may.2;
          kept = may.3;
        })
