-- The messages of a history as lists: what it sends, what it acknowledges, what came to it.
use Rattle.std.proofs.Common.{ℕ, Bool, true, false, cond, not, ◌&&◌, ◌≡◌, ◌==◌, List, [], ◌∷◌, ◌++◌, refl, ap, ◌∙◌, sym, subst, inl, inr}
use Rattle.std.proofs.Common.{map, filter, Option, Some, None, if◌then◌else◌, eq-eqb, append-nil, append_assoc}
use Rattle.std.proofs.lemmas.Bool.{and_from, and_right, not-true, not_from_false, or_parts}
use Rattle.std.proofs.lemmas.List.{map-append}
use Rattle.std.proofs.lemmas.List.Elements.{filter-append}
use Rattle.ptl_types.specs.Messages.{Sent}
use Rattle.ptl_types.specs.declared.headers.Lane.{Lane}
use Rattle.ptl_types.specs.declared.elements.AtomicOp.{AtomicOp}
use Rattle.ptl_types.specs.Kinds.{is_answer}
use Rattle.ptl_types.specs.declared.headers.AckRequest.TheVariants.{CtAck}
use Rattle.ptl_types.specs.declared.headers.Lane.TheVariants.{Answer, Request}
use Rattle.plan_core.specs.Members.{Distinct, In}
use Rattle.plan_core.specs.Plan.{Plan, cell, is_bump, link, out_links}
use Rattle.cuts.specs.view.Slots.{Slots}
use Rattle.cuts.specs.view.TriggeredOps.{kind_for, link_message}
use Rattle.cuts.specs.machine.Seen.{Came, Seen, was_fired}
use Rattle.plan_core.specs.calls.RankOps.{RankOp}
use Rattle.plan_core.specs.calls.RankOps.RankOp.{ForLink, ForDone}
use Rattle.cuts.specs.machine.Machine.{MayMove, Move, Moves, came, link_of, note, out_of, outs, seen, sending}
use Rattle.cuts.specs.machine.Machine.Move.{Began, Did, Heard, Strayed, Took}
use Rattle.cuts.specs.histories.History.{Local, and_then, got, is_for, same_lane}
use Rattle.cuts.specs.histories.History.Local.{Fire, Receive, Start}
use Rattle.cuts.specs.histories.Cut.{is_stray, owned}
use Rattle.plan_core.proofs.Lists.{In-append_cases, In-filter, In-filter_cases, In-map, In-map_cases}
use Rattle.cuts.proofs.machine.RankOps.{rank_ops-along}
use Rattle.cuts.proofs.histories.Origin.{ack_with, got_later}
use Rattle.cuts.proofs.histories.Simulate.{ack_to, all_made, did, makes, move_of, moves_of, sent_by_work, work_numbered}
use Rattle.plan_core.specs.Values.{Inputs}

-- ---- requests
abbrev pub goes_to : Plan → ℕ → Came → Bool
goes_to p d a = (cell p (link p a.link).target).rank == d

abbrev pub as_message : Plan → Slots → Came → Sent
as_message p s a = link_message p s a.link a.bytes

link_for : (p : Plan) (s : Slots) (d l : ℕ) (bs : List ℕ) → is_for d Request (link_message p s l bs)
    ≡ ((cell p (link p l).target).rank == d)
link_for p s d l bs = at (cell p (link p l).target).op ((cell p (link p l).target).rank == d)
  where
    at : (o : Option AtomicOp) (b : Bool) → (b && not (is_answer (kind_for o))) ≡ b
    at None true = refl
    at None false = refl
    at (Some o) true = refl
    at (Some o) false = refl

pub ack_not_for : (p : Plan) (d : ℕ) (m : Sent) (rest : List Sent) → filter (is_for d Request) (and_then (ack_to p m) rest) ≡ filter
    (is_for d Request) rest
ack_not_for p d m rest = at p.remote
  where
    at : (b : Bool) → filter (is_for d Request) (and_then (if b then Some
        (record { header = ack_with CtAck true m.header.length m.header; bytes = [] }) else None) rest) ≡ filter (is_for d Request) rest
    at false = refl
    at true = ap (λ t. cond t ((record { header = ack_with CtAck true m.header.length m.header; bytes = [] }) ∷ filter (is_for d Request)
        rest) (filter (is_for d Request) rest)) (and_right (m.header.source == d) false refl)

pub work_requests : (p : Plan) (inputs : Inputs) (s : Slots) (d : ℕ) (g : Seen) (o : Option RankOp) (rest : List Sent)
    → filter (is_for d Request) (and_then (sent_by_work p inputs s g o) rest) ≡ map (as_message p s)
    (filter (goes_to p d) (out_of p inputs g (did o))) ++ filter (is_for d Request) rest
work_requests p inputs s d g None rest = refl
work_requests p inputs s d g (Some (ForDone c)) rest = refl
work_requests p inputs s d g (Some (ForLink l)) rest = at (is_bump (link p l).kind)
  where
    here : (b : Bool) → cond b (link_message p s l (sending p inputs g l).bytes ∷ filter (is_for d Request) rest)
        (filter (is_for d Request) rest) ≡ map (as_message p s) (cond b (sending p inputs g l ∷ []) []) ++ filter (is_for d Request) rest
    here true = refl
    here false = refl

    at : (b : Bool) → filter (is_for d Request) (and_then (cond b None (Some (link_message p s l (sending p inputs g l).bytes))) rest)
        ≡ map (as_message p s) (filter (goes_to p d) (cond b [] (sending p inputs g l ∷ []))) ++ filter (is_for d Request) rest
    at true = refl
    at false = ap (λ t. cond t (link_message p s l (sending p inputs g l).bytes ∷ filter (is_for d Request) rest)
        (filter (is_for d Request) rest)) (link_for p s d l (sending p inputs g l).bytes) ∙ here ((cell p (link p l).target).rank == d)

step_requests : (p : Plan) (inputs : Inputs) (s : Slots) (r d : ℕ) (g : Seen) (e : Local) (rest : List Sent)
    → filter (is_for d Request) (and_then (makes p inputs s r g e) rest) ≡ map (as_message p s)
    (filter (goes_to p d) (out_of p inputs g (move_of p r e))) ++ filter (is_for d Request) rest
step_requests p inputs s r d g Start rest = refl
step_requests p inputs s r d g (Fire t) rest = work_requests p inputs s d g (work_numbered p r t) rest
step_requests p inputs s r d g (Receive source Answer m) rest = refl
step_requests p inputs s r d g (Receive source Request m) rest = at (is_stray m)
  where
    at : (b : Bool) → filter (is_for d Request) (and_then (cond b None (ack_to p m)) rest) ≡ map (as_message p s)
        (filter (goes_to p d) (out_of p inputs g (cond b Strayed (Took m.header.hdr_data m.bytes)))) ++ filter (is_for d Request) rest
    at true = refl
    at false = ack_not_for p d m rest

pub requests : (p : Plan) (inputs : Inputs) (s : Slots) (r d : ℕ) (es : List Local) (g : Seen)
    → filter (is_for d Request) (all_made p inputs s r g es) ≡ map (as_message p s)
    (filter (goes_to p d) (outs p inputs g (moves_of p r es)))
requests p inputs s r d [] g = refl
requests p inputs s r d (e ∷ es) g =
    step_requests p inputs s r d g e (all_made p inputs s r (note p g (move_of p r e)) es)
    ∙ ap (λ ms. map (as_message p s) (filter (goes_to p d) (out_of p inputs g (move_of p r e))) ++ ms)
    (requests p inputs s r d es (note p g (move_of p r e)))
    ∙ sym (ap (map (as_message p s)) (filter-append (goes_to p d) (out_of p inputs g (move_of p r e))
    (outs p inputs (note p g (move_of p r e)) (moves_of p r es)))
    ∙ map-append (as_message p s) (filter (goes_to p d) (out_of p inputs g (move_of p r e)))
    (filter (goes_to p d) (outs p inputs (note p g (move_of p r e)) (moves_of p r es))))

-- each link is sent along at most once
pub record Outs (p : Plan) (r : ℕ) (g : Seen) (a : Came) : Type 0 where
  pub out : In a.link (out_links p r)
  pub sends : is_bump (link p a.link).kind ≡ false
  pub new : was_fired g.fired (ForLink a.link) ≡ false

not_before : (p : Plan) (g : Seen) (m : Move) (w : RankOp) → was_fired (note p g m).fired w ≡ false → was_fired g.fired w ≡ false
not_before p g Began w e = e
not_before p g (Took l bs) w e = e
not_before p g (Heard ok) w e = e
not_before p g Strayed w e = e
not_before p g (Did (ForLink l)) w e = (or_parts _ _ e).1
not_before p g (Did (ForDone c)) w e = (or_parts _ _ e).1

pub outs_are : (p : Plan) (inputs : Inputs) (r : ℕ) (ms : List Move) (g : Seen) → Moves p r g ms → (a : Came) →
    In a (outs p inputs g ms) → Outs p r g a
outs_are p inputs r [] g h a i = absurd i
outs_are p inputs r (m ∷ ms) g h a i = elim (In-append_cases a (out_of p inputs g m) (outs p inputs (note p g m) ms) i) [
  | inl j ↦ first m h.0 j
  | inr j ↦ later (outs_are p inputs r ms (note p g m) h.1 a j)
]
  where
    later : Outs p r (note p g m) a → Outs p r g a
    later o = record { out = o.out; sends = o.sends; new = not_before p g m (ForLink a.link) o.new }

    along : (l : ℕ) → MayMove p r g (Did (ForLink l)) → (b : Bool) → is_bump (link p l).kind ≡ b →
        In a (cond b [] (sending p inputs g l ∷ [])) → Outs p r g a
    along l may true e j = absurd j
    along l may false e (inr j) = absurd j
    along l may false e (inl q) = subst (Outs p r g) q (record { out = rank_ops-along p r l may.0; sends = e; new = may.1 })

    first : (m : Move) → MayMove p r g m → In a (out_of p inputs g m) → Outs p r g a
    first (Did (ForLink l)) may j = along l may (is_bump (link p l).kind) refl j
    first (Did (ForDone c)) may j = absurd j
    first Began may j = absurd j
    first (Took l bs) may j = absurd j
    first (Heard ok) may j = absurd j
    first Strayed may j = absurd j

pub outs_once : (p : Plan) (inputs : Inputs) (r : ℕ) (ms : List Move) (g : Seen) → Moves p r g ms →
    Distinct (map link_of (outs p inputs g ms))
outs_once p inputs r [] g h = tt
outs_once p inputs r (m ∷ ms) g h = at m h.0 (outs_once p inputs r ms (note p g m) h.1) (λ a i. outs_are p inputs r ms (note p g m) h.1 a i)
  where
    along : (l : ℕ) (rest : List Came) → Distinct (map link_of rest) →
        ((a : Came) → In a rest → was_fired (ForLink l ∷ g.fired) (ForLink a.link) ≡ false) → (b : Bool) →
        Distinct (map link_of (cond b [] (sending p inputs g l ∷ []) ++ rest))
    along l rest d new true = d
    along l rest d new false = (
      (λ i. let k = In-map_cases link_of l rest i in
          apart (or_parts _ _ (new k.0 k.1)).0 (eq-eqb l k.0.link (sym k.2))),
      d,
    )
      where
        apart : {b : Bool} → b ≡ false → b ≡ true → ⊥
        apart e i = cc

    at : (m : Move) → MayMove p r g m → Distinct (map link_of (outs p inputs (note p g m) ms)) →
        ((a : Came) → In a (outs p inputs (note p g m) ms) → Outs p r (note p g m) a) →
        Distinct (map link_of (out_of p inputs g m ++ outs p inputs (note p g m) ms))
    at Began may d o = d
    at (Took l bs) may d o = d
    at (Heard ok) may d o = d
    at Strayed may d o = d
    at (Did (ForDone c)) may d o = d
    at (Did (ForLink l)) may d o = along l (outs p inputs (note p g (Did (ForLink l))) ms) d (λ a i. (o a i).new) (is_bump (link p l).kind)

-- ---- what was received, strays left out
abbrev pub own_received : Lane → List Local → List Sent
own_received lane [] = []
own_received lane (Receive s l m ∷ es) = if same_lane l lane && not (is_stray m) then m ∷ own_received lane es else own_received lane es
own_received lane (_ ∷ es) = own_received lane es

abbrev pub to_came : Sent → Came
to_came m = came m.header.hdr_data m.bytes

pub came_is : (p : Plan) (r : ℕ) (es : List Local) (g : Seen) → (seen p g (moves_of p r es)).came ≡ g.came ++ map to_came
    (own_received Request es)
came_is p r [] g = sym (append-nil g.came)
came_is p r (Start ∷ es) g = came_is p r es (note p g Began)
came_is p r (Receive s Answer m ∷ es) g = came_is p r es (note p g (Heard m.header.ok))
came_is p r (Fire t ∷ es) g = at (work_numbered p r t) (λ o. came_is p r es (note p g (did o)))
  where
    at : (o : Option RankOp) → ((o : Option RankOp) → (seen p (note p g (did o)) (moves_of p r es)).came ≡ (note p g (did o)).came ++ map
        to_came (own_received Request es)) → (seen p (note p g (did o)) (moves_of p r es)).came ≡ g.came ++ map to_came
        (own_received Request es)
    at None rest = rest None
    at (Some (ForLink l)) rest = rest (Some (ForLink l))
    at (Some (ForDone c)) rest = rest (Some (ForDone c))
came_is p r (Receive s Request m ∷ es) g = at (is_stray m) (λ b. came_is p r es
    (note p g (cond b Strayed (Took m.header.hdr_data m.bytes))))
  where
    at : (b : Bool) → ((b : Bool) → (seen p (note p g (cond b Strayed (Took m.header.hdr_data m.bytes))) (moves_of p r es)).came
        ≡ (note p g (cond b Strayed (Took m.header.hdr_data m.bytes))).came ++ map to_came (own_received Request es))
        → (seen p (note p g (cond b Strayed (Took m.header.hdr_data m.bytes))) (moves_of p r es)).came ≡ g.came ++ map to_came
        (cond (not b) (m ∷ own_received Request es) (own_received Request es))
    at true rest = rest true
    at false rest = rest false ∙ append_assoc g.came (to_came m ∷ []) (map to_came (own_received Request es))

-- ---- acknowledgements
abbrev pub ack : Sent → Sent
ack m = record { header = ack_with CtAck true m.header.length m.header; bytes = [] }

abbrev pub came_from : ℕ → Sent → Bool
came_from d m = m.header.source == d

link_not_answer : (p : Plan) (s : Slots) (d l : ℕ) (bs : List ℕ) → is_for d Answer (link_message p s l bs) ≡ false
link_not_answer p s d l bs = and_right _ _ (at (cell p (link p l).target).op)
  where
    at : (o : Option AtomicOp) → is_answer (kind_for o) ≡ false
    at None = refl
    at (Some o) = refl

pub work_no_answer : (p : Plan) (inputs : Inputs) (s : Slots) (d : ℕ) (g : Seen) (o : Option RankOp) (rest : List Sent) →
    filter (is_for d Answer) (and_then (sent_by_work p inputs s g o) rest) ≡ filter (is_for d Answer) rest
work_no_answer p inputs s d g None rest = refl
work_no_answer p inputs s d g (Some (ForDone c)) rest = refl
work_no_answer p inputs s d g (Some (ForLink l)) rest = at (is_bump (link p l).kind)
  where
    at : (b : Bool) → filter (is_for d Answer) (and_then (cond b None (Some (link_message p s l (sending p inputs g l).bytes))) rest)
        ≡ filter (is_for d Answer) rest
    at true = refl
    at false = ap (λ t. cond t (link_message p s l (sending p inputs g l).bytes ∷ filter (is_for d Answer) rest)
        (filter (is_for d Answer) rest)) (link_not_answer p s d l (sending p inputs g l).bytes)

pub answers_remote : (p : Plan) (inputs : Inputs) (s : Slots) (r d : ℕ) → p.remote ≡ true → (es : List Local) (g : Seen)
    → filter (is_for d Answer) (all_made p inputs s r g es) ≡ map ack (filter (came_from d) (own_received Request es))
answers_remote p inputs s r d rem [] g = refl
answers_remote p inputs s r d rem (Start ∷ es) g = answers_remote p inputs s r d rem es (note p g Began)
answers_remote p inputs s r d rem (Receive source Answer m ∷ es) g = answers_remote p inputs s r d rem es (note p g (Heard m.header.ok))
answers_remote p inputs s r d rem (Fire t ∷ es) g = work_no_answer p inputs s d g (work_numbered p r t)
    (all_made p inputs s r (note p g (did (work_numbered p r t))) es)
    ∙ answers_remote p inputs s r d rem es (note p g (did (work_numbered p r t)))
answers_remote p inputs s r d rem (Receive source Request m ∷ es) g =
    at (is_stray m) (λ b. answers_remote p inputs s r d rem es (note p g (cond b Strayed (Took m.header.hdr_data m.bytes))))
  where
    here : (t : Bool) (x y : List Sent) → x ≡ map ack y → cond t (ack m ∷ x) x ≡ map ack (cond t (m ∷ y) y)
    here true x y e = ap (λ v. ack m ∷ v) e
    here false x y e = e

    at : (b : Bool) → ((b : Bool) → filter (is_for d Answer)
        (all_made p inputs s r (note p g (cond b Strayed (Took m.header.hdr_data m.bytes))) es) ≡ map ack
        (filter (came_from d) (own_received Request es)))
        → filter (is_for d Answer) (and_then (cond b None (ack_to p m))
        (all_made p inputs s r (note p g (cond b Strayed (Took m.header.hdr_data m.bytes))) es)) ≡ map ack
        (filter (came_from d) (cond (not b) (m ∷ own_received Request es) (own_received Request es)))
    at true rest = rest true
    at false rest =
        let more = all_made p inputs s r (note p g (Took m.header.hdr_data m.bytes)) es in
        ap (λ v. filter (is_for d Answer) (and_then (if v then Some (ack m) else None)
        (all_made p inputs s r (note p g (Took m.header.hdr_data m.bytes)) es))) rem
        ∙ ap (λ t. cond t (ack m ∷ filter (is_for d Answer) (all_made p inputs s r (note p g (Took m.header.hdr_data m.bytes)) es))
        (filter (is_for d Answer) (all_made p inputs s r (note p g (Took m.header.hdr_data m.bytes)) es)))
        (and_true (m.header.source == d))
        ∙ here (m.header.source == d) _ (filter (came_from d) (own_received Request es)) (rest false)
      where
        and_true : (b : Bool) → (b && true) ≡ b
        and_true true = refl
        and_true false = refl

-- the acknowledgement of a message stands before the others
pub ack_listed : (p : Plan) (d : ℕ) (m : Sent) → p.remote ≡ true → (later : List Sent) (ms : List Sent) →
    filter (is_for d Answer) later ≡ map ack (filter (came_from d) ms)
    → filter (is_for d Answer) (and_then (ack_to p m) later) ≡ map ack (filter (came_from d) (m ∷ ms))
ack_listed p d m rem later ms e =
    ap (λ v. filter (is_for d Answer) (and_then (if v then Some (ack m) else None) later)) rem
    ∙ ap (λ t. cond t (ack m ∷ filter (is_for d Answer) later) (filter (is_for d Answer) later)) (and_true (m.header.source == d))
    ∙ here (m.header.source == d) (filter (is_for d Answer) later) (filter (came_from d) ms) e
  where
    and_true : (b : Bool) → (b && true) ≡ b
    and_true true = refl
    and_true false = refl

    here : (t : Bool) (x y : List Sent) → x ≡ map ack y → cond t (ack m ∷ x) x ≡ map ack (cond t (m ∷ y) y)
    here true x y e = ap (λ v. ack m ∷ v) e
    here false x y e = e

pub answers_local : (p : Plan) (inputs : Inputs) (s : Slots) (r d : ℕ) → p.remote ≡ false → (es : List Local) (g : Seen) →
    filter (is_for d Answer) (all_made p inputs s r g es) ≡ []
answers_local p inputs s r d rem [] g = refl
answers_local p inputs s r d rem (Start ∷ es) g = answers_local p inputs s r d rem es (note p g Began)
answers_local p inputs s r d rem (Receive source Answer m ∷ es) g = answers_local p inputs s r d rem es (note p g (Heard m.header.ok))
answers_local p inputs s r d rem (Fire t ∷ es) g = work_no_answer p inputs s d g (work_numbered p r t)
    (all_made p inputs s r (note p g (did (work_numbered p r t))) es)
    ∙ answers_local p inputs s r d rem es (note p g (did (work_numbered p r t)))
answers_local p inputs s r d rem (Receive source Request m ∷ es) g =
    at (is_stray m) (λ b. answers_local p inputs s r d rem es (note p g (cond b Strayed (Took m.header.hdr_data m.bytes))))
  where
    at : (b : Bool) → ((b : Bool) → filter (is_for d Answer)
        (all_made p inputs s r (note p g (cond b Strayed (Took m.header.hdr_data m.bytes))) es) ≡ [])
        → filter (is_for d Answer) (and_then (cond b None (ack_to p m))
        (all_made p inputs s r (note p g (cond b Strayed (Took m.header.hdr_data m.bytes))) es)) ≡ []
    at true rest = rest true
    at false rest = ap (λ v. filter (is_for d Answer) (and_then (if v then Some (ack m) else None)
        (all_made p inputs s r (note p g (Took m.header.hdr_data m.bytes)) es))) rem ∙ rest false

-- ---- from lanes to all that was received
abbrev pub number_in : Sent → ℕ
number_in m = m.header.hdr_data

pub In-owned : (m : Sent) (ms : List Sent) → In m ms → is_stray m ≡ false → In m (owned ms)
In-owned m ms h e = In-filter (λ x. not (is_stray x)) m ms h (not_from_false (is_stray m) e)

pub owned-In : (m : Sent) (ms : List Sent) → In m (owned ms) → In m ms × (is_stray m ≡ false)
owned-In m ms h = let k = In-filter_cases (λ x. not (is_stray x)) m ms h in (k.0, not-true _ k.1)

-- a message that was received on this lane, and is no stray
pub record WasGot (lane : Lane) (es : List Local) (m : Sent) : Type 0 where
  pub from : ℕ
  pub got_it : In m (got es from lane)
  pub clean : is_stray m ≡ false

was_later : (lane : Lane) (e : Local) (es : List Local) (m : Sent) → WasGot lane es m → WasGot lane (e ∷ es) m
was_later lane e es m h = record { from = h.from; got_it = got_later e es h.from lane m h.got_it; clean = h.clean }

got_here : (s : ℕ) (l lane : Lane) (x m : Sent) (es : List Local) → same_lane l lane ≡ true → x ≡ m → In m (got (Receive s l x ∷ es) s lane)
got_here s l lane x m es e q = subst (λ b. In m (cond b (x ∷ got es s lane) (got es s lane))) (sym (and_from _ _ (eq-eqb s s refl) e))
    (inl q)

pub own_received-got : (lane : Lane) (es : List Local) (m : Sent) → In m (own_received lane es) → WasGot lane es m
own_received-got lane [] m h = absurd h
own_received-got lane (Start ∷ es) m h = was_later lane Start es m (own_received-got lane es m h)
own_received-got lane (Fire t ∷ es) m h = was_later lane (Fire t) es m (own_received-got lane es m h)
own_received-got lane (Receive s l x ∷ es) m h = at (same_lane l lane) (is_stray x) refl refl h (own_received-got lane es m)
  where
    at : (a b : Bool) → same_lane l lane ≡ a → is_stray x ≡ b → In m (cond (a && not b) (x ∷ own_received lane es) (own_received lane es))
        → (In m (own_received lane es) → WasGot lane es m) → WasGot lane (Receive s l x ∷ es) m
    at true false e f (inl q) rest = record { from = s; got_it = got_here s l lane x m es e q; clean = subst (λ y. is_stray y ≡ false) q f }
    at true false e f (inr i) rest = was_later lane (Receive s l x) es m (rest i)
    at true true e f i rest = was_later lane (Receive s l x) es m (rest i)
    at false b e f i rest = was_later lane (Receive s l x) es m (rest i)

pub got-own_received : (lane : Lane) (es : List Local) (s : ℕ) (m : Sent) → In m (got es s lane) → is_stray m ≡ false →
    In m (own_received lane es)
got-own_received lane [] s m h f = absurd h
got-own_received lane (Start ∷ es) s m h f = got-own_received lane es s m h f
got-own_received lane (Fire t ∷ es) s m h f = got-own_received lane es s m h f
got-own_received lane (Receive from l x ∷ es) s m h f = at (from == s) (same_lane l lane) (is_stray x) refl h
    (λ i. got-own_received lane es s m i f)
  where
    both : {b : Bool} → b ≡ true → b ≡ false → ⊥
    both e i = cc

    at : (a b c : Bool) → is_stray x ≡ c → In m (cond (a && b) (x ∷ got es s lane) (got es s lane)) →
        (In m (got es s lane) → In m (own_received lane es)) → In m (cond (b && not c) (x ∷ own_received lane es) (own_received lane es))
    at true true true e (inl q) rest = absurd (both e (subst (λ y. is_stray y ≡ false) (sym q) f))
    at true true true e (inr i) rest = rest i
    at true true false e (inl q) rest = inl q
    at true true false e (inr i) rest = inr (rest i)
    at true false c e i rest = rest i
    at false true true e i rest = rest i
    at false true false e i rest = inr (rest i)
    at false false c e i rest = rest i

distinct_later : (lane : Lane) (e : Local) (es : List Local) (s : ℕ) → Distinct (map number_in (owned (got (e ∷ es) s lane))) →
    Distinct (map number_in (owned (got es s lane)))
distinct_later lane Start es s d = d
distinct_later lane (Fire t) es s d = d
distinct_later lane (Receive from l x) es s d = at ((from == s) && same_lane l lane) (not (is_stray x)) d
  where
    at : (a b : Bool) → Distinct (map number_in (owned (cond a (x ∷ got es s lane) (got es s lane)))) →
        Distinct (map number_in (owned (got es s lane)))
    at false b d = d
    at true b d = pick (not (is_stray x)) d
      where
        pick : (b : Bool) → Distinct (map number_in (cond b (x ∷ owned (got es s lane)) (owned (got es s lane)))) →
            Distinct (map number_in (owned (got es s lane)))
        pick true d = d.1
        pick false d = d

-- numbers that differ within each lane, and tell their lane, differ
pub all_distinct : (lane : Lane) (home : ℕ → ℕ) (es : List Local)
    → ((s : ℕ) (m : Sent) → In m (got es s lane) → is_stray m ≡ false → home (number_in m) ≡ s)
    → ((s : ℕ) → Distinct (map number_in (owned (got es s lane)))) → Distinct (map number_in (own_received lane es))
all_distinct lane home [] tells d = tt
all_distinct lane home (Start ∷ es) tells d = all_distinct lane home es tells d
all_distinct lane home (Fire t ∷ es) tells d = all_distinct lane home es tells d
all_distinct lane home (Receive s l x ∷ es) tells d =
    at (same_lane l lane) (is_stray x) refl refl
    (all_distinct lane home es (λ v m i f. tells v m (got_later (Receive s l x) es v lane m i) f)
    (λ v. distinct_later lane (Receive s l x) es v (d v)))
  where
    first : same_lane l lane ≡ true → is_stray x ≡ false → In (number_in x) (map number_in (own_received lane es)) → ⊥
    first e f h =
        let k = In-map_cases number_in (number_in x) (own_received lane es) h in
        let q = own_received-got lane es k.0 k.1 in
        let a : home (number_in k.0) ≡ q.from = tells q.from k.0 (got_later (Receive s l x) es q.from lane k.0 q.got_it) q.clean in
        let b : home (number_in x) ≡ s = tells s x (got_here s l lane x x es e refl) f in
        let same : q.from ≡ s = sym a ∙ ap home k.2 ∙ b in
        let i : In k.0 (owned (got es s lane)) = In-owned k.0 (got es s lane) (subst (λ v. In k.0 (got es v lane)) same q.got_it) q.clean in
        let whole : Distinct (map number_in (x ∷ owned (got es s lane))) =
        subst (λ c. Distinct (map number_in (cond c (x ∷ owned (got es s lane)) (owned (got es s lane))))) (not_from_false (is_stray x) f)
        (subst (λ c. Distinct (map number_in (owned (cond c (x ∷ got es s lane) (got es s lane))))) (and_from _ _ (eq-eqb s s refl) e)
        (d s)) in
        whole.0 (subst (λ v. In v (map number_in (owned (got es s lane)))) k.2 (In-map number_in k.0 (owned (got es s lane)) i))

    at : (a b : Bool) → same_lane l lane ≡ a → is_stray x ≡ b → Distinct (map number_in (own_received lane es)) →
        Distinct (map number_in (cond (a && not b) (x ∷ own_received lane es) (own_received lane es)))
    at true false e f rest = (first e f, rest)
    at true true e f rest = rest
    at false b e f rest = rest
