-- What a node of a plan sends keeps what the plan says of each lane, and its history is short.
use Rattle.std.proofs.Common.{◌≡◌, ◌≤◌, ℕ, Bool, true, false, cond, List, [], ◌∷◌, ◌++◌, sym, refl, ap, ◌∙◌, subst, arith, length, inl}
use Rattle.std.proofs.Common.{inr}
use Rattle.std.specs.Prelude.{All, nat_lt, if◌then◌else◌}
use Rattle.std.proofs.lemmas.List.Elements.{All-cons, All-head, All-nil, All-tail}
use Rattle.std.proofs.lemmas.List.Sums.{sum_by-cons}
use Rattle.ptl_types.specs.declared.headers.Header.{Header}
use Rattle.ptl_types.specs.declared.headers.Lane.{Lane}
use Rattle.ptl_types.specs.declared.headers.Lane.TheVariants.{Request, Answer}
use Rattle.ptl_types.specs.Kinds.{is_answer, lane_of}
use Rattle.ptl_types.specs.Messages.{Sent}
use Rattle.ni_model.specs.State.{State}
use Rattle.pair_wires.specs.Bounds.{KeepsBounds, Travels}
use Rattle.plan_core.specs.Members.{In}
use Rattle.plan_core.specs.Plan.{Plan}
use Rattle.plan_core.specs.Sound.{SoundPlan}
use Rattle.plan_core.specs.Values.{Inputs}
use Rattle.plan_core.proofs.Lists.{In-filter_cases}
use Rattle.plan_core.proofs.Links.{out_links-In}
use Rattle.plan_core.specs.calls.Lanes.{is_used_lane, lane_links, lane_messages}
use Rattle.cuts.specs.view.Calls.{prepare}
use Rattle.cuts.specs.view.Slots.{Slots}
use Rattle.cuts.specs.histories.History.{Beginning, Legal, Local, after, is_for, made, sent, state}
use Rattle.cuts.specs.histories.Lanes.{bytes_in}
use Rattle.cuts.specs.histories.Plans.{start_of}
use Rattle.cuts.proofs.histories.FromCut.{prepared_of}
use Rattle.cuts.proofs.histories.LaneAnswers.{few_answers}
use Rattle.cuts.proofs.histories.LaneEmpty.{answers-empty}
use Rattle.cuts.proofs.histories.LaneRequests.{few_bytes, few_messages}
use Rattle.cuts.proofs.histories.Origin.{IsOf, after_of, legal_got, made_from}
use Rattle.cuts.proofs.rest.Longer.{answer_source}
use Rattle.rank_node.specs.Handles.{Agrees, slots_of}
use Rattle.rank_node.specs.Node.{IsNode, NodeState}
use Rattle.rank_node.specs.Plans.{IsCompiledFor}
use Rattle.rank_node.proofs.Nodes.{agrees}
use Rattle.rank_node.proofs.Plans.{run-legal, run-state}
use Rattle.rank_slots.specs.Lanes.{bounds_on, bytes_on}
use Rattle.rank_slots.specs.Slots.{HasHeard, HasSent}
use Rattle.rank_slots.proofs.Gates.{of-for}

all-in : {X : Type 0} (P : X → Type 0) (xs : List X) → ((x : X) → In x xs → P x) → All P xs
all-in P [] h = All-nil P
all-in P (x ∷ xs) h = All-cons P x xs (h x (inl refl)) (all-in P xs (λ y i. h y (inr i)))

pub all-last : {X : Type 0} (P : X → Type 0) (xs : List X) (x : X) → All P (xs ++ x ∷ []) → P x
all-last P [] x h = All-head P x [] h
all-last P (y ∷ ys) x h = all-last P ys x (All-tail P y (ys ++ x ∷ []) h)

is-answer : (m : Sent) → lane_of m.header.kind ≡ Answer → is_answer m.header.kind ≡ true
is-answer m e = at (is_answer m.header.kind) e
  where
    at : (b : Bool) → (if b then Answer else Request) ≡ Answer → b ≡ true
    at true e = refl
    at false e = cc

none-in : (ms : List Sent) → ((m : Sent) → In m ms → m.bytes ≡ []) → bytes_in ms ≤ 0
none-in [] h = omega arith
none-in (m ∷ ms) h =
    let a = sum_by-cons (λ (x : Sent). length x.bytes) m ms in
    let b = ap (λ (l : List ℕ). length l) (h m (inl refl)) in
    let c = none-in ms (λ x i. h x (inr i)) in
    omega (arith, a, b, c)

-- an interface at the end of a history is of the same rank
state-of : (p : Plan) (k : Slots) (r : ℕ) (go : Beginning) (es : List Local) (v : State) → IsOf p k r v → IsOf p k r (state go v es)
state-of p k r go [] v h = h
state-of p k r go (e ∷ es) v h = state-of p k r go es (after go v e) (after_of p k r go v e h)

module _ (p : Plan) (inputs : Inputs) (sound : SoundPlan p (length inputs)) (n : NodeState)
    (compiled : IsCompiledFor p inputs n.task.rank n.task) (is : IsNode n) where
  abbrev r : ℕ
  r = n.task.rank

  abbrev k : Slots
  k = slots_of n.kept

  abbrev go : Beginning
  go = start_of p k r

  abbrev first : State
  first = prepare p inputs k r

  agreed : Agrees k n.kept
  agreed = agrees n.kept is.descriptors

  legal : Legal go false first n.diary.locals
  legal = run-legal p inputs k r n compiled is agreed

  of : IsOf p k r first
  of = prepared_of p inputs sound k r

  pub node-of : IsOf p k r n.nic
  node-of = subst (IsOf p k r) (sym (run-state p inputs (λ q. k) (λ q. n.diary.locals) r n compiled is agreed refl))
      (state-of p k r go n.diary.locals first of)

  pub node-rank : n.nic.rank ≡ r
  node-rank = node-of.rank

  source-is : (m : Sent) → In m (made go first n.diary.locals) → m.header.source ≡ r
  source-is m i = elim (made_from p k r go n.diary.locals first m of i) [
    | inl f ↦ ap (λ (h : Header). h.source) f.header ∙ (out_links-In p r f.l f.out).1
    | inr x ↦ answer_source x.answers.ok x.answers.length x.answers.bytes x.to.header m x.answers.is
        ∙ (legal_got p k r go n.diary.locals false first of legal x.source x.lane x.to x.came).target
  ]

  travels : (d : ℕ) (lane : Lane) → All (Travels (bounds_on p r d lane)) (sent go first n.diary.locals d lane)
  travels d lane = all-in (Travels (bounds_on p r d lane)) (sent go first n.diary.locals d lane)
      (λ m i. let q = In-filter_cases (is_for d lane) m (made go first n.diary.locals) i in let f = of-for d lane m q.1 in
      (source-is m q.0, f.0, f.1))

  at_most : (d : ℕ) (lane : Lane) → HasHeard p n → is_used_lane p r d lane ≡ true →
      length (sent go first n.diary.locals d lane) ≤ lane_messages p r d lane
  at_most d Request heard used = few_messages p k r go n.diary.locals false first of legal d
  at_most d Answer heard used = at p.remote used
    where
      at : (b : Bool) → nat_lt 0 (cond b (length (lane_links p d r)) 0) ≡ true → length (sent go first n.diary.locals d Answer) ≤ cond b
          (length (lane_links p d r)) 0
      at true e = let a = few_answers p k r go n.diary.locals false first of legal d in let h = (heard d Request).at_most in
          omega (arith, a, h)
      at false e = cc

  short : (d : ℕ) (lane : Lane) → bytes_in (sent go first n.diary.locals d lane) ≤ bytes_on p r d lane
  short d Request = few_bytes p k r go n.diary.locals false first of legal d
  short d Answer = none-in (sent go first n.diary.locals d Answer)
      (λ m i. let q = In-filter_cases (is_for d Answer) m (made go first n.diary.locals) i in
      answers-empty p inputs sound k r n.diary.locals m of q.0 (is-answer m (of-for d Answer m q.1).1))

  -- what was sent on a lane that is used
  pub keeps-sent : (d : ℕ) (lane : Lane) (ms : List Sent) → HasHeard p n → is_used_lane p r d lane ≡ true → HasSent p inputs n d lane ms →
      KeepsBounds (bounds_on p r d lane) ms
  keeps-sent d lane ms heard used has = subst (KeepsBounds (bounds_on p r d lane)) (sym (has k agreed))
      (record { travel = travels d lane; at_most = at_most d lane heard used; short = short d lane })
