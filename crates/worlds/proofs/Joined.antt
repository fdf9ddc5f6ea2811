-- Nodes that received what was sent to them, but for what lies in lanes, are the ranks of a moment, and there are no strays.
use Rattle.std.proofs.Common.{ℕ, Bool, true, false, ◌<◌, ◌≤◌, ◌≡◌, ◌∙◌, List, [], ◌∷◌, ◌++◌, length, count_by, cond, refl, ap, subst, inl}
use Rattle.std.proofs.Common.{inr, arith}
use Rattle.std.proofs.lemmas.Bool.{cases_lt}
use Rattle.ptl_types.specs.declared.headers.Lane.{Lane}
use Rattle.ptl_types.specs.declared.headers.Lane.TheVariants.{Request}
use Rattle.ptl_types.specs.Messages.{Sent}
use Rattle.pair_wires.specs.Lanes.{Plain}
use Rattle.plan_core.specs.Members.{In}
use Rattle.plan_core.specs.Plan.{Plan}
use Rattle.plan_core.specs.Sound.{SoundPlan}
use Rattle.plan_core.specs.Values.{Inputs}
use Rattle.plan_core.proofs.Lists.{In-append_left, In-append_right, In-filter_cases, count-cons}
use Rattle.cuts.specs.view.Calls.{prepare}
use Rattle.cuts.specs.view.Slots.{Slots}
use Rattle.cuts.specs.histories.Cut.{is_received_stray, is_stray, owned}
use Rattle.cuts.specs.histories.History.{Local, got, is_for, made}
use Rattle.cuts.specs.histories.History.Local.{Start, Receive, Fire}
use Rattle.cuts.specs.histories.Moment.{IsMoment}
use Rattle.cuts.specs.histories.Plans.{start_of, system_of}
use Rattle.cuts.specs.histories.System.{Histories, sent_by}
use Rattle.cuts.proofs.histories.Clean.{made-clean}
use Rattle.cuts.proofs.histories.Fronts.{owned-all}
use Rattle.cuts.proofs.histories.Origin.{got_first, got_later}
use Rattle.cuts.specs.windows.Places.{lane_place}
use Rattle.rank_node.specs.Handles.{slots_of}
use Rattle.rank_node.specs.Node.{IsNode, NodeState}
use Rattle.rank_node.specs.Plans.{IsCompiledFor}
use Rattle.rank_node.proofs.Nodes.{agrees}
use Rattle.rank_node.proofs.Plans.{run-legal}
use Rattle.worlds.specs.parts.Keeps.{AgreeAll, AreShort, AreStrays}
use Rattle.worlds.specs.parts.Layout.{held_in, lane_at, node_at, scene_of}
use Rattle.worlds.proofs.parts.Held.{held_here}
use Rattle.worlds.proofs.parts.Strays.{none_count}
use Rattle.worlds.proofs.opening.Begun.{none-due}

both : {b : Bool} → b ≡ true → b ≡ false → ⊥
both e i = cc

-- receipts among which there is no stray
none_came : (es : List Local) → ((s : ℕ) (lane : Lane) (m : Sent) → In m (got es s lane) → is_stray m ≡ false) →
    (count_by is_received_stray es ≡ 0) × AreShort es
none_came [] h = (refl, tt)
none_came (Start ∷ es) h =
    let k = none_came es (λ s l m i. h s l m (got_later Start es s l m i)) in
    let a = count-cons is_received_stray Start es in
    let b = k.0 in
    (omega (arith, a, b), k.1)
none_came (Fire t ∷ es) h =
    let k = none_came es (λ s l m i. h s l m (got_later (Fire t) es s l m i)) in
    let a = count-cons is_received_stray (Fire t) es in
    let b = k.0 in
    (omega (arith, a, b), k.1)
none_came (Receive q lane x ∷ es) h =
    let k = none_came es (λ s l m i. h s l m (got_later (Receive q lane x) es s l m i)) in
    let clean = h q lane x (got_first q lane x es) in
    let a = count-cons is_received_stray (Receive q lane x) es in
    let b = k.0 in
    let c = ap (λ t. cond {A = ℕ} t 1 0) clean in
    (omega (arith, a, b, c), ((λ e. absurd (both e clean)), k.1))

module _ (p : Plan) (inputs : Inputs) (n : ℕ) (nodes : List NodeState) (lanes : List Plain) (count : p.ranks ≡ n)
    (sound : SoundPlan p (length inputs))
    (compiled : (r : ℕ) → r < n → IsCompiledFor p inputs r (node_at nodes r).task) (kept : (r : ℕ) → r < n → IsNode (node_at nodes r))
    (sources : (r s : ℕ) (lane : Lane) → r < n → n ≤ s → got (node_at nodes r).diary.locals s lane ≡ [])
    (sent : (k : ℕ → Slots) → AgreeAll n k nodes → (s d : ℕ) (lane : Lane) → s < n → d < n →
    got (node_at nodes d).diary.locals s lane ++ (lane_at lanes (lane_place n s d lane)).messages ≡ sent_by (system_of p inputs k)
    (scene_of n nodes lanes).world s d lane) where
  abbrev w : Histories
  w = (scene_of n nodes lanes).world

  abbrev lies : ℕ → ℕ → Lane → List Sent
  lies s d lane = (lane_at lanes (lane_place n s d lane)).messages

  module _ (k : ℕ → Slots) (agree : AgreeAll n k nodes) where
    -- what a rank sends is never a stray
    clean : (s d : ℕ) (lane : Lane) (m : Sent) → s < n → d < n → In m (got (w d) s lane ++ lies s d lane) → is_stray m ≡ false
    clean s d lane m hs hd i =
        made-clean p inputs sound (k s) s (w s) m
        (In-filter_cases (is_for d lane) m (made (start_of p (k s) s) (prepare p inputs (k s) s) (w s))
        (subst (λ v. In m v) (sent k agree s d lane hs hd) i)).0

    got_clean : (d : ℕ) → d < n → (s : ℕ) (lane : Lane) (m : Sent) → In m (got (w d) s lane) → is_stray m ≡ false
    got_clean d hd s lane m i = elim (cases_lt s n) [
      | inl hs ↦ clean s d lane m hs hd (In-append_left m (got (w d) s lane) (lies s d lane) i)
      | inr past ↦ absurd (subst (λ v. In m v) (sources d s lane hd past) i)
    ]

    lies_clean : (s d : ℕ) (lane : Lane) (m : Sent) → s < n → d < n → In m (lies s d lane) → is_stray m ≡ false
    lies_clean s d lane m hs hd i = clean s d lane m hs hd (In-append_right m (got (w d) s lane) (lies s d lane) i)

    at_rank : (r : ℕ) → r < p.ranks → r < n
    at_rank r h = subst (λ q. r < q) count h

    pub joined_moment : IsMoment (system_of p inputs k) w (held_in n lanes)
    joined_moment = record {
      cut = record {
        legal = λ r h. run-legal p inputs (k r) r (node_at nodes r) (compiled r (at_rank r h)) (kept r (at_rank r h))
            (agree r (at_rank r h));
        known = λ r s lane h past. sources r s lane (at_rank r h) (subst (λ q. q ≤ s) count past);
        lanes = λ s d lane hs hd. (
          lies s d lane,
          ap (λ ms. ms ++ lies s d lane) (owned-all (got (w d) s lane) (got_clean d (at_rank d hd) s lane))
              ∙ sent k agree s d lane (at_rank s hs) (at_rank d hd),
        );
      };
      lanes = λ s d lane hs hd.
          ap (λ ms. owned (got (w d) s lane ++ ms)) (held_here n lanes s d lane (at_rank s hs) (at_rank d hd))
          ∙ owned-all (got (w d) s lane ++ lies s d lane) (λ m i. clean s d lane m (at_rank s hs) (at_rank d hd) i)
          ∙ sent k agree s d lane (at_rank s hs) (at_rank d hd);
      strays = λ s d lane m hs hd i e.
          absurd (both e (lies_clean s d lane m (at_rank s hs) (at_rank d hd)
          (subst (λ v. In m v) (held_here n lanes s d lane (at_rank s hs) (at_rank d hd)) i)));
    }

    joined_strays : ((r : ℕ) → r < n → (node_at nodes r).strays ≡ 0) → AreStrays n nodes lanes 0 0
    joined_strays none = record {
      room = none;
      at_most = λ d hd.
          let a = (none_came (w d) (got_clean d hd)).0 in
          let b = none-due 0 (λ s. count_by is_stray (lies s d Request)) n
          (λ s low high. none_count (lies s d Request) (λ m i. lies_clean s d Request m (omega (arith, high)) hd i)) in
          omega (arith, a, b);
      received = λ d hd. (none_came (w d) (got_clean d hd)).1;
      held = λ s d lane m hs hd i e. absurd (both e (lies_clean s d lane m hs hd i));
    }

  -- by the slots that were given
  pub joined_room : ((r : ℕ) → r < n → (node_at nodes r).strays ≡ 0) → AreStrays n nodes lanes 0 0
  joined_room = joined_strays (λ r. slots_of (node_at nodes r).kept) (λ r h. agrees (node_at nodes r).kept (kept r h).descriptors)
