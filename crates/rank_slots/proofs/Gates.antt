-- The ends of a rank's wires in a turn, and the gates of its node.
use Rattle.std.proofs.Common.{◌≡◌, ◌≢◌, ℕ, ◌<◌, ◌+◌, ⊎_elim, Bool, true, false, List, [], ◌∷◌, ◌++◌, length, get_or, set, sym, refl, ap}
use Rattle.std.proofs.Common.{ap₂, ◌∙◌, subst, arith, cond, length-set, get_or-set_same, get_or-set_other, append-nil, ◌&&◌, ◌==◌, eq-eqb}
use Rattle.std.proofs.Common.{eqb-true}
use mathlib.Core.Option.{some}
use lib.ListN.{get_elem?}
use Rattle.std.specs.Prelude.{Some, filter}
use Rattle.ptl_types.specs.declared.headers.Header.{Header}
use Rattle.ptl_types.specs.declared.headers.Lane.{Lane}
use Rattle.ptl_types.specs.declared.headers.Lane.TheVariants.{Request, Answer}
use Rattle.ptl_types.specs.declared.headers.MessageKind.{MessageKind}
use Rattle.ptl_types.specs.Kinds.{is_answer, lane_of}
use Rattle.ptl_types.specs.Messages.{Sent}
use Rattle.pair_wires.specs.Wires.{WireState}
use Rattle.atomic_table.proofs.Lists.{at_index, at_set}
use Rattle.cuts.specs.histories.History.{is_for, is_lane}
use Rattle.rank_node.specs.Node.{NodeState}
use Rattle.rank_slots.specs.declared.ports.OutPort.{OutPort}
use Rattle.rank_slots.specs.Lists.{Each, Pairwise}
use Rattle.rank_slots.specs.Joints.{Fits, out_joint}
use Rattle.rank_slots.specs.Ports.{AreEnds, Flushed, Gated, OutsDiffer, Posted, Regated, SameOut, gate_after}
use Rattle.rank_slots.proofs.Pairs.{each_set, pairs_set, same_at, within}

-- ---- which lane a message is of
pub lane-is : (l : Lane) (k : MessageKind) → lane_of k ≡ l → is_lane l k ≡ true
lane-is l k e = at (is_answer k) refl l e
  where
    at : (b : Bool) → is_answer k ≡ b → (l : Lane) → lane_of k ≡ l → is_lane l k ≡ true
    at true b Request e = cc
    at true b Answer e = b
    at false b Request e = cc
    at false b Answer e = cc

pub is-lane : (l : Lane) (k : MessageKind) → is_lane l k ≡ true → lane_of k ≡ l
is-lane l k e = at (is_answer k) refl l e
  where
    at : (b : Bool) → is_answer k ≡ b → (l : Lane) → is_lane l k ≡ true → lane_of k ≡ l
    at true b Request e = cc
    at true b Answer e = cc
    at false b Request e = cc
    at false b Answer e = cc

pub for-of : (d : ℕ) (l : Lane) (m : Sent) → m.header.target ≡ d → lane_of m.header.kind ≡ l → is_for d l m ≡ true
for-of d l m e f = ap₂ (λ a b. a && b) (eq-eqb _ _ e) (lane-is l m.header.kind f)

pub both-true : (a b : Bool) → (a && b) ≡ true → (a ≡ true) × (b ≡ true)
both-true true b e = (refl, e)
both-true false b e = cc

pub of-for : (d : ℕ) (l : Lane) (m : Sent) → is_for d l m ≡ true → (m.header.target ≡ d) × (lane_of m.header.kind ≡ l)
of-for d l m e = let b = both-true (m.header.target == d) (is_lane l m.header.kind) e in (eqb-true _ _ b.0, is-lane l m.header.kind b.1)

-- ---- gates
gate-here : (l : Lane) (d : ℕ) (waits : Bool) (closed : List Bool) → d < length closed → l ≡ Request →
    get_or (gate_after l d waits closed) d false ≡ waits
gate-here Request d waits closed h e = get_or-set_same closed d waits false h
gate-here Answer d waits closed h e = cc

gate-other : (l : Lane) (d : ℕ) (waits : Bool) (closed : List Bool) (x : ℕ) → (l ≡ Request → x ≢ d) →
    get_or (gate_after l d waits closed) x false ≡ get_or closed x false
gate-other Request d waits closed x n = get_or-set_other closed d x waits false (n refl)
gate-other Answer d waits closed x n = refl

pub gate-wide : (l : Lane) (d : ℕ) (waits : Bool) (closed : List Bool) → length (gate_after l d waits closed) ≡ length closed
gate-wide Request d waits closed = length-set closed d waits
gate-wide Answer d waits closed = refl

-- one end changed, and its gate was noted
pub gated-set : (outs : List OutPort) (closed : List Bool) (at : ℕ) (p q : OutPort) → get_elem? outs at ≡ some p → SameOut p q →
    p.target < length closed → OutsDiffer outs → Gated closed outs
    → Gated (gate_after q.lane q.target q.end.waits closed) (set outs at q)
gated-set outs closed at p q there same inside differ gated =
    each_set (λ (z : OutPort). z.lane ≡ Request → get_or (gate_after q.lane q.target q.end.waits closed) z.target false ≡ z.end.waits)
    outs at q
    (gate-here q.lane q.target q.end.waits closed (subst (λ d. d < length closed) (sym same.target) inside))
    (λ j z apart e f. gate-other q.lane q.target q.end.waits closed z.target
    (λ g h. apart (differ j at z p e there (h ∙ same.target) (f ∙ sym g ∙ same.lane))) ∙ gated j z e f)

-- ---- a message goes to the end of its lane
pub sent-here : (d : ℕ) (l : Lane) (m : Sent) → is_for d l m ≡ true → m ∷ [] ≡ filter (is_for d l) (m ∷ [])
sent-here d l m e = sym (ap (λ (b : Bool). cond b (m ∷ []) []) e)

sent-else : (d : ℕ) (l : Lane) (m : Sent) (ms : List Sent) → is_for d l m ≡ false → ms ≡ ms ++ filter (is_for d l) (m ∷ [])
sent-else d l m ms e = sym (ap (λ (b : Bool). ms ++ cond b (m ∷ []) []) e ∙ append-nil ms)

pub same-out : (p : OutPort) → SameOut p p
same-out p = record { target = refl; lane = refl; number = refl; wire = refl; bounds = refl }

abbrev pub NoEnd : Sent → OutPort → Type 0
NoEnd m p = p.target ≡ m.header.target → p.lane ≡ lane_of m.header.kind → ⊥

posted-else : (m : Sent) (p : OutPort) → NoEnd m p → Posted (Some m) p p
posted-else m p none = record { same = same-out p; sent = at (is_for p.target p.lane m) refl }
  where
    at : (b : Bool) → is_for p.target p.lane m ≡ b → p.end.sent ≡ p.end.sent ++ filter (is_for p.target p.lane) (m ∷ [])
    at true e = let f = of-for p.target p.lane m e in absurd (none (sym f.0) (sym f.1))
    at false e = sent-else p.target p.lane m p.end.sent e

pub posted-set : (m : Sent) (outs : List OutPort) (at : ℕ) (p q : OutPort) → get_elem? outs at ≡ some p → p.target ≡ m.header.target →
    p.lane ≡ lane_of m.header.kind → SameOut p q → q.end.sent ≡ p.end.sent ++ m ∷ [] → OutsDiffer outs
    → Pairwise (Posted (Some m)) outs (set outs at q)
posted-set m outs at p q there goal lane same sent differ = pairs_set (Posted (Some m)) outs at p q there
    (record {
      same = same;
      sent = sent ∙ ap (λ (ms : List Sent). p.end.sent ++ ms)
          (sent-here p.target p.lane m (for-of p.target p.lane m (sym goal) (sym lane)));
    })
    (λ j z apart e. posted-else m z (λ f g. apart (differ j at z p e there (f ∙ sym goal) (g ∙ sym lane))))

pub posted-none : (m : Sent) (outs : List OutPort) → Each (NoEnd m) outs → Pairwise (Posted (Some m)) outs outs
posted-none m outs none = record {
  many = refl;
  each = λ i x y e f. subst (Posted (Some m) x) (same_at outs i x y e f) (posted-else m x (none i x e));
}

-- what waits nowhere was flushed
pub flushed-same : (p : OutPort) → p.end.waits ≡ false → Flushed p p
flushed-same p e = record { same = same-out p; sent = refl; full = λ f. cc }

pub same-joint : (p q : OutPort) → SameOut p q → out_joint p ≡ out_joint q
same-joint p q same = λ i. record { number = sym same.number i; wire = sym same.wire i; bounds = sym same.bounds i }

-- two ends of one lane are one, also when one of them changed
differ-set : (outs : List OutPort) (at : ℕ) (p q : OutPort) → get_elem? outs at ≡ some p → SameOut p q → OutsDiffer outs →
    OutsDiffer (set outs at q)
differ-set outs at p q there same differ i j x y e f goal lane =
    let a = was i x e in let b = was j y f in
    differ i j a.0 b.0 a.1 b.1 (sym a.2.target ∙ goal ∙ b.2.target) (sym a.2.lane ∙ lane ∙ b.2.lane)
  where
    was : (k : ℕ) (z : OutPort) → get_elem? (set outs at q) k ≡ some z → (o : OutPort) × (get_elem? outs k ≡ some o) × SameOut o z
    was k z e = ⊎_elim (λ (is : (k ≡ at) × (q ≡ z)). (p, ap (get_elem? outs) is.0 ∙ there, subst (SameOut p) is.1 same))
        (λ (is : (k ≢ at) × (get_elem? outs k ≡ some z)). (z, is.1, same-out z)) (at_set outs at k q z e)

-- one end changed, and its gate was noted
pub ends-set : (wires : List WireState) (closed : List Bool) (outs : List OutPort) (at : ℕ) (p q : OutPort) → get_elem? outs at ≡ some p →
    SameOut p q → AreEnds wires closed outs → AreEnds wires (gate_after q.lane q.target q.end.waits closed) (set outs at q)
ends-set wires closed outs at p q there same ends = let new = gate_after q.lane q.target q.end.waits closed in let wide =
    gate-wide q.lane q.target q.end.waits closed in record {
      wired = each_set (λ (z : OutPort). Fits wires (out_joint z)) outs at q
          (subst (Fits wires) (same-joint p q same) (ends.wired at p there)) (λ j z apart e. ends.wired j z e);
      inside = each_set (λ (z : OutPort). z.target < length new) outs at q
          (let k = ends.inside at p there in let e = same.target in subst (λ d. d < length new) (sym e) (omega (arith, k, wide)))
          (λ j z apart e. let k = ends.inside j z e in omega (arith, k, wide));
      differ = differ-set outs at p q there same ends.differ;
      gated = gated-set outs closed at p q there same (ends.inside at p there) ends.differ ends.gated;
    }

-- ---- all ends, one after the other
pub regated-after : (a b c : NodeState) → Regated a b → Regated b c → Regated a c
regated-after a b c f g = record {
  same = g.same ∙ ap (λ (n : NodeState). let o : NodeState = record n { closed = c.closed } in o) f.same;
  wide = g.wide ∙ f.wide;
}

pub regated-same : (a : NodeState) → Regated a a
regated-same a = record { same = refl; wide = refl }

pub tried-more : (first outs : List OutPort) (at : ℕ) (p q : OutPort) → get_elem? outs at ≡ some p →
    get_elem? outs at ≡ get_elem? first at → Flushed p q
    → ((i : ℕ) (x y : OutPort) → i < at → get_elem? first i ≡ some x → get_elem? outs i ≡ some y → Flushed x y)
    → (i : ℕ) (x y : OutPort) → i < at + 1 → get_elem? first i ≡ some x → get_elem? (set outs at q) i ≡ some y → Flushed x y
tried-more first outs at p q there same now before i x y below a b = ⊎_elim
    (λ (is : (i ≡ at) × (q ≡ y)). subst (Flushed x) is.1 (subst (λ (z : OutPort). Flushed z q)
    (same_at first at p x (sym same ∙ there) (ap (get_elem? first) (sym is.0) ∙ a)) now))
    (λ (is : (i ≢ at) × (get_elem? outs i ≡ some y)). before i x y (let n = is.0 in omega (arith, n, below)) a is.1)
    (at_set outs at i q y b)

pub free-more : (outs : List OutPort) (at : ℕ) (q : OutPort) → q.end.waits ≡ false →
    ((i : ℕ) (y : OutPort) → i < at → get_elem? outs i ≡ some y → y.end.waits ≡ false)
    → (i : ℕ) (y : OutPort) → i < at + 1 → get_elem? (set outs at q) i ≡ some y → y.end.waits ≡ false
free-more outs at q now before i y below b = ⊎_elim
    (λ (is : (i ≡ at) × (q ≡ y)). subst (λ (z : OutPort). z.end.waits ≡ false) is.1 now)
    (λ (is : (i ≢ at) × (get_elem? outs i ≡ some y)). before i y (let n = is.0 in omega (arith, n, below)) is.1) (at_set outs at i q y b)

-- ---- the end of a message's lane
-- the end `p` stands at this place, and it is that of the message's target and lane
pub record Found (outs : List OutPort) (at : ℕ) (m : Sent) (p : OutPort) : Type 0 where
  pub within : at < length outs
  pub there : get_elem? outs at ≡ some p
  pub destination : p.target ≡ m.header.target
  pub lane : p.lane ≡ lane_of m.header.kind

-- an end of this target and lane stood at a place of the ends as they were seen; the target and the lane are those of the message, whose
-- header was asked for twice; and `p` was read from that place
pub found : (outs seen : List OutPort) (at : ℕ) (m : Sent) (p : OutPort) (header header_again : Header) (lane : Lane) → seen ≡ outs →
    (stood : OutPort) × (get_elem? seen at ≡ some stood) × (stood.target ≡ header.target) × (stood.lane ≡ lane) →
    header ≡ m.header → header_again ≡ m.header → lane ≡ lane_of header_again.kind → p ≡ get_or outs at p → Found outs at m p
found outs seen at m p header header_again lane same looked_up is_header again_header of_kind read =
    let (stood, is_there, to_target, on_lane) = looked_up in
    let stands : get_elem? outs at ≡ some stood = ap (λ (xs : List OutPort). get_elem? xs at) (sym same) ∙ is_there in
    let inside = within outs at stood stands in
    let there = at_index outs at p inside read in
    let is_stood : p ≡ stood = same_at outs at p stood there stands in
    record {
      within = inside;
      there = there;
      destination = ap (λ (x : OutPort). x.target) is_stood ∙ to_target ∙ ap (λ (h : Header). h.target) is_header;
      lane = ap (λ (x : OutPort). x.lane) is_stood ∙ on_lane ∙ of_kind ∙ ap (λ (h : Header). lane_of h.kind) again_header;
    }
