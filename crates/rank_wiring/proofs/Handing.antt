-- Wires whose ends come to the slots of their ranks.
use Rattle.std.proofs.Common.{ℕ, suc, ◌<◌, ◌≡◌, ◌==◌, ◌∙◌, ⊎_elim, List, [], ◌∷◌, ◌++◌, length, map, take, sym, refl, ap, ap₂, subst}
use Rattle.std.proofs.Common.{add-zero, arith, append_assoc, eq-eqb, length-append}
use Rattle.std.specs.Prelude.{IfSome, Option, slice_index_or}
use Rattle.std.proofs.lemmas.Bool.{cases_eq, ne_eqb}
use Rattle.std.proofs.lemmas.List.{map-append}
use mathlib.Core.List.{IsPrefix}
use mathlib.Core.Option.{some}
use lib.ListN.{get_elem?}
use Rattle.atomic_table.proofs.Lists.{at_map}
use Rattle.pair_wires.specs.declared.bounds.Bounds.{Bounds}
use Rattle.pair_wires.specs.Wires.{IsInOf, WireState}
use Rattle.plan_core.specs.Plan.{Plan}
use Rattle.plan_core.specs.Sound.{SoundPlan}
use Rattle.schedule_compiler.specs.Jobs.{JobOf}
use Rattle.rank_node.specs.Node.{NodeState}
use Rattle.rank_node.specs.Plans.{IsCompiledFor}
use Rattle.rank_wiring.specs.declared.open.BuiltRank.{BuiltRank}
use Rattle.rank_wiring.specs.declared.open.WireEnd.{WireEnd}
use Rattle.rank_wiring.specs.declared.open.OutWires.{OutWires}
use Rattle.rank_slots.specs.declared.ports.InPort.{InPort}
use Rattle.rank_slots.specs.declared.ports.OutPort.{OutPort}
use Rattle.rank_slots.specs.declared.turn_rank.TurnRank.{TurnRank}
use Rattle.rank_slots.specs.Joints.{Fits, Joint, in_joint, out_joint}
use Rattle.rank_slots.specs.Lanes.{AreLanes, IsLane, lanes_before, lanes_from}
use Rattle.rank_wiring.specs.Opening.{AllFanned, AllFresh, AllIn, AreBuilt, AreFirst, AreLines, HasNoIn, HasNoOut, IsFanned, IsFresh}
use Rattle.rank_wiring.specs.Opening.{IsHanded}
use Rattle.rank_wiring.specs.Opening.{HasWireRoom, IsLine, SameOuts, wires_in}
use Rattle.rank_slots.specs.Moves.{GainsIn, MayGainIn, SameNode, Slotwise}
use Rattle.rank_slots.specs.Sound.{IsSound}
use Rattle.rank_wiring.specs.Wiring.{IsRow, bounds_of, from_rank, joints_from, to_rank}
use Rattle.rank_wiring.proofs.Fans.{first-ones, from-before, from-rank, once-from, whole-lanes}
use Rattle.rank_wiring.proofs.Lines.{joints-at, row-grows, row-none, row-stays}
use Rattle.rank_slots.proofs.Pairs.{exists_at, within}
use Rattle.rank_wiring.proofs.Rows.{bound_of, row_grows, row_nil}
use Rattle.rank_wiring.proofs.Fresh.{fresh-same, fresh_in}
use Rattle.rank_slots.proofs.Slotwise.{same-node}
use Rattle.rank_slots.proofs.Snocs.{each_nil, each_snoc, front_some, length_map, map_if, snoc_at, take_at}

pub mid_at : {A : Type 0} (ys : List A) (a : A) (zs : List A) → get_elem? (ys ++ a ∷ zs) (length ys) ≡ some a
mid_at [] a zs = refl
mid_at (y ∷ ys) a zs = mid_at ys a zs

-- ---- a slot with the same node
pub fresh-of : (job : JobOf) (r : ℕ) (y x : TurnRank) → x.job ≡ y.job → x.node.value ≡ y.node.value → IsFresh job r y → IsFresh job r x
fresh-of job r y x same node f = record {
  job_is = same ∙ f.job_is;
  compiled = subst (λ (n : NodeState). IsCompiledFor job.schedule.plan job.inputs r n.task) (sym node) f.compiled;
  history_is = ap (λ (n : NodeState). n.diary.locals) node ∙ f.history_is;
  closed = ap (λ (n : NodeState). n.closed) node ∙ f.closed;
}

-- ---- no slot has an end of a lane whose wire isn't there yet
module _ (p : Plan) (all : List Bounds) (are : AreLanes p all) (wires : List WireState) (b : Bounds) (rest : List Bounds)
    (front : bounds_of wires ++ b ∷ rest ≡ all) where
  here : get_elem? all (length wires) ≡ some b
  here = ap (λ (l : List Bounds). get_elem? l (length wires)) (sym front)
      ∙ (ap (λ n. get_elem? (bounds_of wires ++ b ∷ rest) n) (sym (length_map bound_of wires)) ∙ mid_at (bounds_of wires) b rest)

  pub next-lane : IsLane p b
  next-lane = are.each (length wires) b here

  earlier : (k : ℕ) (w : WireState) → get_elem? wires k ≡ some w → get_elem? all k ≡ some w.bounds
  earlier k w e = ap (λ (l : List Bounds). get_elem? l k) (sym front)
      ∙ front_some (bounds_of wires) (b ∷ rest) k w.bounds (at_map bound_of wires k w e)

  clash : (j : Joint) → Fits wires j → j.bounds.source ≡ b.source → j.bounds.target ≡ b.target → j.bounds.lane ≡ b.lane → ⊥
  clash j fits es ed el =
      let w = exists_at wires j.number fits.inside in
      let low = fits.inside in
      let is = (fits.is w.0 w.1).1 in
      let same = are.once j.number (length wires) w.0.bounds b (earlier j.number w.0 w.1) here (ap (λ (c : Bounds). c.source) (sym is) ∙ es)
      (ap (λ (c : Bounds). c.target) (sym is) ∙ ed) (ap (λ (c : Bounds). c.lane) (sym is) ∙ el) in
      omega (arith, low, same)

  pub no-in : (job : JobOf) (slots : List TurnRank) → AllFresh job slots → AllIn wires slots → (x : TurnRank) →
      get_elem? slots b.target ≡ some x
      → HasNoIn b x.ins.items
  no-in job slots fresh ins x there i q e from lane =
      let ok = x.tied.into i q e in
      clash (in_joint q) ((ins b.target x there).fits i (in_joint q) (at_map in_joint x.ins.items i q e))
      (ap (λ (c : Bounds). c.source) ok.bounds ∙ from) (ap (λ (c : Bounds). c.target) ok.bounds ∙ (fresh b.target x there).compiled.rank)
      (ap (λ (c : Bounds). c.lane) ok.bounds ∙ lane)

-- the out ends of a rank's first lanes are of other lanes than the next one
pub no-out : (p : Plan) (inputs : ℕ) → SoundPlan p inputs → (s : ℕ) → s < p.ranks → (n k : ℕ) (wires : List WireState)
    → bounds_of wires ≡ take k (lanes_from p s) → length wires ≡ k
    → (b : Bounds) → get_elem? (lanes_from p s) k ≡ some b → (x : TurnRank) → map out_joint x.outs.items ≡ joints_from n wires
    → HasNoOut b x.outs.items
no-out p inputs sound s low n k wires laid count b there x outs i q e goes lane =
    let ok = x.tied.out i q e in
    let j = joints-at n wires i (out_joint q) (ap (λ (l : List Joint). get_elem? l i) (sym outs) ∙ at_map out_joint x.outs.items i q e) in
    let bounds : j.0.bounds ≡ q.end.bounds = ap (λ (z : Joint). z.bounds) j.2 in
    let at : get_elem? (lanes_from p s) i ≡ some j.0.bounds =
    take_at (lanes_from p s) k i j.0.bounds (ap (λ (l : List Bounds). get_elem? l i) (sym laid) ∙ at_map bound_of wires i j.0 j.1) in
    let same = once-from p inputs sound s low i k j.0.bounds b at there (ap (λ (c : Bounds). c.target) (bounds ∙ ok.bounds) ∙ goes)
    (ap (λ (c : Bounds). c.lane) (bounds ∙ ok.bounds) ∙ lane) in
    let below = within wires i j.0 j.1 in
    omega (arith, same, below, count)

-- ---- one rank more
pub fanned-more : (job : JobOf) (r : ℕ) (slots : List TurnRank) (loads : List OutWires) (x : TurnRank) (load : OutWires) → length slots ≡ r
    → length loads ≡ r → AllFanned job slots loads
    → IsFanned job r x load → AllFanned job (slots ++ x ∷ []) (loads ++ load ∷ [])
fanned-more job r slots loads x load n m all is q y other ey em = ⊎_elim
    (λ (ox : get_elem? slots q ≡ some y). ⊎_elim
    (λ (oy : get_elem? loads q ≡ some other). all q y other ox oy)
    (λ (ny : (q ≡ length loads) × (load ≡ other)). absurd (let low = within slots q y ox in let e = ny.0 in omega (arith, low, e, n, m)))
    (snoc_at loads load q other em))
    (λ (nx : (q ≡ length slots) × (x ≡ y)). ⊎_elim
    (λ (oy : get_elem? loads q ≡ some other). absurd (let low = within loads q other oy in let e = nx.0 in omega (arith, low, e, n, m)))
    (λ (ny : (q ≡ length loads) × (load ≡ other)). subst (λ (z : (ℕ × TurnRank) × OutWires). IsFanned job z.0.0 z.0.1 z.1)
    (λ i. ((sym (nx.0 ∙ n) i, nx.1 i), ny.1 i)) is)
    (snoc_at loads load q other em))
    (snoc_at slots x q y ey)

-- the first of these places, and the others
pub built-head : (job : JobOf) (k : ℕ) (x : Option BuiltRank) (rest : List (Option BuiltRank)) → AreBuilt job k (x ∷ rest)
    → IfSome x (λ (b : BuiltRank). IsFanned job k b.slot b.load)
built-head job k x rest all = subst (λ n. IfSome x (λ (b : BuiltRank). IsFanned job n b.slot b.load)) (add-zero k) (all 0 x (omega arith))

pub built-tail : (job : JobOf) (k : ℕ) (x : Option BuiltRank) (rest : List (Option BuiltRank)) → AreBuilt job k (x ∷ rest) →
    AreBuilt job (suc k) rest
built-tail job k x rest all i d low = subst (λ n. IfSome (slice_index_or rest i d) (λ (b : BuiltRank). IsFanned job n b.slot b.load))
    (omega arith)
    (all (suc i) d (omega (arith, low)))

-- ---- in ends come
pub in-more : (wires : List WireState) (w : WireState) (into : InPort) (old new : List TurnRank) → into.wire ≡ length wires →
    IsInOf w into.end
    → Slotwise (GainsIn w.bounds.target into) old new → AllIn wires old → AllIn (wires ++ w ∷ []) new
in-more wires w into old new n is s h r x e =
    let y = s r x e in let c = w.bounds.target == r in
    subst (IsRow (wires ++ w ∷ []) (to_rank r)) (sym (ap (map in_joint) y.2.ins_are ∙ map_if in_joint y.0.ins.items into c))
    (row_grows wires w (to_rank r) (map in_joint y.0.ins.items) (in_joint into) c refl (h r y.0 y.1) n is.0 is.1)

module _ (job : JobOf) (sound : IsSound job) (wires : List WireState) (slots : List TurnRank) (handed : IsHanded job wires slots)
    (l : WireEnd)
    (line : IsLine (length wires) l) where
  abbrev plan : Plan
  plan = job.schedule.plan

  abbrev b : Bounds
  b = l.wire.bounds

  -- the line's wire is the next one
  module _ (rest : List WireState) (first : AreFirst job (wires ++ l.wire ∷ rest)) where
    front : bounds_of wires ++ b ∷ (bounds_of rest ++ first.0) ≡ lanes_before plan plan.ranks
    front = sym (append_assoc (bounds_of wires) (b ∷ bounds_of rest) first.0)
        ∙ (ap (λ (m : List Bounds). m ++ first.0) (sym (map-append bound_of wires (l.wire ∷ rest))) ∙ first.1)

    abbrev are : AreLanes plan (lanes_before plan plan.ranks)
    are = whole-lanes plan (length job.inputs) sound.plan

    pub target-in : b.target < length slots
    target-in = let h = (next-lane plan (lanes_before plan plan.ranks) are wires b (bounds_of rest ++ first.0) front).target in
        let m = handed.count in omega (arith, h, m)

    pub may-gain : (x : TurnRank) → get_elem? slots b.target ≡ some x → MayGainIn x l.into
    may-gain x at = fresh_in job b.target x (handed.fresh b.target x at) b l.into
        (next-lane plan (lanes_before plan plan.ranks) are wires b
        (bounds_of rest ++ first.0) front) refl line.source line.lane line.in_is.1 line.received
        (no-in plan (lanes_before plan plan.ranks) are wires b (bounds_of rest ++ first.0) front job slots handed.fresh handed.ins x at)

  pub handed-more : (new : List TurnRank) → length new ≡ length slots → Slotwise SameNode slots new
      → Slotwise (GainsIn b.target l.into) slots new → IsHanded job (wires ++ l.wire ∷ []) new
  handed-more new many nodes gains = record {
    count = many ∙ handed.count;
    fresh = fresh-same job slots new nodes handed.fresh;
    rooms = each_snoc HasWireRoom wires l.wire handed.rooms line.room;
    ins = in-more wires l.wire l.into slots new line.number_is line.in_is gains handed.ins;
  }

-- the rest of the lines
pub lines-rest : (n : ℕ) (wires : List WireState) (w : WireState) (ls : List WireEnd) → n ≡ length wires → AreLines (suc n) ls
    → AreLines (length (wires ++ w ∷ [])) ls
lines-rest n wires w ls e h = let k = length-append wires (w ∷ []) in let same : suc n ≡ length (wires ++ w ∷ []) = omega (arith, k, e) in
    subst (λ m. AreLines m ls) same h

pub first-rest : (job : JobOf) (wires : List WireState) (w : WireState) (rest : List WireState) → AreFirst job (wires ++ w ∷ rest)
    → AreFirst job ((wires ++ w ∷ []) ++ rest)
first-rest job wires w rest h = subst (AreFirst job) (sym (append_assoc wires (w ∷ []) rest)) h

pub outs-stay : (a : List TurnRank) → Slotwise SameOuts a a
outs-stay a r x e = (x, e, record { same = same-node r x; outs_are = refl })

pub outs-chain : (a b c : List TurnRank) → Slotwise SameOuts a b → Slotwise SameOuts b c → Slotwise SameOuts a c
outs-chain a b c s t r x e =
    let y = t r x e in let z = s r y.0 y.1 in (
      z.0,
      z.1,
      record {
        same = record { job_is = y.2.same.job_is ∙ z.2.same.job_is; node = y.2.same.node ∙ z.2.same.node };
        outs_are = y.2.outs_are ∙ z.2.outs_are;
      },
    )

pub gains-outs : (s : ℕ) (p : InPort) (old new : List TurnRank) → Slotwise (GainsIn s p) old new → Slotwise SameOuts old new
gains-outs s p old new h r x e = let y = h r x e in (y.0, y.1, record { same = y.2.same; outs_are = y.2.outs_are })

-- ---- the wires from rank m come after those from the ranks below
module _ (p : Plan) (m : ℕ) (before ws : List WireState) (first : bounds_of before ≡ lanes_before p m)
    (after : bounds_of ws ≡ lanes_from p m) where
  from-m : (i : ℕ) (w : WireState) → get_elem? ws i ≡ some w → w.bounds.source ≡ m
  from-m i w e = from-rank p m i w.bounds (ap (λ (l : List Bounds). get_elem? l i) (sym after) ∙ at_map bound_of ws i w e)

  from-below : (i : ℕ) (w : WireState) → get_elem? before i ≡ some w → w.bounds.source < m
  from-below i w e = from-before p m i w.bounds (ap (λ (l : List Bounds). get_elem? l i) (sym first) ∙ at_map bound_of before i w e)

  -- the ends of the ranks below stay theirs, and those of rank m are these
  pub row-others : (r : ℕ) (js : List Joint) → r < m → IsRow before (from_rank r) js → IsRow (before ++ ws) (from_rank r) js
  row-others r js low row = row-stays (from_rank r) before ws js row
      (λ i w e. ne_eqb w.bounds.source r (λ is. let from = from-m i w e in omega (arith, is, from, low)))

  pub row-own : IsRow (before ++ ws) (from_rank m) (joints_from (length before) ws)
  row-own = row-grows (from_rank m) before ws []
      (row-none (from_rank m) before (λ i w e. ne_eqb w.bounds.source m (λ is. let low = from-below i w e in omega (arith, is, low))))
      (λ i w e. eq-eqb w.bounds.source m (from-m i w e))

-- ---- rank after rank
-- before the first wire comes
pub start-handed : (job : JobOf) (slots : List TurnRank) (loads : List OutWires) → length slots ≡ job.schedule.plan.ranks
    → length loads ≡ job.schedule.plan.ranks
    → AllFanned job slots loads → IsHanded job [] slots
start-handed job slots loads n m fanned = record {
  count = n;
  fresh = λ r x at. (of r x at).fresh;
  rooms = each_nil HasWireRoom;
  ins = λ r x at. subst (λ (l : List InPort). IsRow [] (to_rank r) (map in_joint l)) (sym (of r x at).ins) (row_nil (to_rank r));
}
  where
    of : (r : ℕ) (x : TurnRank) → (at : get_elem? slots r ≡ some x)
        → IsFanned job r x (exists_at loads r (let k = within slots r x at in omega (arith, k, n, m))).0
    of r x at = let load = exists_at loads r (let k = within slots r x at in omega (arith, k, n, m)) in fanned r x load.0 at load.1

abbrev pub LaidBelow : ℕ → List WireState → List TurnRank → Type 0
LaidBelow m wires slots = (r : ℕ) (x : TurnRank) → get_elem? slots r ≡ some x → r < m →
    IsRow wires (from_rank r) (map out_joint x.outs.items)

module _ (job : JobOf) (sound : IsSound job) (first : List TurnRank) (loads : List OutWires) (fanned : AllFanned job first loads)
    (many : length first ≡ job.schedule.plan.ranks) (m : ℕ) (load : OutWires)
    (there : get_elem? loads m ≡ some load) (low : m < length first) (wires : List WireState)
    (lanes : bounds_of wires ≡ lanes_before job.schedule.plan m) where
  abbrev q : Plan
  q = job.schedule.plan

  abbrev ws : List WireState
  ws = wires_in load.lines.items

  own : (x : TurnRank) → get_elem? first m ≡ some x → IsFanned job m x load
  own x at = fanned m x load at there

  is : IsFanned job m (exists_at first m low).0 load
  is = own (exists_at first m low).0 (exists_at first m low).1

  placed : length (lanes_before q m) ≡ length wires
  placed = sym (ap (λ (l : List Bounds). length l) lanes) ∙ length_map bound_of wires

  pub load-lines : AreLines (length wires) load.lines.items
  load-lines = subst (λ n. AreLines n load.lines.items) placed is.lines

  pub load-lanes : bounds_of (wires ++ ws) ≡ lanes_before q (suc m)
  load-lanes = map-append bound_of wires ws ∙ ap₂ (λ (a b : List Bounds). a ++ b) lanes is.bounds_are

  pub load-first : AreFirst job (wires ++ ws)
  load-first = subst (λ (l : List Bounds). IsPrefix l (lanes_before q q.ranks)) (sym load-lanes)
      (first-ones q (suc m) q.ranks (omega (arith, low, many)))

  pub load-laid : (old new : List TurnRank) → Slotwise SameOuts first old → Slotwise SameOuts old new → LaidBelow m wires old
      → LaidBelow (suc m) (wires ++ ws) new
  load-laid old new s t laid r x at up =
      let y = t r x at in let z = s r y.0 y.1 in
      subst (λ (o : List OutPort). IsRow (wires ++ ws) (from_rank r) (map out_joint o)) (sym y.2.outs_are) (⊎_elim
      (λ (here : r ≡ m).
      let mine = own z.0 (ap (get_elem? first) (sym here) ∙ z.1) in
      let outs : map out_joint y.0.outs.items ≡ joints_from (length wires) ws = ap (map out_joint) z.2.outs_are
      ∙ (mine.outs ∙ ap (λ n. joints_from n ws) placed) in
      subst (λ k. IsRow (wires ++ ws) (from_rank k) (map out_joint y.0.outs.items)) (sym here)
      (subst (IsRow (wires ++ ws) (from_rank m)) (sym outs) (row-own q m wires ws lanes is.bounds_are)))
      (λ (not : r ≡ m → ⊥).
      let below : r < m = omega (arith, up, not) in
      row-others q m wires ws lanes is.bounds_are r (map out_joint y.0.outs.items) below (laid r y.0 y.1 below))
      (cases_eq r m))
