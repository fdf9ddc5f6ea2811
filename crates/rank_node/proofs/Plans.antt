-- What is compiled for a rank of a sound plan can be installed, gives the prepared interface of the plan, and starts it.
use Rattle.std.proofs.Common.{◌≡◌, ◌<◌, ◌≤◌, ℕ, zero, suc, ◌+◌, ◌%◌, ◌^◌, ◌==◌, Bool, true, false, List, [], ◌∷◌, ◌++◌, Option, Some, None}
use Rattle.std.proofs.Common.{length, map, filter, get_or, if◌then◌else◌, refl, ap, ap₂, ◌∙◌, sym, subst, arith, inl, inr}
use Rattle.std.specs.Prelude.{All}
use Rattle.std.proofs.Math.Nat.{le-max_left, le-max_right}
use Rattle.std.proofs.lemmas.List.Elements.{All-nil, All-cons}
use Rattle.std.proofs.lemmas.List.Sums.{length-filter, count_by-le-length}
use Rattle.ptl_types.specs.Operations.{bytes_of}
use Rattle.ptl_types.specs.declared.calls.Limits.{Limits}
use Rattle.ptl_types.specs.declared.calls.PutArgs.{PutArgs}
use Rattle.ptl_types.specs.declared.elements.AtomicOp.{AtomicOp}
use Rattle.ptl_types.specs.declared.steps.PlannedOp.TheVariants.{BumpCell}
use Rattle.ptl_types.specs.declared.steps.Call.{Call}
use Rattle.ptl_types.specs.declared.steps.Call.TheVariants.{CtDone, CtCell, MdBind}
use Rattle.ni_model.specs.Conditions.{MayStart}
use Rattle.portals_ni.specs.Fit.{FitLimits}
use Rattle.plan_core.proofs.Links.{from_to-In, In-own, out_links-In}
use Rattle.plan_core.proofs.Lists.{In-filter_cases, length-map'}
use Rattle.plan_core.specs.Members.{In}
use Rattle.plan_core.specs.Places.{place_in}
use Rattle.plan_core.specs.Plan.{Plan, cell, link, own, out_links, all_links, from_to, is_bump}
use Rattle.plan_core.specs.Sound.{SoundPlan}
use Rattle.plan_core.specs.Values.{Inputs}
use Rattle.plan_core.specs.declared.LinkKind.{LinkKind}
use Rattle.plan_core.specs.declared.LinkKind.TheVariants.{Put, Atomic, Bump}
use Rattle.plan_core.specs.calls.Areas.{areas_length, classes, comes_to, has_class, links_to, longest, longest_to, region_length}
use Rattle.plan_core.specs.calls.Calls.{act_of, area_call, own_cell, prepare_calls, send_act, trigger}
use Rattle.plan_core.specs.calls.Limits.{limits_for}
use Rattle.plan_core.specs.calls.RankOps.{RankOp, rank_ops, cell_of, sends_of}
use Rattle.plan_core.specs.calls.RankOps.RankOp.{ForLink, ForDone}
use Rattle.plan_core.specs.declared.calls.OwnCell.{OwnCell}
use Rattle.cuts.proofs.machine.RankOps.{rank_ops-along}
use Rattle.cuts.proofs.view.StepFire.{cell_of-own}
use Rattle.cuts.proofs.view.Tables.{place_in-lt}
use Rattle.cuts.specs.view.Calls.{prepare, sending_action}
use Rattle.cuts.specs.view.Slots.{Slots}
use Rattle.cuts.proofs.start.Starting.{length-from_to}
use Rattle.cuts.proofs.histories.Told.{count-out-le}
use Rattle.cuts.specs.histories.History.{Legal, state}
use Rattle.cuts.specs.histories.Plans.{beginning, system_of, start_of as begins}
use Rattle.cuts.specs.histories.System.{Histories, state_at}
use Rattle.rank_node.specs.Calls.{HasCounter, IsWired, MaySend, MayCallAll, count_call, count_calls, none_made}
use Rattle.rank_node.specs.Handles.{Agrees, Counted, Fits, IsRising, room_under}
use Rattle.rank_node.specs.Node.{IsCompiled, IsNode, NodeState, Task, prepared, start_of}
use Rattle.rank_node.specs.Plans.{IsCompiledFor}

-- ---- own cells rise
In-get : (xs : List ℕ) (i : ℕ) → i < length xs → In (get_or xs i 0) xs
In-get [] i lt = absurd (omega arith)
In-get (x ∷ xs) zero lt = inl refl
In-get (x ∷ xs) (suc i) lt = inr (In-get xs i (omega arith))

rising-cons : (a : ℕ) (xs : List ℕ) → ((x : ℕ) → In x xs → a < x) → IsRising xs → IsRising (a ∷ xs)
rising-cons a xs above rising = record { below = at }
  where
    at : (i j : ℕ) → i < j → j < suc (length xs) → get_or (a ∷ xs) i 0 < get_or (a ∷ xs) j 0
    at i zero less lt = absurd (omega arith)
    at zero (suc j) less lt = above (get_or xs j 0) (In-get xs j (omega arith))
    at (suc i) (suc j) less lt = rising.below i j (omega arith) (omega arith)

rising-filter : (t : ℕ → Bool) (k n : ℕ) → IsRising (filter t (from_to k n))
rising-filter t k zero = record { below = λ i j less lt. absurd (omega arith) }
rising-filter t k (suc n) = at (t k) (rising-filter t (suc k) n)
  where
    above : (x : ℕ) → In x (filter t (from_to (suc k) n)) → k < x
    above x i = let q = from_to-In (suc k) n x (In-filter_cases t x (from_to (suc k) n) i).0 in let low = q.0 in omega arith

    at : (b : Bool) → IsRising (filter t (from_to (suc k) n)) →
        IsRising (if b then k ∷ filter t (from_to (suc k) n) else filter t (from_to (suc k) n))
    at true rest = rising-cons k (filter t (from_to (suc k) n)) above rest
    at false rest = rest

-- ---- as many as there are numbers, at most
at_most-numbered : (t : ℕ → Bool) (n : ℕ) → length (filter t (from_to 0 n)) ≤ n
at_most-numbered t n =
    let f = length-filter t (from_to 0 n) in
    let g = count_by-le-length t (from_to 0 n) in
    let k = length-from_to 0 n in
    omega arith

-- ---- lists of calls, one after the other
may-append : (cells : List ℕ) (ranks : ℕ) (limits : Limits) (n : Counted) (xs ys : List Call) → MayCallAll cells ranks limits n xs →
    MayCallAll cells ranks limits (count_calls xs n) ys → MayCallAll cells ranks limits n (xs ++ ys)
may-append cells ranks limits n [] ys a b = b
may-append cells ranks limits n (x ∷ xs) ys a b = (a.0, may-append cells ranks limits (count_call x n) xs ys a.1 b)

counts-append : (xs ys : List Call) (n : Counted) → count_calls (xs ++ ys) n ≡ count_calls ys (count_calls xs n)
counts-append [] ys n = refl
counts-append (x ∷ xs) ys n = counts-append xs ys (count_call x n)

-- each area is an entry, operations make nothing, and each counter counts
abbrev counted : ℕ → ℕ → ℕ → Counted
counted counters entries descriptors = record { counters = counters; entries = entries; descriptors = descriptors }

counts-areas : (p : Plan) (r : ℕ) (xs : List ℕ) (n m d : ℕ) → count_calls (map (area_call p r) xs) (counted n m d) ≡ counted n
    (m + length xs) d
counts-areas p r [] n m d = ap (λ k. counted n k d) (let q : m ≡ m + 0 = omega arith in q)
counts-areas p r (x ∷ xs) n m d = counts-areas p r xs n (suc m) d
    ∙ ap (λ k. counted n k d) (let q : suc m + length xs ≡ m + suc (length xs) = omega arith in q)

counts-triggers : (p : Plan) (ws : List RankOp) (n : Counted) → count_calls (map (trigger p) ws) n ≡ n
counts-triggers p [] n = refl
counts-triggers p (w ∷ ws) n = counts-triggers p ws n

counts-cells : (cs : List ℕ) (n m d : ℕ) → count_calls (map CtCell cs) (counted n m d) ≡ counted (n + length cs) m d
counts-cells [] n m d = ap (λ k. counted k m d) (let q : n ≡ n + 0 = omega arith in q)
counts-cells (c ∷ cs) n m d = counts-cells cs (suc n) m d ∙ ap (λ k. counted k m d) (let q : suc n + length cs ≡ n + suc (length cs) =
    omega arith in q)

may-areas : (p : Plan) (r : ℕ) (cells : List ℕ) (ranks : ℕ) (limits : Limits) (xs : List ℕ) (n : Counted) →
    MayCallAll cells ranks limits n (map (area_call p r) xs)
may-areas p r cells ranks limits [] n = tt
may-areas p r cells ranks limits (x ∷ xs) n = (tt, may-areas p r cells ranks limits xs (count_call (area_call p r x) n))

may-cells : (cells : List ℕ) (ranks : ℕ) (limits : Limits) (cs : List ℕ) (n : Counted) → MayCallAll cells ranks limits n (map CtCell cs)
may-cells cells ranks limits [] n = tt
may-cells cells ranks limits (c ∷ cs) n = (tt, may-cells cells ranks limits cs (count_call (CtCell c) n))

-- ---- the operations
longest-le : (p : Plan) (ls : List ℕ) (l : ℕ) → In l ls → (link p l).length ≤ longest p ls
longest-le p [] l i = absurd i
longest-le p (m ∷ ls) l (inl e) = let q = ap (λ n. (link p n).length) e in let top = le-max_left (link p m).length (longest p ls) in
    omega arith
longest-le p (m ∷ ls) l (inr i) = let q = longest-le p ls l i in let top = le-max_right (link p m).length (longest p ls) in omega arith

bump_kind : (k : LinkKind) → is_bump k ≡ true → k ≡ Bump
bump_kind Bump e = refl
bump_kind Put e = cc
bump_kind Atomic e = cc

module _ (p : Plan) (inputs : Inputs) (sound : SoundPlan p (length inputs)) (r : ℕ) where
  -- what the preparation makes
  abbrev all_made : Counted
  all_made = counted (1 + length (own p r)) (0 + length (classes p r)) 1

  -- an own cell has a counter
  has_counter : (c : ℕ) → In c (own p r) → HasCounter (own p r) (1 + length (own p r)) c
  has_counter c i = let q = place_in-lt (own p r) c i in (q, omega arith)

  may-start : (l : ℕ) → In l (out_links p r) → (o : Option AtomicOp) → (cell p (link p l).target).op ≡ o → (a : PutArgs) →
      a.target ≡ (cell p (link p l).target).rank → a.length ≡ (link p l).length
      → MayStart (sending_action a o (cell p (link p l).target).ty) p.ranks (limits_for p r)
  may-start l i None e a target size =
      let q = out_links-In p r l i in
      let known = sound.ranks_known (link p l).target (sound.links_sound l q.0).cells in
      let short = longest-le p (out_links p r) l i in
      record { target_known = omega arith; short = omega arith }
  may-start l i (Some o) e a target size =
      let q = out_links-In p r l i in
      let s = sound.links_sound l q.0 in
      let known = sound.ranks_known (link p l).target s.cells in
      let short = longest-le p (out_links p r) l i in
      let same : a.length ≡ (cell p (link p l).target).length = size ∙ (s.atomic_whole (s.atomic_here o e)).1 in (
        record { target_known = omega arith; short = omega arith },
        record {
          whole = ap (λ n. n % bytes_of (cell p (link p l).target).ty) same ∙ sound.whole (link p l).target s.cells;
          at_most =
              omega arith;
        },
      )

  wired-send : (w : RankOp) → In w (rank_ops p r) → IsWired (own p r) all_made (act_of p w) × MaySend p.ranks (limits_for p r) (act_of p w)
  wired-send (ForDone c) i = (omega arith, tt)
  wired-send (ForLink l) i = at (is_bump (link p l).kind) refl
    where
      out : In l (out_links p r)
      out = rank_ops-along p r l i

      at : (b : Bool) → is_bump (link p l).kind ≡ b → IsWired (own p r) all_made (act_of p (ForLink l)) ×
          MaySend p.ranks (limits_for p r) (act_of p (ForLink l))
      at true e =
          let q = out_links-In p r l out in
          let s = sound.links_sound l q.0 in
          let t : In (link p l).target (own p r) = In-own p r (link p l).target s.cells (sym (s.bump_stays (bump_kind (link p l).kind e))
          ∙ q.1) in
          subst (λ b. IsWired (own p r) all_made (if b then BumpCell (link p l).target else send_act p l) ×
          MaySend p.ranks (limits_for p r) (if b then BumpCell (link p l).target else send_act p l)) (sym e)
          (has_counter (link p l).target t, tt)
      at false e =
          subst (λ b. IsWired (own p r) all_made (if b then BumpCell (link p l).target else send_act p l) ×
          MaySend p.ranks (limits_for p r) (if b then BumpCell (link p l).target else send_act p l)) (sym e)
          (refl, may-start l out (cell p (link p l).target).op refl _ refl refl)

  may-triggers : (ws : List RankOp) → ((w : RankOp) → In w ws → In w (rank_ops p r)) →
      MayCallAll (own p r) p.ranks (limits_for p r) all_made (map (trigger p) ws)
  may-triggers [] sub = tt
  may-triggers (w ∷ ws) sub =
      let i = sub w (inl refl) in
      let q = wired-send w i in
      ((has_counter (cell_of p w) (cell_of-own p (length inputs) sound r w i), q.0, q.1), may-triggers ws (λ v j. sub v (inr j)))

  -- ---- what is compiled can be installed
  abbrev IsPlaced : OwnCell → Type 0
  IsPlaced x = place_in (own p r) x.number < length (own p r)

  own_have : (cs : List ℕ) → ((c : ℕ) → In c cs → In c (own p r)) → All IsPlaced (map (own_cell p r) cs)
  own_have [] sub = All-nil IsPlaced
  own_have (c ∷ cs) sub = All-cons IsPlaced (own_cell p r c) (map (own_cell p r) cs) (place_in-lt (own p r) c (sub c (inl refl)))
      (own_have cs (λ d i. sub d (inr i)))

  -- the calls after those of the areas, and after those of the counters
  abbrev operations : List Call
  operations = map (trigger p) (rank_ops p r)

  abbrev bound_and_operations : List Call
  bound_and_operations = MdBind (region_length p r + areas_length p r) p.remote ∷ operations

  abbrev behind_areas : List Call
  behind_areas = CtDone ∷ (map CtCell (own p r) ++ bound_and_operations)

  may-calls : MayCallAll (own p r) p.ranks (limits_for p r) none_made (prepare_calls p r)
  may-calls =
      let last : MayCallAll (own p r) p.ranks (limits_for p r) (counted (1 + length (own p r)) (0 + length (classes p r)) 0)
      bound_and_operations = ((refl, omega arith), may-triggers (rank_ops p r) (λ w i. i)) in
      let middle : MayCallAll (own p r) p.ranks (limits_for p r) (counted 0 (0 + length (classes p r)) 0) behind_areas = (
        refl,
        may-append (own p r) p.ranks (limits_for p r) (counted 1 (0 + length (classes p r)) 0) (map CtCell (own p r)) bound_and_operations
            (may-cells (own p r) p.ranks (limits_for p r) (own p r) (counted 1 (0 + length (classes p r)) 0))
            (subst (λ n. MayCallAll (own p r) p.ranks (limits_for p r) n bound_and_operations)
            (sym (counts-cells (own p r) 1 (0 + length (classes p r)) 0)) last),
      ) in (
        tt,
        may-append (own p r) p.ranks (limits_for p r) none_made (map (area_call p r) (classes p r)) behind_areas
            (may-areas p r (own p r) p.ranks (limits_for p r) (classes p r) none_made)
            (subst (λ n. MayCallAll (own p r) p.ranks (limits_for p r) n behind_areas) (sym (counts-areas p r (classes p r) 0 0 0)) middle),
      )

  counts-calls : count_calls (prepare_calls p r) none_made ≡ all_made
  counts-calls =
      counts-append (map (area_call p r) (classes p r)) behind_areas none_made
      ∙ ap (count_calls behind_areas) (counts-areas p r (classes p r) 0 0 0)
      ∙ counts-append (map CtCell (own p r)) bound_and_operations (counted 1 (0 + length (classes p r)) 0)
      ∙ ap (count_calls bound_and_operations) (counts-cells (own p r) 1 (0 + length (classes p r)) 0)
      ∙ counts-triggers p (rank_ops p r) all_made

  if-le : (b : Bool) (n m : ℕ) → n ≤ m → (if b then n else 0) ≤ m
  if-le true n m le = le
  if-le false n m le = omega arith

  few_receipts : length (links_to p r) + (if p.remote then sends_of p r else 0) < 2 ^ 33
  few_receipts =
      let together = sound.few_together in
      let f = length-filter (comes_to p r) (all_links p) in
      let g = count_by-le-length (comes_to p r) (all_links p) in
      let k = length-from_to 0 (length p.links) in
      let s = if-le p.remote (sends_of p r) (length p.links) (count-out-le p r) in
      omega arith

  few_limits : length p.cells + length p.links < 2 ^ 27 → FitLimits (limits_for p r)
  few_limits at_most =
      let a = at_most-numbered (λ k. has_class p k (links_to p r)) 81 in
      let b = at_most-numbered (λ c. (cell p c).rank == r) (length p.cells) in
      let c = at_most-numbered (comes_to p r) (length p.links) in
      let d = at_most-numbered (λ l. (cell p (link p l).source).rank == r) (length p.links) in
      (omega (arith, a, b, c, at_most), omega (arith, b, d, at_most), omega (arith, b, at_most))

  pub compiled-is : (t : Task) → length p.cells + length p.links < 2 ^ 27 → r < p.ranks → IsCompiledFor p inputs r t → IsCompiled t
  compiled-is t at_most known f =
      let go = sound.go_needs r known in
      let all = sound.all_go in
      let here : In r (own p r) = In-own p r r (omega arith) go.2 in
      let made : count_calls t.calls none_made ≡ all_made = ap (λ cs. count_calls cs none_made) f.calls ∙ counts-calls in
      let size : length t.own ≡ length (own p r) = ap length f.own ∙ length-map' (own_cell p r) (own p r) in
      record {
        rank = subst (λ n. n < t.ranks) (sym f.rank) (subst (λ n. r < n) (sym f.ranks) known);
        rising = subst IsRising (sym f.cells) (rising-filter (λ d. (cell p d).rank == r) 0 (length p.cells));
        may = rw (f.cells, f.ranks, f.limits, f.calls) may-calls;
        counters = ap (λ (n : Counted). n.counters) made ∙ rw f.cells (let q : 1 + length (own p r) ≡ suc (length (own p r)) =
            omega arith in q);
        descriptors = ap (λ (n : Counted). n.descriptors) made;
        enough = subst (λ (n : Counted). Fits (record n { entries = n.entries + length t.own }) (room_under t.limits)) (sym made)
            (subst (λ l. Fits (record all_made { entries = all_made.entries + length t.own }) (room_under l)) (sym f.limits)
            (record { counters = omega arith; entries = omega arith; descriptors = omega arith }));
        fit = subst FitLimits (sym f.limits) (few_limits at_most);
        go = rw (f.cells, f.go) (place_in-lt (own p r) r here);
        own = rw (f.cells, f.own) (own_have (own p r) (λ d i. i));
        at_most = subst (λ n. n < 2 ^ 33) (sym f.receipts) few_receipts;
      }

-- ---- it gives the prepared interface, and starts it
pub prepared-is : (p : Plan) (inputs : Inputs) (r : ℕ) (k : Slots) (t : Task) → IsCompiledFor p inputs r t →
    prepared t k ≡ prepare p inputs k r
prepared-is p inputs r k t f = rw (f.cells, f.calls, f.rank, f.ranks, f.limits, f.region) refl

pub begin-is : (p : Plan) (inputs : Inputs) (r : ℕ) (k : Slots) (t : Task) → IsCompiledFor p inputs r t → start_of t k ≡ begins p k r
begin-is p inputs r k t f = ap₂ (λ m cells. beginning m k cells t.go t.own) f.longest f.cells
    ∙ ap₂ (λ g own_list. beginning (longest_to p r) k (own p r) g own_list) f.go f.own

-- ---- a node of this rank has a history of the plan's system
pub run-state : (p : Plan) (inputs : Inputs) (slots : ℕ → Slots) (w : Histories) (r : ℕ) (n : NodeState) →
    IsCompiledFor p inputs r n.task → IsNode n → Agrees (slots r) n.kept → w r ≡ n.diary.locals →
    n.nic ≡ state_at (system_of p inputs slots) w r
run-state p inputs slots w r n f is agrees same =
    is.state (slots r) agrees
    ∙ ap₂ (λ b v. state b v n.diary.locals) (begin-is p inputs r (slots r) n.task f) (prepared-is p inputs r (slots r) n.task f)
    ∙ ap (state (begins p (slots r) r) (prepare p inputs (slots r) r)) (sym same)

pub run-legal : (p : Plan) (inputs : Inputs) (k : Slots) (r : ℕ) (n : NodeState) → IsCompiledFor p inputs r n.task → IsNode n →
    Agrees k n.kept → Legal (begins p k r) false (prepare p inputs k r) n.diary.locals
run-legal p inputs k r n f is agrees =
    let a = subst (λ b. Legal b false (prepared n.task k) n.diary.locals) (begin-is p inputs r k n.task f) (is.legal k agrees) in
    subst (λ v. Legal (begins p k r) false v n.diary.locals) (prepared-is p inputs r k n.task f) a
