-- How many steps a legal history may have: one start, each operation once, and its receipts.
use Rattle.std.proofs.Common.{ℕ, suc, Bool, true, false, cond, ◌||◌, ◌==◌, ◌+◌, ◌≡◌, ◌≤◌, ◌<◌, List, [], ◌∷◌, refl, length, ap, ◌∙◌, subst}
use Rattle.std.proofs.Common.{inl, inr, arith, count_by, Option, Some, None, eqb-true, eq-eqb, zero-le}
use Rattle.ni_model.specs.Ready.{is_number, is_ready, is_ready_op, posted_at}
use Rattle.ni_model.specs.State.{Posted, State}
use Rattle.plan_core.specs.Members.{Distinct, In}
use Rattle.plan_core.specs.Plan.{Plan, from_to, out_links, own}
use Rattle.plan_core.proofs.Links.{In-from_to}
use Rattle.plan_core.proofs.Lists.{In-map_cases, count-cons, length-Within}
use Rattle.cuts.proofs.machine.RankOps.{rank_ops-along, rank_ops-tell}
use Rattle.plan_core.specs.calls.RankOps.{RankOp, rank_ops, number_of}
use Rattle.plan_core.specs.calls.RankOps.RankOp.{ForLink, ForDone}
use Rattle.cuts.proofs.view.Tables.{find-In, place_in-lt}
use Rattle.cuts.specs.view.Slots.{Slots}
use Rattle.cuts.specs.view.TriggeredOps.{operation}
use Rattle.cuts.specs.histories.History.{Beginning, Legal, Local, after, is_fire, is_start}
use Rattle.cuts.specs.histories.History.Local.{Fire, Receive, Start}
use Rattle.cuts.proofs.histories.Once.{fired_once}
use Rattle.cuts.proofs.histories.Origin.{IsOf, after_of}
use Rattle.cuts.specs.histories.Lanes.{is_receipt}
use Rattle.cuts.proofs.start.Starting.{length-from_to}
use Rattle.cuts.proofs.start.Unrefused.{length-rank_ops}

-- the numbers that are fired
abbrev firings : List Local → List ℕ
firings [] = []
firings (Fire t ∷ es) = t ∷ firings es
firings (_ ∷ es) = firings es

fired-counts : (t : ℕ) (es : List Local) → In t (firings es) → 1 ≤ count_by (is_fire t) es
fired-counts t [] i = absurd i
fired-counts t (Start ∷ es) i = let k = fired-counts t es i in let c = count-cons (is_fire t) Start es in omega (arith, k, c)
fired-counts t (Receive s l m ∷ es) i = let k = fired-counts t es i in let c = count-cons (is_fire t) (Receive s l m) es in
    omega (arith, k, c)
fired-counts t (Fire u ∷ es) (inr i) = let k = fired-counts t es i in let c = count-cons (is_fire t) (Fire u) es in omega (arith, k, c)
fired-counts t (Fire u ∷ es) (inl e) =
    let c = count-cons (is_fire t) (Fire u) es in
    let z = one (u == t) (eq-eqb _ _ e) in
    omega (arith, c, z)
  where
    one : (b : Bool) → b ≡ true → cond {A = ℕ} b 1 0 ≡ 1
    one true e = refl
    one false e = cc

firings-once : (go : Beginning) (es : List Local) (b : Bool) (v : State) → Legal go b v es → Distinct (firings es)
firings-once go [] b v l = tt
firings-once go (Start ∷ es) b v l = firings-once go es (b || true) (after go v Start) l.1
firings-once go (Receive s lane m ∷ es) b v l = firings-once go es (b || false) (after go v (Receive s lane m)) l.1
firings-once go (Fire t ∷ es) b v l = (
  (λ i. let k = fired-counts t es i in let m = fired_once t go (Fire t ∷ es) b v l in let c = count-cons (is_fire t) (Fire t) es in
      let z = one (t == t) (eq-eqb t t refl) in absurd (omega (arith, k, m, c, z))),
  firings-once go es (b || false) (after go v (Fire t)) l.1,
)
  where
    one : (b : Bool) → b ≡ true → cond {A = ℕ} b 1 0 ≡ 1
    one true e = refl
    one false e = cc

number-lt : (p : Plan) (r : ℕ) (w : RankOp) → In w (rank_ops p r) → number_of p r w < length (rank_ops p r)
number-lt p r (ForLink l) i = let q = place_in-lt (out_links p r) l (rank_ops-along p r l i) in let s = length-rank_ops p r in
    omega (arith, q, s)
number-lt p r (ForDone c) i = let q = place_in-lt (own p r) c (rank_ops-tell p r c i) in let s = length-rank_ops p r in omega (arith, q, s)

ready-known : (p : Plan) (s : Slots) (r t : ℕ) (v : State) → IsOf p s r v → is_ready v t ≡ true → t < length (rank_ops p r)
ready-known p s r t v h e = at (posted_at t v.pending) refl e
  where
    at : (o : Option Posted) → posted_at t v.pending ≡ o → is_ready_op v.cts o ≡ true → t < length (rank_ops p r)
    at None q e = cc
    at (Some x) q e =
        let f = find-In (is_number t) v.pending.waiting x q in
        let k = In-map_cases (operation p s r) x (rank_ops p r) (h.pending x f.0) in
        let n : number_of p r k.0 ≡ t = ap (λ (y : Posted). y.number) k.2 ∙ eqb-true _ _ f.1 in
        subst (λ m. m < length (rank_ops p r)) n (number-lt p r k.0 k.1)

firings-known : (p : Plan) (s : Slots) (r : ℕ) (go : Beginning) (es : List Local) (b : Bool) (v : State) → IsOf p s r v →
    Legal go b v es → (t : ℕ) → In t (firings es) → t < length (rank_ops p r)
firings-known p s r go [] b v h l t i = absurd i
firings-known p s r go (Start ∷ es) b v h l t i = firings-known p s r go es (b || true) (after go v Start) (after_of p s r go v Start h)
    l.1 t i
firings-known p s r go (Receive x lane m ∷ es) b v h l t i = firings-known p s r go es (b || false) (after go v (Receive x lane m))
    (after_of p s r go v (Receive x lane m) h) l.1 t i
firings-known p s r go (Fire u ∷ es) b v h l t (inl e) = subst (λ n. n < length (rank_ops p r)) e (ready-known p s r u v h l.0)
firings-known p s r go (Fire u ∷ es) b v h l t (inr i) = firings-known p s r go es (b || false) (after go v (Fire u))
    (after_of p s r go v (Fire u) h) l.1 t i

pub few_firings : (p : Plan) (s : Slots) (r : ℕ) (go : Beginning) (es : List Local) (b : Bool) (v : State) → IsOf p s r v →
    Legal go b v es → length (firings es) ≤ length (rank_ops p r)
few_firings p s r go es b v h l =
    let q = length-Within (firings es) (from_to 0 (length (rank_ops p r))) (firings-once go es b v l)
    (λ t i. let k = firings-known p s r go es b v h l t i in In-from_to 0 (length (rank_ops p r)) t zero-le (omega arith)) in
    let z = length-from_to 0 (length (rank_ops p r)) in
    omega (arith, q, z)

-- one start at most, and none after one
few_starts : (go : Beginning) (es : List Local) (b : Bool) (v : State) → Legal go b v es → count_by is_start es + cond b 1 0 ≤ 1
few_starts go [] true v l = omega arith
few_starts go [] false v l = omega arith
few_starts go (Start ∷ es) true v l = let q = l.0 in cc
few_starts go (Start ∷ es) false v l = let k = few_starts go es true (after go v Start) l.1 in let c = count-cons is_start Start es in
    omega (arith, k, c)
few_starts go (Receive s lane m ∷ es) true v l = let k = few_starts go es true (after go v (Receive s lane m)) l.1 in let c =
    count-cons is_start (Receive s lane m) es in omega (arith, k, c)
few_starts go (Receive s lane m ∷ es) false v l = let k = few_starts go es false (after go v (Receive s lane m)) l.1 in let c =
    count-cons is_start (Receive s lane m) es in omega (arith, k, c)
few_starts go (Fire t ∷ es) true v l = let k = few_starts go es true (after go v (Fire t)) l.1 in let c =
    count-cons is_start (Fire t) es in
    omega (arith, k, c)
few_starts go (Fire t ∷ es) false v l = let k = few_starts go es false (after go v (Fire t)) l.1 in let c =
    count-cons is_start (Fire t) es
    in omega (arith, k, c)

parts-of : (es : List Local) → length es ≡ count_by is_start es + (length (firings es) + count_by is_receipt es)
parts-of [] = refl
parts-of (Start ∷ es) = let k = parts-of es in let a = count-cons is_start Start es in let b = count-cons is_receipt Start es in
    omega (arith, k, a, b)
parts-of (Receive s l m ∷ es) = let k = parts-of es in let a = count-cons is_start (Receive s l m) es in let b =
    count-cons is_receipt
    (Receive s l m) es in
    omega (arith, k, a, b)
parts-of (Fire t ∷ es) = let k = parts-of es in let a = count-cons is_start (Fire t) es in let b = count-cons is_receipt (Fire t) es in
    omega (arith, k, a, b)

pub few_steps : (p : Plan) (s : Slots) (r : ℕ) (go : Beginning) (es : List Local) (v : State) → IsOf p s r v → Legal go false v es →
    length es ≤ suc (length (rank_ops p r)) + count_by is_receipt es
few_steps p s r go es v h l =
    let a = few_firings p s r go es false v h l in
    let b = few_starts go es false v l in
    let c = parts-of es in
    omega (arith, a, b, c)
