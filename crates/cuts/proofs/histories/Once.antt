-- In a legal history each number is fired at most once.
use Rattle.std.proofs.Common.{◌++◌, IsTrue, ℕ, Bool, true, false, cond, not, ◌||◌, ◌==◌, ◌≡◌, ◌≤◌, List, [], ◌∷◌, refl, ap, subst, arith}
use Rattle.std.proofs.Common.{Option, Some, None, count_by, eqb-true}
use Rattle.std.proofs.lemmas.Bool.{not-true, false_from_ne_true}
use Rattle.plan_core.specs.Members.{In}
use Rattle.ni_model.specs.State.{Posted, State, Operations}
use Rattle.ni_model.specs.Ready.{fired, is_ready, fired_op, is_number, is_ready_op, posted_at}
use Rattle.cuts.specs.histories.History.{Beginning, Legal, Local, after, is_fire, state, is_start}
use Rattle.cuts.specs.histories.History.Local.{Fire, Receive, Start}
use Rattle.plan_core.proofs.Lists.{In-filter_cases, count-cons}
use Rattle.cuts.proofs.view.Tables.{find-In, find-none}
use Rattle.cuts.proofs.histories.Origin.{done_stays, target_stays, without}

-- no pending operation has this number
abbrev pub Gone : ℕ → State → Type 0
Gone t v = (q : Posted) → In q v.pending.waiting → is_number t q ≡ false

gone_fired : (t u : ℕ) (v : State) → Gone t v → Gone t (fired v u).state
unfolding fired
gone_fired t u v h = at (posted_at u v.pending)
  where
    at : (o : Option Posted) → Gone t (fired_op v o).state
    at None = h
    at (Some q) = λ x i. h x (In-filter_cases (λ y. not (is_number q.number y)) x v.pending.waiting
        (subst (λ (ps : Operations). In x ps.waiting) (done_stays (without q.number v) q.action).pending i)).0

pub gone_after : (t : ℕ) (go : Beginning) (v : State) (e : Local) → Gone t v → Gone t (after go v e)
gone_after t go v Start h = λ x i. h x (subst (λ (ps : Operations). In x ps.waiting) (go.pending v) i)
gone_after t go v (Fire u) h = gone_fired t u v h
gone_after t go v (Receive s lane m) h = λ x i. h x (subst (λ (ps : Operations). In x ps.waiting) (target_stays v m).pending i)

not_ready : (t : ℕ) (v : State) → Gone t v → is_ready v t ≡ false
not_ready t v h = ap (is_ready_op v.cts) (find-none (is_number t) v.pending.waiting h)

none_if : (b : Bool) → b ≡ false → cond {A = ℕ} b 1 0 ≡ 0
none_if false e = refl
none_if true e = cc

other : (t u : ℕ) (v : State) → Gone t v → is_ready v u ≡ true → (u == t) ≡ false
other t u v h r = false_from_ne_true (u == t) (λ e. both (subst (λ n. is_ready v n ≡ true) (eqb-true u t e) r) (not_ready t v h))
  where
    both : {b : Bool} → b ≡ true → b ≡ false → ⊥
    both e i = cc

never_again : (t : ℕ) (go : Beginning) (es : List Local) (b : Bool) (v : State) → Gone t v → Legal go b v es → count_by (is_fire t) es ≡ 0
never_again t go [] b v h l = refl
never_again t go (Start ∷ es) b v h l = let k = never_again t go es (b || true) (after go v Start) (gone_after t go v Start h) l.1 in
    let c = count-cons (is_fire t) Start es in omega (arith, k, c)
never_again t go (Receive s lane m ∷ es) b v h l = let k = never_again t go es (b || false) (after go v (Receive s lane m))
    (gone_after t go v (Receive s lane m) h) l.1 in let c =
    count-cons (is_fire t)
    (Receive s lane m) es in
    omega (arith, k, c)
never_again t go (Fire u ∷ es) b v h l =
    let k = never_again t go es (b || false) (after go v (Fire u)) (gone_after t go v (Fire u) h) l.1 in
    let c = count-cons (is_fire t) (Fire u) es in
    let z = none_if (u == t) (other t u v h l.0) in
    omega (arith, k, c, z)

pub gone_now : (t : ℕ) (v : State) → is_ready v t ≡ true → Gone t (fired v t).state
unfolding fired
gone_now t v r = at (posted_at t v.pending) refl r
  where
    at : (o : Option Posted) → posted_at t v.pending ≡ o → is_ready_op v.cts o ≡ true → Gone t (fired_op v o).state
    at None e r = cc
    at (Some q) e r = λ x i.
        let n : q.number ≡ t = eqb-true _ _ (find-In (is_number t) v.pending.waiting q e).1 in
        let j = In-filter_cases (λ y. not (is_number q.number y)) x v.pending.waiting
        (subst (λ (ps : Operations). In x ps.waiting) (done_stays (without q.number v) q.action).pending i) in
        subst (λ m. is_number m x ≡ false) n (not-true _ j.1)

pub fired_once : (t : ℕ) (go : Beginning) (es : List Local) (b : Bool) (v : State) → Legal go b v es → count_by (is_fire t) es ≤ 1
fired_once t go [] b v l = omega arith
fired_once t go (Start ∷ es) b v l = let k = fired_once t go es (b || true) (after go v Start) l.1 in let c =
    count-cons (is_fire t) Start
    es in omega (arith, k, c)
fired_once t go (Receive s lane m ∷ es) b v l = let k = fired_once t go es (b || false) (after go v (Receive s lane m)) l.1 in let c =
    count-cons (is_fire t) (Receive s lane m) es in omega (arith, k, c)
fired_once t go (Fire u ∷ es) b v l = at (u == t) refl (fired_once t go es (b || false) (after go v (Fire u)) l.1)
  where
    at : (x : Bool) → (u == t) ≡ x → count_by (is_fire t) es ≤ 1 → count_by (is_fire t) (Fire u ∷ es) ≤ 1
    at true e k =
        let n : u ≡ t = eqb-true u t e in
        let z = never_again t go es (b || false) (after go v (Fire u)) (subst (λ m. Gone m (fired v u).state) n (gone_now u v l.0)) l.1 in
        let c = count-cons (is_fire t) (Fire u) es in
        let m = at_most (u == t) in
        omega (arith, z, c, m)
      where
        at_most : (x : Bool) → cond {A = ℕ} x 1 0 ≤ 1
        at_most true = omega arith
        at_most false = omega arith
    at false e k = let c = count-cons (is_fire t) (Fire u) es in let z = none_if (u == t) e in omega (arith, k, c, z)

-- what a legal history fires was ready
pub ready_before : (t : ℕ) (go : Beginning) (front later : List Local) (b : Bool) (v : State) → Legal go b v (front ++ Fire t ∷ later) →
    IsTrue (is_ready (state go v front) t)
ready_before t go [] later b v l = l.0
ready_before t go (e ∷ front) later b v l = ready_before t go front later (b || is_start e) (after go v e) l.1
