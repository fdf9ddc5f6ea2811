-- The closed form of an installed interface is the state after the calls.
use Rattle.std.proofs.Common.{ℕ, suc, Bool, true, false, cond, not, ◌&&◌, ◌==◌, ◌+◌, ◌≡◌, List, [], ◌∷◌, ◌++◌, refl, length, ap, ap₂, ◌∙◌}
use Rattle.std.proofs.Common.{sym, subst, inl, inr, arith, map, filter, None, append_assoc, append-nil, min, add-zero, eq-eqb}
use Rattle.std.proofs.Common.{length-append, Some}
use Rattle.std.proofs.lemmas.Bool.{ne_eqb}
use Rattle.std.proofs.lemmas.List.{map-append}
use Rattle.ptl_types.specs.declared.handles.Count.{Count}
use Rattle.ptl_types.specs.Handles.{top}
use Rattle.plan_core.specs.Members.{Distinct, In}
use Rattle.ni_model.specs.State.{Posted, State}
use Rattle.ni_model.specs.Tables.{Live, handle}
use Rattle.ni_model.specs.Counts.{successes}
use Rattle.plan_core.specs.Plan.{Plan, cell, out_links, own}
use Rattle.cuts.specs.view.Slots.{Slots, cell_ct}
use Rattle.cuts.specs.view.View.{counter_of}
use Rattle.cuts.specs.view.TriggeredOps.{action_of, operation}
use Rattle.plan_core.specs.calls.RankOps.{RankOp, cell_of, rank_ops}
use Rattle.cuts.specs.machine.Seen.{nothing_seen, reached_count, was_fired}
use Rattle.plan_core.specs.Places.{place_in}
use Rattle.plan_core.specs.calls.RankOps.RankOp.{ForLink, ForDone}
use Rattle.cuts.specs.view.Calls.{call_made, calls_made, action_at, sending_action}
use Rattle.plan_core.specs.calls.Calls.{act_of, trigger}
use Rattle.ptl_types.specs.declared.steps.Call.{Call}
use Rattle.ptl_types.specs.declared.steps.Call.TheVariants.{CtCell}
use Rattle.ptl_types.specs.declared.elements.AtomicOp.{AtomicOp}
use Rattle.ptl_types.specs.declared.calls.TriggeredOp.TheVariants.{Inc}
use Rattle.plan_core.specs.declared.LinkKind.{LinkKind}
use Rattle.plan_core.specs.declared.LinkKind.TheVariants.{Put, Atomic, Bump}
use Rattle.plan_core.specs.Sound.{SoundPlan}
use Rattle.plan_core.specs.Plan.{is_bump, link}
use Rattle.plan_core.proofs.Links.{In-own, out_links-In}
use Rattle.cuts.proofs.machine.RankOps.{rank_ops-along}
use Rattle.cuts.proofs.view.StepFire.{cell_of-own}
use Rattle.cuts.specs.view.Slots.{counter_at}
use Rattle.cuts.specs.view.TriggeredOps.{send_args, send_action}
use Rattle.std.proofs.Common.{Option}
use Rattle.ni_model.specs.Calls.{with_counter, with_operation}
use Rattle.std.proofs.Math.Numerals.{add-one}
use Rattle.plan_core.proofs.Lists.{In-append_right, length-map'}
use Rattle.plan_core.proofs.Links.{Distinct-out_links, Distinct-own, own-In}

-- f of each place, from i on, and the element there
abbrev pub placed : {X Y : Type 0} → (ℕ → X → Y) → ℕ → List X → List Y
placed f i [] = []
placed f i (x ∷ xs) = f i x ∷ placed f (suc i) xs

pub placed-append : {X Y : Type 0} (f : ℕ → X → Y) (i : ℕ) (xs ys : List X) → placed f i (xs ++ ys) ≡ placed f i xs ++ placed f
    (i + length xs) ys
placed-append f i [] ys = ap (λ n. placed f n ys) (sym (add-zero i))
placed-append f i (x ∷ xs) ys = ap (λ v. f i x ∷ v) (placed-append f (suc i) xs ys ∙ ap (λ n. placed f (suc i) xs ++ placed f n ys)
    (let q : suc i + length xs ≡ i + suc (length xs) = omega arith in q))

pub placed-map : {W X Y : Type 0} (f : ℕ → X → Y) (g : W → X) (i : ℕ) (xs : List W) → placed f i (map g xs) ≡ placed (λ j w. f j (g w)) i xs
placed-map f g i [] = refl
placed-map f g i (x ∷ xs) = ap (λ v. f i (g x) ∷ v) (placed-map f g (suc i) xs)

pub placed-shift : {X Y : Type 0} (f : ℕ → X → Y) (n i : ℕ) (xs : List X) → placed f (n + i) xs ≡ placed (λ j. f (n + j)) i xs
placed-shift f n i [] = refl
placed-shift f n i (x ∷ xs) = ap (λ v. f (n + i) x ∷ v) (ap (λ m. placed f m xs) (let q : suc (n + i) ≡ n + suc i = omega arith in q)
    ∙ placed-shift f n (suc i) xs)

-- ---- a place in a list without repetition
place_in-at : (front : List ℕ) (c : ℕ) (back : List ℕ) → (In c front → ⊥) → place_in (front ++ c ∷ back) c ≡ length front
place_in-at [] c back out = ap (λ b. cond b 0 (suc (place_in back c))) (eq-eqb c c refl)
place_in-at (k ∷ front) c back out =
    ap (λ b. cond b 0 (suc (place_in (front ++ c ∷ back) c))) (ne_eqb k c (λ e. out (inl e)))
    ∙ ap suc (place_in-at front c back (λ i. out (inr i)))

apart_front : (front : List ℕ) (c : ℕ) (back : List ℕ) → Distinct (front ++ c ∷ back) → In c front → ⊥
apart_front [] c back d i = i
apart_front (k ∷ front) c back d (inl e) = d.0 (subst (λ v. In v (front ++ c ∷ back)) (sym e)
    (In-append_right c front (c ∷ back) (inl refl)))
apart_front (k ∷ front) c back d (inr i) = apart_front front c back d.1 i

placed-is : {Y : Type 0} (f : ℕ → ℕ → Y) (front cs : List ℕ) → Distinct (front ++ cs) →
    placed f (length front) cs ≡ map (λ c. f (place_in (front ++ cs) c) c) cs
placed-is f front [] d = refl
placed-is f front (c ∷ cs) d =
    let e : (front ++ c ∷ []) ++ cs ≡ front ++ c ∷ cs = append_assoc front (c ∷ []) cs in
    let l : length (front ++ c ∷ []) ≡ suc (length front) = length-append front (c ∷ [])
    ∙ (let q : length front + 1 ≡ suc (length front) = omega arith in q) in
    ap₂ (λ x y. x ∷ y)
    (ap (λ n. f n c) (sym (place_in-at front c cs (apart_front front c cs d))))
    (ap (λ n. placed f n cs) (sym l) ∙ placed-is f (front ++ c ∷ []) cs (subst Distinct (sym e) d)
    ∙ ap (λ v. map (λ x. f (place_in v x) x) cs) e)

pub placed-own : {Y : Type 0} (f : ℕ → ℕ → Y) (cs : List ℕ) → Distinct cs → placed f 0 cs ≡ map (λ c. f (place_in cs c) c) cs
placed-own f cs d = placed-is f [] cs d

pub map-same : {X Y : Type 0} (f g : X → Y) (xs : List X) → ((x : X) → In x xs → f x ≡ g x) → map f xs ≡ map g xs
map-same f g [] h = refl
map-same f g (x ∷ xs) h = ap₂ (λ a b. a ∷ b) (h x (inl refl)) (map-same f g xs (λ y i. h y (inr i)))

-- ---- what each round of calls does
abbrev pub new_ct : Slots → ℕ → ℕ → Live Count
new_ct k i c = record { handle = handle (k.ct i) i; value = successes 0 }

abbrev pub new_op : Plan → Slots → ℕ → RankOp → Posted
new_op p k i w = record { number = i; action = action_of p k w; ct = cell_ct p k (cell_of p w); threshold = (cell p (cell_of p w)).needs }

pub sum_step : (i n : ℕ) → i + 1 + n ≡ i + suc n
sum_step i n = omega arith

-- a list that was put after another from place i + 1 on
pub placed_step : {X Y : Type 0} (f : ℕ → X → Y) (ys : List Y) (i : ℕ) (x : X) (xs : List X) →
    (ys ++ f i x ∷ []) ++ placed f (i + 1) xs ≡ ys ++ placed f i (x ∷ xs)
placed_step f ys i x xs = append_assoc ys (f i x ∷ []) (placed f (i + 1) xs) ∙ ap (λ n. ys ++ f i x ∷ placed f n xs) (add-one i)

abbrev pub cts_with : State → List (Live Count) → ℕ → State
cts_with s xs n = record s { cts = record s.cts { live = xs; given = n } }

-- the calls of two lists are those of one after the other
pub calls-append : (k : Slots) (cells : List ℕ) (xs ys : List Call) (s : State) → calls_made k cells (xs ++ ys) s ≡ calls_made k cells ys
    (calls_made k cells xs s)
calls-append k cells [] ys s = refl
calls-append k cells (x ∷ xs) ys s = calls-append k cells xs ys (call_made k cells x s)

pub after_counters : (k : Slots) (cells cs : List ℕ) (s : State) → calls_made k cells (map CtCell cs) s ≡ cts_with s
    (s.cts.live ++ placed (new_ct k) s.cts.given cs) (s.cts.given + length cs)
unfolding call_made
after_counters k cells [] s = ap₂ (cts_with s) (sym (append-nil s.cts.live)) (sym (add-zero s.cts.given))
after_counters k cells (c ∷ cs) s =
    after_counters k cells cs (with_counter (k.ct s.cts.given) s)
    ∙ ap₂ (cts_with s) (placed_step (new_ct k) s.cts.live s.cts.given c cs) (sum_step s.cts.given (length cs))

abbrev pub operations_with : State → List Posted → ℕ → State
operations_with s xs n = record s { pending = record s.pending { waiting = xs; given = n } }

-- among these cells an operation's counter and what it does are those of the plan
pub record IsNamed (p : Plan) (k : Slots) (cells : List ℕ) (w : RankOp) : Type 0 where
  pub ct : counter_at k cells (cell_of p w) ≡ cell_ct p k (cell_of p w)
  pub action : action_at k cells (act_of p w) ≡ action_of p k w

pub after_operations : (p : Plan) (k : Slots) (cells : List ℕ) (ws : List RankOp) → ((w : RankOp) → In w ws → IsNamed p k cells w) →
    (s : State)
    → calls_made k cells (map (trigger p) ws) s ≡ operations_with s (s.pending.waiting ++ placed (new_op p k) s.pending.given ws)
    (s.pending.given + length ws)
unfolding call_made
after_operations p k cells [] named s = ap₂ (operations_with s) (sym (append-nil s.pending.waiting)) (sym (add-zero s.pending.given))
after_operations p k cells (w ∷ ws) named s =
    let n = named w (inl refl) in
    ap (calls_made k cells (map (trigger p) ws)) (ap₂ (λ d h. with_operation d h (cell p (cell_of p w)).needs s) n.action n.ct)
    ∙ after_operations p k cells ws (λ v i. named v (inr i))
    (with_operation (action_of p k w) (cell_ct p k (cell_of p w)) (cell p (cell_of p w)).needs s)
    ∙ ap₂ (operations_with s) (placed_step (new_op p k) s.pending.waiting s.pending.given w ws) (sum_step s.pending.given (length ws))

-- so are those of a rank of a sound plan
pub named : (p : Plan) (n : ℕ) → SoundPlan p n → (k : Slots) (r : ℕ) (w : RankOp) → In w (rank_ops p r) → IsNamed p k (own p r) w
named p n sound k r w i = record { ct = counter-is (cell_of p w) (cell_of-own p n sound r w i); action = action-is w i }
  where
    counter-is : (c : ℕ) → In c (own p r) → counter_at k (own p r) c ≡ cell_ct p k c
    counter-is c i = ap (λ q. counter_at k (own p q) c) (sym (own-In p r c i).1)

    send-is : (l : ℕ) (o : Option AtomicOp) → sending_action (send_args p k l) o (cell p (link p l).target).ty ≡ send_action p k l o
    send-is l None = refl
    send-is l (Some o) = refl

    bump_kind : (k : LinkKind) → is_bump k ≡ true → k ≡ Bump
    bump_kind Bump e = refl
    bump_kind Put e = cc
    bump_kind Atomic e = cc

    along : (l : ℕ) → In (ForLink l) (rank_ops p r) → (b : Bool) → is_bump (link p l).kind ≡ b →
        action_at k (own p r) (act_of p (ForLink l)) ≡ action_of p k (ForLink l)
    along l i true e =
        let q = out_links-In p r l (rank_ops-along p r l i) in
        let s = sound.links_sound l q.0 in
        let t : In (link p l).target (own p r) = In-own p r (link p l).target s.cells (sym (s.bump_stays (bump_kind (link p l).kind e))
        ∙ q.1) in
        rw e (ap (λ h. Inc h (successes 1)) (counter-is (link p l).target t))
    along l i false e = rw e (send-is l (cell p (link p l).target).op)

    action-is : (w : RankOp) → In w (rank_ops p r) → action_at k (own p r) (act_of p w) ≡ action_of p k w
    action-is (ForDone c) i = refl
    action-is (ForLink l) i = along l i (is_bump (link p l).kind) refl

-- ---- the lists of the closed form
pub cts_are : (p : Plan) (k : Slots) (r : ℕ) → placed (new_ct k) 1 (own p r) ≡ map (counter_of p k r nothing_seen) (own p r)
cts_are p k r =
    placed-shift (new_ct k) 1 0 (own p r) ∙ placed-own (λ j. new_ct k (1 + j)) (own p r) (Distinct-own p r)
    ∙ map-same _ _ (own p r) (λ c i. one c (own-In p r c i).1)
  where
    none : (b : Bool) → cond {A = ℕ} (b && false) 1 0 ≡ 0
    none true = refl
    none false = refl

    zero_count : (c : ℕ) → successes 0 ≡ successes (min (reached_count p nothing_seen r c) top)
    zero_count c = ap successes (let n = none (c == r) in let q : 0 ≡ min (reached_count p nothing_seen r c) top = omega (arith, n) in q)

    one : (c : ℕ) → (cell p c).rank ≡ r → new_ct k (1 + place_in (own p r) c) c ≡ counter_of p k r nothing_seen c
    one c e =
        ap₂ (λ n v. record { handle = handle (k.ct n) n; value = v })
        (let q : 1 + place_in (own p r) c ≡ suc (place_in (own p r) c) = omega arith in q ∙ ap (λ v. suc (place_in (own p v) c)) (sym e))
        (zero_count c)

all_pending : (ws : List RankOp) → filter (λ w. not (was_fired [] w)) ws ≡ ws
all_pending [] = refl
all_pending (w ∷ ws) = ap (λ v. w ∷ v) (all_pending ws)

pub pending_are : (p : Plan) (k : Slots) (r : ℕ) → placed (new_op p k) 0 (rank_ops p r) ≡ map (operation p k r)
    (filter (λ w. not (was_fired [] w)) (rank_ops p r))
pending_are p k r =
    placed-append (new_op p k) 0 (map ForLink (out_links p r)) (map ForDone (own p r))
    ∙ ap₂ (λ a b. a ++ b) along tell
    ∙ sym (map-append (operation p k r) (map ForLink (out_links p r)) (map ForDone (own p r)))
    ∙ ap (map (operation p k r)) (sym (all_pending (rank_ops p r)))
  where
    fuse : {X Y Z : Type 0} (f : Y → Z) (g : X → Y) (xs : List X) → map (λ x. f (g x)) xs ≡ map f (map g xs)
    fuse f g [] = refl
    fuse f g (x ∷ xs) = ap (λ v. f (g x) ∷ v) (fuse f g xs)

    along : placed (new_op p k) 0 (map ForLink (out_links p r)) ≡ map (operation p k r) (map ForLink (out_links p r))
    along = placed-map (new_op p k) ForLink 0 (out_links p r) ∙ placed-own (λ j l. new_op p k j (ForLink l)) (out_links p r)
        (Distinct-out_links p r) ∙ fuse (operation p k r) ForLink (out_links p r)

    tell : placed (new_op p k) (0 + length (map ForLink (out_links p r))) (map ForDone (own p r)) ≡ map (operation p k r)
        (map ForDone (own p r))
    tell =
        ap (λ n. placed (new_op p k) n (map ForDone (own p r))) (let l = length-map' ForLink (out_links p r) in
        let q : 0 + length (map ForLink (out_links p r)) ≡ length (out_links p r) + 0 = omega (arith, l) in q)
        ∙ placed-map (new_op p k) ForDone (length (out_links p r) + 0) (own p r)
        ∙ placed-shift (λ j c. new_op p k j (ForDone c)) (length (out_links p r)) 0 (own p r)
        ∙ placed-own (λ j c. new_op p k (length (out_links p r) + j) (ForDone c)) (own p r) (Distinct-own p r)
        ∙ fuse (operation p k r) ForDone (own p r)
