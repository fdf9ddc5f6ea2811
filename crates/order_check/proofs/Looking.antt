-- A look at one rank: what it leaves of the work.
use Rattle.std.proofs.Common.{ℕ, false, ◌+◌, ◌<◌, ◌≤◌, ◌≡◌, ◌⊎◌, ◌∙◌, ◌++◌, List, [], ◌∷◌, Option, Some, None, refl, sym, ap, ap₂, subst}
use Rattle.std.proofs.Common.{inl, inr, arith, length, map, append-nil, length-append, get_or, eq-eqb}
use Rattle.std.specs.Prelude.{IfSome}
use Rattle.std.proofs.lemmas.Bool.{cases_eq}
use Rattle.std.proofs.lemmas.List.{length-map}
use Rattle.std.proofs.Math.Seq.{get_or-append_seam}
use Rattle.ptl_types.specs.declared.headers.Lane.{Lane}
use Rattle.ptl_types.specs.declared.steps.LocalStep.{LocalStep}
use Rattle.ptl_types.specs.declared.steps.LocalStep.TheVariants.{Receive as Receives}
use Rattle.plan_core.specs.Members.{In}
use Rattle.plan_core.proofs.Lists.{In-append_left, In-append_right, In-append_cases}
use Rattle.cuts.specs.histories.System.{Histories}
use Rattle.cuts.specs.orders.Chosen.{Scene, first_scene}
use Rattle.cuts.specs.orders.Ending.{untaken}
use Rattle.cuts.specs.orders.Reached.{IsReached}
use Rattle.cuts.specs.orders.Reached.IsReached.{Begun}
use Rattle.cuts.specs.orders.Taking.{IsNext, Lists, listed}
use Rattle.cuts.specs.orders.Verdict.{IsWhole}
use Rattle.cuts.proofs.orders.Ending.{longer_list, untaken-less}
use Rattle.schedule_compiler.specs.Schedules.{ScheduleOf}
use Rattle.worlds.specs.Later.{IsLater}
use Rattle.worlds.specs.Standing.{IsStanding}
use Rattle.worlds.specs.World.{WorldState, histories_in, ranks_in, scene_in}
use Rattle.order_check.specs.Listing.{IsListed}
use Rattle.order_check.specs.Open.{IsOpen, message_for, widest}
use Rattle.order_check.specs.Work.{IsDriven, IsStuckIn, IsWork, is_from, work_left}
use Rattle.order_check.proofs.Stepping.{IsMade, driven_on, grown, histories_are, opened_by, same_at}

-- ---- the next of a list
pub next_at : (lists : Lists) (w : Histories) (r : ℕ) (x : LocalStep) → IsListed lists w r → length (w r) < length (lists r)
    → IsNext lists w r (get_or (lists r) (length (w r)) x)
next_at lists w r x p h = at p.0 p.1
  where
    at : (rest : List LocalStep) → map listed (w r) ++ rest ≡ lists r → IsNext lists w r (get_or (lists r) (length (w r)) x)
    at [] e =
        let a = ap length e in
        let b = length-append (map listed (w r)) [] in
        let c = length-map (w r) listed in
        absurd (omega (arith, h, a, b, c))
    at (y ∷ later) e =
        let one : get_or (lists r) (length (w r)) x ≡ y =
        ap₂ (λ l n. get_or l n x) (sym e) (sym (length-map (w r) listed)) ∙ get_or-append_seam (map listed (w r)) y later x in
        (later, ap (λ z. map listed (w r) ++ z ∷ later) one ∙ e)

pub whole_at : (lists : Lists) (w : Histories) (r : ℕ) → IsListed lists w r → length (lists r) ≤ length (w r) → IsWhole lists w r
whole_at lists w r p h = at p.0 p.1
  where
    at : (rest : List LocalStep) → map listed (w r) ++ rest ≡ lists r → IsWhole lists w r
    at [] e = sym (append-nil (map listed (w r))) ∙ e
    at (y ∷ later) e =
        let a = ap length e in
        let b = length-append (map listed (w r)) (y ∷ later) in
        let c = length-map (w r) listed in
        absurd (omega (arith, h, a, b, c))

-- a list that is wholly taken has no next step
pub none_next : (lists : Lists) (w : Histories) (r : ℕ) (e : LocalStep) → IsWhole lists w r → IsNext lists w r e → ⊥
none_next lists w r e h next =
    let a = ap length h in
    let b = longer_list lists w r e next in
    let c = length-map (w r) listed in
    omega (arith, a, b, c)

-- a rank has one next step
pub one_next : (lists : Lists) (w : Histories) (r : ℕ) (e f : LocalStep) → IsNext lists w r e → IsNext lists w r f → e ≡ f
one_next lists w r e f a b = same (map listed (w r)) (a.1 ∙ sym b.1)
  where
    same : (front : List LocalStep) → front ++ e ∷ a.0 ≡ front ++ f ∷ b.0 → e ≡ f
    same [] q = cc
    same (x ∷ front) q = same front (cc)

-- the next step isn't allowed
pub closed_stuck : (w : WorldState) (lists : Lists) (r : ℕ) (e : LocalStep) → IsNext lists (histories_in w) r e → (IsOpen w r e → ⊥)
    → IsStuckIn w lists r
closed_stuck w lists r e next closed f other allows =
    closed (subst (IsOpen w r) (one_next lists (histories_in w) r f e other next) allows)

pub whole_stuck : (w : WorldState) (lists : Lists) (r : ℕ) → IsWhole lists (histories_in w) r → IsStuckIn w lists r
whole_stuck w lists r whole e next allows = none_next lists (histories_in w) r e whole next

-- ---- who waits for rank r
-- this rank's next listed step is no receipt from rank r
abbrev pub WaitsNot : Lists → Histories → ℕ → ℕ → Type 0
WaitsNot lists w r q = (lane : Lane) → IsNext lists w q (Receives r lane) → ⊥

-- the rank to which a message of rank r went is named if it waits for it
abbrev pub IsWaiter : WorldState → Lists → ℕ → Option ℕ → Option ℕ → Type 0
IsWaiter w lists r to named =
    (q : ℕ) → q < w.schedule.plan.ranks → to ≡ Some q → (named ≡ Some q) ⊎ WaitsNot lists (histories_in w) r q

other_step : (r : ℕ) (e : LocalStep) (lane : Lane) → is_from r e ≡ false → e ≡ Receives r lane → ⊥
other_step r e lane differs same =
    let t = sym differs ∙ ap (is_from r) same ∙ eq-eqb r r refl in
    cc

pub waiter_not : (lists : Lists) (w : Histories) (r d : ℕ) (e : LocalStep) → IsNext lists w d e → is_from r e ≡ false → WaitsNot lists w r d
waiter_not lists w r d e next differs lane other = other_step r e lane differs (one_next lists w d e (Receives r lane) next other)

pub waiter_whole : (lists : Lists) (w : Histories) (r d : ℕ) → IsWhole lists w d → WaitsNot lists w r d
waiter_whole lists w r d whole lane next = none_next lists w d (Receives r lane) whole next

-- ---- the ranks that are queued
abbrev pub queued : Option ℕ → List ℕ → List ℕ
queued None queue = queue
queued (Some d) queue = queue ++ d ∷ []

queued-old : (to : Option ℕ) (queue : List ℕ) (q : ℕ) → In q queue → In q (queued to queue)
queued-old None queue q i = i
queued-old (Some d) queue q i = In-append_left q queue (d ∷ []) i

queued-new : (to : Option ℕ) (queue : List ℕ) (q : ℕ) → to ≡ Some q → In q (queued to queue)
queued-new None queue q e = cc
queued-new (Some d) queue q e = In-append_right q queue (d ∷ []) (inl (cc))

queued-known : (to : Option ℕ) (queue : List ℕ) (q : ℕ) (P : ℕ → Type 0) → (In q queue → P q) → IfSome to P → In q (queued to queue) → P q
queued-known None queue q P old new i = old i
queued-known (Some d) queue q P old new i = elim (In-append_cases q queue (d ∷ []) i) [
  | inl j ↦ old j
  | inr j ↦ elim j [ inl e ↦ subst P e new | inr z ↦ absurd z ]
]

length-queued : (to : Option ℕ) (queue : List ℕ) → length (queued to queue) ≤ length queue + 1
length-queued None queue = omega arith
length-queued (Some d) queue = let a = length-append queue (d ∷ []) in omega (arith, a)

-- ---- a look that takes nothing
pub take_nothing : (w : WorldState) (lists : Lists) (r : ℕ) (queue : List ℕ) → IsWork w lists (queue ++ r ∷ []) → IsStuckIn w lists r
    → IsWork w lists queue
take_nothing w lists r queue work stuck = record {
  driven = work.driven;
  known = λ q i. work.known q (In-append_left q queue (r ∷ []) i);
  looked = λ q h. elim (work.looked q h) [
    | inr s ↦ inr s
    | inl i ↦ elim (In-append_cases q queue (r ∷ []) i) [
      | inl j ↦ inl j
      | inr j ↦ elim j [ inl e ↦ inr (subst (λ a. IsStuckIn w lists a) e stuck) | inr a ↦ absurd a ]
    ]
  ];
}

pub less_behind_nothing : (w : WorldState) (lists : Lists) (r : ℕ) (queue : List ℕ)
    → work_left w lists queue < work_left w lists (queue ++ r ∷ [])
less_behind_nothing w lists r queue = let a = length-append queue (r ∷ []) in omega (arith, a)

pub looked_at : (w : WorldState) (lists : Lists) (r : ℕ) (queue : List ℕ) → IsWork w lists (queue ++ r ∷ []) → r < w.schedule.plan.ranks
looked_at w lists r queue work = work.known r (In-append_right r queue (r ∷ []) (inl refl))

-- ---- a look that takes a step
module _ (w v : WorldState) (lists : Lists) (r : ℕ) (e : LocalStep) (queue : List ℕ) (work : IsWork w lists (queue ++ r ∷ []))
    (next : IsNext lists (histories_in w) r e) (allows : IsOpen w r e) (stood : IsStanding v) (later : IsLater w v) (made : IsMade r e w v)
  where
    hr : r < w.schedule.plan.ranks
    hr = looked_at w lists r queue work

    pub driven_behind : IsDriven v lists
    driven_behind = driven_on w v lists work.driven r hr e allows stood later made next

    before : (q : ℕ) → q < v.schedule.plan.ranks → q < w.schedule.plan.ranks
    before q h = let a = ap (λ (o : ScheduleOf). o.plan.ranks) later.schedule in omega (arith, a, h)

    behind : (q : ℕ) → q < w.schedule.plan.ranks → q < v.schedule.plan.ranks
    behind q h = let a = ap (λ (o : ScheduleOf). o.plan.ranks) later.schedule in omega (arith, a, h)

    -- another rank that was stuck is stuck, unless it waits for the message
    stays : (q : ℕ) → q < w.schedule.plan.ranks → (r ≡ q → ⊥) → IsStuckIn w lists q
        → ((message_for w r e ≡ Some q) → WaitsNot lists (histories_in v) r q) → IsStuckIn v lists q
    stays q hq n stuck not f other opened =
        elim (opened_by w v lists work.driven r hr e allows stood later made q hq n f opened) [
          | inl o ↦ stuck f (
            other.0,
            ap (λ h. map listed h ++ f ∷ other.0)
                (sym (same_at w v lists work.driven r hr e allows stood later made q n)) ∙ other.1,
          ) o
          | inr x ↦ not x.2 x.0 (subst (IsNext lists (histories_in v) q) x.1 other)
        ]

    is_it : (to : Option ℕ) (q : ℕ) → (to ≡ Some q) ⊎ (to ≡ Some q → ⊥)
    is_it None q = inr (λ x. cc)
    is_it (Some d) q = elim (cases_eq d q) [ inl i ↦ inl (ap (λ a. Some a) i) | inr n ↦ inr (λ x. n (cc)) ]

    pub take_one : (waiter : Option ℕ) → IfSome waiter (λ d. d < v.schedule.plan.ranks) → IsWaiter v lists r (message_for w r e) waiter
        → IsWork v lists (queued waiter (queue ++ r ∷ []))
    take_one waiter known waits = record {
      driven = driven_behind;
      known = λ q i. queued-known waiter (queue ++ r ∷ []) q (λ a. a < v.schedule.plan.ranks) (λ j. behind q (work.known q j)) known i;
      looked = λ q h. elim (cases_eq r q) [
        | inl i ↦ inl (queued-old waiter (queue ++ r ∷ []) q (In-append_right q queue (r ∷ []) (inl i)))
        | inr n ↦ elim (work.looked q (before q h)) [
          | inl i ↦ inl (queued-old waiter (queue ++ r ∷ []) q i)
          | inr s ↦ elim (is_it waiter q) [
            | inl i ↦ inl (queued-new waiter (queue ++ r ∷ []) q i)
            | inr o ↦ inr (stays q (before q h) n s (λ t. unnamed q h o t))
          ]
        ]
      ];
    }
      where
        unnamed : (q : ℕ) → q < v.schedule.plan.ranks → (waiter ≡ Some q → ⊥) → message_for w r e ≡ Some q
            → WaitsNot lists (histories_in v) r q
        unnamed q h o t = elim (waits q h t) [ inl i ↦ absurd (o i) | inr x ↦ x ]

    pub less_behind_one : (waiter : Option ℕ) → work_left v lists (queued waiter (queue ++ r ∷ [])) < work_left w lists (queue ++ r ∷ [])
    less_behind_one waiter =
        let g = grown w v lists work.driven r hr e allows stood later made in
        let a = untaken-less lists (histories_in w) r g.step w.schedule.plan.ranks hr (longer_list lists (histories_in w) r e next) in
        let b = ap (λ h. untaken lists h w.schedule.plan.ranks) (histories_are w v lists work.driven r hr e allows stood later made) in
        let d = ap (λ (o : ScheduleOf). untaken lists (histories_in v) o.plan.ranks) later.schedule in
        let c = length-queued waiter (queue ++ r ∷ []) in
        omega (arith, a, b, c, d)

-- ---- the beginning
pub first_work : (w : WorldState) (lists : Lists) (queue : List ℕ) → IsStanding w → w.window ≡ widest → scene_in w ≡ first_scene
    → ((r : ℕ) → r < w.schedule.plan.ranks → In r queue) → ((r : ℕ) → In r queue → r < w.schedule.plan.ranks) → IsWork w lists queue
first_work w lists queue is wide fresh all known = record {
  driven = record {
    standing = is;
    wide = wide;
    reached = λ slots agree. subst (λ (z : Scene). IsReached (ranks_in w slots) z.world z.held) (sym fresh) Begun;
    listed = λ r h. (lists r, ap (λ (z : Scene). map listed (z.world r) ++ lists r) fresh);
  };
  known = known;
  looked = λ r h. inl (all r h);
}
