-- The chosen run: each listed step is one that a rank may make, and a run of which none is left ends at rest.
use Rattle.std.proofs.Common.{eqb-true, ℕ, zero, suc, Bool, true, false, cond, ◌&&◌, ◌==◌, ◌%◌, ◌≡◌, ◌<◌, ◌⊎◌, nat_lt, List, [], ◌∷◌, ◌++◌}
use Rattle.std.proofs.Common.{Option, Some, None, refl, length, map, flat_map, get_or, count_by, ap, ap₂, ◌∙◌, sym, subst, inl, inr, arith}
use Rattle.std.proofs.Common.{eq-eqb, lt-ltb, zero-le}
use Rattle.std.proofs.lemmas.Bool.{cases_Bool, cases_eq, ltb-true, ne_eqb}
use Rattle.std.proofs.Math.Nat.{mod-lt}
use Rattle.ptl_types.specs.Messages.{Sent}
use Rattle.ptl_types.specs.declared.headers.Lane.{Lane}
use Rattle.ptl_types.specs.declared.headers.Lane.TheVariants.{Request, Answer}
use Rattle.ni_model.specs.Ready.{is_number, is_ready, is_ready_op, posted_at, ready_numbers}
use Rattle.ni_model.specs.State.{Posted, State}
use Rattle.plan_core.specs.Members.{In}
use Rattle.plan_core.specs.Plan.{from_to}
use Rattle.plan_core.proofs.Links.{In-from_to, from_to-In}
use Rattle.plan_core.proofs.Lists.{In-append_cases, In-append_left, In-append_right, In-filter, In-filter_cases, In-map, In-map_cases}
use Rattle.cuts.proofs.view.Tables.{find-In}
use Rattle.cuts.specs.histories.History.{Local, got, is_start, same_lane}
use Rattle.cuts.specs.histories.History.Local.{Start as Started, Receive as Received, Fire as Fired}
use Rattle.cuts.specs.histories.System.{Histories, System, state_at}
use Rattle.cuts.specs.histories.Moment.{IsLocalStep, IsStill}
use Rattle.cuts.proofs.rest.Longer.{same_lane-true}
use Rattle.cuts.specs.declared.orders.Step.{Step}
use Rattle.cuts.specs.declared.orders.Step.TheVariants.{Start, Deliver, Fire}
use Rattle.cuts.specs.declared.orders.Verdict.TheVariants.{Holds}
use Rattle.cuts.specs.orders.Chosen.{IsChosen, Scene, choose, chosen, deliveries_between, delivered, enabled_steps, firings_at, first_of}
use Rattle.cuts.specs.orders.Chosen.{start_at, step_made, with_lane}
use Rattle.cuts.specs.orders.Reached.{IsReached}
use Rattle.cuts.specs.orders.Reached.IsReached.{Begun, Stepped}
use Rattle.cuts.specs.orders.Taking.{listed, with_step}
use Rattle.cuts.specs.orders.Verdict.{IsVerdict}
use Rattle.cuts.proofs.orders.Steps.{ends_hold}

-- ---- lists
pub In-flat_cases : {X Y : Type 0} (f : X → List Y) (xs : List X) (y : Y) → In y (flat_map f xs) → (x : X) × In x xs × In y (f x)
In-flat_cases f [] y i = absurd i
In-flat_cases f (x ∷ xs) y i = elim (In-append_cases y (f x) (flat_map f xs) i) [
  | inl j ↦ (x, inl refl, j)
  | inr j ↦ (let q = In-flat_cases f xs y j in (q.0, inr q.1, q.2))
]

pub In-flat : {X Y : Type 0} (f : X → List Y) (xs : List X) (x : X) (y : Y) → In x xs → In y (f x) → In y (flat_map f xs)
In-flat f [] x y i j = absurd i
In-flat f (z ∷ xs) x y (inl e) j = In-append_left y (f z) (flat_map f xs) (subst (λ v. In y (f v)) (sym e) j)
In-flat f (z ∷ xs) x y (inr i) j = In-append_right y (f z) (flat_map f xs) (In-flat f xs x y i j)

pub In-get : {X : Type 0} (xs : List X) (i : ℕ) (d : X) → i < length xs → In (get_or xs i d) xs
In-get [] i d h = absurd (omega arith)
In-get (x ∷ xs) zero d h = inl refl
In-get (x ∷ xs) (suc i) d h = inr (In-get xs i d (omega arith))

pub below : (n r : ℕ) → In r (from_to 0 n) → r < n
below n r i = let q = from_to-In 0 n r i in let z = q.1 in omega arith

above : (n r : ℕ) → r < n → In r (from_to 0 n)
above n r h = In-from_to 0 n r zero-le (omega arith)

none : (n : ℕ) → nat_lt 0 n ≡ false → n ≡ 0
none zero e = refl
none (suc n) e = absurd (both (lt-ltb 0 (suc n) (omega arith)) e)
  where
    both : {b : Bool} → b ≡ true → b ≡ false → ⊥
    both e i = cc

here : (r : ℕ) (e : Local) (w : Histories) → with_step r e w r ≡ w r ++ e ∷ []
here r e w = ap (λ b. cond b (w r ++ e ∷ []) (w r)) (eq-eqb r r refl)

pub elsewhere : (r : ℕ) (e : Local) (w : Histories) (q : ℕ) → (q ≡ r → ⊥) → with_step r e w q ≡ w q
elsewhere r e w q n = ap (λ b. cond b (w q ++ e ∷ []) (w q)) (ne_eqb r q (λ h. n (sym h)))

either : {X : Type 0} (b : Bool) (xs : List X) → xs ≡ cond b [] [] ++ xs
either true xs = refl
either false xs = refl

-- ---- each listed step is one that a rank may make
module _ (k : System) (z : Scene) where
  abbrev IsMade : Step → Type 0
  IsMade x = IsLocalStep k z.world z.held (step_made k x z).world (step_made k x z).held

  start_made : (r : ℕ) → r < k.count → count_by is_start (z.world r) ≡ 0 → IsMade (Start r)
  start_made r h e = record {
    r = r;
    e = Started;
    in_range = h;
    enabled = e;
    rank = here r Started z.world;
    others = λ q n. elsewhere r Started z.world q n;
    rest = z.held;
    taken = λ s d lane. either (d == r) (z.held s d lane);
    left = λ s d lane. refl;
  }

  fire_made : (r t : ℕ) → r < k.count → is_ready (state_at k z.world r) t ≡ true → IsMade (Fire r t)
  fire_made r t h e = record {
    r = r;
    e = Fired t;
    in_range = h;
    enabled = e;
    rank = here r (Fired t) z.world;
    others = λ q n. elsewhere r (Fired t) z.world q n;
    rest = z.held;
    taken = λ s d lane. either (d == r) (z.held s d lane);
    left = λ s d lane. refl;
  }

  lanes_apart : (l lane : Lane) → (l ≡ lane) ⊎ ((same_lane l lane ≡ false) × (same_lane lane l ≡ false))
  lanes_apart Request Request = inl refl
  lanes_apart Answer Answer = inl refl
  lanes_apart Request Answer = inr (refl, refl)
  lanes_apart Answer Request = inr (refl, refl)

  and_false : (b : Bool) → b && false ≡ false
  and_false true = refl
  and_false false = refl

  deliver_made : (s d : ℕ) (lane : Lane) → s < k.count → d < k.count → (m : Sent) (later : List Sent) → z.held s d lane ≡ m ∷ later
      → IsLocalStep k z.world z.held (delivered k s d lane (m ∷ later) z).world (delivered k s d lane (m ∷ later) z).held
  deliver_made s d lane hs hd m later front = record {
    r = d;
    e = Received s lane m;
    in_range = hd;
    enabled = (hs, (later, front));
    rank = here d (Received s lane m) z.world;
    others = λ q n. elsewhere d (Received s lane m) z.world q n;
    rest = (with_lane s d lane later z).held;
    taken = λ q u l. taken q u l;
    left = λ q u l. refl;
  }
    where
      -- what is taken and what is left on the lane from q to u, by which of the three agree
      at : (q u : ℕ) (l : Lane) (a b c e f : Bool) → (q == s) ≡ a → (u == d) ≡ b → same_lane l lane ≡ c → (s == q) ≡ e →
          same_lane lane l ≡ f
          → z.held q u l ≡ cond b (cond (e && f) (m ∷ []) []) [] ++ cond (a && (b && c)) later (z.held q u l)
          → z.held q u l ≡ cond (u == d) (got (Received s lane m ∷ []) q l) [] ++ (with_lane s d lane later z).held q u l
      at q u l a b c e f ea eb ec ee ef h =
          h ∙ sym (ap₂ (λ (x : Bool × Bool × Bool) (y : Bool × Bool). cond x.1 (cond (y.0 && y.1) (m ∷ []) []) [] ++ cond
          (x.0 && (x.1 && x.2)) later (z.held q u l))
          (ap₂ (λ v (w : Bool × Bool). (v, w.0, w.1)) ea (ap₂ {C = Bool × Bool} (λ v w. (v, w)) eb ec))
          (ap₂ {C = Bool × Bool} (λ v w. (v, w)) ee ef))

      taken : (q u : ℕ) (l : Lane) → z.held q u l ≡ cond (u == d) (got (Received s lane m ∷ []) q l) [] ++
          (with_lane s d lane later z).held q u l
      taken q u l = elim (cases_eq u d) [
        | inr n ↦ at q u l (q == s) false (same_lane l lane) (s == q) (same_lane lane l) refl (ne_eqb u d n) refl refl refl (away (q == s))
        | inl e ↦ elim (cases_eq q s) [
          | inr n ↦ at q u l false true (same_lane l lane) false (same_lane lane l) (ne_eqb q s n) (eq-eqb u d e) refl
              (ne_eqb s q (λ h. n (sym h))) refl refl
          | inl i ↦ elim (lanes_apart l lane) [
            | inr x ↦ at q u l true true false true false (eq-eqb q s i) (eq-eqb u d e) x.0 (eq-eqb s q (sym i)) x.1 refl
            | inl y ↦ at q u l true true true true true (eq-eqb q s i) (eq-eqb u d e) (ap (λ v. same_lane v lane) y ∙ same_lane-true lane)
                (eq-eqb s q (sym i)) (ap (same_lane lane) y ∙ same_lane-true lane)
                (ap₂ (λ v w. z.held v w l) i e ∙ ap (z.held s d) y ∙ front)
          ]
        ]
      ]
        where
          away : (b : Bool) → z.held q u l ≡ [] ++ cond (b && (false && same_lane l lane)) later (z.held q u l)
          away true = refl
          away false = refl

  delivery_listed : (s d : ℕ) (lane : Lane) → s < k.count → d < k.count → (x : Step) → (ms : List Sent) → z.held s d lane ≡ ms →
      In x (first_of s d lane ms) → IsMade x
  delivery_listed s d lane hs hd x [] e i = absurd i
  delivery_listed s d lane hs hd x (m ∷ later) e (inr i) = absurd i
  delivery_listed s d lane hs hd x (m ∷ later) e (inl f) =
      subst IsMade f (subst (λ ms. IsLocalStep k z.world z.held (delivered k s d lane ms z).world (delivered k s d lane ms z).held)
      (sym e) (deliver_made s d lane hs hd m later e))

  start_listed : (r : ℕ) → r < k.count → (x : Step) → In x (start_at z r) → IsMade x
  start_listed r h x i = at (nat_lt 0 (count_by is_start (z.world r))) refl i
    where
      at : (b : Bool) → nat_lt 0 (count_by is_start (z.world r)) ≡ b → In x (cond b [] (Start r ∷ [])) → IsMade x
      at true e i = absurd i
      at false e (inr i) = absurd i
      at false e (inl f) = subst IsMade f (start_made r h (none _ e))

  pub listed_made : (x : Step) → In x (enabled_steps k z) → IsMade x
  listed_made x i = elim (In-append_cases x (flat_map (start_at z) (from_to 0 k.count)) _ i) [
    | inl j ↦ (let q = In-flat_cases (start_at z) (from_to 0 k.count) x j in start_listed q.0 (below k.count q.0 q.1) x q.2)
    | inr j ↦ elim (In-append_cases x (flat_map (λ s. flat_map (deliveries_between z s) (from_to 0 k.count)) (from_to 0 k.count))
        (flat_map (firings_at k z) (from_to 0 k.count)) j) [
          | inl l ↦ (let q = In-flat_cases (λ s. flat_map (deliveries_between z s) (from_to 0 k.count)) (from_to 0 k.count) x l in
              let u = In-flat_cases (deliveries_between z q.0) (from_to 0 k.count) x q.2 in
              elim (In-append_cases x (first_of q.0 u.0 Request (z.held q.0 u.0 Request)) (first_of q.0 u.0 Answer (z.held q.0 u.0 Answer))
              u.2) [
                | inl y ↦ delivery_listed q.0 u.0 Request (below k.count q.0 q.1) (below k.count u.0 u.1) x (z.held q.0 u.0 Request) refl y
                | inr y ↦ delivery_listed q.0 u.0 Answer (below k.count q.0 q.1) (below k.count u.0 u.1) x (z.held q.0 u.0 Answer) refl y
              ])
          | inr l ↦ (let q = In-flat_cases (firings_at k z) (from_to 0 k.count) x l in
              let u = In-map_cases (Fire q.0) x (ready_numbers (state_at k z.world q.0)) q.2 in
              subst IsMade u.2 (fire_made q.0 u.0 (below k.count q.0 q.1)
              (In-filter_cases (is_ready (state_at k z.world q.0)) u.0
              (map (λ (p : Posted). p.number) (state_at k z.world q.0).pending.waiting) u.1).1))
        ]
  ]

  -- ---- where none is listed all is still
  nothing_in : {X : Type 0} (xs : List X) (x : X) → xs ≡ [] → In x xs → ⊥
  nothing_in xs x e i = subst (λ v. In x v) e i

  pub ready_listed : (s : State) (t : ℕ) → is_ready s t ≡ true → In t (ready_numbers s)
  ready_listed s t e = at (posted_at t s.pending) refl e
    where
      at : (o : Option Posted) → posted_at t s.pending ≡ o → is_ready_op s.cts o ≡ true → In t (ready_numbers s)
      at None q e = cc
      at (Some x) q f =
          let g = find-In (is_number t) s.pending.waiting x q in
          let n : x.number ≡ t = eqb-true _ _ g.1 in
          In-filter (is_ready s) t (map (λ (p : Posted). p.number) s.pending.waiting)
          (subst (λ v. In v (map (λ (p : Posted). p.number) s.pending.waiting)) n
          (In-map (λ (p : Posted). p.number) x s.pending.waiting g.0)) e

  pub none_listed_still : enabled_steps k z ≡ [] → IsStill k z.world z.held
  none_listed_still e = record {
    started = λ r h. begun r h (nat_lt 0 (count_by is_start (z.world r))) refl;
    empty = λ s d lane hs hd. nothing s d lane hs hd (z.held s d lane) refl;
    idle = λ r t h. elim (cases_Bool (is_ready (state_at k z.world r) t)) [
      | inr i ↦ i
      | inl i ↦ absurd (no (Fire r t) (In-append_right (Fire r t) (flat_map (start_at z) (from_to 0 k.count)) _
          (In-append_right (Fire r t) (flat_map (λ s. flat_map (deliveries_between z s) (from_to 0 k.count)) (from_to 0 k.count))
          (flat_map (firings_at k z) (from_to 0 k.count))
          (In-flat (firings_at k z) (from_to 0 k.count) r (Fire r t) (above k.count r h)
          (In-map (Fire r) t (ready_numbers (state_at k z.world r)) (ready_listed (state_at k z.world r) t i))))))
    ];
  }
    where
      no : (x : Step) → In x (enabled_steps k z) → ⊥
      no x i = nothing_in (enabled_steps k z) x e i

      begun : (r : ℕ) → r < k.count → (b : Bool) → nat_lt 0 (count_by is_start (z.world r)) ≡ b → 0 < count_by is_start (z.world r)
      begun r h true q = ltb-true 0 (count_by is_start (z.world r)) q
      begun r h false q = absurd (no (Start r) (In-append_left (Start r) (flat_map (start_at z) (from_to 0 k.count)) _
          (In-flat (start_at z) (from_to 0 k.count) r (Start r) (above k.count r h)
          (subst (λ b. In (Start r) (cond b [] (Start r ∷ []))) (sym q) (inl refl)))))

      on_lane : (s d : ℕ) (lane : Lane) → In (Deliver s d lane) (first_of s d lane (z.held s d lane)) →
          In (Deliver s d lane) (deliveries_between z s d)
      on_lane s d Request i = In-append_left (Deliver s d Request) (first_of s d Request (z.held s d Request))
          (first_of s d Answer (z.held s d Answer)) i
      on_lane s d Answer i = In-append_right (Deliver s d Answer) (first_of s d Request (z.held s d Request))
          (first_of s d Answer (z.held s d Answer)) i

      nothing : (s d : ℕ) (lane : Lane) → s < k.count → d < k.count → (ms : List Sent) → z.held s d lane ≡ ms → ms ≡ []
      nothing s d lane hs hd [] q = refl
      nothing s d lane hs hd (m ∷ later) q =
          absurd (no (Deliver s d lane) (In-append_right (Deliver s d lane) (flat_map (start_at z) (from_to 0 k.count)) _
          (In-append_left (Deliver s d lane) (flat_map (λ s. flat_map (deliveries_between z s) (from_to 0 k.count))
          (from_to 0 k.count)) _
          (In-flat (λ s. flat_map (deliveries_between z s) (from_to 0 k.count)) (from_to 0 k.count) s (Deliver s d lane)
          (above k.count s hs)
          (In-flat (deliveries_between z s) (from_to 0 k.count) d (Deliver s d lane) (above k.count d hd)
          (on_lane s d lane (subst (λ ms. In (Deliver s d lane) (first_of s d lane ms)) (sym q) (inl refl))))))))

-- ---- the run
pub chosen_reached : (k : System) (words : ℕ → ℕ) (n : ℕ) → IsReached k (chosen k words n).world (chosen k words n).held
chosen_reached k words zero = Begun
chosen_reached k words (suc n) = at (enabled_steps k (chosen k words n)) (λ x i. listed_made k (chosen k words n) x i)
    (chosen_reached k words n)
  where
    at : (xs : List Step) → ((x : Step) → In x xs → IsLocalStep k (chosen k words n).world (chosen k words n).held
        (step_made k x (chosen k words n)).world (step_made k x (chosen k words n)).held)
        → IsReached k (chosen k words n).world (chosen k words n).held
        → IsReached k (choose k xs (words n) (chosen k words n)).world (choose k xs (words n) (chosen k words n)).held
    at [] made so = so
    at (x ∷ xs) made so =
        Stepped so (made (get_or (x ∷ xs) (words n % length (x ∷ xs)) x)
        (In-get (x ∷ xs) (words n % length (x ∷ xs)) x (mod-lt (words n) (let q : 0 < length (x ∷ xs) = omega arith in q))))

-- the lists of a chosen run hold
pub chosen_holds : (k : System) (words : ℕ → ℕ) (w : Histories) → IsChosen k words w → IsVerdict k (λ r. map listed (w r)) Holds
chosen_holds k words w c =
    ends_hold k (λ r. map listed (w r)) (record {
      world = (chosen k words c.steps).world;
      held = (chosen k words c.steps).held;
      reached = chosen_reached k words c.steps;
      still = none_listed_still k (chosen k words c.steps) c.ended;
      spelled = λ r h. ap (map listed) (sym (c.world r h));
    })
