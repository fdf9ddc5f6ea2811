-- No enabled step is listed twice.
use Rattle.std.proofs.Common.{ℕ, Bool, true, false, cond, ◌≡◌, ◌<◌, nat_lt, List, [], ◌∷◌, ◌++◌, refl, map, flat_map, count_by, ap, ◌∙◌}
use Rattle.std.proofs.Common.{sym, subst, inl, inr, arith}
use Rattle.ptl_types.specs.Messages.{Sent}
use Rattle.ptl_types.specs.declared.headers.Lane.{Lane}
use Rattle.ptl_types.specs.declared.headers.Lane.TheVariants.{Answer, Request}
use Rattle.ni_model.specs.Ready.{ready_numbers}
use Rattle.plan_core.specs.Members.{Distinct, In}
use Rattle.plan_core.specs.Plan.{from_to}
use Rattle.plan_core.proofs.Links.{Distinct-from_to}
use Rattle.plan_core.proofs.Lists.{In-append_cases, In-map_cases, Distinct-append}
use Rattle.cuts.specs.histories.History.{is_start}
use Rattle.cuts.specs.histories.System.{System, state_at}
use Rattle.cuts.specs.declared.orders.Step.{Step}
use Rattle.cuts.specs.declared.orders.Step.TheVariants.{Start, Deliver, Fire}
use Rattle.cuts.specs.orders.Chosen.{Scene, deliveries_between, enabled_steps, firings_at, first_of, start_at}
use Rattle.cuts.specs.orders.Rising.{Rises}
use Rattle.cuts.proofs.orders.Choosing.{In-flat_cases, below}

pub rises-distinct : (xs : List ℕ) → Rises xs → Distinct xs
rises-distinct [] h = tt
rises-distinct (x ∷ xs) h = ((λ i. let l = h.0 x i in absurd (omega (arith, l))), rises-distinct xs h.1)

-- members of different parts differ, as their marks do
distinct-flat : {X : Type 0} (f : ℕ → List X) (mark : X → ℕ) (xs : List ℕ) → Distinct xs → ((x : ℕ) → In x xs → Distinct (f x)) →
    ((x : ℕ) (y : X) → In y (f x) → mark y ≡ x) → Distinct (flat_map f xs)
distinct-flat f mark [] d each marks = tt
distinct-flat f mark (x ∷ xs) d each marks =
    Distinct-append (f x) (flat_map f xs) (each x (inl refl)) (distinct-flat f mark xs d.1 (λ y i. each y (inr i)) marks)
    (λ y i j. let q = In-flat_cases f xs y j in d.0 (subst (λ v. In v xs) (sym (marks q.0 y q.2) ∙ marks x y i) q.1))

distinct-map : {X : Type 0} (f : ℕ → X) (mark : X → ℕ) → ((x : ℕ) → mark (f x) ≡ x) → (xs : List ℕ) → Distinct xs → Distinct (map f xs)
distinct-map f mark marks [] d = tt
distinct-map f mark marks (x ∷ xs) d = (
  (λ i. let q = In-map_cases f (f x) xs i in d.0 (subst (λ v. In v xs) (sym (marks q.0) ∙ ap mark q.2 ∙ marks x) q.1)),
  distinct-map f mark marks xs d.1,
)

-- ---- marks: the kind, the rank, the target, the number
kind_of : Step → ℕ
kind_of (Start r) = 0
kind_of (Deliver s d Request) = 1
kind_of (Deliver s d Answer) = 2
kind_of (Fire r t) = 3

first_mark : Step → ℕ
first_mark (Start r) = r
first_mark (Deliver s d lane) = s
first_mark (Fire r t) = r

second_mark : Step → ℕ
second_mark (Start r) = 0
second_mark (Deliver s d lane) = d
second_mark (Fire r t) = t

module _ (k : System) (z : Scene) where
  start_is : (r : ℕ) (x : Step) → In x (start_at z r) → Start r ≡ x
  start_is r x i = at (nat_lt 0 (count_by is_start (z.world r))) i
    where
      at : (b : Bool) → In x (cond b [] (Start r ∷ [])) → Start r ≡ x
      at true i = absurd i
      at false (inl e) = e
      at false (inr i) = absurd i

  start_one : (r : ℕ) → Distinct (start_at z r)
  start_one r = at (nat_lt 0 (count_by is_start (z.world r)))
    where
      at : (b : Bool) → Distinct (cond b [] (Start r ∷ []))
      at true = tt
      at false = ((λ i. i), tt)

  first_is : (s d : ℕ) (lane : Lane) (ms : List Sent) (x : Step) → In x (first_of s d lane ms) → Deliver s d lane ≡ x
  first_is s d lane [] x i = absurd i
  first_is s d lane (m ∷ ms) x (inl e) = e
  first_is s d lane (m ∷ ms) x (inr i) = absurd i

  first_one : (s d : ℕ) (lane : Lane) (ms : List Sent) → Distinct (first_of s d lane ms)
  first_one s d lane [] = tt
  first_one s d lane (m ∷ ms) = ((λ i. i), tt)

  between_is : (s d : ℕ) (x : Step) → In x (deliveries_between z s d) → (lane : Lane) × (Deliver s d lane ≡ x)
  between_is s d x i = elim (In-append_cases x (first_of s d Request (z.held s d Request)) (first_of s d Answer (z.held s d Answer)) i) [
    | inl j ↦ (Request, first_is s d Request (z.held s d Request) x j)
    | inr j ↦ (Answer, first_is s d Answer (z.held s d Answer) x j)
  ]

  between_one : (s d : ℕ) → Distinct (deliveries_between z s d)
  unfolding kind_of
  between_one s d =
      Distinct-append (first_of s d Request (z.held s d Request)) (first_of s d Answer (z.held s d Answer))
      (first_one s d Request (z.held s d Request)) (first_one s d Answer (z.held s d Answer))
      (λ x i j. let a = ap kind_of (first_is s d Request (z.held s d Request) x i ∙ sym (first_is s d Answer (z.held s d Answer) x j)) in
      absurd (omega (arith, a)))

  pub once_each : ((r : ℕ) → r < k.count → Rises (ready_numbers (state_at k z.world r))) → Distinct (enabled_steps k z)
  unfolding kind_of first_mark second_mark
  once_each rises =
      Distinct-append (flat_map (start_at z) ranks) (deliveries ++ firings)
      (distinct-flat (start_at z) first_mark ranks (Distinct-from_to 0 k.count) (λ r i. start_one r)
      (λ r x i. sym (ap first_mark (start_is r x i))))
      (Distinct-append deliveries firings
      (distinct-flat (λ s. flat_map (deliveries_between z s) ranks) first_mark ranks (Distinct-from_to 0 k.count)
      (λ s i. distinct-flat (deliveries_between z s) second_mark ranks (Distinct-from_to 0 k.count) (λ d j. between_one s d)
      (λ d x i. sym (ap second_mark (between_is s d x i).1)))
      (λ s x i. let q = In-flat_cases (deliveries_between z s) ranks x i in sym (ap first_mark (between_is s q.0 x q.2).1)))
      (distinct-flat (firings_at k z) first_mark ranks (Distinct-from_to 0 k.count)
      (λ r i. distinct-map (Fire r) second_mark (λ t. refl) (ready_numbers (state_at k z.world r))
      (rises-distinct (ready_numbers (state_at k z.world r)) (rises r (below k.count r i))))
      (λ r x i. let q = In-map_cases (Fire r) x (ready_numbers (state_at k z.world r)) i in sym (ap first_mark q.2)))
      (λ x i j. let a = ap kind_of (sym (firing_is x j)) in delivered_kind x (delivery_is x i) a))
      (λ x i j. let a = ap kind_of (started_is x i) in elim (In-append_cases x deliveries firings j) [
        | inl l ↦ delivered_start x (delivery_is x l) a
        | inr l ↦ (let b = ap kind_of (firing_is x l) in absurd (omega (arith, a, b)))
      ])
    where
      ranks : List ℕ
      ranks = from_to 0 k.count

      deliveries : List Step
      deliveries = flat_map (λ s. flat_map (deliveries_between z s) (from_to 0 k.count)) (from_to 0 k.count)

      firings : List Step
      firings = flat_map (firings_at k z) (from_to 0 k.count)

      started_is : (x : Step) → In x (flat_map (start_at z) (from_to 0 k.count)) → Start (first_mark x) ≡ x
      started_is x i = let q = In-flat_cases (start_at z) (from_to 0 k.count) x i in let e = start_is q.0 x q.2 in
          ap Start (sym (ap first_mark e)) ∙ e

      delivery_is : (x : Step) → In x (flat_map (λ s. flat_map (deliveries_between z s) (from_to 0 k.count)) (from_to 0 k.count)) →
          (s : ℕ) × (d : ℕ) × (lane : Lane) × (Deliver s d lane ≡ x)
      delivery_is x i =
          let q = In-flat_cases (λ s. flat_map (deliveries_between z s) (from_to 0 k.count)) (from_to 0 k.count) x i in
          let u = In-flat_cases (deliveries_between z q.0) (from_to 0 k.count) x q.2 in
          let e = between_is q.0 u.0 x u.2 in
          (q.0, u.0, e.0, e.1)

      firing_is : (x : Step) → In x (flat_map (firings_at k z) (from_to 0 k.count)) → Fire (first_mark x) (second_mark x) ≡ x
      firing_is x i =
          let q = In-flat_cases (firings_at k z) (from_to 0 k.count) x i in
          let u = In-map_cases (Fire q.0) x (ready_numbers (state_at k z.world q.0)) q.2 in
          ap (λ r. Fire r (second_mark x)) (sym (ap first_mark u.2)) ∙ ap (Fire q.0) (sym (ap second_mark u.2)) ∙ u.2

      delivered_kind : (x : Step) → (s : ℕ) × (d : ℕ) × (lane : Lane) × (Deliver s d lane ≡ x) → kind_of x ≡ 3 → ⊥
      delivered_kind x d e = at d.2 (ap kind_of d.3)
        where
          at : (lane : Lane) → kind_of (Deliver d.0 d.1 lane) ≡ kind_of x → ⊥
          at Request q = absurd (omega (arith, q, e))
          at Answer q = absurd (omega (arith, q, e))

      delivered_start : (x : Step) → (s : ℕ) × (d : ℕ) × (lane : Lane) × (Deliver s d lane ≡ x) → 0 ≡ kind_of x → ⊥
      delivered_start x d e = at d.2 (ap kind_of d.3)
        where
          at : (lane : Lane) → kind_of (Deliver d.0 d.1 lane) ≡ kind_of x → ⊥
          at Request q = absurd (omega (arith, q, e))
          at Answer q = absurd (omega (arith, q, e))
