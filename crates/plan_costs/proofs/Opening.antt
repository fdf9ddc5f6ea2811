-- The events of links that open.
use Rattle.std.proofs.Common.{ℕ, zero, suc, ◌==◌, ◌≡◌, ◌<◌, ◌+◌, ◌⊎◌, inl, inr, List, [], ◌∷◌, ◌++◌, length, get_or, take, arith}
use Rattle.std.proofs.Common.{refl, sym, subst, eq-eqb, eqb-true}
use Rattle.std.specs.Result.{IfOk}
use Rattle.std.proofs.Common.{Result, Ok, Err}
use Rattle.std.proofs.lemmas.List.{take_more}
use Rattle.plan_core.specs.Members.{In}
use Rattle.plan_core.specs.Plan.{Plan, all_links, link}
use Rattle.plan_core.proofs.Links.{In-from_to, from_to-In}
use Rattle.plan_core.proofs.Lists.{In-append_cases, In-append_left, In-append_right, In-filter, In-filter_cases}
use Rattle.plan_costs.specs.declared.events.Event.{Event}
use Rattle.plan_costs.specs.Events.{Has, Pushed}
use Rattle.plan_costs.specs.State.{StateOf, Filled, Opened, Opens, Settled, awaited_of, cell_time, links_from, opening}
use Rattle.plan_costs.proofs.Order.{same_event}
use Rattle.plan_costs.proofs.Ports.{same_or_not}

pub In-links_from : (p : Plan) (c l : ℕ) → l < length p.links → (link p l).source ≡ c → In l (links_from p c)
In-links_from p c l h e = In-filter (λ m. (link p m).source == c) l (all_links p)
    (In-from_to 0 (length p.links) l (omega arith) (omega (arith, h))) (eq-eqb (link p l).source c e)

pub links_from-In : (p : Plan) (c l : ℕ) → In l (links_from p c) → (l < length p.links) × ((link p l).source ≡ c)
links_from-In p c l h =
    let r = In-filter_cases (λ m. (link p m).source == c) l (all_links p) h in
    let q = from_to-In 0 (length p.links) l r.0 in
    (omega (arith, q), eqb-true (link p l).source c r.1)

pub none_opened : (p : Plan) (time : ℕ) (q : List Event) → Opened p [] time q q
none_opened p time q = record { keeps = λ e h. h; has = λ l h. absurd h; only = λ e h. inl h }

pub one_opened : (p : Plan) (ls ls' : List ℕ) (l time : ℕ) (q q' q'' : List Event) → Opened p ls time q q'
    → Pushed q' (opening p time l) q'' → ls' ≡ ls ++ l ∷ [] → Opened p ls' time q q''
one_opened p ls ls' l time q q' q'' old pushed e =
    let P : List ℕ → Type 0 = λ v. Opened p v time q q'' in
    subst P (sym e) (record {
      keeps = λ x h. pushed.keeps x (old.keeps x h);
      has = λ m h. elim (In-append_cases m ls (l ∷ []) h) [
        | inl k ↦ pushed.keeps (opening p time m) (old.has m k)
        | inr k ↦ elim k [
          | inl z ↦ (let R : ℕ → Type 0 = λ y. Has q'' (opening p time y) in subst R z pushed.has)
          | inr z ↦ absurd z
        ]
      ];
      only = λ x h. elim (pushed.only x h) [
        | inl z ↦ inr (l, In-append_right l ls (l ∷ []) (inl refl), sym z)
        | inr k ↦ elim (old.only x k) [
          | inl w ↦ inl w
          | inr w ↦ inr (w.0, In-append_left w.0 ls (l ∷ []) w.1, w.2)
        ]
      ];
    })

-- an event that opens is that of its link
opens_as : (p : Plan) (s : StateOf) (c : ℕ) (e : Event) → Opens p s c e → opening p (cell_time s c) e.link ≡ e
opens_as p s c e o = same_event (opening p (cell_time s c) e.link) e (sym o.time) (sym o.between) refl

pub opened_settled : (p : Plan) (s : StateOf) (c : ℕ) (q q' : List Event) → Opened p (links_from p c) (cell_time s c) q q'
    → awaited_of s c ≡ 0 → Settled p s c q q'
opened_settled p s c q q' old r = record {
  keeps = old.keeps;
  has = λ e o. (let P : Event → Type 0 = λ y. Has q' y in
      subst P (opens_as p s c e o) (old.has e.link (In-links_from p c e.link o.known o.source)));
  only = λ e h. elim (old.only e h) [
    | inl k ↦ inl k
    | inr w ↦ inr (let f = links_from-In p c w.0 w.1 in
        let P : Event → Type 0 = λ y. Opens p s c y in
        subst P w.2 (record { known = f.0; source = f.1; reached = r; time = refl; between = refl }))
  ];
}

pub nothing_settled : (p : Plan) (s : StateOf) (c : ℕ) (q : List Event) → (awaited_of s c ≡ 0 → ⊥) → Settled p s c q q
nothing_settled p s c q ne = record { keeps = λ e h. h; has = λ e o. absurd (ne o.reached); only = λ e h. inl h }

-- ---- cell by cell
pub none_filled : (p : Plan) (s : StateOf) (q : List Event) → q ≡ [] → Filled p s 0 q
none_filled p s q e =
    let P : List Event → Type 0 = λ v. Filled p s 0 v in
    subst P (sym e) (record { due = λ x h. absurd h; queued = λ x o h. absurd (omega (arith, h)) })

pub more_filled : (p : Plan) (s : StateOf) (c : ℕ) (q q' : List Event) → Filled p s c q → Settled p s c q q' → Filled p s (c + 1) q'
more_filled p s c q q' old settled = record {
  due = λ e h. elim (settled.only e h) [
    | inl k ↦ (let f = old.due e k in let a = f.0 in (omega (arith, a), f.1))
    | inr o ↦ (let a = o.source in let P : ℕ → Type 0 = λ y. Opens p s y e in (omega (arith, a), subst P (sym o.source) o))
  ];
  queued = λ e o h. at e o h (same_or_not (link p e.link).source c);
}
  where
    at : (e : Event) → Opens p s (link p e.link).source e → (link p e.link).source < c + 1
        → ((link p e.link).source ≡ c) ⊎ ((link p e.link).source ≡ c → ⊥) → Has q' e
    at e o h (inl z) = let P : ℕ → Type 0 = λ y. Opens p s y e in settled.has e (subst P z o)
    at e o h (inr ne) = settled.keeps e (old.queued e o (omega (arith, h, ne)))

-- ---- in the order of a list
In-get_or : {X : Type 0} (xs : List X) (i : ℕ) (d : X) → i < length xs → In (get_or xs i d) xs
In-get_or [] i d h = absurd (omega (arith, h))
In-get_or (x ∷ xs) zero d h = inl refl
In-get_or (x ∷ xs) (suc i) d h = inr (In-get_or xs i d (omega (arith, h)))

pub known_at : (p : Plan) (c : ℕ) (ls : List ℕ) (i d : ℕ) → ls ≡ links_from p c → i < length ls → get_or ls i d < length p.links
known_at p c ls i d e h =
    let Q : List ℕ → Type 0 = λ v. In (get_or ls i d) v in
    (links_from-In p c (get_or ls i d) (subst Q e (In-get_or ls i d h))).0

pub next_taken : (xs : List ℕ) (i : ℕ) → i < length xs → take (i + 1) xs ≡ take i xs ++ get_or xs i 0 ∷ []
next_taken xs i h = take_more xs i 0 h

-- what holds of any answer but want of memory
pub carry : {T E : Type 0} (r : Result T E) (P Q : Type 0) → (P → Q) → IfOk r (λ _. P) → IfOk r (λ _. Q)
carry (Ok u) P Q f h = f h
carry (Err e) P Q f h = h
