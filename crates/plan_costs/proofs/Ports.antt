-- What is as soon as it may be stays so as more is known, and so do the times at a port as one more message has it.
use Rattle.std.proofs.Common.{ℕ, Bool, true, false, ◌==◌, ◌≡◌, ◌≤◌, ◌⊎◌, inl, inr, arith, refl, sym, ◌∙◌, max, subst, eqb-true, eq-eqb}
use Rattle.plan_costs.specs.Soonest.{Before, IsSoonest}
use Rattle.plan_costs.specs.State.{Port}

clash : true ≡ false → ⊥
clash e = cc

pub same_or_not : (a b : ℕ) → (a ≡ b) ⊎ (a ≡ b → ⊥)
same_or_not a b = at (a == b) refl
  where
    at : (v : Bool) → (a == b) ≡ v → (a ≡ b) ⊎ (a ≡ b → ⊥)
    at true e = inl (eqb-true a b e)
    at false e = inr (λ h. clash (sym (eq-eqb a b h) ∙ e))

-- ---- what waits for the same, by the same times
pub soonest_same : (from from' : ℕ) (Q Q' : ℕ → Type 0) (f f' : ℕ → ℕ) (t t' : ℕ) → IsSoonest from Q f t → from' ≡ from → t' ≡ t
    → ((m : ℕ) → Q m → Q' m) → ((m : ℕ) → Q' m → Q m) → ((m : ℕ) → Q m → f' m ≡ f m) → IsSoonest from' Q' f' t'
soonest_same from from' Q Q' f f' t t' old ef et into back same = record {
  from_then = let a = old.from_then in omega (arith, a, ef, et);
  after = λ m h. let a = old.after m (back m h) in let b = same m (back m h) in omega (arith, a, b, et);
  prompt = elim old.prompt [
    | inl e ↦ inl (et ∙ e ∙ sym ef)
    | inr w ↦ inr (w.0, into w.0 w.1, same w.0 w.1 ∙ w.2 ∙ sym et)
  ];
}

-- ---- one more to wait for
pub soonest_more : (from : ℕ) (Q Q' : ℕ → Type 0) (f f' : ℕ → ℕ) (t t' x : ℕ) → IsSoonest from Q f t
    → ((m : ℕ) → Q m → Q' m) → ((m : ℕ) → Q m → f' m ≡ f m) → Q' x → ((m : ℕ) → Q' m → (m ≡ x) ⊎ Q m) → t' ≡ max t (f' x)
    → IsSoonest from Q' f' t'
soonest_more from Q Q' f f' t t' x old into same here only et = record {
  from_then = let a = old.from_then in omega (arith, a, et);
  after = λ m h. elim (only m h) [
    | inl e ↦ (let P : ℕ → Type 0 = λ k. f' k ≤ t' in subst P (sym e) (omega (arith, et)))
    | inr k ↦ (let a = old.after m k in let b = same m k in omega (arith, a, b, et))
  ];
  prompt = at (same_or_not t' (f' x));
}
  where
    at : (t' ≡ f' x) ⊎ (t' ≡ f' x → ⊥) → (t' ≡ from) ⊎ ((m : ℕ) × Q' m × (f' m ≡ t'))
    at (inl e) = inr (x, here, sym e)
    at (inr ne) =
        let k : t' ≡ t = omega (arith, et, ne) in
        elim old.prompt [ inl e ↦ inl (k ∙ e) | inr w ↦ inr (w.0, into w.0 w.1, same w.0 w.1 ∙ w.2 ∙ sym k) ]

-- ---- the order of messages
pub before_itself : (a m : ℕ) → Before a m a m → ⊥
before_itself a m h = elim h [ inl k ↦ omega (arith, k) | inr k ↦ omega (arith, k.1) ]

pub before_back : (a m b l : ℕ) → Before a m b l → Before b l a m → ⊥
before_back a m b l h k = elim h [
  | inl x ↦ elim k [ inl y ↦ omega (arith, x, y) | inr y ↦ omega (arith, x, y.0) ]
  | inr x ↦ elim k [ inl y ↦ omega (arith, x.0, y) | inr y ↦ omega (arith, x.1, y.1) ]
]

-- ---- what two moments of a port have in common, as message x has it between them
pub record Passes (port : ℕ → ℕ) (P P' : ℕ → Type 0) (come come' start start' through through' free free' : ℕ → ℕ) (x : ℕ) : Type 0 where
  pub grows : (m : ℕ) → P m → P' m
  pub here : P' x
  pub only : (m : ℕ) → P' m → (m ≡ x) ⊎ P m
  pub come_same : (m : ℕ) → P m → come' m ≡ come m
  pub start_same : (m : ℕ) → P m → start' m ≡ start m
  pub through_same : (m : ℕ) → P m → through' m ≡ through m
  pub last : (m : ℕ) → P m → Before (come' m) m (come' x) x
  pub begins : start' x ≡ max (come' x) (free (port x))
  pub ends : start' x ≤ through' x
  pub free_there : free' (port x) ≡ through' x
  pub free_same : (r : ℕ) → (r ≡ port x → ⊥) → free' r ≡ free r

module _ (port : ℕ → ℕ) (P P' : ℕ → Type 0) (come come' start start' through through' free free' : ℕ → ℕ) (x : ℕ) where
  Now : Type 0
  Now = Passes port P P' come come' start start' through through' free free' x

  abbrev Ahead : ℕ → ℕ → Type 0
  Ahead l m = P m × (port m ≡ port l) × Before (come m) m (come l) l

  abbrev Ahead' : ℕ → ℕ → Type 0
  Ahead' l m = P' m × (port m ≡ port l) × Before (come' m) m (come' l) l

  abbrev Step : Type 0
  Step = Passes port P P' come come' start start' through through' free free' x

  starts_old : Step → Port port P come start through free → (l : ℕ) → P l → IsSoonest (come' l) (Ahead' l) through' (start' l)
  starts_old s old l h =
      soonest_same (come l) (come' l) (Ahead l) (Ahead' l) through through' (start l) (start' l) (old.starts l h)
      (s.come_same l h) (s.start_same l h) into back (λ m k. s.through_same m k.0)
    where
      moved : (m : ℕ) → P m → Before (come m) m (come l) l → Before (come' m) m (come' l) l
      moved m k b = let e = s.come_same m k in let f = s.come_same l h in
          elim b [ inl y ↦ inl (omega (arith, y, e, f)) | inr y ↦ inr (e ∙ y.0 ∙ sym f, y.1) ]

      moved_back : (m : ℕ) → P m → Before (come' m) m (come' l) l → Before (come m) m (come l) l
      moved_back m k b = let e = s.come_same m k in let f = s.come_same l h in
          elim b [ inl y ↦ inl (omega (arith, y, e, f)) | inr y ↦ inr (sym e ∙ y.0 ∙ f, y.1) ]

      into : (m : ℕ) → Ahead l m → Ahead' l m
      into m k = (s.grows m k.0, k.1, moved m k.0 k.2)

      back : (m : ℕ) → Ahead' l m → Ahead l m
      back m k = elim (s.only m k.0) [
        | inl e ↦ absurd (before_back (come' l) l (come' x) x (s.last l h)
            (let Q : ℕ → Type 0 = λ y. Before (come' y) y (come' l) l in subst Q e k.2))
        | inr g ↦ (g, k.1, moved_back m g k.2)
      ]

  starts_new : Step → Port port P come start through free → IsSoonest (come' x) (Ahead' x) through' (start' x)
  starts_new s old = record {
    from_then = let e = s.begins in omega (arith, e);
    after = after;
    prompt = at (same_or_not (start' x) (come' x));
  }
    where
      frees : IsSoonest 0 (λ m. P m × (port m ≡ port x)) through (free (port x))
      frees = old.frees (port x)

      after : (m : ℕ) → Ahead' x m → through' m ≤ start' x
      after m k = elim (s.only m k.0) [
        | inl e ↦ absurd (before_itself (come' x) x (let Q : ℕ → Type 0 = λ y. Before (come' y) y (come' x) x in subst Q e k.2))
        | inr g ↦ (let a = frees.after m (g, k.1) in let b = s.through_same m g in let e = s.begins in omega (arith, a, b, e))
      ]

      at : (start' x ≡ come' x) ⊎ (start' x ≡ come' x → ⊥) → (start' x ≡ come' x) ⊎ ((m : ℕ) × Ahead' x m × (through' m ≡ start' x))
      at (inl e) = inl e
      at (inr ne) =
          let b = s.begins in
          let k : start' x ≡ free (port x) = omega (arith, b, ne) in
          elim frees.prompt [
            | inl z ↦ absurd (ne (omega (arith, b, k, z)))
            | inr w ↦ inr (w.0, (s.grows w.0 w.1.0, w.1.1, s.last w.0 w.1.0), s.through_same w.0 w.1.0 ∙ w.2 ∙ sym k)
          ]

  frees_new : Step → Port port P come start through free → (r : ℕ) → IsSoonest 0 (λ m. P' m × (port m ≡ r)) through' (free' r)
  frees_new s old r = at (same_or_not r (port x))
    where
      at : (r ≡ port x) ⊎ (r ≡ port x → ⊥) → IsSoonest 0 (λ m. P' m × (port m ≡ r)) through' (free' r)
      at (inl e) =
          let b = s.begins in let c = s.ends in let d = s.free_there in
          let R : ℕ → Type 0 = λ k. IsSoonest 0 (λ m. P' m × (port m ≡ k)) through' (free' k) in
          subst R (sym e) (soonest_more 0 (λ m. P m × (port m ≡ port x)) (λ m. P' m × (port m ≡ port x)) through through'
          (free (port x)) (free' (port x)) x (old.frees (port x)) (λ m k. (s.grows m k.0, k.1)) (λ m k. s.through_same m k.0)
          (s.here, refl) (λ m k. elim (s.only m k.0) [ inl y ↦ inl y | inr y ↦ inr (y, k.1) ]) (omega (arith, b, c, d)))
      at (inr ne) =
          soonest_same 0 0 (λ m. P m × (port m ≡ r)) (λ m. P' m × (port m ≡ r)) through through' (free r) (free' r) (old.frees r) refl
          (s.free_same r ne) (λ m k. (s.grows m k.0, k.1))
          (λ m k. elim (s.only m k.0) [
            | inl y ↦ absurd (ne (let Q : ℕ → Type 0 = λ z. r ≡ port z in subst Q y (sym k.1)))
            | inr y ↦ (y, k.1)
          ])
          (λ m k. s.through_same m k.0)

  pub port_more : Step → Port port P come start through free → Port port P' come' start' through' free'
  port_more s old = record {
    starts = λ l h. elim (s.only l h) [
      | inl e ↦ (let R : ℕ → Type 0 = λ k. IsSoonest (come' k) (Ahead' k) through' (start' k) in subst R (sym e) (starts_new s old))
      | inr k ↦ starts_old s old l k
    ];
    frees = frees_new s old;
  }

-- ---- a port through which nothing more passed
pub port_same : (port : ℕ → ℕ) (P P' : ℕ → Type 0) (come come' start start' through through' free free' : ℕ → ℕ)
    → Port port P come start through free → ((m : ℕ) → P m → P' m) → ((m : ℕ) → P' m → P m) → ((m : ℕ) → P m → come' m ≡ come m)
    → ((m : ℕ) → P m → start' m ≡ start m) → ((m : ℕ) → P m → through' m ≡ through m) → ((r : ℕ) → free' r ≡ free r)
    → Port port P' come' start' through' free'
port_same port P P' come come' start start' through through' free free' old into back ec es et ef = record {
  starts = λ l h. soonest_same (come l) (come' l) (λ m. P m × (port m ≡ port l) × Before (come m) m (come l) l)
      (λ m. P' m × (port m ≡ port l) × Before (come' m) m (come' l) l) through through' (start l) (start' l) (old.starts l (back l h))
      (ec l (back l h)) (es l (back l h))
      (λ m k. (into m k.0, k.1, moved (come m) (come' m) (come l) (come' l) m l (ec m k.0) (ec l (back l h)) k.2))
      (λ m k. (back m k.0, k.1, moved (come' m) (come m) (come' l) (come l) m l (sym (ec m (back m k.0))) (sym (ec l (back l h))) k.2))
      (λ m k. et m k.0);
  frees = λ r. soonest_same 0 0 (λ m. P m × (port m ≡ r)) (λ m. P' m × (port m ≡ r)) through through' (free r) (free' r) (old.frees r)
      refl (ef r) (λ m k. (into m k.0, k.1)) (λ m k. (back m k.0, k.1)) (λ m k. et m k.0);
}
  where
    moved : (a a' b b' m l : ℕ) → a' ≡ a → b' ≡ b → Before a m b l → Before a' m b' l
    moved a a' b b' m l e f h = elim h [ inl y ↦ inl (omega (arith, y, e, f)) | inr y ↦ inr (e ∙ y.0 ∙ sym f, y.1) ]
