-- The order of events, and membership in lists that are kept by it.
use Rattle.std.proofs.Common.{ℕ, suc, ◌≡◌, ◌<◌, ◌⊎◌, inl, inr, List, [], ◌∷◌, length, Bool, true, false, arith, refl, sym, ap, subst, ◌∙◌}
use Rattle.std.specs.declared.cmp.Ordering.{Ordering}
use Rattle.std.specs.declared.cmp.Ordering.TheVariants.{Less, Equal, Greater}
use Rattle.std.specs.Ordering.{nat_cmp, bool_cmp, ordering_then, match_ordering}
use Rattle.std.proofs.lemmas.Cmp.{ranked, by_ranked}
use Rattle.std.specs.BTreeSet.{insert_key}
use Rattle.std.specs.BTreeMap.Range.{IsLtBy}
use Rattle.std.specs.List.{All}
use Rattle.plan_costs.specs.declared.events.Event.{Event}
use Rattle.plan_costs.specs.Events.{Has, Pushed, Popped, Comes}

abbrev pub event_cmp : Event → Event → Ordering
event_cmp a b = ordering_then (nat_cmp a.time b.time) (ordering_then (bool_cmp a.between b.between) (nat_cmp a.link b.link))

apart : (v : Bool) → v ≡ true → v ≡ false → ⊥
apart v p q = cc

pub same_event : (a b : Event) → a.time ≡ b.time → a.between ≡ b.between → a.link ≡ b.link → a ≡ b
same_event a b p q r =
    let make : ℕ → Bool → ℕ → Event = λ t x l. record { time = t; between = x; link = l } in
    ap (λ t. make t a.between a.link) p ∙ ap (λ x. make b.time x a.link) q ∙ ap (λ l. make b.time b.between l) r

by_bool_less : (x y : Bool) (o : Ordering) (P : Type 0) → ordering_then (bool_cmp x y) o ≡ Less
    → (x ≡ false → y ≡ true → P) → (x ≡ y → o ≡ Less → P) → P
by_bool_less false false o P e f g = g refl e
by_bool_less false true o P e f g = f refl refl
by_bool_less true false o P e f g = absurd (cc)
by_bool_less true true o P e f g = g refl e

by_bool_equal : (x y : Bool) (o : Ordering) → ordering_then (bool_cmp x y) o ≡ Equal → (x ≡ y) × (o ≡ Equal)
by_bool_equal false false o e = (refl, e)
by_bool_equal false true o e = absurd (cc)
by_bool_equal true false o e = absurd (cc)
by_bool_equal true true o e = (refl, e)

not_both : (o : Ordering) → o ≡ Equal → o ≡ Less → ⊥
not_both o e f = cc

not_more : (o : Ordering) → o ≡ Greater → o ≡ Less → ⊥
not_more o e f = cc

not_equal : (o : Ordering) → o ≡ Greater → o ≡ Equal → ⊥
not_equal o e f = cc

nat_less : (x y : ℕ) → nat_cmp x y ≡ Less → x < y
nat_less x y e = by_ranked (x < y) (x ≡ y) (y < x) (nat_cmp x y) (ranked x y (nat_cmp x y) refl) (λ _ h. h)
    (λ (f : nat_cmp x y ≡ Equal) _. absurd (not_both (nat_cmp x y) f e)) (λ (f : nat_cmp x y ≡ Greater) _. absurd (not_more (nat_cmp x y) f
    e))

nat_equal : (x y : ℕ) → nat_cmp x y ≡ Equal → x ≡ y
nat_equal x y e = by_ranked (x < y) (x ≡ y) (y < x) (nat_cmp x y) (ranked x y (nat_cmp x y) refl)
    (λ (f : nat_cmp x y ≡ Less) _. absurd (not_both (nat_cmp x y) e f)) (λ _ h. h) (λ (f : nat_cmp x y ≡ Greater) _. absurd (not_equal
    (nat_cmp x y) f e))

then_less : (p o : Ordering) (P : Type 0) → ordering_then p o ≡ Less → (p ≡ Less → P) → (p ≡ Equal → o ≡ Less → P) → P
then_less Less o P e f g = f refl
then_less Equal o P e f g = g refl e
then_less Greater o P e f g = absurd (cc)

then_equal : (p o : Ordering) → ordering_then p o ≡ Equal → (p ≡ Equal) × (o ≡ Equal)
then_equal Less o e = absurd (cc)
then_equal Equal o e = (refl, e)
then_equal Greater o e = absurd (cc)

pub comes_sooner : (a b : Event) → a.time < b.time → Comes a b
comes_sooner a b h = record { not_after = omega (arith, h); strict = λ _ _. h; by_number = λ _ e. absurd (omega (arith, h, e)) }

comes_first : (a b : Event) → a.time ≡ b.time → a.between ≡ false → b.between ≡ true → Comes a b
comes_first a b e x y = record {
  not_after = omega (arith, e);
  strict = λ p _. absurd (apart _ p x);
  by_number = λ p _. absurd (apart _ y
      (sym p ∙ x));
}

comes_before : (a b : Event) → a.time ≡ b.time → a.between ≡ b.between → a.link < b.link → Comes a b
comes_before a b e x h = record { not_after = omega (arith, e); strict = λ p q. absurd (apart _ p (x ∙ q)); by_number = λ _ _. h }

pub less_comes : (a b : Event) → event_cmp a b ≡ Less → Comes a b
less_comes a b e = then_less _ _ _ e
    (λ h. comes_sooner a b (nat_less _ _ h))
    (λ h k. by_bool_less _ _ _ _ k (comes_first a b (nat_equal _ _ h))
    (λ x l. comes_before a b (nat_equal _ _ h) x (nat_less _ _ l)))

pub equal_same : (a b : Event) → event_cmp a b ≡ Equal → a ≡ b
equal_same a b e =
    let h = then_equal _ _ e in
    let k = by_bool_equal _ _ _ h.1 in
    same_event a b (nat_equal _ _ h.0) k.0 (nat_equal _ _ k.1)

-- ---- a list into which an event is put

put_at : (o : Ordering) (x k : Event) (xs ks : List Event) → event_cmp k x ≡ o
    → ((y : Event) → Has xs y → Has ks y) → Has ks k → ((y : Event) → Has ks y → (y ≡ k) ⊎ Has xs y)
    → Pushed (x ∷ xs) k (match_ordering o (k ∷ x ∷ xs) (x ∷ xs) (x ∷ ks))
put_at Less x k xs ks e keeps has only = record {
  keeps = λ y h. inr h;
  has = inl refl;
  only = λ y h. elim h [
    | inl p ↦ inl (sym p)
    | inr r
        ↦ inr r
  ];
}
put_at Equal x k xs ks e keeps has only = record { keeps = λ y h. h; has = inl (sym (equal_same k x e)); only = λ y h. inr h }
put_at Greater x k xs ks e keeps has only = record {
  keeps = λ y h. elim h [ inl p ↦ inl p | inr r ↦ inr (keeps y r) ];
  has = inr has;
  only = λ y h. elim h [ inl p ↦ inr (inl p) | inr r ↦ elim (only y r) [ inl q ↦ inl q | inr q ↦ inr (inr q) ] ];
}

pub put_in : (xs : List Event) (k : Event) → Pushed xs k (insert_key event_cmp xs k)
put_in [] k = record { keeps = λ y h. absurd h; has = inl refl; only = λ y h. elim h [ inl p ↦ inl (sym p) | inr r ↦ absurd r ] }
put_in (x ∷ xs) k =
    let r = put_in xs k in
    put_at (event_cmp k x) x k xs (insert_key event_cmp xs k) refl r.keeps r.has r.only

all_has : (P : Event → Type 0) (xs : List Event) (x : Event) → All P xs → Has xs x → P x
all_has P [] x a h = absurd h
all_has P (y ∷ ys) x a h = elim h [
  | inl p ↦ subst P p (a 0 y (omega arith))
  | inr r ↦ all_has P ys x (λ k d l. a (suc k) d (omega arith)) r
]

pub taken_out : (old new : List Event) (e : Event) → old ≡ e ∷ new → All (IsLtBy event_cmp e) new → Popped old e new
taken_out old new e p a =
    let P : List Event → Type 0 = λ l. Popped l e new in
    subst P (sym p) (record {
      had = inl refl;
      first = λ x h. less_comes e x (all_has (IsLtBy event_cmp e) new x a h);
      kept = λ x h. inr h;
      rest = λ x h. h;
    })

pub nothing_in : (xs : List Event) → (0 < length xs → ⊥) → xs ≡ []
nothing_in [] h = refl
nothing_in (x ∷ xs) h = absurd (h (omega arith))

pub pushed_by : (xs old new : List Event) (k : Event) → xs ≡ old → new ≡ insert_key event_cmp xs k → Pushed old k new
pushed_by xs old new k p q =
    let P : List Event → Type 0 = λ l. Pushed xs k l in
    let R : List Event → Type 0 = λ l. Pushed l k new in
    subst R p (subst P (sym q) (put_in xs k))
