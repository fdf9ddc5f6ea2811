-- Lists that are mapped, and tables of things under renamed handles.
use Rattle.std.proofs.Common.{◌≡◌, ℕ, ◌+◌, Bool, true, false, ◌||◌, not, nat_le, List, [], ◌∷◌, ◌++◌, map, filter, Option, Some}
use Rattle.std.proofs.Common.{None}
use Rattle.std.proofs.Common.{refl, ap, sym, ◌∙◌, option_map, is_some, cond}
use Rattle.std.proofs.lemmas.List.{length-map, map-append}
use Rattle.std.specs.Prelude.{find}
use Rattle.ptl_types.specs.declared.handles.Handle.{Handle}
use Rattle.ptl_types.specs.Handles.{same_handle, top}
use Rattle.ni_model.specs.Tables.{Live, Table, change, change_one, changed, handle, is_full, is_live, is_live_or_none, lookup, names}
use Rattle.ni_model.specs.Tables.{where_set}
use Rattle.ni_model.specs.Tables.{with_new, without}
use Rattle.slot_laws.specs.Renaming.{KeepsApart}
use Rattle.slot_laws.specs.Renamed.{renamed_live, renamed_table}

-- ---- lists

-- the first that passes, of a list that is mapped
pub find_mapped : {A B : Type 0} (p : B → Bool) (q : A → Bool) (h : A → B) → ((x : A) → p (h x) ≡ q x) → (xs : List A) →
    find p (map h xs) ≡ option_map h (find q xs)
find_mapped p q h same [] = refl
find_mapped p q h same (x ∷ xs) =
    rw (same x) (elim (q x) as (λ b. cond b (Some (h x)) (find p (map h xs)) ≡ option_map h (cond b (Some x) (find q xs))) [
      | true ↦ refl
      | false ↦ find_mapped p q h same xs
    ])

pub filter_mapped : {A B : Type 0} (p : B → Bool) (q : A → Bool) (h : A → B) → ((x : A) → p (h x) ≡ q x) → (xs : List A) →
    filter p (map h xs) ≡ map h (filter q xs)
filter_mapped p q h same [] = refl
filter_mapped p q h same (x ∷ xs) =
    rw (same x, filter_mapped p q h same xs)
    (elim (q x) as (λ b. cond b (h x ∷ map h (filter q xs)) (map h (filter q xs)) ≡ map h (cond b (x ∷ filter q xs) (filter q xs))) [
      | true ↦ refl
      | false ↦ refl
    ])

pub mapped_twice : {A B C D : Type 0} (f : B → D) (g : A → B) (h : C → D) (k : A → C) → ((x : A) → f (g x) ≡ h (k x)) → (xs : List A) →
    map f (map g xs) ≡ map h (map k xs)
mapped_twice f g h k same [] = refl
mapped_twice f g h k same (x ∷ xs) = rw (same x, mapped_twice f g h k same xs) refl

-- ---- handles

pub where_set_renamed : (f : Handle → Handle) (b : Bool) (o : Option Handle) → where_set b (option_map f o) ≡ option_map f (where_set b o)
where_set_renamed f true o = refl
where_set_renamed f false o = refl

pub names_renamed : (f : Handle → Handle) → KeepsApart f → (o : Option Handle) (h : Handle) → names (option_map f o) (f h) ≡ names o h
names_renamed f k None h = refl
names_renamed f k (Some x) h = k.same x h

-- ---- tables

pub lookup_renamed : {A : Type 0} (f : Handle → Handle) (g : A → A) → KeepsApart f → (h : Handle) (xs : List (Live A)) →
    lookup (f h) (map (renamed_live f g) xs) ≡ option_map g (lookup h xs)
lookup_renamed f g k h [] = refl
lookup_renamed f g k h (x ∷ xs) =
    rw (k.same x.handle h)
    (elim (same_handle x.handle h) as (λ b. cond b (Some (g x.value)) (lookup (f h) (map (renamed_live f g) xs))
    ≡ option_map g (cond b (Some x.value) (lookup h xs))) [
      | true ↦ refl
      | false ↦ lookup_renamed f g k h xs
    ])

change_one_renamed : {A : Type 0} (f : Handle → Handle) (g : A → A) (u v : A → A) → KeepsApart f → ((x : A) → u (g x) ≡ g (v x)) →
    (h : Handle) (x : Live A) → change_one (f h) u (renamed_live f g x) ≡ renamed_live f g (change_one h v x)
change_one_renamed f g u v k same h x =
    ap (λ y. record { handle = f x.handle; value = y })
    (rw (k.same x.handle h)
    (elim (same_handle x.handle h) as (λ b. cond b (u (g x.value)) (g x.value) ≡ g (cond b (v x.value) x.value)) [
      | true ↦ same x.value
      | false ↦ refl
    ]))

pub change_renamed : {A : Type 0} (f : Handle → Handle) (g : A → A) (u v : A → A) → KeepsApart f → ((x : A) → u (g x) ≡ g (v x)) →
    (h : Handle) (xs : List (Live A)) → change (f h) u (map (renamed_live f g) xs) ≡ map (renamed_live f g) (change h v xs)
change_renamed f g u v k same h xs =
    mapped_twice (change_one (f h) u) (renamed_live f g) (renamed_live f g) (change_one h v) (change_one_renamed f g u v k same h) xs

pub changed_renamed : {A : Type 0} (f : Handle → Handle) (g : A → A) (u v : A → A) → KeepsApart f → ((x : A) → u (g x) ≡ g (v x)) →
    (h : Handle) (t : Table A) → changed (f h) u (renamed_table f g t) ≡ renamed_table f g (changed h v t)
changed_renamed f g u v k same h t = ap (λ xs. record t { live = xs }) (change_renamed f g u v k same h t.live)

pub is_live_renamed : {A : Type 0} (f : Handle → Handle) (g : A → A) → KeepsApart f → (h : Handle) (t : Table A) →
    is_live (f h) (renamed_table f g t) ≡ is_live h t
is_live_renamed f g k h t =
    rw (lookup_renamed f g k h t.live)
    (elim (lookup h t.live) as (λ o. is_some (option_map g o) ≡ is_some o) [ Some x ↦ refl | None ↦ refl ])

pub is_live_or_none_renamed : {A : Type 0} (f : Handle → Handle) (g : A → A) → KeepsApart f → (o : Option Handle) (t : Table A) →
    is_live_or_none (option_map f o) (renamed_table f g t) ≡ is_live_or_none o t
is_live_or_none_renamed f g k None t = refl
is_live_or_none_renamed f g k (Some h) t = is_live_renamed f g k h t

pub is_full_renamed : {A : Type 0} (f : Handle → Handle) (g : A → A) (t : Table A) → is_full (renamed_table f g t) ≡ is_full t
is_full_renamed f g t = ap (λ n. nat_le t.limit n || nat_le top t.given) (length-map t.live (renamed_live f g))

pub with_new_renamed : {A : Type 0} (f : Handle → Handle) (g : A → A) (slot slot' : ℕ) (w : A) (t : Table A) →
    f (handle slot t.given) ≡ handle slot' t.given → with_new slot' (g w) (renamed_table f g t) ≡ renamed_table f g (with_new slot w t)
with_new_renamed f g slot slot' w t is =
    ap (λ xs. record { live = xs; given = t.given + 1; limit = t.limit })
    (ap (λ h. map (renamed_live f g) t.live ++ (record { handle = h; value = g w }) ∷ []) (sym is)
    ∙ sym (map-append (renamed_live f g) t.live ((record { handle = handle slot t.given; value = w }) ∷ [])))

pub without_renamed : {A : Type 0} (f : Handle → Handle) (g : A → A) → KeepsApart f → (h : Handle) (t : Table A) →
    without (f h) (renamed_table f g t) ≡ renamed_table f g (without h t)
without_renamed f g k h t =
    ap (λ xs. record t { live = xs })
    (filter_mapped (λ x. not (same_handle x.handle (f h))) (λ x. not (same_handle x.handle h)) (renamed_live f g)
    (λ x. ap not (k.same x.handle h)) t.live)
