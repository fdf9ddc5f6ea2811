-- What the descriptors name, by slot: as one is bound or released, and as one awaits more or fewer answers.
use Rattle.std.proofs.Common.{◌≡◌, ℕ, ◌<◌, ◌^◌, ◌-◌, Bool, true, false, ◌||◌, List, [], ◌∷◌, length, Option, Some, None, nat_lt, nat_le}
use Rattle.std.proofs.Common.{refl, ap, ◌∙◌, arith, replicate}
use Rattle.std.specs.Prelude.{All, IfSome}
use Rattle.std.proofs.lemmas.List.{length-replicate}
use Rattle.std.proofs.lemmas.Bool.Decides.{nat_tests}
use Rattle.std.proofs.lemmas.List.Elements.{All-head, All-tail}
use Rattle.ptl_types.specs.declared.handles.Handle.{Handle}
use Rattle.ptl_types.specs.declared.entries.Descriptor.{Descriptor}
use Rattle.ptl_types.specs.declared.calls.Limits.{Limits}
use Rattle.ni_model.specs.declared.Bound.{Bound}
use Rattle.ni_model.specs.Tables.{Live, Table, lookup, changed, with_new, without, no_things, handle, has_slot, is_full}
use Rattle.ni_model.specs.Answers.{awaits_less}
use Rattle.ni_model.specs.Starts.{awaits_more}
use Rattle.ni_model.specs.Calls.{bound}
use Rattle.ni_model.specs.Refusals.{md_names_ct, md_names_eq}
use Rattle.ni_objects.specs.users.Rows.{one_at, more, fewer, count_at, IsAlone}
use Rattle.ni_objects.specs.users.Sums.{sum_of}
use Rattle.ni_objects.proofs.users.RowLemmas.{counts-none, counts-more, counts-fewer, counts-same, more-long, fewer-long, add-room}
use Rattle.ni_objects.proofs.users.RowLemmas.{one-at_most, names-step}
use Rattle.ni_objects.proofs.users.SumLemmas.{sum-push, sum-less, sum-kept, sum-at_most, named-changed, once-new, once-without}
use Rattle.initiator_engine.specs.Initiators.{ct_users, eq_users, AreUsers}

abbrev by_ct : ℕ → Handle → Bound → ℕ
by_ct k h b = one_at b.md.ct k

abbrev by_eq : ℕ → Handle → Bound → ℕ
by_eq k h b = one_at b.md.eq k

pub users-none : (l : Limits) → AreUsers l (no_things l.mds) (replicate l.cts 0) (replicate l.eqs 0)
users-none l = record {
  cts_count = counts-none (ct_users (no_things l.mds)) l.cts (λ k. refl);
  eqs_count = counts-none (eq_users (no_things l.mds)) l.eqs (λ k. refl);
  cts_long = length-replicate l.cts 0;
  eqs_long = length-replicate l.eqs 0;
  once = λ h. omega arith;
}

-- ---- a descriptor is bound

pub users-bound : (l : Limits) (mds : Table Bound) (cts eqs : List ℕ) (slot : ℕ) (md : Descriptor) → AreUsers l mds cts eqs →
    has_slot slot mds.live ≡ false → AreUsers l (with_new slot (bound md) mds) (more md.ct cts) (more md.eq eqs)
users-bound l mds cts eqs slot md u free =
    let new : Live Bound = record { handle = handle slot mds.given; value = bound md } in
    record {
      cts_count = counts-more (ct_users mds) (ct_users (with_new slot (bound md) mds)) cts u.cts_count md.ct
          (λ k. sum-push (by_ct k) mds.live new);
      eqs_count = counts-more (eq_users mds) (eq_users (with_new slot (bound md) mds)) eqs u.eqs_count md.eq
          (λ k. sum-push (by_eq k) mds.live new);
      cts_long = more-long md.ct cts ∙ u.cts_long;
      eqs_long = more-long md.eq eqs ∙ u.eqs_long;
      once = once-new slot (bound md) mds u.once free;
    }

or-first : (a b : Bool) → (a || b) ≡ false → a ≡ false
or-first true b e = cc
or-first false b e = refl

-- there is room to count it
at_most-live : (mds : Table Bound) → is_full mds ≡ false → mds.limit < 2 ^ 32 → length mds.live < 2 ^ 64 - 1
at_most-live mds full small =
    let lt : nat_le mds.limit (length mds.live) ≡ false = or-first (nat_le mds.limit (length mds.live)) _ full in
    grind (arith, nat_tests)

pub users-ct-room : (l : Limits) (mds : Table Bound) (cts eqs : List ℕ) (o : Option Handle) → AreUsers l mds cts eqs →
    is_full mds ≡ false → mds.limit < 2 ^ 32 → IfSome o (λ h. count_at h.slot cts < 2 ^ 64 - 1)
users-ct-room l mds cts eqs o u full small = add-room (ct_users mds) (length mds.live) cts o u.cts_count
    (λ k. sum-at_most (by_ct k) mds.live (λ h b. one-at_most b.md.ct k)) (at_most-live mds full small)

pub users-eq-room : (l : Limits) (mds : Table Bound) (cts eqs : List ℕ) (o : Option Handle) → AreUsers l mds cts eqs →
    is_full mds ≡ false → mds.limit < 2 ^ 32 → IfSome o (λ h. count_at h.slot eqs < 2 ^ 64 - 1)
users-eq-room l mds cts eqs o u full small = add-room (eq_users mds) (length mds.live) eqs o u.eqs_count
    (λ k. sum-at_most (by_eq k) mds.live (λ h b. one-at_most b.md.eq k)) (at_most-live mds full small)

-- ---- a descriptor is released

pub users-released : (l : Limits) (mds : Table Bound) (cts eqs : List ℕ) (md : Handle) (b : Bound) → AreUsers l mds cts eqs →
    lookup md mds.live ≡ Some b → AreUsers l (without md mds) (fewer b.md.ct cts) (fewer b.md.eq eqs)
users-released l mds cts eqs md b u at = record {
  cts_count = counts-fewer (ct_users mds) (ct_users (without md mds)) cts u.cts_count b.md.ct
      (λ k. sum-less (by_ct k) md mds b (u.once md) at);
  eqs_count = counts-fewer (eq_users mds) (eq_users (without md mds)) eqs u.eqs_count b.md.eq
      (λ k. sum-less (by_eq k) md mds b (u.once md) at);
  cts_long = fewer-long b.md.ct cts ∙ u.cts_long;
  eqs_long = fewer-long b.md.eq eqs ∙ u.eqs_long;
  once = once-without md mds u.once;
}

-- ---- a descriptor changes, and names what it named

users-changed : (l : Limits) (mds : Table Bound) (cts eqs : List ℕ) (md : Handle) (g : Bound → Bound) → ((b : Bound) → (g b).md ≡ b.md) →
    AreUsers l mds cts eqs → AreUsers l (changed md g mds) cts eqs
users-changed l mds cts eqs md g same u = record {
  cts_count = counts-same (ct_users mds) (ct_users (changed md g mds)) cts u.cts_count
      (λ k. sum-kept (by_ct k) md g mds.live (λ h b. ap (λ (d : Descriptor). one_at d.ct k) (same b)));
  eqs_count = counts-same (eq_users mds) (eq_users (changed md g mds)) eqs u.eqs_count
      (λ k. sum-kept (by_eq k) md g mds.live (λ h b. ap (λ (d : Descriptor). one_at d.eq k) (same b)));
  cts_long = u.cts_long;
  eqs_long = u.eqs_long;
  once = λ h. omega (arith, named-changed h md g mds.live, u.once h);
}

pub users-awaiting : (l : Limits) (mds : Table Bound) (cts eqs : List ℕ) (home : Option Handle) → AreUsers l mds cts eqs →
    AreUsers l (awaits_more home mds) cts eqs
users-awaiting l mds cts eqs None u = u
users-awaiting l mds cts eqs (Some md) u = users-changed l mds cts eqs md _ (λ b. refl) u

pub users-answered : (l : Limits) (mds : Table Bound) (cts eqs : List ℕ) (home : Option Handle) → AreUsers l mds cts eqs →
    AreUsers l (awaits_less home mds) cts eqs
users-answered l mds cts eqs None u = u
users-answered l mds cts eqs (Some md) u = users-changed l mds cts eqs md _ (λ b. refl) u

-- ---- whether a descriptor names something is whether its slot has users

pub names-ct : (ct : Handle) (xs : List (Live Bound)) → All (λ (x : Live Bound). IsAlone ct x.value.md.ct) xs →
    md_names_ct ct xs ≡ nat_lt 0 (sum_of (by_ct ct.slot) xs)
names-ct ct [] alone = refl
names-ct ct (x ∷ xs) alone =
    names-step ct x.value.md.ct (md_names_ct ct xs) (sum_of (by_ct ct.slot) xs)
    (All-head (λ (x : Live Bound). IsAlone ct x.value.md.ct) x xs alone)
    (names-ct ct xs (All-tail (λ (x : Live Bound). IsAlone ct x.value.md.ct) x xs alone))

pub names-eq : (eq : Handle) (xs : List (Live Bound)) → All (λ (x : Live Bound). IsAlone eq x.value.md.eq) xs →
    md_names_eq eq xs ≡ nat_lt 0 (sum_of (by_eq eq.slot) xs)
names-eq eq [] alone = refl
names-eq eq (x ∷ xs) alone =
    names-step eq x.value.md.eq (md_names_eq eq xs) (sum_of (by_eq eq.slot) xs)
    (All-head (λ (x : Live Bound). IsAlone eq x.value.md.eq) x xs alone)
    (names-eq eq xs (All-tail (λ (x : Live Bound). IsAlone eq x.value.md.eq) x xs alone))
