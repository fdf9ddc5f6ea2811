-- The kinds of cells that the steps use: each is sound, and what it holds.
use Rattle.std.proofs.Common.{ℕ, suc, Bool, true, false, ◌+◌, ◌*◌, ◌%◌, ◌≡◌, ◌≤◌, ◌<◌, ◌⊎◌, List, [], ◌∷◌, refl, length, map, flat_map}
use Rattle.std.proofs.Common.{replicate, ap, ◌∙◌, sym, subst, inl, inr, arith, Some, None, sum_by, eq-or-lt_of_le, nat_lt}
use Rattle.std.proofs.Math.Nat.{mul-le-mul_right}
use Rattle.std.proofs.lemmas.Bool.{ltb-true, ltb-false}
use Rattle.std.proofs.lemmas.List.{length-replicate}
use Rattle.std.proofs.lemmas.List.Sums.{sum_by-cons}
use Rattle.op_laws.proofs.Bytes.{length-combined, length-repeated, part_all, written_all}
use Rattle.plan_core.proofs.Links.{Distinct-from_to, from_to-In}
use Rattle.plan_core.proofs.Lists.{each}
use Rattle.plan_core.specs.Draw.{NewCell}
use Rattle.plan_core.specs.Members.{Distinct, In}
use Rattle.plan_core.specs.Plan.{from_to}
use Rattle.plan_core.specs.declared.Cell.{Cell}
use Rattle.plan_core.specs.declared.Incoming.{Incoming}
use Rattle.plan_steps.proofs.Grow.{length-from_to}
use Rattle.plan_steps.proofs.Parts.{written_turned}
use Rattle.coll_shape.specs.Folding.{folded}
use Rattle.plan_steps.specs.Sounding.{AllApart, FromAll, SoundIncoming, SoundNewCell, land_each, land_incoming, new_value, put_length}
use Rattle.plan_steps.specs.StepContext.{atomic, bump, put, put_whole}
use Rattle.ptl_types.specs.Elements.{combined, part, starting, written}
use Rattle.ptl_types.specs.Operations.{bytes_of}
use Rattle.ptl_types.specs.declared.elements.AtomicOp.{AtomicOp}
use Rattle.ptl_types.specs.declared.elements.ElemType.{ElemType}
use Rattle.ptl_types.specs.declared.elements.ElemType.TheVariants.{U8}

-- ---- single links
pub bump-sound : (k : ℕ → Cell) (c : ℕ) (n : NewCell) (s : ℕ) → n.op ≡ None → s < c → (k s).rank ≡ n.rank → SoundIncoming k c n (bump s)
bump-sound k c n s none lt stays = record {
  rising = lt;
  within_source = omega arith;
  within_target = omega arith;
  bump_stays =
      λ e. stays;
  bump_empty = λ e. refl;
  atomic_here = λ o e. cc;
  atomic_whole = λ e. cc;
  no_atomic = λ e f. cc;
}

pub put-sound : (k : ℕ → Cell) (c : ℕ) (n : NewCell) (m s from at : ℕ) → n.op ≡ None → s < c → from + m ≤ (k s).length →
    at + m ≤ n.length → SoundIncoming k c n (put m s from at)
put-sound k c n m s from at none lt source target = record {
  rising = lt;
  within_source = source;
  within_target = target;
  bump_stays =
      λ e. cc;
  bump_empty = λ e. cc;
  atomic_here = λ o e. cc;
  atomic_whole = λ e. cc;
  no_atomic = λ e f. cc;
}

pub atomic-sound : (k : ℕ → Cell) (c : ℕ) (n : NewCell) (o : AtomicOp) (s : ℕ) → n.op ≡ Some o → s < c → (k s).ty ≡ n.ty →
    (k s).length ≡ n.length → SoundIncoming k c n (atomic n.length s)
atomic-sound k c n o s some lt ty len = record {
  rising = lt;
  within_source = omega arith;
  within_target = omega arith;
  bump_stays =
      λ e. cc;
  bump_empty = λ e. cc;
  atomic_here = λ p e. refl;
  atomic_whole = λ e. (refl, refl, ty, len);
  no_atomic = λ e f. cc;
}

-- ---- a cell that is copied whole
abbrev pub taking : ElemType → ℕ → ℕ → ℕ → NewCell
taking ty n r t = record { rank = r; ty = ty; op = None; length = n; into = put_whole n t ∷ [] }

abbrev pub copying : ElemType → ℕ → ℕ → ℕ → ℕ → NewCell
copying ty n r a t = record { rank = r; ty = ty; op = None; length = n; into = bump a ∷ put_whole n t ∷ [] }

pub taking-sound : (ranks : ℕ) (k : ℕ → Cell) (c : ℕ) (ty : ElemType) (n r t : ℕ) → r < ranks → n % bytes_of ty ≡ 0 → t < c →
    (k t).length ≡ n → SoundNewCell ranks k c (taking ty n r t)
taking-sound ranks k c ty n r t known whole lt len = record {
  rank_known = known;
  whole = whole;
  some_link = omega arith;
  each_into = λ i j. elim j [
    | inl e ↦ subst (SoundIncoming k c (taking ty n r t)) e
        (put-sound k c (taking ty n r t) n t 0 0 refl lt (omega arith) (omega arith))
    | inr z ↦ absurd z
  ];
  apart = (tt, tt);
  covered = λ e. (let q = sum_by-cons put_length (put_whole n t) [] in omega (arith, q));
}

pub copying-sound : (ranks : ℕ) (k : ℕ → Cell) (c : ℕ) (ty : ElemType) (n r a t : ℕ) → r < ranks → n % bytes_of ty ≡ 0 → a < c →
    (k a).rank ≡ r → t < c → (k t).length ≡ n → SoundNewCell ranks k c (copying ty n r a t)
copying-sound ranks k c ty n r a t known whole lta stays lt len = record {
  rank_known = known;
  whole = whole;
  some_link = omega arith;
  each_into = λ i j. elim j [
    | inl e ↦ subst (SoundIncoming k c (copying ty n r a t)) e (bump-sound k c (copying ty n r a t) a refl lta stays)
    | inr (inl e) ↦ subst (SoundIncoming k c (copying ty n r a t)) e
        (put-sound k c (copying ty n r a t) n t 0 0 refl lt (omega arith) (omega arith))
    | inr (inr z) ↦ absurd z
  ];
  apart = (((λ e f. cc), tt), (tt, tt));
  covered = λ e. (let q = sum_by-cons put_length (bump a) (put_whole n t ∷ []) in let q' = sum_by-cons put_length (put_whole n t) [] in
      omega (arith, q, q'));
}

land_whole : (n : ℕ) (x : List ℕ) → length x ≡ n → written 0 (part 0 n x) (replicate n 0) ≡ x
land_whole n x e = ap (λ v. written 0 v (replicate n 0)) (part_all n x e) ∙ written_all x (replicate n 0) (e ∙ sym (length-replicate n 0))

pub taking-value : (ty : ElemType) (n r t : ℕ) (v : ℕ → List ℕ) → length (v t) ≡ n → new_value (taking ty n r t) v ≡ v t
taking-value ty n r t v e = land_whole n (v t) e

pub copying-value : (ty : ElemType) (n r a t : ℕ) (v : ℕ → List ℕ) → length (v t) ≡ n → new_value (copying ty n r a t) v ≡ v t
copying-value ty n r a t v e = land_whole n (v t) e

-- ---- a cell without data, for order alone
abbrev pub bumped : ℕ → ℕ → NewCell
bumped r a = record { rank = r; ty = U8; op = None; length = 0; into = bump a ∷ [] }

pub bumped-sound : (ranks : ℕ) (k : ℕ → Cell) (c r a : ℕ) → r < ranks → a < c → (k a).rank ≡ r → SoundNewCell ranks k c (bumped r a)
bumped-sound ranks k c r a known lta stays = record {
  rank_known = known;
  whole = refl;
  some_link = omega arith;
  each_into = λ i j. elim j [
    | inl e ↦ subst (SoundIncoming k c (bumped r a)) e (bump-sound k c (bumped r a) a refl lta stays)
    | inr z ↦
        absurd z
  ];
  apart = (tt, tt);
  covered = λ e. refl;
}

abbrev pub told : ℕ → ℕ → ℕ → NewCell
told r a t = record { rank = r; ty = U8; op = None; length = 0; into = bump a ∷ put 0 t 0 0 ∷ [] }

pub told-sound : (ranks : ℕ) (k : ℕ → Cell) (c r a t : ℕ) → r < ranks → a < c → (k a).rank ≡ r → t < c → SoundNewCell ranks k c (told r a t)
told-sound ranks k c r a t known lta stays lt = record {
  rank_known = known;
  whole = refl;
  some_link = omega arith;
  each_into = λ i j. elim j [
    | inl e ↦ subst (SoundIncoming k c (told r a t)) e (bump-sound k c (told r a t) a refl lta stays)
    | inr (inl e) ↦ subst (SoundIncoming k c (told r a t)) e (put-sound k c (told r a t) 0 t 0 0 refl lt (omega arith) (omega arith))
    | inr (inr z) ↦ absurd z
  ];
  apart = (((λ e f. cc), tt), (tt, tt));
  covered = λ e. refl;
}

-- ---- a cell that combines others
abbrev pub combining : AtomicOp → ElemType → ℕ → ℕ → List ℕ → NewCell
combining o ty n r cs = record { rank = r; ty = ty; op = Some o; length = n; into = map (atomic n) cs }

In-atomics : (n : ℕ) (cs : List ℕ) (i : Incoming) → In i (map (atomic n) cs) → (c : ℕ) × In c cs × (atomic n c ≡ i)
In-atomics n cs i h = Rattle.plan_core.proofs.Lists.In-map_cases (atomic n) i cs h

from_atomics : (n c : ℕ) (cs : List ℕ) → FromAll (atomic n c) (map (atomic n) cs)
from_atomics n c [] = tt
from_atomics n c (d ∷ cs) = ((λ e f. cc), from_atomics n c cs)

atomics_apart : (n : ℕ) (cs : List ℕ) → AllApart (map (atomic n) cs)
atomics_apart n [] = tt
atomics_apart n (c ∷ cs) = (from_atomics n c cs, atomics_apart n cs)

pub combining-sound : (ranks : ℕ) (k : ℕ → Cell) (c : ℕ) (o : AtomicOp) (ty : ElemType) (n r d : ℕ) (cs : List ℕ) → r < ranks →
    n % bytes_of ty ≡ 0 → ((s : ℕ) → In s (d ∷ cs) → (s < c) × ((k s).ty ≡ ty) × ((k s).length ≡ n)) →
    SoundNewCell ranks k c (combining o ty n r (d ∷ cs))
combining-sound ranks k c o ty n r d cs known whole from = record {
  rank_known = known;
  whole = whole;
  some_link = omega arith;
  each_into = λ i j. let q = In-atomics n (d ∷ cs) i j in let f = from q.0 q.1 in
      subst (SoundIncoming k c (combining o ty n r (d ∷ cs))) q.2 (atomic-sound k c (combining o ty n r (d ∷ cs)) o q.0 refl f.0 f.1 f.2);
  apart = atomics_apart n (d ∷ cs);
  covered = λ e. cc;
}

land_atomic : (o : AtomicOp) (ty : ElemType) (n r : ℕ) (is : List Incoming) (v : ℕ → List ℕ) (c : ℕ) (z : List ℕ) → n % bytes_of ty ≡ 0 →
    length (v c) ≡ n → length z ≡ n
    → land_incoming (record { rank = r; ty = ty; op = Some o; length = n; into = is }) v (atomic n c) z ≡ combined o ty z (v c)
land_atomic o ty n r is v c z w e f =
    let a = part_all n (v c) e in
    ap (λ b. written 0 (combined o ty (part 0 (length b) z) b) z) a
    ∙ ap (λ b. written 0 (combined o ty b (v c)) z) (ap (λ m. part 0 m z) e ∙ part_all n z f)
    ∙ written_all (combined o ty z (v c)) z (length-combined o ty z (v c) (ap (λ m. m % bytes_of ty) f ∙ w))

land_atomics : (o : AtomicOp) (ty : ElemType) (n r : ℕ) (is : List Incoming) (v : ℕ → List ℕ) (cs : List ℕ) (z : List ℕ) →
    n % bytes_of ty ≡ 0 → ((c : ℕ) → In c cs → length (v c) ≡ n) → length z ≡ n
    → land_each (record { rank = r; ty = ty; op = Some o; length = n; into = is }) v (map (atomic n) cs) z ≡ folded o ty (map v cs) z
land_atomics o ty n r is v [] z w e f = refl
land_atomics o ty n r is v (c ∷ cs) z w e f =
    ap (land_each (record { rank = r; ty = ty; op = Some o; length = n; into = is }) v (map (atomic n) cs))
    (land_atomic o ty n r is v c z w (e c (inl refl)) f)
    ∙ land_atomics o ty n r is v cs (combined o ty z (v c)) w (λ d i. e d (inr i))
    (length-combined o ty z (v c) (ap (λ m. m % bytes_of ty) f ∙ w) ∙ f)

pub combining-value : (o : AtomicOp) (ty : ElemType) (n r : ℕ) (cs : List ℕ) (v : ℕ → List ℕ) → n % bytes_of ty ≡ 0 →
    ((c : ℕ) → In c cs → length (v c) ≡ n) → new_value (combining o ty n r cs) v ≡ folded o ty (map v cs) (starting o ty n)
combining-value o ty n r cs v w e = land_atomics o ty n r (map (atomic n) cs) v cs (starting o ty n) w e (length-repeated o ty n w)

-- ---- a cell of m parts of n bytes: the part at place h d comes from cell f d, at g d
abbrev pub parts : ℕ → (ℕ → ℕ) → (ℕ → ℕ) → (ℕ → ℕ) → List ℕ → List Incoming
parts n f g h ds = map (λ d. put n (f d) (g d) (h d * n)) ds

abbrev pub gathering : ElemType → ℕ → ℕ → ℕ → ℕ → (ℕ → ℕ) → (ℕ → ℕ) → (ℕ → ℕ) → NewCell
gathering ty len n m r f g h = record { rank = r; ty = ty; op = None; length = len; into = parts n f g h (from_to 0 m) }

part_before : (n a b : ℕ) → a < b → a * n + n ≤ b * n
part_before n a b l = let e : suc a * n ≡ a * n + n = omega arith in let k = mul-le-mul_right n l in omega (arith, k, e)

from_parts : (n : ℕ) (f g h : ℕ → ℕ) (d : ℕ) (ds : List ℕ) → ((e : ℕ) → In e ds → h d ≡ h e → ⊥) →
    FromAll (put n (f d) (g d) (h d * n)) (parts n f g h ds)
from_parts n f g h d [] ne = tt
from_parts n f g h d (e ∷ ds) ne = ((λ a b. order (nat_lt (h d) (h e)) refl), from_parts n f g h d ds (λ x i. ne x (inr i)))
  where
    order : (t : Bool) → nat_lt (h d) (h e) ≡ t → (h d * n + n ≤ h e * n) ⊎ (h e * n + n ≤ h d * n)
    order true q = inl (part_before n (h d) (h e) (ltb-true _ _ q))
    order false q = elim (eq-or-lt_of_le (ltb-false _ _ q)) [
      | inl s ↦ absurd (ne e (inl refl) (sym s))
      | inr l ↦ inr
          (part_before n (h e) (h d) l)
    ]

parts_apart : (n : ℕ) (f g h : ℕ → ℕ) (ds : List ℕ) → Distinct ds → ((d e : ℕ) → In d ds → In e ds → h d ≡ h e → d ≡ e) →
    AllApart (parts n f g h ds)
parts_apart n f g h [] dis one = tt
parts_apart n f g h (d ∷ ds) dis one = (
  from_parts n f g h d ds (λ e i q. dis.0 (subst (λ x. In x ds) (sym (one d e (inl refl) (inr i) q)) i)),
  parts_apart n f g h ds dis.1 (λ a b i j. one a b (inr i) (inr j)),
)

parts_sum : (n : ℕ) (f g h : ℕ → ℕ) (ds : List ℕ) → sum_by put_length (parts n f g h ds) ≡ length ds * n
parts_sum n f g h [] = omega arith
parts_sum n f g h (d ∷ ds) = sum_by-cons put_length (put n (f d) (g d) (h d * n)) (parts n f g h ds)
    ∙ ap (λ x. n + x) (parts_sum n f g h ds) ∙ (let e : n + length ds * n ≡ suc (length ds) * n = omega arith in e)

pub gathering-sound : (ranks : ℕ) (k : ℕ → Cell) (c : ℕ) (ty : ElemType) (len n m r : ℕ) (f g h : ℕ → ℕ) → r < ranks →
    len % bytes_of ty ≡ 0 → len ≡ m * n → 0 < m
    → ((d : ℕ) → d < m → (f d < c) × (g d + n ≤ (k (f d)).length) × (h d < m)) → ((d e : ℕ) → d < m → e < m → h d ≡ h e → d ≡ e)
    → SoundNewCell ranks k c (gathering ty len n m r f g h)
gathering-sound ranks k c ty len n m r f g h known whole all pos from one = record {
  rank_known = known;
  whole = whole;
  some_link = (let a = Rattle.plan_core.proofs.Lists.length-map' (λ d. put n (f d) (g d) (h d * n)) (from_to 0 m) in let b =
      length-from_to 0 m in omega arith);
  each_into = λ i j. let q = Rattle.plan_core.proofs.Lists.In-map_cases (λ d. put n (f d) (g d) (h d * n)) i (from_to 0 m) j in let b =
      in_range q.0 q.1 in let w = from q.0 b in
      subst (SoundIncoming k c (gathering ty len n m r f g h)) q.2
      (put-sound k c (gathering ty len n m r f g h) n (f q.0) (g q.0) (h q.0 * n) refl w.0 w.1 (let l = part_before n (h q.0) m w.2 in
      omega (arith, l)));
  apart = parts_apart n f g h (from_to 0 m) (Distinct-from_to 0 m) (λ d e i j. one d e (in_range d i) (in_range e j));
  covered = λ e. parts_sum n f g h (from_to 0 m) ∙ ap (λ x. x * n) (length-from_to 0 m) ∙ sym all;
}
  where
    in_range : (a : ℕ) → In a (from_to 0 m) → a < m
    in_range a i = let q = from_to-In 0 m a i in omega arith

land_parts : (ty : ElemType) (len n r : ℕ) (is : List Incoming) (f g h : ℕ → ℕ) (v : ℕ → List ℕ) (y : ℕ → List ℕ) (ds : List ℕ)
    (z : List ℕ) → ((d : ℕ) → In d ds → part (g d) n (v (f d)) ≡ y (h d))
    → land_each (record { rank = r; ty = ty; op = None; length = len; into = is }) v (parts n f g h ds) z ≡ each
    (λ d z. written (h d * n) (y (h d)) z) ds z
land_parts ty len n r is f g h v y [] z e = refl
land_parts ty len n r is f g h v y (d ∷ ds) z e =
    ap (λ b. land_each (record { rank = r; ty = ty; op = None; length = len; into = is }) v (parts n f g h ds) (written (h d * n) b z))
    (e d (inl refl))
    ∙ land_parts ty len n r is f g h v y ds (written (h d * n) (y (h d)) z) (λ x i. e x (inr i))

pub gathering-value : (ty : ElemType) (len n m r : ℕ) (f g h : ℕ → ℕ) (v : ℕ → List ℕ) (y : ℕ → List ℕ) → len ≡ m * n →
    ((q : ℕ) → q < m → length (y q) ≡ n)
    → ((d : ℕ) → d < m → (h d < m) × (part (g d) n (v (f d)) ≡ y (h d))) → ((d e : ℕ) → d < m → e < m → h d ≡ h e → d ≡ e)
    → new_value (gathering ty len n m r f g h) v ≡ flat_map y (from_to 0 m)
gathering-value ty len n m r f g h v y all lens from one =
    land_parts ty len n r (parts n f g h (from_to 0 m)) f g h v y (from_to 0 m) (replicate len 0) (λ d i. (from d (in_range d i)).1)
    ∙ written_turned n y m h lens (λ d i. (from d i).0) one (replicate len 0) (length-replicate len 0 ∙ all)
  where
    in_range : (a : ℕ) → In a (from_to 0 m) → a < m
    in_range a i = let q = from_to-In 0 m a i in omega arith

-- ---- the same after an increment alone
abbrev pub gathering_after : ElemType → ℕ → ℕ → ℕ → ℕ → ℕ → (ℕ → ℕ) → (ℕ → ℕ) → (ℕ → ℕ) → NewCell
gathering_after ty len n m r a f g h = record { rank = r; ty = ty; op = None; length = len; into = bump a ∷ parts n f g h (from_to 0 m) }

from_bump : (a : ℕ) (is : List Incoming) → FromAll (bump a) is
from_bump a [] = tt
from_bump a (i ∷ is) = ((λ e f. cc), from_bump a is)

pub gathering_after-sound : (ranks : ℕ) (k : ℕ → Cell) (c : ℕ) (ty : ElemType) (len n m r a : ℕ) (f g h : ℕ → ℕ) → r < ranks →
    len % bytes_of ty ≡ 0 → len ≡ m * n → a < c → (k a).rank ≡ r
    → ((d : ℕ) → d < m → (f d < c) × (g d + n ≤ (k (f d)).length) × (h d < m)) → ((d e : ℕ) → d < m → e < m → h d ≡ h e → d ≡ e)
    → SoundNewCell ranks k c (gathering_after ty len n m r a f g h)
gathering_after-sound ranks k c ty len n m r a f g h known whole all lta stays from one = record {
  rank_known = known;
  whole = whole;
  some_link = omega arith;
  each_into = λ i j. elim j [
    | inl e ↦ subst (SoundIncoming k c (gathering_after ty len n m r a f g h)) e
        (bump-sound k c (gathering_after ty len n m r a f g h) a refl lta stays)
    | inr j ↦ (let q = Rattle.plan_core.proofs.Lists.In-map_cases (λ d. put n (f d) (g d) (h d * n)) i (from_to 0 m) j in let b =
        in_range q.0 q.1 in let w = from q.0 b in
        subst (SoundIncoming k c (gathering_after ty len n m r a f g h)) q.2
        (put-sound k c (gathering_after ty len n m r a f g h) n (f q.0) (g q.0) (h q.0 * n) refl w.0 w.1
        (let l = part_before n (h q.0) m w.2 in omega (arith, l))))
  ];
  apart = (
    from_bump a (parts n f g h (from_to 0 m)),
    parts_apart n f g h (from_to 0 m) (Distinct-from_to 0 m)
        (λ d e i j. one d e (in_range d i) (in_range e j)),
  );
  covered = λ e. (let u = sum_by-cons put_length (bump a) (parts n f g h (from_to 0 m)) in let v = parts_sum n f g h (from_to 0 m)
      ∙ ap (λ x. x * n) (length-from_to 0 m)
      ∙ sym all in omega (arith, u, v));
}
  where
    in_range : (a : ℕ) → In a (from_to 0 m) → a < m
    in_range a i = let q = from_to-In 0 m a i in omega arith

pub gathering_after-value : (ty : ElemType) (len n m r a : ℕ) (f g h : ℕ → ℕ) (v : ℕ → List ℕ) (y : ℕ → List ℕ) → len ≡ m * n →
    ((q : ℕ) → q < m → length (y q) ≡ n)
    → ((d : ℕ) → d < m → (h d < m) × (part (g d) n (v (f d)) ≡ y (h d))) → ((d e : ℕ) → d < m → e < m → h d ≡ h e → d ≡ e)
    → new_value (gathering_after ty len n m r a f g h) v ≡ flat_map y (from_to 0 m)
gathering_after-value ty len n m r a f g h v y all lens from one =
    land_parts ty len n r (bump a ∷ parts n f g h (from_to 0 m)) f g h v y (from_to 0 m) (replicate len 0)
    (λ d i. (from d (in_range d i)).1)
    ∙ written_turned n y m h lens (λ d i. (from d i).0) one (replicate len 0) (length-replicate len 0 ∙ all)
  where
    in_range : (a : ℕ) → In a (from_to 0 m) → a < m
    in_range a i = let q = from_to-In 0 m a i in omega arith
