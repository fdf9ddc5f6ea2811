-- Cells that take a part of another one, and lists of cells cut where the first part ends.
use Rattle.std.proofs.Common.{ℕ, suc, ◌+◌, ◌*◌, ◌/◌, ◌%◌, ◌≡◌, ◌≤◌, ◌<◌, List, [], ◌∷◌, ◌++◌, refl, length, replicate, None, ◌∙◌, sym}
use Rattle.std.proofs.Common.{subst, inl, inr, arith}
use Rattle.op_laws.proofs.Bytes.{length-part, written_all}
use Rattle.plan_core.specs.Draw.{NewCell}
use Rattle.plan_core.specs.declared.Cell.{Cell}
use Rattle.plan_steps.proofs.CellKinds.{bump-sound, put-sound}
use Rattle.plan_steps.proofs.Drawn.{each_append, each_back, each_front}
use Rattle.plan_steps.specs.StepContext.{bump, put}
use Rattle.plan_steps.specs.Sounding.{EachAt, SoundIncoming, SoundNewCell, new_value, put_length}
use Rattle.ptl_types.specs.Elements.{part, written}
use Rattle.ptl_types.specs.Operations.{bytes_of}
use Rattle.ptl_types.specs.declared.elements.ElemType.{ElemType}
use Rattle.std.proofs.Math.Nat.{mul-le-mul_right}
use Rattle.std.proofs.lemmas.List.{length-replicate}
use Rattle.std.proofs.lemmas.List.Sums.{sum_by-cons}

-- ---- a part of another cell, with and without an increment before it
abbrev pub cutting : ElemType → ℕ → ℕ → ℕ → ℕ → NewCell
cutting ty n r t from = record { rank = r; ty = ty; op = None; length = n; into = put n t from 0 ∷ [] }

abbrev pub cutting_after : ElemType → ℕ → ℕ → ℕ → ℕ → ℕ → NewCell
cutting_after ty n r a t from = record { rank = r; ty = ty; op = None; length = n; into = bump a ∷ put n t from 0 ∷ [] }

pub cutting-sound : (ranks : ℕ) (k : ℕ → Cell) (c : ℕ) (ty : ElemType) (n r t from : ℕ) → r < ranks → n % bytes_of ty ≡ 0 → t < c →
    from + n ≤ (k t).length → SoundNewCell ranks k c (cutting ty n r t from)
cutting-sound ranks k c ty n r t from known whole lt fits = record {
  rank_known = known;
  whole = whole;
  some_link = omega arith;
  each_into = λ i j. elim j [
    | inl e ↦ subst (SoundIncoming k c (cutting ty n r t from)) e
        (put-sound k c (cutting ty n r t from) n t from 0 refl lt fits (omega arith))
    | inr z ↦ absurd z
  ];
  apart = (tt, tt);
  covered = λ e. (let q = sum_by-cons put_length (put n t from 0) [] in omega (arith, q));
}

pub cutting_after-sound : (ranks : ℕ) (k : ℕ → Cell) (c : ℕ) (ty : ElemType) (n r a t from : ℕ) → r < ranks → n % bytes_of ty ≡ 0 →
    a < c → (k a).rank ≡ r → t < c → from + n ≤ (k t).length → SoundNewCell ranks k c (cutting_after ty n r a t from)
cutting_after-sound ranks k c ty n r a t from known whole lta stays lt fits = record {
  rank_known = known;
  whole = whole;
  some_link = omega arith;
  each_into = λ i j. elim j [
    | inl e ↦ subst (SoundIncoming k c (cutting_after ty n r a t from)) e (bump-sound k c (cutting_after ty n r a t from) a refl lta stays)
    | inr (inl e) ↦ subst (SoundIncoming k c (cutting_after ty n r a t from)) e
        (put-sound k c (cutting_after ty n r a t from) n t from 0 refl lt fits (omega arith))
    | inr (inr z) ↦ absurd z
  ];
  apart = (((λ e f. cc), tt), (tt, tt));
  covered = λ e. (let q = sum_by-cons put_length (bump a) (put n t from 0 ∷ []) in let q' = sum_by-cons put_length (put n t from 0) [] in
      omega (arith, q, q'));
}

land_part : (n from : ℕ) (x : List ℕ) → from + n ≤ length x → written 0 (part from n x) (replicate n 0) ≡ part from n x
land_part n from x h = written_all (part from n x) (replicate n 0) (length-part from n x h ∙ sym (length-replicate n 0))

pub cutting-value : (ty : ElemType) (n r t from : ℕ) (v : ℕ → List ℕ) → from + n ≤ length (v t) →
    new_value (cutting ty n r t from) v ≡ part from n (v t)
cutting-value ty n r t from v h = land_part n from (v t) h

pub cutting_after-value : (ty : ElemType) (n r a t from : ℕ) (v : ℕ → List ℕ) → from + n ≤ length (v t) →
    new_value (cutting_after ty n r a t from) v ≡ part from n (v t)
cutting_after-value ty n r a t from v h = land_part n from (v t) h

-- block r of m blocks lies within them
pub within : (m n r : ℕ) → r < m → n ≡ m * (n / m) → r * (n / m) + n / m ≤ n
within m n r h all =
    let e : suc r * (n / m) ≡ r * (n / m) + n / m = omega arith in
    let l = mul-le-mul_right (n / m) h in
    omega (arith, e, l, all)

-- two lists of cells, the first of which is known to be long
pub front_of : (P : ℕ → NewCell → Type 0) (c : ℕ) (all xs ys : List NewCell) → all ≡ xs ++ ys → EachAt P c all → EachAt P c xs
front_of P c all xs ys e h = each_front P c xs ys (subst (λ v. EachAt P c v) e h)

pub back_of : (P : ℕ → NewCell → Type 0) (c d : ℕ) (all xs ys : List NewCell) → all ≡ xs ++ ys → c + length xs ≡ d
    → EachAt P c all → EachAt P d ys
back_of P c d all xs ys e n h = subst (λ v. EachAt P v ys) n (each_back P c xs ys (subst (λ v. EachAt P c v) e h))

pub whole_of : (P : ℕ → NewCell → Type 0) (c d : ℕ) (all xs ys : List NewCell) → all ≡ xs ++ ys → c + length xs ≡ d
    → EachAt P c xs → EachAt P d ys → EachAt P c all
whole_of P c d all xs ys e n h g = subst (λ v. EachAt P c v) (sym e) (each_append P c xs ys h (subst (λ v. EachAt P v ys) (sym n) g))
