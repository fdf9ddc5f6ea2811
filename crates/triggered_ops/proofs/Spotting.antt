-- That the marks and the count are those of the places, after each change of these.
use Rattle.std.proofs.Common.{◌≡◌, ℕ, suc, ◌+◌, ◌-◌, ◌<◌, ◌≤◌, ◌^◌, Bool, true, cond, List, [], ◌∷◌, ◌++◌, map, filter, length, take}
use Rattle.std.proofs.Common.{get_or, set, replicate, sum, Option, Some, None, refl, sym, ap, subst, ◌∙◌, inl, inr, arith, length-append}
use Rattle.std.proofs.Common.{length-set}
use Rattle.std.specs.Prelude.{is_some, slice_get}
use Rattle.std.specs.List.{swap}
use Rattle.std.proofs.Math.Seq.{set-append_seam}
use Rattle.std.proofs.lemmas.Bool.{cases_lt}
use Rattle.std.proofs.lemmas.List.{length-map, map-append, set-append_left, append_assoc, length-replicate, get_or-append_right}
use Rattle.std.proofs.lemmas.List.{get_or-replicate}
use Rattle.std.proofs.lemmas.List.Sums.{sum_by-append}
use Rattle.std.proofs.lemmas.List.Folds.{sum_by-replicate}
use Rattle.triggered_ops.specs.declared.spots.Spot.{Spot}
use Rattle.triggered_ops.specs.Operations.{Operation, is_due}
use Rattle.triggered_ops.specs.Layout.{numbers_of, operations_in, wait_with, wait_at, noted_due, emptied, mark_with, dues_of, AreGone}
use Rattle.triggered_ops.specs.Layout.{IsSpotted}
use Rattle.triggered_ops.proofs.Places.{changed-dues, changed-length, noted-length, noted-count, emptied-count, wait-within, wait-get}
use Rattle.triggered_ops.proofs.Places.{append-operations, count-first, count_with, sum-dues, due-found}
use Rattle.triggered_ops.proofs.Packing.{swap-dues, swap-length, swap-count, marked-take, take-value, taken-short}

-- ---- marks, and zeros behind
abbrev pub IsPadded : List ℕ → List ℕ → Type 0
IsPadded marks ds = marks ≡ ds ++ replicate (length marks - length ds) 0

pub padded-set : (marks ds : List ℕ) (p v : ℕ) → IsPadded marks ds → p < length ds → IsPadded (set marks p v) (set ds p v)
padded-set marks ds p v is lt =
    let n : length marks - length ds ≡ length (set marks p v) - length (set ds p v) =
    omega (arith, length-set marks p v, length-set ds p v) in
    ap (λ m. set m p v) is ∙ set-append_left ds (replicate (length marks - length ds) 0) p v lt ∙ ap (λ k. set ds p v ++ replicate k 0) n

pub padded-push : (marks ds : List ℕ) (v : ℕ) → IsPadded marks ds → length ds < length marks →
    IsPadded (set marks (length ds) v) (ds ++ v ∷ [])
padded-push marks ds v is lt =
    let n = length marks - suc (length ds) in
    let some : length marks - length ds ≡ suc n = omega (arith, lt) in
    let rest : n ≡ length (set marks (length ds) v) - length (ds ++ v ∷ []) =
    omega (arith, lt, length-set marks (length ds) v, length-append ds (v ∷ [])) in
    ap (λ m. set m (length ds) v) (is ∙ ap (λ k. ds ++ replicate k 0) some) ∙ set-append_seam ds 0 (replicate n 0) v
    ∙ sym (append_assoc ds (v ∷ []) (replicate n 0)) ∙ ap (λ k. (ds ++ v ∷ []) ++ replicate k 0) rest

pub padded-sum : (marks ds : List ℕ) → IsPadded marks ds → sum marks ≡ sum ds
padded-sum marks ds is =
    let n = length marks - length ds in
    let zeros = sum_by-replicate (λ (x : ℕ). x) n 0 in
    ap sum is ∙ sum_by-append (λ (x : ℕ). x) ds (replicate n 0) ∙ omega (arith, zeros)

pub padded-within : (marks ds : List ℕ) (p : ℕ) → IsPadded marks ds → p < length marks → get_or marks p 0 ≡ 1 → p < length ds
padded-within marks ds p is lt one = elim (cases_lt p (length ds)) [
  | inl lt ↦ lt
  | inr le ↦
      let n = length marks - length ds in
      let none : get_or marks p 0 ≡ 0 = ap (λ m. get_or m p 0) is ∙ get_or-append_right ds (replicate n 0) (length ds) p 0 refl le
      ∙ get_or-replicate n (p - length ds) 0 0 (omega (arith, lt, le)) in
      absurd (omega (arith, none, one))
]

module _ {D : Type 0} where
  marks-long : (ss : List (Spot D)) → length (dues_of ss) ≡ length ss
  marks-long ss = length-map ss (λ (s : Spot D). mark_with s.due s.action)

  some_mark : (v : Bool) (s : Spot D) (o : Option D) → is_some (wait_with s o) ≡ true → mark_with v o ≡ cond v 1 0
  some_mark v s None e = cc
  some_mark v s (Some d) e = refl

  none_mark : (v : Bool) (s : Spot D) (o : Option D) → wait_with s o ≡ None → mark_with v o ≡ 0
  none_mark v s None e = refl
  none_mark v s (Some d) e = cc

  -- with the places' own length
  padded : (marks : List ℕ) (ss : List (Spot D)) → marks ≡ dues_of ss ++ replicate (length marks - length ss) 0 →
      IsPadded marks (dues_of ss)
  padded marks ss is = is ∙ ap (λ n. dues_of ss ++ replicate (length marks - n) 0) (sym (marks-long ss))

  unpadded : (marks ds : List ℕ) (ss : List (Spot D)) → IsPadded marks ds → ds ≡ dues_of ss →
      marks ≡ dues_of ss ++ replicate (length marks - length ss) 0
  unpadded marks ds ss is e = subst (λ l. IsPadded marks l) e is ∙ ap (λ n. dues_of ss ++ replicate (length marks - n) 0) (marks-long ss)

  module _ (ss : List (Spot D)) (marks : List ℕ) (waiting room capacity : ℕ) (i : IsSpotted ss marks waiting room capacity) where
    is_padded : IsPadded marks (dues_of ss)
    is_padded = padded marks ss i.marked

    pub spot-within : (p : ℕ) → is_some (wait_at ss p) ≡ true → (p < length ss) × (p < length marks)
    spot-within p e = let lt = wait-within ss p e in (lt, omega (arith, lt, i.fits, i.long))

    pub spotted-noted : (p : ℕ) (v : Bool) → is_some (wait_at ss p) ≡ true → IsSpotted (noted_due p v ss) (set marks p (cond v 1 0))
        waiting room capacity
    spotted-noted p v e =
        let lt = wait-within ss p e in
        let dues : dues_of (noted_due p v ss) ≡ set (dues_of ss) p (cond v 1 0) = changed-dues (λ s. record s { due = v }) p (cond v 1 0) ss
        (λ s is. some_mark v s s.action (ap is_some is ∙ e)) in
        record {
          marked = unpadded (set marks p (cond v 1 0)) (set (dues_of ss) p (cond v 1 0)) (noted_due p v ss)
              (padded-set marks (dues_of ss) p (cond v 1 0) is_padded (omega (arith, lt, marks-long ss))) (sym dues);
          long = omega (arith, i.long, length-set marks p (cond v 1 0));
          counted = i.counted ∙ sym (noted-count p v ss);
          fits = omega (arith, i.fits, noted-length p v ss);
          enough = i.enough;
          at_most = i.at_most;
        }

    pub spotted-emptied : (p less : ℕ) → is_some (wait_at ss p) ≡ true → less + 1 ≡ waiting →
        IsSpotted (emptied p ss) (set marks p 0) less room capacity
    spotted-emptied p less e one =
        let lt = wait-within ss p e in
        let dues : dues_of (emptied p ss) ≡ set (dues_of ss) p 0 = changed-dues (λ s. record s { action = None }) p 0 ss (λ s is. refl) in
        record {
          marked = unpadded (set marks p 0) (set (dues_of ss) p 0) (emptied p ss)
              (padded-set marks (dues_of ss) p 0 is_padded (omega (arith, lt, marks-long ss))) (sym dues);
          long = omega (arith, i.long, length-set marks p 0);
          counted = omega (arith, i.counted, one, emptied-count p ss e);
          fits = omega (arith, i.fits, changed-length (λ (s : Spot D). record s { action = None }) p ss);
          enough = i.enough;
          at_most = i.at_most;
        }

    pub waits-some : (p : ℕ) → is_some (wait_at ss p) ≡ true → 1 ≤ waiting
    waits-some p e = omega (arith, i.counted, emptied-count p ss e)

    pub spotted-pushed : (s : Spot D) (d : D) (more : ℕ) → s.action ≡ Some d → length ss < room → more ≡ waiting + 1 →
        IsSpotted (ss ++ s ∷ []) (set marks (length ss) (cond s.due 1 0)) more room capacity
    spotted-pushed s d more full lt one =
        let v : ℕ = cond s.due 1 0 in
        let mark : mark_with s.due s.action ≡ v = ap (mark_with s.due) full in
        let dues : dues_of ss ++ v ∷ [] ≡ dues_of (ss ++ s ∷ []) = ap (λ m. dues_of ss ++ m ∷ []) (sym mark)
        ∙ sym (map-append (λ (s : Spot D). mark_with s.due s.action) ss (s ∷ [])) in
        let at : length (dues_of ss) ≡ length ss = marks-long ss in
        record {
          marked = unpadded (set marks (length ss) v) (dues_of ss ++ v ∷ []) (ss ++ s ∷ [])
              (subst (λ n. IsPadded (set marks n v) (dues_of ss ++ v ∷ [])) at
              (padded-push marks (dues_of ss) v is_padded (omega (arith, at, lt, i.long)))) dues;
          long = omega (arith, i.long, length-set marks (length ss) v);
          counted =
              let a = ap length (append-operations ss (s ∷ [])) in
              let b = length-append (operations_in ss) (operations_in (s ∷ [])) in
              let c = count-first s s.action [] in
              let e = ap (λ (o : Option D). count_with o) full in
              omega (arith, a, b, c, e, i.counted, one);
          fits = omega (arith, length-append ss (s ∷ []), lt);
          enough = i.enough;
          at_most = i.at_most;
        }

    pub spotted-swapped : (from to : ℕ) (d : Spot D) (v : Bool) → to < from → is_some (wait_at ss from) ≡ true → wait_at ss to ≡ None →
        (get_or ss from d).due ≡ v → IsSpotted (swap ss from to) (set (set marks from 0) to (cond v 1 0)) waiting room capacity
    spotted-swapped from to d v order full empty due =
        let lt = wait-within ss from full in
        let low : to < length ss = omega (arith, order, lt) in
        let none = none_mark (get_or ss to d).due (get_or ss to d) (get_or ss to d).action (sym (wait-get ss to d low) ∙ empty) in
        let some : mark_with (get_or ss from d).due (get_or ss from d).action ≡ cond v 1 0 =
        some_mark (get_or ss from d).due (get_or ss from d) (get_or ss from d).action (ap is_some (sym (wait-get ss from d lt))
        ∙ full) ∙ ap (λ b. cond b 1 0) due in
        let dues = swap-dues ss from to order lt d (cond v 1 0) none some in
        let first = padded-set marks (dues_of ss) from 0 is_padded (omega (arith, lt, marks-long ss)) in
        let second = padded-set (set marks from 0) (set (dues_of ss) from 0) to (cond v 1 0) first
        (omega (arith, low, marks-long ss, length-set (dues_of ss) from 0)) in
        record {
          marked = unpadded (set (set marks from 0) to (cond v 1 0)) (set (set (dues_of ss) from 0) to (cond v 1 0)) (swap ss from to)
              second (sym dues);
          long = omega (arith, i.long, length-set marks from 0, length-set (set marks from 0) to (cond v 1 0));
          counted = i.counted ∙ sym (swap-count ss from to order lt d);
          fits = omega (arith, i.fits, swap-length ss from to order lt d);
          enough = i.enough;
          at_most = i.at_most;
        }

    pub spotted-taken : (len cap : ℕ) → AreGone len ss → cap ≡ capacity → IsSpotted (take len ss) marks waiting room cap
    spotted-taken len cap g c = record {
      marked = marked-take marks ss len g (omega (arith, i.fits, i.long)) i.marked;
      long = i.long;
      counted = i.counted ∙ sym (ap length (take-value ss len g));
      fits = taken-short ss len room i.fits;
      enough = omega (arith, c, i.enough);
      at_most = i.at_most;
    }

    pub due-total : sum marks ≡ length (filter is_due (operations_in ss))
    due-total = padded-sum marks (dues_of ss) is_padded ∙ sum-dues ss

    pub due-place : (p i2 : ℕ) → p < length marks → sum (take p marks) ≡ i2 → get_or marks p 0 ≡ 1
        → (p < length ss) × (slice_get (map (λ (o : Operation D). o.number) (filter is_due (operations_in ss))) i2 ≡ Some
        (get_or (numbers_of ss) p 0))
    due-place p i2 lt before one =
        let within : p < length ss = let w = padded-within marks (dues_of ss) p is_padded lt one in omega (arith, w, marks-long ss) in
        let rest = replicate (length marks - length ss) 0 in (
          within,
          due-found ss rest p i2 (ap (λ m. sum (take p m)) (sym i.marked) ∙ before) (ap (λ m. get_or m p 0) (sym i.marked) ∙ one)
              within,
        )

-- none at first
pub spotted-none : {D : Type 0} (marks : List ℕ) (n room capacity : ℕ) → marks ≡ replicate n 0 → room ≤ n → room ≤ capacity →
    room ≤ 2 ^ 28 → IsSpotted {D = D} [] marks 0 room capacity
spotted-none marks n room capacity e le enough at_most =
    let long : length marks ≡ n = ap length e ∙ length-replicate n 0 in
    let all : n ≡ length marks - 0 = omega (arith, long) in
    record {
      marked = e ∙ ap (λ k. replicate k 0) all;
      long = omega (arith, long, le);
      counted = refl;
      fits = omega arith;
      enough = enough;
      at_most = at_most;
    }
