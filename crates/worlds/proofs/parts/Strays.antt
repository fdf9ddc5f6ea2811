-- Strays in lists of messages and in histories.
use Rattle.std.proofs.Common.{ℕ, suc, Bool, true, false, cond, not, ◌+◌, ◌≤◌, ◌≡◌, List, [], ◌∷◌, ◌++◌, length, count_by, refl, ap, inl}
use Rattle.std.proofs.Common.{inr, arith, length-append}
use Rattle.ptl_types.specs.Messages.{Sent}
use Rattle.plan_core.specs.Members.{In}
use Rattle.plan_core.proofs.Lists.{count-append, count-cons}
use Rattle.cuts.specs.histories.Cut.{is_stray, owned}
use Rattle.cuts.specs.histories.History.{Local}
use Rattle.cuts.specs.histories.History.Local.{Start, Receive, Fire}
use Rattle.rank_node.specs.of_plan.Ranks.{AreShort}

-- a list is its strays and the others
pub owned_and_strays : (ms : List Sent) → length ms ≡ length (owned ms) + count_by is_stray ms
owned_and_strays [] = refl
owned_and_strays (m ∷ ms) = at (is_stray m) refl (owned_and_strays ms)
  where
    at : (b : Bool) → is_stray m ≡ b → length ms ≡ length (owned ms) + count_by is_stray ms →
        suc (length ms) ≡ length (cond (not b) (m ∷ owned ms) (owned ms)) + count_by is_stray (m ∷ ms)
    at true e h = let c = count-cons is_stray m ms in let one = ap (λ x. cond {A = ℕ} x 1 0) e in omega arith
    at false e h = let c = count-cons is_stray m ms in let none = ap (λ x. cond {A = ℕ} x 1 0) e in omega arith

pub none_count : (ms : List Sent) → ((m : Sent) → In m ms → is_stray m ≡ false) → count_by is_stray ms ≡ 0
none_count [] h = refl
none_count (m ∷ ms) h =
    let a = count-cons is_stray m ms in
    let b = ap (λ x. cond {A = ℕ} x 1 0) (h m (inl refl)) in
    let c = none_count ms (λ x i. h x (inr i)) in
    omega arith

-- one message of the plan more
pub clean_more : (ms : List Sent) (m : Sent) → is_stray m ≡ false → count_by is_stray (ms ++ m ∷ []) ≡ count_by is_stray ms
clean_more ms m clean =
    let a = count-append is_stray ms (m ∷ []) in
    let b = ap (λ x. cond {A = ℕ} x 1 0) clean in
    let c = count-cons is_stray m [] in
    omega arith

-- one step more
pub short_more : (es : List Local) (e : Local) → AreShort es → AreShort (e ∷ []) → AreShort (es ++ e ∷ [])
short_more [] e a b = b
short_more (Start ∷ es) e a b = short_more es e a b
short_more (Fire t ∷ es) e a b = short_more es e a b
short_more (Receive s lane m ∷ es) e a b = (a.0, short_more es e a.1 b)

-- one message more, of the plan or not
pub owned_more : (ms : List Sent) (m : Sent) → length (owned (ms ++ m ∷ [])) ≤ length ms + 1
owned_more ms m = let a = owned_and_strays (ms ++ m ∷ []) in let b = length-append ms (m ∷ []) in omega (arith, a, b)

-- one stray more
pub stray_more : (ms : List Sent) (m : Sent) → is_stray m ≡ true → count_by is_stray (ms ++ m ∷ []) ≡ count_by is_stray ms + 1
stray_more ms m stray =
    let a = count-append is_stray ms (m ∷ []) in
    let b = ap (λ x. cond {A = ℕ} x 1 0) stray in
    let c = count-cons is_stray m [] in
    omega arith

pub owned_same : (ms : List Sent) (m : Sent) → is_stray m ≡ true → length (owned (ms ++ m ∷ [])) ≡ length (owned ms)
owned_same ms m stray =
    let a = owned_and_strays (ms ++ m ∷ []) in
    let b = owned_and_strays ms in
    let c = stray_more ms m stray in
    let e = length-append ms (m ∷ []) in
    omega (arith, a, b, c, e)
