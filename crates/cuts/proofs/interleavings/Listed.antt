-- A history is what is listed of it, the strays that it received, and what it received of each lane beside them.
use Rattle.std.proofs.Common.{ℕ, suc, Bool, true, false, cond, not, ◌&&◌, ◌==◌, ◌≡◌, List, [], ◌∷◌, refl, length, map, ap, ap₂, ◌∙◌}
use Rattle.std.proofs.Common.{sym, Option, Some, None, if◌then◌else◌}
use Rattle.ptl_types.specs.Messages.{Sent}
use Rattle.ptl_types.specs.declared.headers.Lane.{Lane}
use Rattle.ptl_types.specs.declared.steps.LocalStep.{LocalStep}
use Rattle.ptl_types.specs.declared.steps.LocalStep.TheVariants.{Receive as Receives, Fire as Fires}
use Rattle.cuts.specs.histories.Cut.{is_stray, owned}
use Rattle.cuts.specs.histories.History.{Local, got, same_lane}
use Rattle.cuts.specs.histories.History.Local.{Fire, Receive, Start}
use Rattle.cuts.proofs.rest.Longer.{got_one}
use Rattle.cuts.specs.orders.Taking.{listed}
use Rattle.cuts.specs.interleavings.Open.{stray_in}

-- ---- how much was received of a lane beside strays, from what is listed and told
abbrev unless_stray : Bool → Option Sent → Bool
unless_stray b None = b
unless_stray b (Some m) = false

abbrev comes_by : ℕ → Lane → LocalStep → Option Sent → Bool
comes_by s lane (Receives q l) o = unless_stray ((q == s) && same_lane l lane) o
comes_by s lane _ o = false

abbrev told_by : ℕ → Lane → List LocalStep → List (Option Sent) → ℕ
told_by s lane [] os = 0
told_by s lane (x ∷ xs) [] = 0
told_by s lane (x ∷ xs) (o ∷ os) = if comes_by s lane x o then suc (told_by s lane xs os) else told_by s lane xs os

owned-told : (s : ℕ) (lane : Lane) (es : List Local) → length (owned (got es s lane)) ≡ told_by s lane (map listed es) (map stray_in es)
owned-told s lane [] = refl
owned-told s lane (Start ∷ es) = owned-told s lane es
owned-told s lane (Fire t ∷ es) = owned-told s lane es
owned-told s lane (Receive q l m ∷ es) = at ((q == s) && same_lane l lane) (is_stray m) refl (owned-told s lane es)
  where
    at : (a b : Bool) → is_stray m ≡ b → length (owned (got es s lane)) ≡ told_by s lane (map listed es) (map stray_in es)
        → length (owned (cond a (m ∷ got es s lane) (got es s lane))) ≡ (if unless_stray a (if b then Some m else None)
        then suc (told_by s lane (map listed es) (map stray_in es)) else told_by s lane (map listed es) (map stray_in es))
    at true true e rest = ap (λ b. length (cond (not b) (m ∷ owned (got es s lane)) (owned (got es s lane)))) e ∙ rest
    at true false e rest = ap (λ b. length (cond (not b) (m ∷ owned (got es s lane)) (owned (got es s lane)))) e ∙ ap suc rest
    at false true e rest = rest
    at false false e rest = rest

pub same_sizes : (s : ℕ) (lane : Lane) (es fs : List Local) → map listed es ≡ map listed fs → map stray_in es ≡ map stray_in fs
    → length (owned (got es s lane)) ≡ length (owned (got fs s lane))
same_sizes s lane es fs same strays = owned-told s lane es ∙ ap₂ (told_by s lane) same strays ∙ sym (owned-told s lane fs)

-- ---- from lanes to histories
head_one : {X : Type 0} {a b : X} {xs ys : List X} → a ∷ xs ≡ b ∷ ys → a ≡ b
head_one e = cc

tail_one : {X : Type 0} {a b : X} {xs ys : List X} → a ∷ xs ≡ b ∷ ys → xs ≡ ys
tail_one e = cc

-- the first receipt of a lane, where it is no stray
first_own : (s : ℕ) (lane : Lane) (m : Sent) (es : List Local) → is_stray m ≡ false
    → owned (got (Receive s lane m ∷ es) s lane) ≡ m ∷ owned (got es s lane)
first_own s lane m es e =
    ap owned (at ((s == s) && same_lane lane lane) (got_one s lane m))
    ∙ ap (λ b. cond (not b) (m ∷ owned (got es s lane)) (owned (got es s lane))) e
  where
    at : (b : Bool) → cond b (m ∷ []) [] ≡ m ∷ [] → cond b (m ∷ got es s lane) (got es s lane) ≡ m ∷ got es s lane
    at true e = refl
    at false e = cc

-- the same step less on both sides leaves the same of each lane
less_one : (e : Local) (es fs : List Local) (s : ℕ) (lane : Lane) → owned (got (e ∷ es) s lane) ≡ owned (got (e ∷ fs) s lane)
    → owned (got es s lane) ≡ owned (got fs s lane)
less_one Start es fs s lane h = h
less_one (Fire t) es fs s lane h = h
less_one (Receive q l m) es fs s lane h = at ((q == s) && same_lane l lane) h
  where
    pick : (b : Bool) → cond b (m ∷ owned (got es s lane)) (owned (got es s lane))
        ≡ cond b (m ∷ owned (got fs s lane)) (owned (got fs s lane)) → owned (got es s lane) ≡ owned (got fs s lane)
    pick true h = tail_one h
    pick false h = h

    at : (b : Bool) → owned (cond b (m ∷ got es s lane) (got es s lane)) ≡ owned (cond b (m ∷ got fs s lane) (got fs s lane))
        → owned (got es s lane) ≡ owned (got fs s lane)
    at true h = pick (not (is_stray m)) h
    at false h = h

-- steps that are listed alike are one where they receive the same stray, or the first of one lane
same_message : (s : ℕ) (lane : Lane) (m n : Sent) (es fs : List Local) → stray_in (Receive s lane m) ≡ stray_in (Receive s lane n)
    → owned (got (Receive s lane m ∷ es) s lane) ≡ owned (got (Receive s lane n ∷ fs) s lane) → m ≡ n
same_message s lane m n es fs strays lanes = at (is_stray m) (is_stray n) refl refl strays
  where
    at : (a b : Bool) → is_stray m ≡ a → is_stray n ≡ b → (if a then Some m else None) ≡ (if b then Some n else None) → m ≡ n
    at true true x y e = cc
    at false false x y e = head_one (sym (first_own s lane m es x) ∙ lanes ∙ first_own s lane n fs y)
    at true false x y e = cc
    at false true x y e = cc

same_first : (x y : Local) (es fs : List Local) → listed x ≡ listed y → stray_in x ≡ stray_in y
    → ((s : ℕ) (lane : Lane) → owned (got (x ∷ es) s lane) ≡ owned (got (y ∷ fs) s lane)) → x ≡ y
same_first Start Start es fs e i lanes = refl
same_first (Fire t) (Fire u) es fs e i lanes = ap Fire (let q : Fires t ≡ Fires u = e in cc)
same_first (Receive s l m) (Receive q k n) es fs e i lanes =
    let z : Receives s l ≡ Receives q k = e in
    let a : s ≡ q = cc in
    let b : l ≡ k = cc in
    ap₂ (λ x y. Receive x y m) a b
    ∙ ap (Receive q k) (same_message q k m n es fs i (ap₂ (λ x y. owned (got (Receive x y m ∷ es) q k)) (sym a) (sym b) ∙ lanes q k))
same_first Start (Fire u) es fs e i lanes = cc
same_first Start (Receive q k n) es fs e i lanes = cc
same_first (Fire t) Start es fs e i lanes = cc
same_first (Fire t) (Receive q k n) es fs e i lanes = cc
same_first (Receive s l m) Start es fs e i lanes = cc
same_first (Receive s l m) (Fire u) es fs e i lanes = cc

pub one_history : (es fs : List Local) → map listed es ≡ map listed fs → map stray_in es ≡ map stray_in fs
    → ((s : ℕ) (lane : Lane) → owned (got es s lane) ≡ owned (got fs s lane)) → es ≡ fs
one_history [] [] same strays lanes = refl
one_history [] (y ∷ fs) same strays lanes = cc
one_history (x ∷ es) [] same strays lanes = cc
one_history (x ∷ es) (y ∷ fs) same strays lanes =
    let e = same_first x y es fs (head_one same) (head_one strays) lanes in
    ap₂ (λ a b. a ∷ b) e
    (one_history es fs (tail_one same) (tail_one strays) (λ s lane. less_one x es fs s lane (lanes s lane
    ∙ ap (λ z. owned (got (z ∷ fs) s lane)) (sym e))))
