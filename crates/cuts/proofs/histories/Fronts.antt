-- Histories in two parts, and what can follow where no operation is pending.
use Rattle.std.proofs.Common.{ℕ, Bool, true, false, cond, not, ◌&&◌, ◌||◌, ◌≡◌, ◌<◌, ◌==◌, List, [], ◌∷◌, ◌++◌, refl, length, ap, ap₂, ◌∙◌}
use Rattle.std.proofs.Common.{subst, inl, inr, find, Option, Some, None, arith, count_by, length-append}
use Rattle.std.proofs.lemmas.Bool.{not_from_false}
use Rattle.std.proofs.lemmas.List.{nil_from_length}
use Rattle.ptl_types.specs.Messages.{Sent}
use Rattle.ptl_types.specs.declared.headers.Lane.{Lane}
use Rattle.ptl_types.specs.Kinds.{is_answer}
use Rattle.ptl_types.specs.declared.headers.Lane.TheVariants.{Answer, Request}
use Rattle.plan_core.specs.Members.{In}
use Rattle.ni_model.specs.State.{Posted, State, target, Operations}
use Rattle.ni_model.specs.Ready.{is_ready, is_number, is_ready_op}
use Rattle.cuts.specs.histories.History.{Beginning, Legal, Local, after, and_then, got, is_for, is_start, made, made_by, same_lane, sent}
use Rattle.cuts.specs.histories.History.{state}
use Rattle.cuts.specs.histories.History.Local.{Fire, Receive, Start}
use Rattle.cuts.specs.histories.Cut.{is_stray, owned}
use Rattle.plan_core.proofs.Lists.{count-cons}
use Rattle.plan_core.proofs.Growth.{filter-none}
use Rattle.cuts.proofs.histories.Origin.{answer_kind, got_first, target_answers, target_stays}

-- ---- histories in two parts
pub state-append : (go : Beginning) (s : State) (h k : List Local) → state go s (h ++ k) ≡ state go (state go s h) k
state-append go s [] k = refl
state-append go s (e ∷ h) k = state-append go (after go s e) h k

pub made-append : (go : Beginning) (s : State) (h k : List Local) → made go s (h ++ k) ≡ made go s h ++ made go (state go s h) k
made-append go s [] k = refl
made-append go s (e ∷ h) k = at (made_by s e) (made-append go (after go s e) h k)
  where
    at : (o : Option Sent) → made go (after go s e) (h ++ k) ≡ made go (after go s e) h ++ made go (state go (after go s e) h) k →
        and_then o (made go (after go s e) (h ++ k)) ≡ and_then o (made go (after go s e) h) ++ made go (state go (after go s e) h) k
    at None q = q
    at (Some m) q = ap (λ v. m ∷ v) q

pub got-append : (h k : List Local) (s : ℕ) (lane : Lane) → got (h ++ k) s lane ≡ got h s lane ++ got k s lane
got-append [] k s lane = refl
got-append (Start ∷ h) k s lane = got-append h k s lane
got-append (Fire t ∷ h) k s lane = got-append h k s lane
got-append (Receive source l m ∷ h) k s lane = at ((source == s) && same_lane l lane) (got-append h k s lane)
  where
    at : (b : Bool) → got (h ++ k) s lane ≡ got h s lane ++ got k s lane → cond b (m ∷ got (h ++ k) s lane) (got (h ++ k) s lane) ≡ cond b
        (m ∷ got h s lane) (got h s lane) ++ got k s lane
    at true q = ap (λ v. m ∷ v) q
    at false q = q

-- whether there was a start
abbrev pub flag : Bool → List Local → Bool
flag b [] = b
flag b (e ∷ es) = flag (b || is_start e) es

pub legal-front : (go : Beginning) (b : Bool) (s : State) (h k : List Local) → Legal go b s (h ++ k) → Legal go b s h
legal-front go b s [] k l = tt
legal-front go b s (e ∷ h) k l = (l.0, legal-front go (b || is_start e) (after go s e) h k l.1)

pub legal-back : (go : Beginning) (b : Bool) (s : State) (h k : List Local) → Legal go b s (h ++ k) → Legal go (flag b h) (state go s h) k
legal-back go b s [] k l = l
legal-back go b s (e ∷ h) k l = legal-back go (b || is_start e) (after go s e) h k l.1

pub flag-true : (h : List Local) → flag true h ≡ true
flag-true [] = refl
flag-true (e ∷ h) = flag-true h

pub flag-started : (b : Bool) (h : List Local) → 0 < count_by is_start h → flag b h ≡ true
flag-started b [] l = absurd (omega arith)
flag-started b (Start ∷ h) l = ap (λ v. flag v h) (or_true b) ∙ flag-true h
  where
    or_true : (b : Bool) → (b || true) ≡ true
    or_true true = refl
    or_true false = refl
flag-started b (Fire t ∷ h) l = flag-started (b || false) h (let e = count-cons is_start (Fire t) h in omega arith)
flag-started b (Receive s m n ∷ h) l = flag-started (b || false) h (let e = count-cons is_start (Receive s m n) h in omega arith)

-- ---- after the fronts only receipts can follow
abbrev pub OnlyReceipts : List Local → Type 0
OnlyReceipts [] = Unit {0}
OnlyReceipts (Receive s l m ∷ es) = OnlyReceipts es
OnlyReceipts (_ ∷ es) = ⊥

pub only_receipts : (go : Beginning) (v : State) (es : List Local) → v.pending.waiting ≡ [] → Legal go true v es → OnlyReceipts es
only_receipts go v [] e l = tt
only_receipts go v (Start ∷ es) e l = let q = l.0 in cc
only_receipts go v (Fire t ∷ es) e l = let q = l.0 in let n : is_ready v t ≡ false =
    ap (λ (qs : List Posted). is_ready_op v.cts (find (is_number t) qs)) e in cc
only_receipts go v (Receive s lane m ∷ es) e l = only_receipts go (target v m).state es
    (ap (λ (ps : Operations). ps.waiting) (target_stays v m).pending ∙ e) l.1

-- receipts make answers alone, and only to requests
pub made-answers : (go : Beginning) (v : State) (es : List Local) → OnlyReceipts es → (m : Sent) → In m (made go v es) →
    is_answer m.header.kind ≡ true
made-answers go v [] o m i = absurd i
made-answers go v (Start ∷ es) o m i = absurd o
made-answers go v (Fire t ∷ es) o m i = absurd o
made-answers go v (Receive s lane x ∷ es) o m i = at ((target v x).delivered.answer) refl i (made-answers go (target v x).state es o m)
  where
    at : (q : Option Sent) → (target v x).delivered.answer ≡ q → In m (and_then q (made go (target v x).state es)) →
        (In m (made go (target v x).state es) → is_answer m.header.kind ≡ true) → is_answer m.header.kind ≡ true
    at None e i rest = rest i
    at (Some y) e (inr i) rest = rest i
    at (Some y) e (inl f) rest = let a = (target_answers v x y e).1 in subst (λ (u : Sent). is_answer u.header.kind ≡ true) f
        (answer_kind a.ok a.length a.bytes x.header y a.is)

pub no-requests : (go : Beginning) (v : State) (es : List Local) (d : ℕ) → OnlyReceipts es → sent go v es d Request ≡ []
no-requests go v es d o = filter-none (is_for d Request) (made go v es)
    (λ m i. at (m.header.target == d) (is_answer m.header.kind) (made-answers go v es o m i))
  where
    at : (b c : Bool) → c ≡ true → (b && not c) ≡ false
    at true true e = refl
    at true false e = cc
    at false c e = refl

-- without a request there is no answer
pub no-answers : (go : Beginning) (v : State) (es : List Local) (b : Bool) → OnlyReceipts es → Legal go b v es →
    ((s : ℕ) → got es s Request ≡ []) → made go v es ≡ []
no-answers go v [] b o l n = refl
no-answers go v (Start ∷ es) b o l n = absurd o
no-answers go v (Fire t ∷ es) b o l n = absurd o
no-answers go v (Receive s Request x ∷ es) b o l n = absurd (subst (λ xs. In x xs) (n s) (got_first s Request x es))
no-answers go v (Receive s Answer x ∷ es) b o l n = at ((target v x).delivered.answer) refl
    (no-answers go (target v x).state es (b || false) o l.1 (λ u. later u (n u)))
  where
    later : (u : ℕ) → got (Receive s Answer x ∷ es) u Request ≡ [] → got es u Request ≡ []
    later u e = pick (s == u) e
      where
        pick : (c : Bool) → cond (c && false) (x ∷ got es u Request) (got es u Request) ≡ [] → got es u Request ≡ []
        pick true e = e
        pick false e = e

    at : (q : Option Sent) → (target v x).delivered.answer ≡ q → made go (target v x).state es ≡ [] →
        and_then q (made go (target v x).state es) ≡ []
    at None e rest = rest
    at (Some y) e rest = absurd (both l.0.2 (target_answers v x y e).0)
      where
        both : {c : Bool} → c ≡ true → c ≡ false → ⊥
        both e i = cc

pub nothing-got : (es : List Local) → OnlyReceipts es → ((s : ℕ) (lane : Lane) → got es s lane ≡ []) → es ≡ []
nothing-got [] o n = refl
nothing-got (Start ∷ es) o n = absurd o
nothing-got (Fire t ∷ es) o n = absurd o
nothing-got (Receive s lane m ∷ es) o n = absurd (subst (λ xs. In m xs) (n s lane) (got_first s lane m es))

-- ---- lists
pub owned-all : (ms : List Sent) → ((m : Sent) → In m ms → is_stray m ≡ false) → owned ms ≡ ms
owned-all [] h = refl
owned-all (m ∷ ms) h = rw (not_from_false _ (h m (inl refl))) (ap (λ v. m ∷ v) (owned-all ms (λ x i. h x (inr i))))

pub same-front : {X : Type 0} (xs us ys vs : List X) → xs ++ us ≡ ys ++ vs → length xs ≡ length ys → xs ≡ ys
same-front [] us [] vs e l = refl
same-front [] us (y ∷ ys) vs e l = absurd (omega arith)
same-front (x ∷ xs) us [] vs e l = absurd (omega arith)
same-front {X} (x ∷ xs) us (y ∷ ys) vs e l = ap₂ (λ a b. a ∷ b) (head_one e) (same-front xs us ys vs (tail_one e) (omega arith))
  where
    head_one : {a b : X} {us : List X} {vs : List X} → a ∷ us ≡ b ∷ vs → a ≡ b
    head_one e = cc

    tail_one : {a b : X} {us : List X} {vs : List X} → a ∷ us ≡ b ∷ vs → us ≡ vs
    tail_one e = cc

-- a front with nothing after it
pub nothing-behind : {X : Type 0} (xs ys zs : List X) → (xs ++ ys) ++ zs ≡ xs → ys ≡ []
nothing-behind xs ys zs e = nil_from_length ys (let l = ap length e in let a = length-append (xs ++ ys) zs in let b =
    length-append xs ys in
    omega arith)

pub nil-left : {X : Type 0} (xs ys : List X) → xs ++ ys ≡ [] → xs ≡ []
nil-left xs ys e = nil_from_length xs (let l = ap length e in let a = length-append xs ys in omega arith)

pub nil-right : {X : Type 0} (xs ys : List X) → xs ++ ys ≡ [] → ys ≡ []
nil-right xs ys e = nil_from_length ys (let l = ap length e in let a = length-append xs ys in omega arith)
