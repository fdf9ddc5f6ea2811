-- Beginnings of lists, and histories one move longer.
use Rattle.std.proofs.Common.{ℕ, Bool, true, false, cond, ◌&&◌, ◌≡◌, ◌==◌, List, [], ◌∷◌, ◌++◌, refl, length, ap, ◌∙◌, sym, subst, inl, inr}
use Rattle.std.proofs.Common.{filter, arith, append-nil, append_assoc, length-append, eq-eqb}
use Rattle.std.proofs.lemmas.Bool.{cases_eq, ne_eqb}
use Rattle.std.proofs.lemmas.List.{nil_from_length}
use Rattle.std.proofs.lemmas.List.Elements.{filter-append}
use Rattle.ptl_types.specs.Messages.{Sent}
use Rattle.ptl_types.specs.declared.headers.Lane.{Lane}
use Rattle.cuts.specs.histories.Cut.{IsPrefixOf}
use Rattle.cuts.specs.histories.History.{Beginning, Local, got, is_for, made, sent, state}
use Rattle.ni_model.specs.State.{State}
use Rattle.cuts.specs.histories.History.Local.{Start, Receive, Fire}
use Rattle.cuts.proofs.rest.Longer.{got_one, got_other}
use Rattle.cuts.proofs.histories.Fronts.{made-append}
use Rattle.ptl_types.specs.declared.headers.Lane.TheVariants.{Answer, Request}
use Rattle.cuts.specs.histories.System.{Histories, System, sent_by}
use Rattle.cuts.specs.orders.Taking.{Move, histories}

-- ---- beginnings
pub same-front : {X : Type 0} (front xs ys : List X) → front ++ xs ≡ front ++ ys → xs ≡ ys
same-front [] xs ys e = e
same-front (x ∷ front) xs ys e = same-front front xs ys (cc)

pub prefix-refl : {X : Type 0} (xs : List X) → IsPrefixOf xs xs
prefix-refl xs = ([], append-nil xs)

pub prefix-trans : {X : Type 0} (xs ys zs : List X) → IsPrefixOf xs ys → IsPrefixOf ys zs → IsPrefixOf xs zs
prefix-trans xs ys zs a b = (a.0 ++ b.0, sym (append_assoc xs a.0 b.0) ∙ ap (λ v. v ++ b.0) a.1 ∙ b.1)

pub prefix-both : {X : Type 0} (xs ys : List X) → IsPrefixOf xs ys → IsPrefixOf ys xs → xs ≡ ys
prefix-both xs ys a b =
    let m = ap length a.1 in
    let n = ap length b.1 in
    let p = length-append xs a.0 in
    let q = length-append ys b.0 in
    let e : a.0 ≡ [] = nil_from_length a.0 (omega arith) in
    sym (append-nil xs) ∙ ap (λ v. xs ++ v) (sym e) ∙ a.1

-- ---- what was sent grows with the history
pub sent-append : (go : Beginning) (s : State) (h more : List Local) (d : ℕ) (lane : Lane) →
    IsPrefixOf (sent go s h d lane) (sent go s (h ++ more) d lane)
sent-append go s h more d lane = (
  filter (is_for d lane) (made go (state go s h) more),
  sym (filter-append (is_for d lane) (made go s h) (made go (state go s h) more))
      ∙ ap (filter (is_for d lane)) (sym (made-append go s h more)),
)

pub sent-grows : (k : System) (w v : Histories) (s d : ℕ) (lane : Lane) → IsPrefixOf (w s) (v s) →
    IsPrefixOf (sent_by k w s d lane) (sent_by k v s d lane)
sent-grows k w v s d lane p = subst (λ h. IsPrefixOf (sent_by k w s d lane) (sent (k.go s) (k.first s) h d lane)) p.1
    (sent-append (k.go s) (k.first s) (w s) p.0 d lane)

-- ---- one move more
pub longer-here : (e : Move) (es : List Move) (r : ℕ) → e.rank ≡ r → histories (e ∷ es) r ≡ histories es r ++ e.step ∷ []
longer-here e es r h = ap (λ b. cond b (histories es r ++ e.step ∷ []) (histories es r)) (eq-eqb e.rank r h)

pub longer-else : (e : Move) (es : List Move) (r : ℕ) → (e.rank ≡ r → ⊥) → histories (e ∷ es) r ≡ histories es r
longer-else e es r h = ap (λ b. cond b (histories es r ++ e.step ∷ []) (histories es r)) (ne_eqb e.rank r h)

pub longer : (e : Move) (es : List Move) (r : ℕ) → IsPrefixOf (histories es r) (histories (e ∷ es) r)
longer e es r = elim (cases_eq e.rank r) [
  | inl h ↦ (e.step ∷ [], sym (longer-here e es r h))
  | inr h ↦ ([], append-nil (histories es r) ∙ sym (longer-else e es r h))
]

-- ---- what one step receives on a lane: nothing, or its message
pub got_only : (x : Local) (s : ℕ) (lane : Lane) (P : List Sent → Type 0) → P [] → ((m : Sent) → x ≡ Receive s lane m → P (m ∷ [])) →
    P (got (x ∷ []) s lane)
got_only Start s lane P none one = none
got_only (Fire t) s lane P none one = none
got_only (Receive t l m) s lane P none one = elim (cases_eq t s) [
  | inr n ↦ subst P (sym (got_other t s l lane m n)) none
  | inl e ↦ lanes l lane e one
]
  where
    apart : (b : Bool) → cond (b && false) (m ∷ []) [] ≡ []
    apart true = refl
    apart false = refl

    same : t ≡ s → (l : Lane) → P (m ∷ []) → P (got (Receive t l m ∷ []) s l)
    same e l p = subst P (sym (subst (λ q. got (Receive q l m ∷ []) s l ≡ m ∷ []) (sym e) (got_one s l m))) p

    lanes : (l to : Lane) → t ≡ s → ((n : Sent) → Receive t l m ≡ Receive s to n → P (n ∷ [])) → P (got (Receive t l m ∷ []) s to)
    lanes Request Request e one = same e Request (one m (ap (λ q. Receive q Request m) e))
    lanes Answer Answer e one = same e Answer (one m (ap (λ q. Receive q Answer m) e))
    lanes Request Answer e one = subst P (sym (apart (t == s))) none
    lanes Answer Request e one = subst P (sym (apart (t == s))) none
