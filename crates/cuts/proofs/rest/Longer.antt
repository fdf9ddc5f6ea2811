-- Histories that are longer by one step, and what a step's message tells.
use Rattle.std.proofs.Common.{ℕ, Bool, true, false, cond, ◌&&◌, ◌||◌, ◌≡◌, List, [], ◌∷◌, ◌++◌, refl, ap, ap₂, sym, Option, Some, None}
use Rattle.std.proofs.Common.{if◌then◌else◌, arith, count_by, eq-eqb}
use Rattle.std.proofs.lemmas.Bool.{ne_eqb}
use Rattle.ptl_types.specs.declared.headers.Header.{Header}
use Rattle.ptl_types.specs.Messages.{Sent, bytes_due}
use Rattle.ptl_types.specs.declared.headers.Lane.{Lane}
use Rattle.ptl_types.specs.declared.elements.AtomicOp.{AtomicOp}
use Rattle.cuts.specs.histories.History.{Beginning, Legal, Local, May, after, got, is_start, same_lane, state}
use Rattle.ptl_types.specs.Kinds.{is_no_ack, is_put_or_atomic}
use Rattle.ptl_types.specs.declared.headers.Lane.TheVariants.{Answer, Request}
use Rattle.ni_model.specs.State.{State}
use Rattle.ni_model.specs.Arrive.{answer, reply_header}
use Rattle.cuts.specs.view.TriggeredOps.{kind_for}
use Rattle.cuts.specs.histories.History.Local.{Fire, Receive, Start}
use Rattle.plan_core.proofs.Lists.{count-cons}
use Rattle.cuts.proofs.histories.Origin.{ack_with}
use Rattle.cuts.proofs.histories.Fronts.{flag}

pub legal_longer : (go : Beginning) (b : Bool) (s : State) (h : List Local) (e : Local) → Legal go b s h →
    May (flag b h) (state go s h) e → Legal go b s (h ++ e ∷ [])
legal_longer go b s [] e l m = (m, tt)
legal_longer go b s (x ∷ h) e l m = (l.0, legal_longer go (b || is_start x) (after go s x) h e l.1 m)

pub not_begun : (h : List Local) → count_by is_start h ≡ 0 → flag false h ≡ false
not_begun [] e = refl
not_begun (Start ∷ h) e = let k = count-cons is_start Start h in absurd (omega arith)
not_begun (Fire t ∷ h) e = not_begun h (let k = count-cons is_start (Fire t) h in omega arith)
not_begun (Receive s l m ∷ h) e = not_begun h (let k = count-cons is_start (Receive s l m) h in omega arith)

-- the sender of an answer is the target of what it answers
pub answer_source : (ok : Bool) (n : ℕ) (bs : List ℕ) (h : Header) (m : Sent) → answer ok n bs h ≡ Some m → m.header.source ≡ h.target
answer_source ok n bs h m e = at (is_put_or_atomic h.kind) (is_no_ack h.ack) e
  where
    one : {a b : Sent} → Some a ≡ Some b → a ≡ b
    one e = cc

    at : (a b : Bool) → (if a then (if b then None else Some (record { header = ack_with h.ack ok n h; bytes = [] })) else Some
        (record { header = reply_header ok n h; bytes = if ok then bs else [] })) ≡ Some m → m.header.source ≡ h.target
    at true true e = cc
    at true false e = sym (ap (λ (x : Sent). x.header.source) (one e))
    at false b e = sym (ap (λ (x : Sent). x.header.source) (one e))

pub kept_link : (o : Option AtomicOp) (hd : Header) → hd.kind ≡ kind_for o → hd.length ≡ bytes_due hd.kind hd.ok hd.length
kept_link None hd e = sym (ap (λ k. bytes_due k hd.ok hd.length) e)
kept_link (Some o) hd e = sym (ap (λ k. bytes_due k hd.ok hd.length) e)

pub same_lane-true : (l : Lane) → same_lane l l ≡ true
same_lane-true Request = refl
same_lane-true Answer = refl

pub got_one : (s : ℕ) (lane : Lane) (m : Sent) → got (Receive s lane m ∷ []) s lane ≡ m ∷ []
got_one s lane m = ap₂ (λ a b. cond (a && b) (m ∷ []) []) (eq-eqb s s refl) (same_lane-true lane)

pub got_other : (s t : ℕ) (l lane : Lane) (m : Sent) → (s ≡ t → ⊥) → got (Receive s l m ∷ []) t lane ≡ []
got_other s t l lane m n = ap (λ a. cond (a && same_lane l lane) (m ∷ []) []) (ne_eqb s t n)
