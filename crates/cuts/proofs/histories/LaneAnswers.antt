-- In a legal history a rank answers each request at most once, and only to its sender.
use Rattle.std.proofs.Common.{ℕ, suc, Bool, true, false, cond, ◌||◌, ◌&&◌, ◌==◌, ◌≡◌, ◌≤◌, List, [], ◌∷◌, refl, length, ap, ap₂, ◌∙◌, sym}
use Rattle.std.proofs.Common.{subst, arith, filter, Option, Some, None, eqb-true, eq-eqb, if◌then◌else◌, zero-le}
use Rattle.std.proofs.lemmas.Bool.{and_parts, and_right}
use Rattle.ptl_types.specs.declared.headers.Header.{Header}
use Rattle.ptl_types.specs.declared.headers.Lane.{Lane}
use Rattle.ptl_types.specs.declared.headers.Lane.TheVariants.{Answer, Request}
use Rattle.ptl_types.specs.Messages.{Sent, message}
use Rattle.ptl_types.specs.Kinds.{is_answer, is_no_ack, is_put_or_atomic}
use Rattle.ni_model.specs.Arrive.{ack_header, answer, reply_header}
use Rattle.ni_model.specs.State.{State}
use Rattle.plan_core.specs.Plan.{Plan}
use Rattle.cuts.specs.view.Slots.{Slots}
use Rattle.cuts.specs.histories.History.{Beginning, Legal, Local, after, and_then, got, is_for, is_lane, made, made_by, same_lane}
use Rattle.cuts.specs.histories.History.Local.{Fire, Receive, Start}
use Rattle.cuts.proofs.histories.Origin.{IsOf, after_of, fired_link, from_link-request, some_one, target_answers}

-- an answer goes back to where the request came from
pub answer_target : (ok : Bool) (n : ℕ) (bs : List ℕ) (h : Header) (m : Sent) → answer ok n bs h ≡ Some m → m.header.target ≡ h.source
answer_target ok n bs h m e = at (is_put_or_atomic h.kind) (is_no_ack h.ack) e
  where
    at : (a b : Bool) → (if a then (if b then None else Some (message (ack_header ok n h) [])) else Some
        (message (reply_header ok n h) (if ok then bs else []))) ≡ Some m → m.header.target ≡ h.source
    at true true e = cc
    at true false e = sym (ap (λ (x : Sent). x.header.target) (some_one e))
    at false b e = sym (ap (λ (x : Sent). x.header.target) (some_one e))

both : {b : Bool} → b ≡ true → b ≡ false → ⊥
both e i = cc

pub few_answers : (p : Plan) (s : Slots) (r : ℕ) (go : Beginning) (es : List Local) (b : Bool) (v : State) → IsOf p s r v →
    Legal go b v es → (d : ℕ) → length (filter (is_for d Answer) (made go v es)) ≤ length (got es d Request)
few_answers p s r go [] b v h legal d = zero-le
few_answers p s r go (Start ∷ es) b v h legal d = few_answers p s r go es (b || true) (after go v Start) (after_of p s r go v Start h)
    legal.1 d
few_answers p s r go (Fire t ∷ es) b v h legal d = at (made_by v (Fire t)) refl
    (few_answers p s r go es (b || false) (after go v (Fire t)) (after_of p s r go v (Fire t) h) legal.1 d)
  where
    rest : List Sent
    rest = made go (after go v (Fire t)) es

    at : (o : Option Sent) → made_by v (Fire t) ≡ o → length (filter (is_for d Answer) (made go (after go v (Fire t)) es)) ≤ length
        (got es d Request) → length (filter (is_for d Answer) (and_then o (made go (after go v (Fire t)) es))) ≤ length (got es d Request)
    at None q k = k
    at (Some x) q k =
        let n : is_for d Answer x ≡ false = and_right (x.header.target == d) (is_answer x.header.kind)
        (from_link-request p s r x (fired_link p s r t v x h q)) in
        subst (λ c. length (cond c (x ∷ filter (is_for d Answer) (made go (after go v (Fire t)) es))
        (filter (is_for d Answer) (made go (after go v (Fire t)) es))) ≤ length (got es d Request)) (sym n) k
few_answers p s r go (Receive source lane y ∷ es) b v h legal d =
    at (made_by v (Receive source lane y)) refl (few_answers p s r go es (b || false) (after go v (Receive source lane y))
    (after_of p s r go v (Receive source lane y) h) legal.1 d)
  where
    grows : (c : Bool) → length (got es d Request) ≤ length (cond c (y ∷ got es d Request) (got es d Request))
    grows true = omega arith
    grows false = omega arith

    at : (o : Option Sent) → made_by v (Receive source lane y) ≡ o →
        length (filter (is_for d Answer) (made go (after go v (Receive source lane y)) es)) ≤ length (got es d Request)
        → length (filter (is_for d Answer) (and_then o (made go (after go v (Receive source lane y)) es))) ≤ length
        (got (Receive source lane y ∷ es) d Request)
    at None q k = let g = grows ((source == d) && same_lane lane Request) in omega (arith, g, k)
    at (Some x) q k = pick (is_for d Answer x) refl
      where
        z : (is_answer y.header.kind ≡ false) × (x.header.target ≡ y.header.source)
        z = let a = target_answers v y x q in let w = a.1 in (a.0, answer_target w.ok w.length w.bytes y.header x w.is)

        on_request : (lane : Lane) → is_lane lane y.header.kind ≡ true → same_lane lane Request ≡ true
        on_request Request e = refl
        on_request Answer e = absurd (both e z.0)

        pick : (c : Bool) → is_for d Answer x ≡ c
            → length (cond (is_for d Answer x) (x ∷ filter (is_for d Answer) (made go (after go v (Receive source lane y)) es))
            (filter (is_for d Answer) (made go (after go v (Receive source lane y)) es))) ≤ length
            (got (Receive source lane y ∷ es) d Request)
        pick false e =
            let g = grows ((source == d) && same_lane lane Request) in
            subst (λ c. length (cond c (x ∷ filter (is_for d Answer) (made go (after go v (Receive source lane y)) es))
            (filter (is_for d Answer) (made go (after go v (Receive source lane y)) es))) ≤ length
            (got (Receive source lane y ∷ es) d Request)) (sym e) (omega (arith, g, k))
        pick true e =
            let t : source ≡ d = sym legal.0.0 ∙ sym z.1 ∙ eqb-true _ _ (and_parts (x.header.target == d) (is_answer x.header.kind) e).0 in
            let c : ((source == d) && same_lane lane Request) ≡ true = ap₂ (λ a b. a && b) (eq-eqb _ _ t) (on_request lane legal.0.2) in
            ends c
          where
            ends : ((source == d) && same_lane lane Request) ≡ true
                → length (cond (is_for d Answer x) (x ∷ filter (is_for d Answer) (made go (after go v (Receive source lane y)) es))
                (filter (is_for d Answer) (made go (after go v (Receive source lane y)) es))) ≤ length
                (cond ((source == d) && same_lane lane Request) (y ∷ got es d Request) (got es d Request))
            ends c = subst (λ a. length (cond a (x ∷ filter (is_for d Answer) (made go (after go v (Receive source lane y)) es))
                (filter (is_for d Answer) (made go (after go v (Receive source lane y)) es))) ≤ length
                (cond ((source == d) && same_lane lane Request) (y ∷ got es d Request) (got es d Request))) (sym e)
                (subst (λ a. suc (length (filter (is_for d Answer) (made go (after go v (Receive source lane y)) es))) ≤ length
                (cond a (y ∷ got es d Request) (got es d Request))) (sym c) (omega (arith, k)))
