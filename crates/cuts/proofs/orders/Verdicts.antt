-- At most one verdict: of one taking one thing is said, and all takings are one.
use Rattle.std.proofs.Common.{ℕ, ◌+◌, ◌≡◌, ◌<◌, List, ◌∷◌, ◌++◌, refl, length, ap, ◌∙◌, sym, subst, inl, inr, ◌⊎◌, map, arith}
use Rattle.std.proofs.Common.{length-append}
use Rattle.std.proofs.lemmas.Bool.{cases_lt, cases_eq}
use Rattle.cuts.specs.histories.System.{Histories, System}
use Rattle.cuts.specs.orders.Taking.{IsTaken, Lists, Move, histories, listed}
use Rattle.cuts.specs.orders.Verdict.{IsVerdict, Says, Stops, Waits, cause_of}
use Rattle.ptl_types.specs.declared.steps.Cause.{Cause}
use Rattle.ptl_types.specs.declared.steps.LocalStep.{LocalStep}
use Rattle.cuts.specs.declared.orders.Verdict.{Verdict}
use Rattle.cuts.specs.declared.orders.Verdict.TheVariants.{Holds, Fails}
use Rattle.cuts.proofs.orders.Parts.{same-front}
use Rattle.cuts.proofs.orders.Taken.{same_taken}

-- a list with a next step isn't whole
pub not_whole : {A : Type 0} (xs ys later : List A) (e : A) → xs ≡ ys → xs ++ e ∷ later ≡ ys → ⊥
not_whole xs ys later e h k =
    let a = ap length h in
    let b = ap length k in
    let c = length-append xs (e ∷ later) in
    omega arith

-- ranks are below, the same or above
order : (a b : ℕ) → (a < b) ⊎ ((a ≡ b) ⊎ (b < a))
order a b = elim (cases_lt a b) [ inl h ↦ inl h | inr h ↦ elim (cases_eq a b) [ inl e ↦ inr (inl e) | inr n ↦ inr (inr (omega arith)) ] ]

module _ (k : System) (lists : Lists) (w : Histories) where
  stops_once : (a b : ℕ) (e f : LocalStep) → Stops lists w a e → Stops lists w b f → (a ≡ b) × (e ≡ f)
  stops_once a b e f x y = elim (order a b) [
    | inl h ↦ absurd (not_whole (map listed (w a)) (lists a) x.next.0 e (y.lower a h) x.next.1)
    | inr (inr h) ↦ absurd (not_whole (map listed (w b)) (lists b) y.next.0 f (x.lower b h) y.next.1)
    | inr (inl h) ↦ (
      h,
      (let z : map listed (w a) ++ f ∷ y.next.0 ≡ lists a = subst (λ q. map listed (w q) ++ f ∷ y.next.0 ≡ lists q) (sym h) y.next.1 in
          let q = same-front (map listed (w a)) (e ∷ x.next.0) (f ∷ y.next.0) (x.next.1 ∙ sym z) in
          cc),
    )
  ]

  waits_once : (a b : ℕ) → Waits k lists w a → Waits k lists w b → a ≡ b
  waits_once a b x y = elim (order a b) [
    | inl h ↦ absurd (x.restless (y.lower a h))
    | inr (inr h) ↦ absurd (y.restless (x.lower b h))
    | inr (inl h) ↦ h
  ]

  same_fault : (a b m n : ℕ) (c d : Cause) → a ≡ b → m ≡ length (w a) + 1 → n ≡ length (w b) + 1 → c ≡ d → Fails a m c ≡ Fails b n d
  same_fault a b m n c d e x y z =
      let p : m ≡ n = x ∙ ap (λ q. length (w q) + 1) e ∙ sym y in
      cc

  pub says_once : (x y : Verdict) → Says k lists w x → Says k lists w y → x ≡ y
  says_once Holds Holds a b = refl
  says_once Holds (Fails r m c) a b = absurd (holds_fails r m c a b)
    where
      holds_fails : (r m : ℕ) (c : Cause) → Says k lists w Holds → Says k lists w (Fails r m c) → ⊥
      holds_fails r m c a b = elim b.2 [
        | inl s ↦ not_whole (map listed (w r)) (lists r) s.1.next.0 s.0 (a r b.0).0 s.1.next.1
        | inr s ↦ s.0.restless (a r b.0).1
      ]
  says_once (Fails r m c) Holds a b = absurd (fails_holds r m c b a)
    where
      fails_holds : (r m : ℕ) (c : Cause) → Says k lists w Holds → Says k lists w (Fails r m c) → ⊥
      fails_holds r m c a b = elim b.2 [
        | inl s ↦ not_whole (map listed (w r)) (lists r) s.1.next.0 s.0 (a r b.0).0 s.1.next.1
        | inr s ↦ s.0.restless (a r b.0).1
      ]
  says_once (Fails r m c) (Fails q n d) a b = elim a.2 [
    | inl s ↦ elim b.2 [
      | inl t ↦ (let z = stops_once r q s.0 t.0 s.1 t.1 in same_fault r q m n c d z.0 a.1 b.1 (s.2 ∙ ap cause_of z.1 ∙ sym t.2))
      | inr t ↦ absurd (not_whole (map listed (w r)) (lists r) s.1.next.0 s.0 (t.0.whole r a.0) s.1.next.1)
    ]
    | inr s ↦ elim b.2 [
      | inl t ↦ absurd (not_whole (map listed (w q)) (lists q) t.1.next.0 t.0 (s.0.whole q b.0) t.1.next.1)
      | inr t ↦ same_fault r q m n c d (waits_once r q s.0 t.0) a.1 b.1 (s.1 ∙ sym t.1)
    ]
  ]

-- all takings make the same histories
pub same_histories : (k : System) (lists : Lists) (es fs : List Move) → IsTaken k lists es → IsTaken k lists fs →
    histories es ≡ histories fs
same_histories k lists es fs a b = λ i r. same_taken k lists es fs a b r i

pub one_verdict : (k : System) (lists : Lists) (x y : Verdict) → IsVerdict k lists x → IsVerdict k lists y → x ≡ y
one_verdict k lists x y a b =
    says_once k lists (histories b.moves) x y
    (subst (λ w. Says k lists w x) (same_histories k lists a.moves b.moves a.taken b.taken) a.says)
    b.says
