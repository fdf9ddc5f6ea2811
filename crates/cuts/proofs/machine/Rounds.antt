-- Round k of a barrier reaches 2^k ranks: links lead from each entry to each exit.
use Rattle.std.proofs.Common.{ℕ, zero, suc, ◌+◌, ◌-◌, ◌%◌, ◌^◌, ◌≡◌, ◌<◌, ◌≤◌, refl, ap, ◌∙◌, sym, subst, inl, inr, arith, mod-lt}
use Rattle.std.proofs.Common.{mod-eq_of_lt, pow-suc}
use Rattle.std.proofs.lemmas.Bool.{cases_lt}
use native.Mathlib.Nat.{mod-add-mod, mod_self}
use Rattle.plan_core.specs.Plan.{Plan}
use Rattle.cuts.specs.machine.Machine.{Leads}
use Rattle.cuts.specs.machine.Rounds.{Comes, IsRounds}
use Rattle.cuts.specs.machine.Machine.Leads.{along, here}

further : (p : Plan) (b c d : ℕ) → Leads p b c → Comes p c d → Leads p b d
further p b c d path h = along d h.l h.into (subst (λ v. Leads p b v) (sym h.from) path)

round_leads : (p : Plan) (n rounds : ℕ) (T : ℕ → ℕ → ℕ) → IsRounds p n rounds T → (k : ℕ) → k ≤ rounds → (a r i : ℕ) → a < n → r < n →
    i < 2 ^ k → (a + i) % n ≡ r → Leads p (T 0 a) (T k r)
round_leads p n rounds T h zero le a r i ha hr hi e =
    let z : i ≡ 0 = omega arith in
    let q : a ≡ r = sym (mod-eq_of_lt ha) ∙ ap (λ v. v % n) (let y : a ≡ a + i = omega arith in y) ∙ e in
    subst (λ v. Leads p (T 0 a) (T 0 v)) q here
round_leads p n rounds T h (suc k) le a r i ha hr hi e = elim (cases_lt i (2 ^ k)) [
  | inl l ↦ further p (T 0 a) (T k r) (T (suc k) r) (round_leads p n rounds T h k (omega arith) a r i ha hr l e) (h.stays k r le hr)
  | inr l ↦
      (let m = (a + (i - 2 ^ k)) % n in
      let up = pow-suc 2 k in
      let hm : (a + (i - 2 ^ k)) % n < n = mod-lt (a + (i - 2 ^ k)) (omega arith) in
      let q : ((a + (i - 2 ^ k)) % n + 2 ^ k) % n ≡ r = mod-add-mod (a + (i - 2 ^ k)) n (2 ^ k)
      ∙ ap (λ v. v % n) (let y : a + (i - 2 ^ k) + 2 ^ k ≡ a + i = omega arith in y) ∙ e in
      further p (T 0 a) (T k ((a + (i - 2 ^ k)) % n)) (T (suc k) r)
      (round_leads p n rounds T h k (omega arith) a ((a + (i - 2 ^ k)) % n) (i - 2 ^ k) ha hm (omega (arith, up)) refl)
      (h.comes k ((a + (i - 2 ^ k)) % n) r le hm hr q))
]

pub entries_lead : (p : Plan) (n rounds : ℕ) (T : ℕ → ℕ → ℕ) → IsRounds p n rounds T → (a r : ℕ) → a < n → r < n →
    Leads p (T 0 a) (T rounds r)
entries_lead p n rounds T h a r ha hr = elim (cases_lt r a) [
  | inr le ↦ round_leads p n rounds T h rounds (omega arith) a r (r - a) ha hr (let e = h.enough in omega arith)
      (ap (λ v. v % n) (let y : a + (r - a) ≡ r = omega arith in y) ∙ mod-eq_of_lt hr)
  | inl lt ↦ round_leads p n rounds T h rounds (omega arith) a r (r + n - a) ha hr (let e = h.enough in omega arith)
      (ap (λ v. v % n) (let y : a + (r + n - a) ≡ n + r = omega arith in y) ∙ around n r hr)
]
  where
    around : (n r : ℕ) → r < n → (n + r) % n ≡ r
    around n r h = sym (mod-add-mod n n r) ∙ ap (λ v. (v + r) % n) (mod_self n) ∙ ap (λ v. v % n) (let y : 0 + r ≡ r = omega arith in y)
        ∙ mod-eq_of_lt h
