-- Chains of links, where links rise.
use Rattle.std.proofs.Common.{ℕ, zero, suc, Bool, true, false, ◌||◌, ◌≡◌, ◌<◌, ◌≤◌, ◌==◌, length, refl, ap, ◌∙◌, sym, subst, inl, inr}
use Rattle.std.proofs.Common.{arith}
use Rattle.std.specs.List.{list_any}
use Rattle.std.proofs.lemmas.Bool.{eqb-true, eq-eqb, or_cases, or_left, or_right}
use Rattle.cuts.specs.machine.Machine.{Leads}
use Rattle.cuts.specs.machine.Machine.Leads.{along, here}
use Rattle.mark_judge.specs.Leading.{leads, leads_within}
use Rattle.mark_judge.proofs.Tests.{In-any, any-In, any_none, any_same, or-false}
use Rattle.plan_core.specs.Members.{In}
use Rattle.plan_core.specs.Plan.{Plan, in_links, link}
use Rattle.plan_core.proofs.Links.{in_links-In}

abbrev pub Rising : Plan → Type 0
Rising p = (l : ℕ) → l < length p.links → (link p l).source < (link p l).target

-- a link comes to a cell from a lower one
pub from_below : (p : Plan) → Rising p → (c l : ℕ) → In l (in_links p c) → (link p l).source < c
from_below p up c l i =
    let r = in_links-In p c l i in
    let e = r.1 in
    let u = up l r.0 in
    omega (arith, e, u)

-- no link comes to cell 0
pub none_at_zero : (p : Plan) → Rising p → (f : ℕ → Bool) (c : ℕ) → c ≤ 0 → list_any f (in_links p c) ≡ false
none_at_zero p up f c h = any_none f (in_links p c) (λ l i. let u = from_below p up c l i in absurd (omega (arith, u, h)))

-- as many links as the cell's number are enough
pub enough : (p : Plan) → Rising p → (m n b c : ℕ) → c ≤ m → c ≤ n → leads_within p m b c ≡ leads_within p n b c
unfolding leads_within
enough p up zero zero b c h k = refl
enough p up zero (suc n) b c h k =
    sym (ap (λ t. (b == c) || t) (none_at_zero p up (λ l. leads_within p n b (link p l).source) c h) ∙ or-false (b == c))
enough p up (suc m) zero b c h k =
    ap (λ t. (b == c) || t) (none_at_zero p up (λ l. leads_within p m b (link p l).source) c k) ∙ or-false (b == c)
enough p up (suc m) (suc n) b c h k =
    ap (λ t. (b == c) || t)
    (any_same (λ l. leads_within p m b (link p l).source) (λ l. leads_within p n b (link p l).source) (in_links p c)
    (λ l i. let u = from_below p up c l i in enough p up m n b (link p l).source (omega (arith, u, h)) (omega (arith, u, k))))

within_suc : (p : Plan) (n b c : ℕ)
    → leads_within p (suc n) b c ≡ ((b == c) || list_any (λ l. leads_within p n b (link p l).source) (in_links p c))
unfolding leads_within
within_suc p n b c = refl

-- a cell leads to itself, and to where a link comes from a cell to which it leads
pub leads_step : (p : Plan) → Rising p → (b c : ℕ)
    → leads p b c ≡ ((b == c) || list_any (λ l. leads p b (link p l).source) (in_links p c))
leads_step p up b c =
    enough p up c (suc c) b c (omega arith) (omega arith)
    ∙ within_suc p c b c
    ∙ ap (λ t. (b == c) || t)
    (any_same (λ l. leads_within p c b (link p l).source) (λ l. leads p b (link p l).source) (in_links p c)
    (λ l i. let u = from_below p up c l i in enough p up c (link p l).source b (link p l).source (omega (arith, u)) (omega arith)))

-- ---- what it says
within-Leads : (p : Plan) (n b c : ℕ) → leads_within p n b c ≡ true → Leads p b c
unfolding leads_within
within-Leads p zero b c e = subst (λ d. Leads p b d) (eqb-true b c e) here
within-Leads p (suc n) b c e =
    elim (or_cases (b == c) (list_any (λ l. leads_within p n b (link p l).source) (in_links p c)) e) [
      | inl q ↦ subst (λ d. Leads p b d) (eqb-true b c q) here
      | inr q ↦ (let r = any-In (λ l. leads_within p n b (link p l).source) (in_links p c) q in
          along c r.0 r.1 (within-Leads p n b (link p r.0).source r.2))
    ]

pub leads-Leads : (p : Plan) (b c : ℕ) → leads p b c ≡ true → Leads p b c
leads-Leads p b c e = within-Leads p c b c e

pub Leads-leads : (p : Plan) → Rising p → (b c : ℕ) → Leads p b c → leads p b c ≡ true
Leads-leads p up b c here =
    leads_step p up b b ∙ or_left (b == b) (list_any (λ l. leads p b (link p l).source) (in_links p b)) (eq-eqb b b refl)
Leads-leads p up b c (along d l i path) =
    leads_step p up b d
    ∙ or_right (b == d) (list_any (λ m. leads p b (link p m).source) (in_links p d))
    (In-any (λ m. leads p b (link p m).source) l (in_links p d) i (Leads-leads p up b (link p l).source path))
