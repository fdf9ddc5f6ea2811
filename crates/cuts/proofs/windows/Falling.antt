-- Each step leaves one step fewer to be made.
use Rattle.std.proofs.Common.{ℕ, zero, suc, ◌≡◌, ◌<◌, ◌≤◌, ◌+◌, ◌-◌, ◌∙◌, [], ◌∷◌, inl, inr, refl, ap, ap₂, sym, subst, arith, length}
use Rattle.std.proofs.Common.{length-append, sum_by, count_by}
use Rattle.std.proofs.lemmas.Bool.{cases_eq}
use Rattle.std.proofs.lemmas.List.Sums.{sum_by-cons}
use Rattle.op_laws.proofs.OpLaws.{op_laws}
use Rattle.op_laws.proofs.Starts.{combined-starts}
use Rattle.op_laws.proofs.Swaps.{combined-swaps}
use Rattle.plan_core.specs.Members.{In}
use Rattle.plan_core.specs.Plan.{Plan, from_to}
use Rattle.plan_core.specs.Sound.{SoundPlan, AreInputsOf}
use Rattle.plan_core.specs.Values.{Inputs}
use Rattle.plan_core.proofs.Lists.{In-filter_cases}
use Rattle.cuts.specs.view.Calls.{prepare}
use Rattle.cuts.specs.view.Slots.{Slots}
use Rattle.cuts.proofs.histories.FromCut.{prepared_of}
use Rattle.cuts.proofs.histories.StepBounds.{few_steps}
use Rattle.cuts.specs.histories.Cut.{IsCut, is_received_stray}
use Rattle.cuts.specs.histories.Moment.{IsMoment}
use Rattle.cuts.specs.histories.Plans.{start_of, system_of}
use Rattle.cuts.specs.histories.System.{Histories}
use Rattle.cuts.proofs.orders.Choosing.{listed_made}
use Rattle.cuts.specs.orders.Chosen.{Scene, enabled_steps, step_made}
use Rattle.cuts.specs.declared.orders.Step.{Step}
pub use Rattle.cuts.proofs.rest.Moments.{next_local}
pub use Rattle.cuts.proofs.rest.Next.{next_held}
pub use Rattle.cuts.proofs.rest.Receipts.{few_received_bytes, few_receipts}
use Rattle.cuts.specs.windows.Left.{steps_left, steps_of}
use Rattle.cuts.specs.windows.Possible.{is_possible, possible_steps}

-- ---- a sum of which one part is less by one
sum-same : (f g : ℕ → ℕ) (j k n : ℕ) → j < k → ((i : ℕ) → (i ≡ j → ⊥) → g i ≡ f i) → sum_by g (from_to k n) ≡ sum_by f (from_to k n)
sum-same f g j k zero lt same = refl
sum-same f g j k (suc n) lt same =
    sum_by-cons g k (from_to (suc k) n) ∙ ap₂ (λ a b. a + b) (same k (λ e. absurd (omega arith)))
    (sum-same f g j (suc k) n (omega arith) same) ∙ sym (sum_by-cons f k (from_to (suc k) n))

sum-less : (f g : ℕ → ℕ) (j k n : ℕ) → k ≤ j → j < k + n → ((i : ℕ) → (i ≡ j → ⊥) → g i ≡ f i) → g j + 1 ≡ f j →
    sum_by g (from_to k n) + 1 ≡ sum_by f (from_to k n)
sum-less f g j k zero low high same less = absurd (omega arith)
sum-less f g j k (suc n) low high same less = elim (cases_eq k j) [
  | inl e ↦
      let a = sum_by-cons g k (from_to (suc k) n) in
      let b = sum_by-cons f k (from_to (suc k) n) in
      let c = sum-same f g j (suc k) n (omega arith) same in
      let d : g k + 1 ≡ f k = subst (λ i. g i + 1 ≡ f i) (sym e) less in
      omega (arith, a, b, c, d)
  | inr apart ↦
      let a = sum_by-cons g k (from_to (suc k) n) in
      let b = sum_by-cons f k (from_to (suc k) n) in
      let c = sum-less f g j (suc k) n (omega arith) (omega arith) same less in
      let d = same k apart in
      omega (arith, a, b, c, d)
]

-- ---- the steps of a rank
module _ (p : Plan) (inputs : Inputs) (sound : SoundPlan p (length inputs)) (fit : AreInputsOf p inputs) (slots : ℕ → Slots) (strays : ℕ)
  where
    at_most : (w : Histories) → IsCut (system_of p inputs slots) w → (r : ℕ) → r < p.ranks → count_by is_received_stray (w r) ≤ strays →
        length (w r) ≤ steps_of p strays r
    at_most w cut r h most =
        let a = few_receipts combined-starts p inputs sound fit slots w cut r h in
        let b = few_steps p (slots r) r (start_of p (slots r) r) (w r) (prepare p inputs (slots r) r)
        (prepared_of p inputs sound (slots r) r) (cut.legal r h) in
        omega (arith, a, b, most)

    pub falls : (z : Scene) (window : ℕ) (x : Step) → IsMoment (system_of p inputs slots) z.world z.held →
        In x (possible_steps (system_of p inputs slots) window z)
        → ((r : ℕ) → r < p.ranks → count_by is_received_stray ((step_made (system_of p inputs slots) x z).world r) ≤ strays)
        → steps_left p strays (step_made (system_of p inputs slots) x z) + 1 ≡ steps_left p strays z
    falls z window x moment i most =
        let k = system_of p inputs slots in
        let s = listed_made k z x (In-filter_cases (is_possible k window z) x (enabled_steps k z) i).0 in
        let next : IsMoment k (step_made k x z).world (step_made k x z).held =
        next_local combined-starts p inputs sound fit (combined-swaps op_laws) slots z.world z.held moment (step_made k x z).world
        (step_made k x z).held s in
        let wide = at_most (step_made k x z).world next.cut s.r s.in_range (most s.r s.in_range) in
        let longer : length ((step_made k x z).world s.r) ≡ length (z.world s.r) + 1 = ap length s.rank
        ∙ length-append (z.world s.r) (s.e ∷ []) in
        sum-less (λ r. steps_of p strays r - length (z.world r)) (λ r. steps_of p strays r - length ((step_made k x z).world r)) s.r 0
        p.ranks (omega arith) (let q = s.in_range in omega arith)
        (λ q apart. ap (λ h. steps_of p strays q - length h) (s.others q apart)) (omega (arith, wide, longer))
