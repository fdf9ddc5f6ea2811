-- A chosen run ends: each word makes one step more, and the ranks of a plan make so many in all.
use Rattle.std.proofs.Common.{ℕ, zero, suc, Bool, true, false, cond, ◌%◌, ◌+◌, ◌≡◌, ◌<◌, ◌≤◌, ◌⊎◌, List, [], ◌∷◌, ◌++◌, refl, length}
use Rattle.std.proofs.Common.{get_or, count_by, ap, ap₂, ◌∙◌, sym, subst, inl, inr, arith, length-append}
use Rattle.std.proofs.lemmas.Bool.{cases_eq, cases_lt}
use Rattle.std.proofs.Math.Nat.{mod-lt}
use Rattle.ptl_types.specs.Messages.{Sent}
use Rattle.ptl_types.specs.declared.headers.Lane.{Lane}
use Rattle.op_laws.specs.Combining.{CombineStarts, CombineSwaps}
use Rattle.plan_core.specs.Members.{In}
use Rattle.plan_core.specs.Plan.{Plan}
use Rattle.plan_core.specs.Sound.{AreInputsOf, SoundPlan}
use Rattle.plan_core.specs.Values.{Inputs}
use Rattle.plan_core.proofs.Lists.{In-append_left, In-filter_cases, count-cons}
use Rattle.plan_core.specs.calls.Areas.{links_to}
use Rattle.plan_core.specs.calls.RankOps.{sends_of, rank_ops}
use Rattle.cuts.specs.view.Slots.{Slots}
use Rattle.cuts.specs.view.Calls.{prepare}
use Rattle.cuts.specs.histories.Cut.{is_received_stray, is_stray}
use Rattle.cuts.specs.histories.History.{Local, got, is_for, made}
use Rattle.cuts.specs.histories.History.Local.{Start, Receive, Fire}
use Rattle.cuts.specs.histories.Moment.{IsLocalStep, Lanes}
use Rattle.cuts.specs.histories.Plans.{start_of, system_of}
use Rattle.cuts.specs.histories.System.{Histories, System, sent_by}
use Rattle.cuts.proofs.histories.Clean.{made-clean}
use Rattle.cuts.proofs.histories.FromCut.{prepared_of}
use Rattle.cuts.proofs.histories.Origin.{got_first, got_later}
use Rattle.cuts.proofs.histories.StepBounds.{few_steps}
use Rattle.cuts.proofs.rest.Receipts.{few_receipts}
use Rattle.cuts.specs.orders.Chosen.{IsChosen, choose, chosen, enabled_steps, step_made}
use Rattle.cuts.specs.orders.Reached.{IsReached}
use Rattle.cuts.specs.orders.Taking.{histories}
use Rattle.cuts.specs.declared.orders.Step.{Step}
use Rattle.cuts.proofs.orders.Choosing.{In-get, chosen_reached, listed_made}
use Rattle.cuts.proofs.orders.Steps.{AreMoves, reached_moment, reached_moves}

-- ---- how many steps these histories have
abbrev pub steps_in : Histories → ℕ → ℕ
steps_in w zero = 0
steps_in w (suc n) = steps_in w n + length (w n)

abbrev pub sum_of : (ℕ → ℕ) → ℕ → ℕ
sum_of most zero = 0
sum_of most (suc n) = sum_of most n + most n

steps-le : (w : Histories) (most : ℕ → ℕ) (n : ℕ) → ((r : ℕ) → r < n → length (w r) ≤ most r) → steps_in w n ≤ sum_of most n
steps-le w most zero h = omega arith
steps-le w most (suc n) h = let a = steps-le w most n (λ r l. h r (omega arith)) in let b = h n (omega arith) in omega (arith, a, b)

same-above : (w v : Histories) (r n : ℕ) → n ≤ r → ((q : ℕ) → (q ≡ r → ⊥) → v q ≡ w q) → steps_in v n ≡ steps_in w n
same-above w v r zero h others = refl
same-above w v r (suc n) h others = ap₂ (λ a (es : List Local). a + length es) (same-above w v r n (omega arith) others)
    (others n (λ e. absurd (omega (arith, e, h))))

one-more : (w v : Histories) (r : ℕ) (e : Local) (n : ℕ) → r < n → v r ≡ w r ++ e ∷ [] → ((q : ℕ) → (q ≡ r → ⊥) → v q ≡ w q) →
    steps_in v n ≡ suc (steps_in w n)
one-more w v r e zero h here others = absurd (omega arith)
one-more w v r e (suc n) h here others = elim (cases_eq n r) [
  | inl q ↦ (let a = same-above w v r n (omega (arith, q)) others in
      let b = ap length (subst (λ m. v m ≡ w m ++ e ∷ []) (sym q) here) in
      let c = length-append (w n) (e ∷ []) in
      omega (arith, a, b, c))
  | inr m ↦ (let a = one-more w v r e n (lower m) here others in let b = ap length (others n m) in omega (arith, a, b))
]
  where
    lower : (n ≡ r → ⊥) → r < n
    lower m = elim (cases_lt r n) [ inl l ↦ l | inr l ↦ absurd (m (omega (arith, h, l))) ]

-- ---- each word makes one step more, until none is left
abbrev Ended : System → (ℕ → ℕ) → Type 0
Ended k words = (m : ℕ) × (enabled_steps k (chosen k words m) ≡ [])

goes_on : (k : System) (words : ℕ → ℕ) (n : ℕ) → Ended k words ⊎ (steps_in (chosen k words n).world k.count ≡ n)
goes_on k words zero = inr (none k.count)
  where
    none : (n : ℕ) → steps_in (λ r. []) n ≡ 0
    none zero = refl
    none (suc n) = let a = none n in omega (arith, a)
goes_on k words (suc n) = elim (goes_on k words n) [
  | inl e ↦ inl e
  | inr e ↦ at (enabled_steps k (chosen k words n)) refl e (λ x i. listed_made k (chosen k words n) x i)
]
  where
    at : (xs : List Step) → enabled_steps k (chosen k words n) ≡ xs → steps_in (chosen k words n).world k.count ≡ n
        → ((x : Step) → In x (enabled_steps k (chosen k words n)) → IsLocalStep k (chosen k words n).world (chosen k words n).held
        (step_made k x (chosen k words n)).world (step_made k x (chosen k words n)).held)
        → Ended k words ⊎ (steps_in (choose k (enabled_steps k (chosen k words n)) (words n) (chosen k words n)).world k.count ≡ suc n)
    at [] q e made = inl (n, q)
    at (x ∷ xs) q e made =
        let i : In (get_or (x ∷ xs) (words n % length (x ∷ xs)) x) (x ∷ xs) =
        In-get (x ∷ xs) (words n % length (x ∷ xs)) x (mod-lt (words n) (let l : 0 < length (x ∷ xs) = omega arith in l)) in
        let s = made (get_or (x ∷ xs) (words n % length (x ∷ xs)) x)
        (subst (λ v. In (get_or (x ∷ xs) (words n % length (x ∷ xs)) x) v) (sym q) i) in
        inr (ap (λ ys. steps_in (choose k ys (words n) (chosen k words n)).world k.count) q
        ∙ one-more (chosen k words n).world (step_made k (get_or (x ∷ xs) (words n % length (x ∷ xs)) x) (chosen k words n)).world s.r s.e
        k.count s.in_range s.rank s.others
        ∙ ap suc e)

-- ---- no stray was received, so a rank makes at most so many steps
none_strayed : (es : List Local) → ((s : ℕ) (lane : Lane) (m : Sent) → In m (got es s lane) → is_stray m ≡ false) →
    count_by is_received_stray es ≡ 0
none_strayed [] h = refl
none_strayed (Start ∷ es) h = let a = count-cons is_received_stray Start es in let b =
    none_strayed es (λ s l m i. h s l m
    (got_later Start es s l m i)) in omega (arith, a, b)
none_strayed (Fire t ∷ es) h = let a = count-cons is_received_stray (Fire t) es in let b =
    none_strayed es (λ s l m i. h s l m
    (got_later (Fire t) es s l m i)) in
    omega (arith, a, b)
none_strayed (Receive q lane x ∷ es) h =
    let a = count-cons is_received_stray (Receive q lane x) es in
    let b = none_strayed es (λ s l m i. h s l m (got_later (Receive q lane x) es s l m i)) in
    let c = none_if (is_stray x) (h q lane x (got_first q lane x es)) in
    omega (arith, a, b, c)
  where
    none_if : (b : Bool) → b ≡ false → cond {A = ℕ} b 1 0 ≡ 0
    none_if false e = refl
    none_if true e = cc

module _ (starts : CombineStarts) (p : Plan) (inputs : Inputs) (sound : SoundPlan p (length inputs)) (fit : AreInputsOf p inputs)
    (swaps : CombineSwaps) (slots : ℕ → Slots) where
  most : ℕ → ℕ
  most r = suc (length (rank_ops p r)) + (length (links_to p r) + cond p.remote (sends_of p r) 0)

  rank_most : (w : Histories) (held : Lanes) → IsReached (system_of p inputs slots) w held → (r : ℕ) → r < p.ranks →
      length (w r) ≤ suc (length (rank_ops p r)) + (length (links_to p r) + cond p.remote (sends_of p r) 0)
  rank_most w held reached r h =
      let cut = (reached_moment starts p inputs slots sound fit swaps w held reached).cut in
      let a = few_receipts starts p inputs sound fit slots w cut r h in
      let b = few_steps p (slots r) r (start_of p (slots r) r) (w r) (prepare p inputs (slots r) r)
      (prepared_of p inputs sound (slots r) r) (cut.legal r h) in
      let c = none_strayed (w r) (λ s lane m i. clean (reached_moves (system_of p inputs slots) w held reached) s lane m i) in
      omega (arith, a, b, c)
    where
      clean : AreMoves (system_of p inputs slots) w held → (s : ℕ) (lane : Lane) (m : Sent) → In m (got (w r) s lane) → is_stray m ≡ false
      clean so s lane m i =
          let j : In m (sent_by (system_of p inputs slots) (histories so.moves) s r lane) =
          subst (λ v. In m v) (so.balanced s r lane) (In-append_left m (got (histories so.moves r) s lane) (held s r lane)
          (subst (λ (v : Histories). In m (got (v r) s lane)) so.same i)) in
          made-clean p inputs sound (slots s) s (histories so.moves s) m
          (In-filter_cases (is_for r lane) m (made (start_of p (slots s) s) (prepare p inputs (slots s) s) (histories so.moves s)) j).0

  pub chosen_ends : (words : ℕ → ℕ) → (w : Histories) × IsChosen (system_of p inputs slots) words w
  unfolding most
  chosen_ends words = at (goes_on (system_of p inputs slots) words (suc (sum_of most p.ranks)))
    where
      given : Ended (system_of p inputs slots) words → (w : Histories) × IsChosen (system_of p inputs slots) words w
      given e = ((chosen (system_of p inputs slots) words e.0).world, record { steps = e.0; ended = e.1; world = λ r h. refl })

      at_most : (n : ℕ) → steps_in (chosen (system_of p inputs slots) words n).world p.ranks ≤ sum_of most p.ranks
      at_most n = steps-le (chosen (system_of p inputs slots) words n).world most p.ranks
          (λ r h. rank_most (chosen (system_of p inputs slots) words n).world (chosen (system_of p inputs slots) words n).held
          (chosen_reached (system_of p inputs slots) words n) r h)

      at : Ended (system_of p inputs slots) words ⊎ (steps_in (chosen (system_of p inputs slots) words (suc (sum_of most p.ranks))).world
          p.ranks ≡ suc (sum_of most p.ranks)) → (w : Histories) × IsChosen (system_of p inputs slots) words w
      at (inl e) = given e
      at (inr e) = absurd (let a = at_most (suc (sum_of most p.ranks)) in omega (arith, a, e))
