-- Interleavings of a plan that strays come into: each leaves a moment, and how long they are.
use Rattle.std.proofs.Common.{ℕ, zero, suc, Bool, true, false, not, ◌≡◌, ◌<◌, ◌≤◌, ◌+◌, ◌++◌, [], ◌∷◌, refl, length, ap, ◌∙◌, sym, subst}
use Rattle.std.proofs.Common.{inl, inr, arith, if◌then◌else◌, count_by, sum_by, length-append, append-nil}
use Rattle.std.proofs.lemmas.List.Elements.{filter-append}
use Rattle.ptl_types.specs.Messages.{Sent}
use Rattle.ptl_types.specs.declared.headers.Lane.TheVariants.{Request}
use Rattle.op_laws.specs.Combining.{CombineStarts, CombineSwaps}
use Rattle.plan_core.proofs.Growth.{filter-none}
use Rattle.plan_core.proofs.Lists.{In-append_cases}
use Rattle.plan_core.specs.Members.{In}
use Rattle.plan_core.specs.Plan.{Plan, from_to}
use Rattle.plan_core.specs.Sound.{AreInputsOf, SoundPlan}
use Rattle.plan_core.specs.Values.{Inputs}
use Rattle.cuts.specs.view.Calls.{prepare}
use Rattle.cuts.specs.view.Slots.{Slots}
use Rattle.cuts.proofs.histories.FromCut.{prepared_of}
use Rattle.cuts.proofs.histories.StepBounds.{few_steps}
use Rattle.cuts.specs.histories.Cut.{IsAtRest, IsCut, got_by, is_received_stray, is_stray}
use Rattle.cuts.specs.histories.History.{got}
use Rattle.cuts.specs.histories.Moment.{IsMoment, IsStill, IsStrayOf, Lanes, is_request_lane}
use Rattle.cuts.specs.histories.Plans.{start_of, system_of}
use Rattle.cuts.specs.histories.System.{Histories, System}
use Rattle.cuts.proofs.rest.Moments.{first_moment, next_local, next_stray}
use Rattle.cuts.proofs.rest.Receipts.{few_receipts}
use Rattle.cuts.proofs.orders.Choosing.{chosen_reached, none_listed_still}
use Rattle.cuts.proofs.orders.Ends.{chosen_ends}
use Rattle.cuts.specs.orders.Chosen.{chosen}
use Rattle.cuts.specs.orders.Reached.{IsReached}
use Rattle.cuts.specs.orders.Reached.IsReached.{Begun as AtFirst, Stepped as OneMore}
use Rattle.cuts.specs.windows.Left.{steps_of}
use Rattle.cuts.specs.interleavings.Interleaving.{IsReachedIn, IsStillButStrays, steps_due, strays_received}
use Rattle.cuts.specs.interleavings.Interleaving.IsReachedIn.{Begun, Stepped, Strayed}
use Rattle.cuts.proofs.interleavings.Counted.{sum_alike, sum_both, sum_but_one, sum_within}

-- ---- without strays they are the interleavings of local steps
pub reached_in : (k : System) (w : Histories) (held : Lanes) → IsReached k w held → (steps : ℕ) × IsReachedIn k steps 0 w held
reached_in k w held AtFirst = (0, Begun)
reached_in k next later (OneMore {w = w} {held = held} x step) = let y = reached_in k w held x in (suc y.0, Stepped y.1 step)

pub reached_plain : (k : System) (steps strays : ℕ) (w : Histories) (held : Lanes) → IsReachedIn k steps strays w held → strays ≡ 0
    → IsReached k w held
reached_plain k zero zero w held Begun e = AtFirst
reached_plain k (suc steps) strays next later (Stepped {w = w} {held = held} x step) e = OneMore
    (reached_plain k steps strays w held x e) step
reached_plain k steps (suc strays) next later (Strayed x step) e = absurd (omega (arith, e))

-- ---- each local step makes one history longer
pub all_steps : (k : System) (steps strays : ℕ) (w : Histories) (held : Lanes) → IsReachedIn k steps strays w held
    → steps ≡ sum_by (λ r. length (w r)) (from_to 0 k.count)
all_steps k zero zero w held Begun = sym (none k.count 0)
  where
    none : (n i : ℕ) → sum_by (λ r. 0) (from_to i n) ≡ 0
    none zero i = refl
    none (suc n) i = none n (suc i)
all_steps k (suc steps) strays next later (Stepped {w = w} {held = held} x step) =
    let before = all_steps k steps strays w held x in
    let longer : length (next step.r) ≡ length (w step.r) + 1 = ap length step.rank ∙ length-append (w step.r) (step.e ∷ []) in
    let more = sum_but_one (λ r. length (w r)) (λ r. length (next r)) step.r 0 1 0 k.count (omega arith)
    (let h = step.in_range in omega (arith, h))
    (λ q apart low high. ap length (step.others q apart)) (omega (arith, longer)) in
    omega (arith, before, more)
all_steps k steps (suc strays) next later (Strayed {w = w} {held = held} x step) =
    all_steps k steps strays w held x
    ∙ sym (sum_alike (λ r. length (w r)) (λ r. length (next r)) 0 k.count (λ q low high. ap length (step.same q)))

module _ (starts : CombineStarts) (p : Plan) (inputs : Inputs) (sound : SoundPlan p (length inputs)) (fit : AreInputsOf p inputs)
    (swaps : CombineSwaps) (slots : ℕ → Slots) where
  -- ---- each leaves a moment
  pub reached_moment : (steps strays : ℕ) (w : Histories) (held : Lanes) → IsReachedIn (system_of p inputs slots) steps strays w held
      → IsMoment (system_of p inputs slots) w held
  reached_moment zero zero w held Begun = first_moment p inputs slots
  reached_moment (suc steps) strays next later (Stepped {w = w} {held = held} x step) =
      next_local starts p inputs sound fit swaps slots w held (reached_moment steps strays w held x) next later step
  reached_moment steps (suc strays) next later (Strayed {w = w} {held = held} x step) =
      next_stray p inputs slots w held (reached_moment steps strays w held x) next later step

  -- ---- what is said of steps by rank
  pub at_most : (w : Histories) → IsCut (system_of p inputs slots) w → (r : ℕ) → r < p.ranks
      → length (w r) ≤ steps_of p 0 r + count_by is_received_stray (w r)
  at_most w cut r h =
      let a = few_receipts starts p inputs sound fit slots w cut r h in
      let b = few_steps p (slots r) r (start_of p (slots r) r) (w r) (prepare p inputs (slots r) r)
      (prepared_of p inputs sound (slots r) r) (cut.legal r h) in
      omega (arith, a, b)

  pub steps_by_receipts : (steps strays : ℕ) (w : Histories) (held : Lanes) → IsReachedIn (system_of p inputs slots) steps strays w held
      → steps ≤ steps_due p + strays_received w p.ranks
  steps_by_receipts steps strays w held x =
      let m = reached_moment steps strays w held x in
      let a = all_steps (system_of p inputs slots) steps strays w held x in
      let b = sum_within (λ r. steps_of p 0 r + count_by is_received_stray (w r)) (λ r. length (w r)) 0 p.ranks
      (λ r low high. at_most w m.cut r (omega (arith, high))) in
      let c = sum_both (steps_of p 0) (λ r. count_by is_received_stray (w r)) (from_to 0 p.ranks) in
      omega (arith, a, b, c)

  -- ---- where strays alone are left all is at rest
  pub but_strays_rest : (w : Histories) (held : Lanes) → IsMoment (system_of p inputs slots) w held
      → IsStillButStrays (system_of p inputs slots) w held → IsAtRest (system_of p inputs slots) w
  but_strays_rest w held m h = record {
    started = h.started;
    empty = λ s d lane hs hd.
        sym (append-nil (got_by w d s lane))
        ∙ ap (λ v. got_by w d s lane
        ++ v) (sym (filter-none (λ x. not (is_stray x)) (held s d lane) (λ x i. ap not (h.strays s d lane x hs hd i))))
        ∙ sym (filter-append (λ x. not (is_stray x)) (got (w d) s lane) (held s d lane))
        ∙ m.lanes s d lane hs hd;
    idle = h.idle;
  }

pub still_but_strays : (k : System) (w : Histories) (held : Lanes) → IsStill k w held → IsStillButStrays k w held
still_but_strays k w held h = record {
  started = h.started;
  strays = λ s d lane m hs hd i. absurd (subst (λ v. In m v) (h.empty s d lane hs hd) i);
  idle = h.idle;
}

-- ---- some interleaving of a sound plan ends
pub record Ended (k : System) : Type 0 where
  pub steps : ℕ
  pub world : Histories
  pub held : Lanes
  pub reached : IsReachedIn k steps 0 world held
  pub still : IsStill k world held

pub one_ends : CombineStarts → (p : Plan) (inputs : Inputs) → SoundPlan p (length inputs) → AreInputsOf p inputs → CombineSwaps
    → (slots : ℕ → Slots) → Ended (system_of p inputs slots)
one_ends starts p inputs sound fit swaps slots =
    let k = system_of p inputs slots in
    let c = (chosen_ends starts p inputs sound fit swaps slots (λ n. 0)).1 in
    let z = chosen k (λ n. 0) c.steps in
    let y = reached_in k z.world z.held (chosen_reached k (λ n. 0) c.steps) in
    record { steps = y.0; world = z.world; held = z.held; reached = y.1; still = none_listed_still k z c.ended }

-- and a stray that comes after the end leaves it one
pub one_stray_more : (k : System) (steps strays : ℕ) (w : Histories) (held : Lanes) (s d : ℕ) (m : Sent)
    → IsReachedIn k steps strays w held → IsStillButStrays k w held
    → s < k.count → d < k.count → k.used s d Request ≡ true → IsStrayOf s d Request m
    → (later : Lanes) × IsReachedIn k steps (suc strays) w later × IsStillButStrays k w later
one_stray_more k steps strays w held s d m x h from to used stray =
    let later : Lanes = λ q u lane. held q u lane ++ (if is_request_lane s d q u lane then m ∷ [] else []) in (
      later,
      Strayed x (record {
        s = s;
        d = d;
        m = m;
        from = from;
        to = to;
        used = used;
        stray = stray;
        same = λ q. refl;
        put = λ q u lane. refl;
      }),
      record {
        started = h.started;
        strays = λ q u lane n hq hu i. elim (In-append_cases n (held q u lane) (if is_request_lane s d q u lane then m ∷ [] else []) i) [
          | inl j ↦ h.strays q u lane n hq hu j
          | inr j ↦ put (is_request_lane s d q u lane) n j
        ];
        idle = h.idle;
      },
    )
  where
    put : (b : Bool) (n : Sent) → In n (if b then m ∷ [] else []) → is_stray n ≡ true
    put true n (inl e) = subst (λ v. is_stray v ≡ true) e stray.stray
    put true n (inr i) = absurd i
    put false n i = absurd i
