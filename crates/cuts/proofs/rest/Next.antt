-- The next message of a lane may be received.
use Rattle.cuts.specs.histories.System.{Histories, sent_by, state_at}
use Rattle.cuts.specs.histories.Plans.{system_of}
use Rattle.cuts.specs.histories.Cut.{got_by, is_stray, owned, IsCut}
use Rattle.cuts.specs.view.Slots.{Slots}
use Rattle.cuts.specs.histories.Moment.{IsMoment, Lanes}
use Rattle.std.proofs.Common.{ℕ, true, false, not, ◌≡◌, ◌<◌, List, ◌∷◌, ◌++◌, refl, length, ap, ◌∙◌, sym, subst, inl, inr, if◌then◌else◌}
use Rattle.std.proofs.Common.{Bool}
use Rattle.std.proofs.lemmas.Bool.{cases_Bool}
use Rattle.std.proofs.lemmas.List.Elements.{filter-append}
use Rattle.op_laws.specs.Combining.{CombineStarts, CombineSwaps}
use Rattle.cuts.specs.histories.History.{IsDue, May, got, is_lane}
use Rattle.cuts.specs.histories.History.Local.{Receive}
use Rattle.plan_core.proofs.Lists.{In-append_right}
use Rattle.plan_core.specs.Members.{In}
use Rattle.plan_core.specs.Plan.{Plan}
use Rattle.plan_core.specs.Sound.{AreInputsOf, SoundPlan}
use Rattle.plan_core.specs.Values.{Inputs}
use Rattle.cuts.proofs.histories.Conform.{stray_request}
use Rattle.cuts.proofs.rest.Due.{next_answer_due}
use Rattle.cuts.proofs.histories.Shape.{shape}
use Rattle.ptl_types.specs.Messages.{Sent}
use Rattle.ptl_types.specs.declared.headers.Lane.{Lane}
use Rattle.ptl_types.specs.declared.headers.Lane.TheVariants.{Answer, Request}
use Rattle.cuts.proofs.rest.Fair.{Fair, fair}
use Rattle.ptl_types.specs.Kinds.{is_answer}

-- a stray is no answer
stray_asks : (m : Sent) → is_stray m ≡ true → is_lane Request m.header.kind ≡ true
stray_asks m e = elim (cases_Bool (is_answer m.header.kind)) [ inl a ↦ absurd (both e (stray_request m a)) | inr a ↦ ap not a ]
  where
    both : {b : Bool} → b ≡ true → b ≡ false → ⊥
    both e i = cc

owned-own : (m : Sent) (ms : List Sent) → is_stray m ≡ false → owned (m ∷ ms) ≡ m ∷ owned ms
owned-own m ms e = ap (λ b. if not b then m ∷ owned ms else owned ms) e

-- of a cut: the next message of the job
module _ (starts : CombineStarts) (p : Plan) (inputs : Inputs) (sound : SoundPlan p (length inputs)) (fit : AreInputsOf p inputs)
    (swaps : CombineSwaps) (slots : ℕ → Slots) (w : Histories) (cut : IsCut (system_of p inputs slots) w) (begun : Bool) (r s : ℕ) where
  pub end_rank : r < p.ranks → (state_at (system_of p inputs slots) w r).rank ≡ r
  end_rank hr = (shape starts p inputs sound fit slots w cut r hr).rank

  pub next_own : (lane : Lane) (m : Sent) (later : List Sent) → r < p.ranks → s < p.ranks →
      got_by w r s lane ++ m ∷ later ≡ sent_by (system_of p inputs slots) w s r lane → May begun (state_at (system_of p inputs slots) w r)
      (Receive s lane m)
  next_own lane m later hr hs e = (f.source, f.target ∙ sym (end_rank hr), f.kind, f.kept, due_now lane e)
    where
      f : Fair starts p inputs sound fit swaps slots w cut s r lane m
      f = fair starts p inputs sound fit swaps slots w cut s r lane m hs hr
          (subst (λ v. In m v) e (In-append_right m (got_by w r s lane) (m ∷ later) (inl refl)))

      due_now : (lane : Lane) → got_by w r s lane ++ m ∷ later ≡ sent_by (system_of p inputs slots) w s r lane →
          IsDue (state_at (system_of p inputs slots) w r) lane m
      due_now Request q = tt
      due_now Answer q = next_answer_due starts p inputs sound fit slots w cut r s m later hr hs q

-- of a moment: whatever is held first
module _ (starts : CombineStarts) (p : Plan) (inputs : Inputs) (sound : SoundPlan p (length inputs)) (fit : AreInputsOf p inputs)
    (swaps : CombineSwaps) (slots : ℕ → Slots) (w : Histories) (held : Lanes) (moment : IsMoment (system_of p inputs slots) w held)
    (begun : Bool) (r s : ℕ) where
  pub next_held : (lane : Lane) (m : Sent) (later : List Sent) → r < p.ranks → s < p.ranks → held s r lane ≡ m ∷ later →
      May begun (state_at (system_of p inputs slots) w r) (Receive s lane m)
  next_held lane m later hr hs front = elim (cases_Bool (is_stray m)) [ inl e ↦ strange e | inr e ↦ own e ]
    where
      strange : is_stray m ≡ true → May begun (state_at (system_of p inputs slots) w r) (Receive s lane m)
      strange e =
          let f = moment.strays s r lane m hs hr (subst (λ v. In m v) (sym front) (inl refl)) e in (
            f.source,
            f.target ∙ sym (end_rank starts p inputs sound fit swaps slots w moment.cut begun r s hr),
            subst (λ l. is_lane l m.header.kind ≡ true) (sym f.asks) (stray_asks m e),
            f.kept,
            subst (λ l. IsDue (state_at (system_of p inputs slots) w r) l m) (sym f.asks) tt,
          )

      own : is_stray m ≡ false → May begun (state_at (system_of p inputs slots) w r) (Receive s lane m)
      own e = next_own starts p inputs sound fit swaps slots w moment.cut begun r s lane m (owned later) hr hs
          (ap (λ v. got_by w r s lane ++ v) (sym (owned-own m later e))
          ∙ sym (filter-append (λ x. not (is_stray x)) (got (w r) s lane) (m ∷ later))
          ∙ ap (λ v. owned (got (w r) s lane ++ v)) (sym front)
          ∙ moment.lanes s r lane hs hr)
