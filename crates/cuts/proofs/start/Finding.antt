-- Which headers a cell's entry finds.
use Rattle.std.proofs.Common.{ℕ, Bool, true, false, ◌&&◌, ◌-◌, ◌*◌, ◌^◌, ◌≡◌, ◌<◌, ◌⊎◌, ◌==◌}
use Rattle.std.proofs.Common.{refl, length, ap, ◌∙◌, sym, inl, inr, arith, Option}
use Rattle.std.proofs.Common.{Some, None, eq-eqb}
use Rattle.std.proofs.lemmas.Bool.{ne_eqb, false_from_ne_true, cases_eq}
use Rattle.ni_model.specs.Headers.{allows}
use Rattle.plan_core.specs.Plan.{Plan, cell, link, own}
use Rattle.plan_core.specs.Sound.{SoundPlan}
use Rattle.plan_core.specs.Values.{Inputs}
use Rattle.plan_core.specs.calls.Calls.{own_cell}
use Rattle.cuts.specs.start.Start.{entry_of as started_entry}
use Rattle.cuts.specs.view.Slots.{counter_at, Slots}
use Rattle.ptl_types.specs.declared.entries.Entry.{Entry}
use Rattle.ptl_types.specs.Handles.{top}
use Rattle.cuts.specs.view.View.{cell_entry}
use Rattle.cuts.proofs.view.MatchBits.{bits_match-from, bits_match-true, high-of}
use Rattle.cuts.proofs.view.StepArrive.{above-one, cell_bits-lt, entry-high}
use Rattle.plan_core.specs.calls.Bits.{cell_bits}
use Rattle.cuts.specs.view.TriggeredOps.{kind_for, link_header}
use Rattle.cuts.specs.view.Steps.{IsLinkHere}
use Rattle.ptl_types.specs.Matching.{bits_match}
use Rattle.ptl_types.specs.declared.elements.AtomicOp.{AtomicOp}

pub bits-cell : (p : Plan) (inputs : Inputs) → SoundPlan p (length inputs) → (k : Slots) (r l : ℕ) → IsLinkHere p r l → (c : ℕ) →
    c < length p.cells
    → bits_match (2 ^ 16 - 1) (link_header p k l).match_bits (cell_bits p c * 2 ^ 16) ≡ ((link p l).target == c)
bits-cell p inputs sound k r l h c i = at (cases_eq (link p l).target c)
  where
    t : (link p l).target < 2 ^ 24
    t = let top = (sound.links_sound l h.known).cells in let at_most = sound.few_cells in omega arith

    d : c < 2 ^ 24
    d = let at_most = sound.few_cells in omega arith

    small : (cell p (link p l).source).rank < 2 ^ 16
    small =
        let w = sound.links_sound l h.known in
        let up = w.rising in
        let top = w.cells in
        let a = sound.ranks_known (link p l).source (omega arith) in let b = sound.few_ranks in omega arith

    at : ((link p l).target ≡ c) ⊎ ((link p l).target ≡ c → ⊥) → bits_match (2 ^ 16 - 1) (link_header p k l).match_bits
        (cell_bits p c * 2 ^ 16) ≡ ((link p l).target == c)
    at (inl e) =
        bits_match-from _ _ (high-of (cell_bits p (link p l).target) (cell p (link p l).source).rank (cell_bits-lt p (link p l).target t)
        small ∙ ap (cell_bits p) e ∙ sym (entry-high p c d))
        ∙ sym (eq-eqb _ _ e)
    at (inr n) =
        false_from_ne_true _ (λ m. n (above-one _ (link p l).target _ c t d
        (sym (high-of (cell_bits p (link p l).target) (cell p (link p l).source).rank (cell_bits-lt p (link p l).target t) small)
        ∙ bits_match-true _ _ m ∙ entry-high p c d)))
        ∙ sym (ne_eqb _ _ n)

-- the entry of a cell, as a start appends it
abbrev pub appended_entry : Plan → Slots → ℕ → Entry
appended_entry p s c = cell_entry p s c

pub entry-started : (p : Plan) (s : Slots) (r c : ℕ) → (cell p c).rank ≡ r → started_entry (counter_at s (own p r) c) (own_cell p r c)
    ≡ appended_entry p s c
entry-started p s r c e = ap (λ v. started_entry (counter_at s (own p v) c) (own_cell p v c)) (sym e)

pub allows_link : (p : Plan) (s : Slots) (c : ℕ) (o : Option AtomicOp) → allows (appended_entry p s c) (kind_for o) ≡ true
allows_link p s c None = refl
allows_link p s c (Some v) = refl

pub with_true : (b a : Bool) → a ≡ true → ((b && true) && a) ≡ b
with_true true a e = e
with_true false a e = refl
