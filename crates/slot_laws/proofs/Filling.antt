-- What is written of a log without answers, in two runs.
use Rattle.std.proofs.Common.{◌≡◌, ℕ, Bool, true, false, List, [], ◌∷◌, ◌++◌, Some, None, refl, ap, ap₂, sym, subst, ◌∙◌}
use Rattle.coll_text.specs.Text.{lines as lines_of}
use Rattle.log_verdict.specs.Judging.{Passes, next_line, took, verdict_given}
use Rattle.log_verdict.specs.Filling.{Extent, FillGoes, Fills, IsFilled, end_or, fill_end, line_written}
use Rattle.log_verdict.specs.declared.judge.Taken.{Taken}
use Rattle.log_verdict.specs.declared.judge.Taken.TheVariants as takes
use Rattle.log_verdict.specs.declared.Filler.{Filler}
use Rattle.slot_laws.proofs.terms.Scenes.{Renamings}
use Rattle.slot_laws.proofs.terms.Judges.{JudgesKin, TookKin}
use Rattle.slot_laws.proofs.Judging.{PassesAs, end_kin, first_kin, next_kin, passes_as, took_kin}

-- both judges of a filler
record FillersKin (f f' : Filler) : Type 0 where
  fills : (g : Renamings) × JudgesKin g f.fills f'.fills
  judges : (g : Renamings) × JudgesKin g f.judges f'.judges

record GoesKin (text text' : List ℕ) (g g' : Filler) : Type 0 where
  same : text' ≡ text
  fillers : FillersKin g g'

written_none : (line : List ℕ) (taken : Taken) (text : List ℕ) → line_written line taken ≡ Some text → verdict_given taken ≡ None
written_none line takes.Goes text e = refl
written_none line (takes.Owes owed) text e = refl
written_none line (takes.Ends v) text e = cc

goes_kin : (f f' g g' : Filler) (line text text' : List ℕ) → FillersKin f f' → FillGoes f line g text → FillGoes f' line g' text' →
    GoesKin text text' g g'
goes_kin f f' g g' line text text' kin m n =
    let fills : TookKin (took g.fills m.taken) (took g'.fills n.taken) =
    took_kin kin.fills.0 (next_line f.fills) (next_line f'.fills) (next_kin kin.fills.0 f.fills f'.fills kin.fills.1) line
    (took g.fills m.taken) (took g'.fills n.taken) m.comes n.comes in
    let same : text' ≡ text =
    let both = sym n.is ∙ ap (line_written line) fills.taken ∙ m.is in cc in
    let right : PassesAs f.judges text g.judges = passes_as f.judges text g.judges m.right in
    let right' : PassesAs f'.judges text g'.judges =
    passes_as f'.judges text g'.judges (subst (λ t. Passes f'.judges t g'.judges) same n.right) in
    record {
      same = same;
      fillers = record {
        fills = fills.judge (written_none line m.taken text m.is);
        judges = (took_kin kin.judges.0 (next_line f.judges) (next_line f'.judges) (next_kin kin.judges.0 f.judges f'.judges kin.judges.1)
            text
            (took g.judges right.taken) (took g'.judges right'.taken) right.took right'.took).judge right.none;
      };
    }

end_same : (f f' : Filler) (rest : List ℕ) → FillersKin f f' → fill_end f' rest ≡ fill_end f rest
end_same f f' rest kin =
    ap₂ end_or
    (end_kin kin.fills.0 (next_line f.fills) (next_line f'.fills) (next_kin kin.fills.0 f.fills f'.fills kin.fills.1) rest)
    (end_kin kin.judges.0 (next_line f.judges) (next_line f'.judges) (next_kin kin.judges.0 f.judges f'.judges kin.judges.1) [])

-- both were filled in as a whole: the same is written, and as many calls
fills_kin : (f f' : Filler) (pieces : List (List ℕ)) (out out' : List ℕ) (extent extent' : Extent) (calls calls' : ℕ) → FillersKin f f' →
    Fills f pieces out extent → Fills f' pieces out' extent' → extent ≡ Extent.Whole calls → extent' ≡ Extent.Whole calls' →
    (out' ≡ out) × (calls' ≡ calls)
fills_kin f f' _ _ out' _ extent' calls calls' kin (Fills.Here _ pieces) n e e' = absurd (cc)
fills_kin f f' _ _ out' _ extent' calls calls' kin (Fills.Stays _ rest v end) n e e' = absurd (cc)
fills_kin f f' _ _ out' _ extent' calls calls' kin (Fills.EndsAt _ g line pieces v more m) n e e' = absurd (cc)
fills_kin f f' _ _ _ _ _ calls calls' kin (Fills.Over _ rest k end) (Fills.Here _ _) e e' = absurd (cc)
fills_kin f f' _ _ _ _ _ calls calls' kin (Fills.Over _ rest k end) (Fills.Stays _ _ v end') e e' = absurd (cc)
fills_kin f f' _ _ _ _ _ calls calls' kin (Fills.Over _ rest k end) (Fills.EndsAt _ g _ _ v more m) e e' = absurd (cc)
fills_kin f f' _ _ _ _ _ calls calls' kin (Fills.Over _ rest k end) (Fills.Over _ _ k' end') e e' =
    let same = sym end' ∙ end_same f f' rest kin ∙ end in
    (refl, cc)
fills_kin f f' _ _ _ _ extent' calls calls' kin (Fills.Over _ rest k end) (Fills.GoesOn _ g _ _ text out _ goes later) e e' =
    absurd (nothing g out extent' calls' later e')
  where
    nothing : (g : Filler) (out : List ℕ) (extent : Extent) (calls : ℕ) → Fills g [] out extent → extent ≡ Extent.Whole calls → ⊥
    nothing g _ _ calls (Fills.Here _ _) e = cc
fills_kin f f' _ _ _ extent _ calls calls' kin (Fills.GoesOn _ g line pieces text out _ goes later) (Fills.Here _ _) e e' = absurd (cc)
fills_kin f f' _ _ _ extent _ calls calls' kin (Fills.GoesOn _ g line _ text out _ goes later) (Fills.Over _ _ k end) e e' =
    absurd (nothing g out extent calls later e)
  where
    nothing : (g : Filler) (out : List ℕ) (extent : Extent) (calls : ℕ) → Fills g [] out extent → extent ≡ Extent.Whole calls → ⊥
    nothing g _ _ calls (Fills.Here _ _) e = cc
fills_kin f f' _ _ _ extent _ calls calls' kin (Fills.GoesOn _ g line _ text out _ goes later) (Fills.Stays _ _ v end) e e' = absurd (cc)
fills_kin f f' _ _ _ extent _ calls calls' kin (Fills.GoesOn _ g line pieces text out _ goes later) (Fills.EndsAt _ g' _ _ v more m) e e' =
    absurd (cc)
fills_kin f f' _ _ _ extent extent' calls calls' kin (Fills.GoesOn _ g line pieces text out _ goes later)
    (Fills.GoesOn _ g' _ _ text' out' _ goes' later') e e' =
    let one : GoesKin text text' g g' = goes_kin f f' g g' line text text' kin goes goes' in
    let rest : (out' ≡ out) × (calls' ≡ calls) = fills_kin g g' pieces out out' extent extent' calls calls' one.fillers later later' e e' in
    (ap₂ (λ t o. t ++ 10 ∷ o) one.same rest.0, rest.1)

-- what is written of a log that is filled in as a whole is one, and so is how many calls there are
pub fillings_are_one : (any_order : Bool) (text out out' : List ℕ) (calls calls' : ℕ) → IsFilled any_order text out (Extent.Whole calls) →
    IsFilled any_order text out' (Extent.Whole calls') → (out' ≡ out) × (calls' ≡ calls)
fillings_are_one any_order text out out' calls calls' m n =
    fills_kin m.filler n.filler (lines_of text) out out' (Extent.Whole calls) (Extent.Whole calls') calls calls'
    (record {
      fills = (λ rank sort h. h, first_kin true any_order m.filler.fills n.filler.fills m.is_new.fills n.is_new.fills);
      judges = (λ rank sort h. h, first_kin false any_order m.filler.judges n.filler.judges m.is_new.judges n.is_new.judges);
    }) m.fills n.fills refl refl
