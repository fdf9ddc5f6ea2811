-- What was filled in as a whole conforms.
use Rattle.std.proofs.Common.{◌≡◌, ℕ, Bool, List, [], ◌∷◌, ◌++◌, sym, subst}
use Rattle.coll_text.specs.Text.{lines as lines_of}
use Rattle.coll_text.proofs.ReadBack.{line_of}
use Rattle.log_verdict.specs.Filling.{Extent, FillGoes, Fills, IsFilled, end_or}
use Rattle.log_verdict.specs.Filling.Extent.{Begun, Stopped, Whole}
use Rattle.log_verdict.specs.Filling.Fills.{EndsAt, GoesOn as FillsOn, Here, Over, Stays}
use Rattle.log_verdict.specs.Judging.{IsVerdict, Verdicts, end_verdict, next_line}
use Rattle.log_verdict.specs.Judging.Verdicts.{GoesOn, Stands}
use Rattle.log_verdict.specs.declared.filler.Filler.{Filler}
use Rattle.log_verdict.specs.declared.judge.Verdict.{Verdict}
use Rattle.log_verdict.specs.declared.judge.Verdict.TheVariants.{Conforms, Differs, Refused}
use Rattle.log_verdict.proofs.OneLine.{one_line}

-- where the end is that all conforms, the judge says so
other : (v w : Verdict) (calls : ℕ) → end_or v w ≡ Conforms calls → w ≡ Conforms calls
other (Conforms n) w calls e = e
other (Differs line column said owed) w calls e = absurd cc
other (Refused line column flaw) w calls e = absurd cc

-- as far as it is as a whole
abbrev Conform : Filler → List ℕ → Extent → Type 0
Conform f out Begun = Unit {0}
Conform f out (Whole calls) = Verdicts (Conforms calls) f.judges (lines_of out)
Conform f out (Stopped v) = Unit {0}

goes_on : (f g : Filler) (line text out : List ℕ) (extent : Extent) → FillGoes f line g text → Conform g out extent
    → Conform f (text ++ 10 ∷ out) extent
goes_on f g line text out Begun h more = tt
goes_on f g line text out (Whole calls) h more =
    let v = Conforms calls in
    subst (λ (ps : List (List ℕ)). Verdicts v f.judges ps) (sym (line_of text out (one_line f.judges g.judges text h.right)))
    (GoesOn f.judges g.judges text (lines_of out) h.right more)
goes_on f g line text out (Stopped v) h more = tt

conform : (f : Filler) (pieces : List (List ℕ)) (out : List ℕ) (extent : Extent) → Fills f pieces out extent → Conform f out extent
conform f pieces out extent (Here _ _) = tt
conform f pieces out extent (Over _ rest calls e) =
    Stands f.judges [] (sym (other (end_verdict (next_line f.fills) rest) (end_verdict (next_line f.judges) []) calls e))
conform f pieces out extent (Stays _ rest v e) = tt
conform f pieces out extent (EndsAt _ g line more v some e) = tt
conform f pieces out extent (FillsOn _ g line more text later _ h fills) =
    goes_on f g line text later extent h (conform g more later extent fills)

pub whole_conforms : (any_order : Bool) (text out : List ℕ) (calls : ℕ) → IsFilled any_order text out (Whole calls)
    → IsVerdict any_order out (Conforms calls)
whole_conforms any_order text out calls is = record {
  judge = is.filler.judges;
  is_new = is.is_new.judges;
  stands = conform is.filler (lines_of text) out (Whole calls) is.fills;
}
