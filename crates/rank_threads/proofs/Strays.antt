-- A rank that counts no stray received none.
use Rattle.std.proofs.Common.{◌≡◌, ◌⊎◌, inr, ⊎_elim, ◌∷◌, [], ◌∙◌, ◌+◌, ℕ, Bool, true, false, cond, List, ap, sym, arith, refl}
use Rattle.std.specs.Prelude.{count_by, ◌==◌, ◌&&◌, if◌then◌else◌}
use Rattle.ptl_types.specs.Messages.{Sent}
use Rattle.ptl_types.specs.declared.headers.Lane.{Lane}
use Rattle.plan_core.specs.Members.{In}
use Rattle.plan_core.proofs.Lists.{count-cons}
use Rattle.cuts.specs.histories.History.{Local, got, same_lane}
use Rattle.cuts.specs.histories.History.Local.{Start, Receive, Fire}
use Rattle.cuts.specs.histories.Cut.{is_received_stray, is_stray}

no-one : (b : Bool) (n : ℕ) → cond b 1 0 + n ≡ 0 → b ≡ false
no-one true n e = absurd (omega (arith, e))
no-one false n e = refl

no-more : (b : Bool) (n : ℕ) → cond b 1 0 + n ≡ 0 → n ≡ 0
no-more true n e = absurd (omega (arith, e))
no-more false n e = omega (arith, e)

first-or-rest : (b : Bool) (x m : Sent) (xs : List Sent) → In m (if b then x ∷ xs else xs) → (x ≡ m) ⊎ In m xs
first-or-rest true x m xs i = i
first-or-rest false x m xs i = inr i

pub none-stray : (es : List Local) (s : ℕ) (lane : Lane) (m : Sent) → count_by is_received_stray es ≡ 0 → In m (got es s lane) →
    is_stray m ≡ false
none-stray [] s lane m e i = absurd i
none-stray (Start ∷ es) s lane m e i = none-stray es s lane m
    (no-more false (count_by is_received_stray es) (sym (count-cons is_received_stray Start es) ∙ e)) i
none-stray (Fire t ∷ es) s lane m e i = none-stray es s lane m
    (no-more false (count_by is_received_stray es) (sym (count-cons is_received_stray (Fire t) es) ∙ e)) i
none-stray (Receive source l x ∷ es) s lane m e i =
    let k = sym (count-cons is_received_stray (Receive source l x) es) ∙ e in ⊎_elim
    (λ (is : x ≡ m). ap is_stray (sym is) ∙ no-one (is_stray x) (count_by is_received_stray es) k)
    (λ (in_rest : In m (got es s lane)). none-stray es s lane m (no-more (is_stray x) (count_by is_received_stray es) k) in_rest)
    (first-or-rest ((source == s) && same_lane l lane) x m (got es s lane) i)
