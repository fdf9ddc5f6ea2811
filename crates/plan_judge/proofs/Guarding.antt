-- The table of which cells are guarded.
use Rattle.std.proofs.Common.{ℕ, zero, suc, Bool, false, List, ◌≡◌, ◌+◌, ◌<◌, ◌++◌, ◌∷◌, [], refl, length, get_or, ap, ◌∙◌, sym, arith}
use Rattle.std.proofs.Common.{inl, inr, length-append}
use Rattle.std.proofs.lemmas.Bool.{cases_eq}
use Rattle.std.proofs.lemmas.List.{get_or_append_left}
use Rattle.std.proofs.Math.Seq.{get_or-append_seam}
use Rattle.plan_core.specs.Plan.{Plan}
use Rattle.plan_judge.specs.Guards.{guarded_below, is_guarded, next_guarded}

pub length-guarded : (p : Plan) (n : ℕ) → length (guarded_below p n) ≡ n
length-guarded p zero = refl
length-guarded p (suc n) =
    let e = length-append (guarded_below p n) (is_guarded p n ∷ []) in
    let f = length-guarded p n in
    omega (arith, e, f)

pub guarded_at : (p : Plan) (n c : ℕ) → c < n → get_or (guarded_below p n) c false ≡ is_guarded p c
guarded_at p zero c h = absurd (omega arith)
guarded_at p (suc n) c h =
    let e = length-guarded p n in
    elim (cases_eq c n) [
      | inl q ↦ ap (λ v. get_or (guarded_below p n ++ is_guarded p n ∷ []) v false) (q ∙ sym e)
          ∙ get_or-append_seam (guarded_below p n) (is_guarded p n) [] false
          ∙ ap (is_guarded p) (sym q)
      | inr ne ↦ get_or_append_left (guarded_below p n) (is_guarded p n ∷ []) false c (omega (arith, e)) ∙ guarded_at p n c (omega arith)
    ]

-- one cell more
pub guarded_more : (p : Plan) (c : ℕ) (before : List Bool) (b : Bool) → before ≡ guarded_below p c → b ≡ next_guarded p before c
    → before ++ b ∷ [] ≡ guarded_below p (c + 1)
guarded_more p c before b e f =
    ap (λ v. before ++ v ∷ []) f
    ∙ ap (λ v. v ++ next_guarded p v c ∷ []) e
    ∙ ap (guarded_below p) (let z : suc c ≡ c + 1 = omega arith in z)
