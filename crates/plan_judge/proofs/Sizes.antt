-- No row of the whole plan is at fault exactly where the plan is of a size that can be judged.
use Rattle.std.proofs.Common.{ℕ, ◌≡◌, List, None, arith, refl}
use Rattle.std.proofs.lemmas.Bool.{eqb-false, ltb-false, leb-false, ne_eqb, le-ltb, lt-leb}
use Rattle.plan_core.specs.Plan.{Plan}
use Rattle.plan_judge.specs.Causes.{first_cause, plan_rows}
use Rattle.plan_judge.specs.Sizes.{IsSized}
use Rattle.plan_judge.proofs.Rows.{row_clear, clear_row}

pub clear_sized : (p : Plan) (lengths : List ℕ) → first_cause (plan_rows p lengths) ≡ None → IsSized p lengths
clear_sized p lengths e =
    let a = row_clear _ _ _ e in
    let b = row_clear _ _ _ a.1 in
    let c = row_clear _ _ _ b.1 in
    let d = row_clear _ _ _ c.1 in
    let f = row_clear _ _ _ d.1 in
    let g = row_clear _ _ _ f.1 in
    record {
      some_rank = let h = eqb-false p.ranks 0 a.0 in omega arith;
      few_ranks = ltb-false _ _ b.0;
      all_there = ltb-false _ _ c.0;
      few_cells = leb-false _ _ d.0;
      few_together = leb-false _ _ f.0;
      few_bytes = leb-false _ _ g.0;
    }

pub sized_clear : (p : Plan) (lengths : List ℕ) → IsSized p lengths → first_cause (plan_rows p lengths) ≡ None
sized_clear p lengths s =
    clear_row _ _ _ (ne_eqb p.ranks 0 (λ e. let h = s.some_rank in absurd (omega arith)))
    (clear_row _ _ _ (le-ltb _ _ s.few_ranks)
    (clear_row _ _ _ (le-ltb _ _ s.all_there)
    (clear_row _ _ _ (lt-leb _ _ s.few_cells)
    (clear_row _ _ _ (lt-leb _ _ s.few_together)
    (clear_row _ _ _ (lt-leb _ _ s.few_bytes) refl)))))
