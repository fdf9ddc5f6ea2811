-- One cell more in each turn.
use Rattle.std.proofs.Common.{ℕ, ◌+◌, ◌^◌, ◌<◌, ◌≡◌, ◌++◌, ◌∷◌, [], arith, length, map, get_or, set, sum_by, ap, ap₂, sym, subst, ◌∙◌}
use Rattle.plan_core.specs.Plan.{from_to}
use Rattle.plan_core.specs.Places.{cell_length}
use Rattle.plan_core.proofs.Drawing.{row-more}
use Rattle.plan_tables.specs.Rising.{nothing, of_key}
use Rattle.plan_core.specs.calls.Calls.{cell_start}
use Rattle.plan_tables.specs.Tables.{all_ranks, rank_of}
use Rattle.plan_tables.proofs.Passes.{get-row, length-table}
use Rattle.plan_tables.proofs.Sums.{start-own, at_most-bytes, bytes-more}
use Rattle.plan_tables.proofs.Room.{at_most-cell_bytes}
use Rattle.plan_tables.proofs.starts.cell_starts.Goals as goal

pub loop-c-init : goal.loop-c-init
loop-c-init c = record {
  starts = c.new-starts.ensures.items;
  lengths = c.in_ok-lengths.ensures
      ∙ ap (λ n. map nothing (from_to 0 n)) c.ranks.ensures;
}

pub place-requires-clause-ranks : goal.place-requires-clause-ranks
place-requires-clause-ranks c = length-table (λ r. sum_by (cell_length c.args.plan.now) (of_key (rank_of c.args.plan.now) c.loop-c.c r))
    c.args.plan.now.ranks c.loop-c.lengths c.loop-c.invariant.lengths

pub place-requires-clause-fits : goal.place-requires-clause-fits
place-requires-clause-fits c =
    let p = c.args.plan.now in
    let n = ap length c.cells.ensures in
    let t = c.loop-c-test.true in
    let inside : c.loop-c.c < length p.cells = omega (arith, n, t) in
    let P : ℕ → Type 0 = λ v. v + cell_length p c.loop-c.c < 2 ^ 64 in
    subst P (sym (ap (λ v. get_or v (rank_of p c.loop-c.c) 0) c.loop-c.invariant.lengths
    ∙ get-row (λ r. sum_by (cell_length p) (of_key (rank_of p) c.loop-c.c r)) p.ranks (rank_of p c.loop-c.c) 0
    (c.requires.ranks_known c.loop-c.c inside)))
    (at_most-bytes p c.loop-c.c (2 ^ 64) inside (at_most-cell_bytes p c.requires))

pub loop-c-preserved : goal.loop-c-preserved
loop-c-preserved c =
    let p = c.args.plan.now in
    let n = ap length c.cells.ensures in
    let t = c.loop-c-test.true in
    let inside : c.loop-c.c < length p.cells = omega (arith, n, t) in
    let g = ap (λ v. get_or v (rank_of p c.loop-c.c) 0) c.loop-c.invariant.lengths
    ∙ get-row (λ r. sum_by (cell_length p) (of_key (rank_of p) c.loop-c.c r)) p.ranks (rank_of p c.loop-c.c) 0
    (c.requires.ranks_known c.loop-c.c inside) in
    record {
      starts =
          c.in_ok-place.ensures.starts
          ∙ ap₂ (λ v k. v ++ k ∷ []) c.loop-c.invariant.starts (g ∙ sym (start-own p c.loop-c.c inside))
          ∙ sym (row-more (cell_start p) c.loop-c.c);
      lengths =
          c.in_ok-place.ensures.lengths
          ∙ ap (λ v. set v (rank_of p c.loop-c.c) (get_or v (rank_of p c.loop-c.c) 0 + cell_length p c.loop-c.c)) c.loop-c.invariant.lengths
          ∙ bytes-more p c.loop-c.c p.ranks _ (c.requires.ranks_known c.loop-c.c inside)
          (ap (λ v. v + cell_length p c.loop-c.c) (get-row (λ r. sum_by (cell_length p) (of_key (rank_of p) c.loop-c.c r)) p.ranks
          (rank_of p c.loop-c.c) 0 (c.requires.ranks_known c.loop-c.c inside)));
    }

pub returns-clause-lengths : goal.returns-clause-lengths
returns-clause-lengths c =
    let p = c.args.plan.now in
    let n = ap length c.cells.ensures in
    let t = c.loop-c-test.false in
    let u = c.loop-c.auto in
    c.loop-c.invariant.lengths
    ∙ ap (λ n. map (λ r. sum_by (cell_length p) (of_key (rank_of p) n r)) (all_ranks p)) (let e : c.loop-c.c ≡ length p.cells =
    omega (arith, n, t, u) in e)
