-- One number more in each turn, where its target is a cell.
use Rattle.std.proofs.Common.{ℕ, Bool, true, false, cond, nat_lt, refl, ◌≡◌, ◌+◌, ◌<◌, ◌≤◌, ◌++◌, ◌∷◌, [], arith, length, map, set}
use Rattle.std.proofs.Common.{get_or, ap, ◌∙◌, sym}
use Rattle.std.proofs.lemmas.Bool.{ltb-true, ltb-false}
use Rattle.plan_core.specs.Plan.{Plan, all_cells, from_to, link}
use Rattle.plan_tables.specs.Rising.{of_key, no_numbers}
use Rattle.plan_tables.proofs.Passes.{keyed-out, length-table, listed-more}
use Rattle.plan_judge.proofs.incoming.links_by_target.Goals as goal

abbrev target_of : Plan → ℕ → ℕ
target_of p l = (link p l).target

pub loop-l-init : goal.loop-l-init
loop-l-init c = c.in_ok-into.ensures ∙ ap (λ n. map no_numbers (from_to 0 n)) c.cell_count-cells.ensures

pub add_link-requires-clause-cells : goal.add_link-requires-clause-cells
add_link-requires-clause-cells c =
    length-table (of_key (target_of c.args.plan.now) c.loop-l.l) (length c.args.plan.now.cells) c.loop-l.into c.loop-l.invariant
    ∙ sym c.cell_count-cells.ensures

pub loop-l-preserved : goal.loop-l-preserved
loop-l-preserved c = c.in_ok-add_link.ensures ∙ at (nat_lt key cells) refl
  where
    p : Plan
    p = c.args.plan.now

    key : ℕ
    key = target_of c.args.plan.now c.loop-l.l

    cells : ℕ
    cells = c.cell_count-cells.result

    at : (b : Bool) → nat_lt key cells ≡ b
        → cond b (set c.loop-l.into key (get_or c.loop-l.into key [] ++ c.loop-l.l ∷ [])) c.loop-l.into
        ≡ map (of_key (target_of p) (c.loop-l.l + 1)) (from_to 0 (length p.cells))
    at true t =
        let h = ltb-true key cells t in
        let e = c.cell_count-cells.ensures in
        let z : key < length p.cells = omega (arith, h, e) in
        listed-more (target_of p) c.loop-l.l (length p.cells) c.loop-l.into z c.loop-l.invariant
    at false t =
        let h = ltb-false key cells t in
        let e = c.cell_count-cells.ensures in
        let z : length p.cells ≤ key = omega (arith, h, e) in
        c.loop-l.invariant ∙ keyed-out (target_of p) (λ v. v) c.loop-l.l (length p.cells) z

pub returns : goal.returns
returns c =
    let p = c.args.plan.now in
    let n = c.link_count-l-end.ensures in
    let t = c.loop-l-test.false in
    let e : c.loop-l.l ≡ length p.links = omega (arith, n, t) in
    c.loop-l.invariant ∙ ap (λ n. map (of_key (target_of p) n) (all_cells p)) e
