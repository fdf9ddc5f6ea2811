-- One cell more in each turn: the call is the entry of the rank's next cell.
use Rattle.std.proofs.Common.{Some, ◌+◌, ◌==◌, ◌≡◌, ◌<◌, ◌++◌, [], ◌∷◌, length, map, take, get_or, refl, ap, ◌∙◌, sym, subst, arith}
use Rattle.std.proofs.lemmas.List.{get_or-map, length-map, map-append, take_more}
use Rattle.std.proofs.lemmas.Grind.{common_steps}
use Rattle.ptl_types.specs.declared.steps.Call.TheVariants.{PtAlloc}
use Rattle.plan_core.specs.Plan.{Plan, cell, own}
use Rattle.plan_core.specs.calls.Calls.{append_call, own_cell}
use Rattle.plan_tables.proofs.Indexed.{all-below}
use Rattle.worlds.proofs.tasks.own.own_cells.Goals as goal
use Rattle.worlds.proofs.tasks.own.own_cells.Goals.{in-Some+in_ok-push, in_default}

pub loop-call-preserved : goal.loop-call-preserved
loop-call-preserved c =
    let p = c.args.schedule.now.plan in
    let r = c.args.r in
    let i = c.loop-call.call-index in
    let xs = own p r in
    let x = get_or xs i 0 in
    let t = c.loop-call-test.true in
    let many = ap length c.requires.late ∙ length-map xs (append_call p r) in
    let lt : i < length xs = omega (arith, t, many) in
    let here : x < length p.cells = all-below (λ k. (cell p k).rank == r) (length p.cells) xs refl i lt in
    let same = c.plan-plan.ensures.value in
    let is_entry : get_or c.args.late.now i PtAlloc ≡ append_call p r x =
    ap (λ v. get_or v i PtAlloc) c.requires.late ∙ get_or-map (append_call p r) xs i 0 PtAlloc lt in
    let read : c.own_cell.result ≡ Some (own_cell p r x) =
    c.own_cell.ensures r x (subst (λ (v : Plan). x < length v.cells) (sym same) here)
    (is_entry ∙ ap (λ (v : Plan). append_call v r x) (sym same))
    ∙ ap (λ (v : Plan). Some (own_cell v r x)) same in
    let next : map (own_cell p r) (take (i + 1) xs) ≡ map (own_cell p r) (take i xs) ++ own_cell p r x ∷ [] =
    ap (map (own_cell p r)) (take_more xs i 0 lt) ∙ map-append (own_cell p r) (take i xs) (x ∷ []) in
    let before = c.loop-call.invariant in
    elim c.match-own_cell.branch [
      | in-Some+in_ok-push w ↦ (let one = sym w.in-Some.is ∙ read in let new = w.in_ok-push.ensures.items in
          grind (arith, common_steps, one, new, next, before))
      | in_default w ↦ (let not = w.in_default.not-Some in grind (arith, read, not))
    ]
