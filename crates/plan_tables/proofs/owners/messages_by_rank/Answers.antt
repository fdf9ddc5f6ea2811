-- One number more in each turn, where it is a message's.
use Rattle.std.proofs.Common.{ℕ, Bool, true, false, cond, nat_lt, refl, ◌≡◌, ◌+◌, ◌++◌, ◌∷◌, [], arith, length, map, set, get_or, ap, ◌∙◌}
use Rattle.std.proofs.lemmas.Bool.{ltb-true, ltb-false}
use Rattle.plan_core.specs.Plan.{from_to}
use Rattle.plan_core.proofs.Drawing.{row-same}
use Rattle.plan_core.specs.calls.Areas.{links_to}
use Rattle.plan_tables.specs.Rising.{of_key, no_numbers}
use Rattle.plan_tables.specs.Tables.{all_ranks, arrival_key}
use Rattle.plan_tables.proofs.ByClass.{arrivals-same}
use Rattle.plan_tables.proofs.Passes.{keyed-out, length-table, listed-more}
use Rattle.plan_tables.proofs.owners.messages_by_rank.Goals as goal

pub loop-l-init : goal.loop-l-init
loop-l-init c = c.in_ok-into.ensures ∙ ap (λ n. map no_numbers (from_to 0 n)) c.ranks.ensures

pub add_message-requires-clause-ranks : goal.add_message-requires-clause-ranks
add_message-requires-clause-ranks c = length-table (of_key (arrival_key c.args.plan.now) c.loop-l.l) c.args.plan.now.ranks c.loop-l.into
    c.loop-l.invariant

pub loop-l-preserved : goal.loop-l-preserved
loop-l-preserved c =
    let p = c.args.plan.now in
    c.in_ok-add_message.ensures ∙ at (nat_lt (arrival_key p c.loop-l.l) p.ranks) refl
  where
    p : Rattle.plan_core.specs.Plan.Plan
    p = c.args.plan.now

    key : ℕ
    key = arrival_key c.args.plan.now c.loop-l.l

    at : (b : Bool) → nat_lt key p.ranks ≡ b → cond b (set c.loop-l.into key (get_or c.loop-l.into key [] ++ c.loop-l.l ∷ []))
        c.loop-l.into ≡ map (of_key (arrival_key p) (c.loop-l.l + 1)) (from_to 0 p.ranks)
    at true t = listed-more (arrival_key p) c.loop-l.l p.ranks c.loop-l.into (ltb-true _ _ t) c.loop-l.invariant
    at false t = c.loop-l.invariant ∙ keyed-out (arrival_key p) (λ v. v) c.loop-l.l p.ranks (ltb-false _ _ t)

pub returns : goal.returns
returns c =
    let p = c.args.plan.now in
    let n = ap length c.links.ensures in
    let t = c.loop-l-test.false in
    let u = c.loop-l.auto in
    c.loop-l.invariant
    ∙ ap (λ n. map (of_key (arrival_key p) n) (all_ranks p)) (let e : c.loop-l.l ≡ length p.links = omega (arith, n, t, u) in e)
    ∙ row-same (of_key (arrival_key p) (length p.links)) (links_to p) 0 p.ranks (λ i l. arrivals-same p i (omega (arith, l)))
