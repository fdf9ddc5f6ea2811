-- One class more in each turn.
use Rattle.std.proofs.Common.{cond, nat_lt, ◌+◌, ◌-◌, ◌*◌, ◌^◌, ◌≡◌, [], ◌∷◌, ◌++◌, map, filter, get_or, ap, ap₂, sym, ◌∙◌, arith}
use Rattle.std.proofs.Common.{append_assoc}
use Rattle.ptl_types.specs.declared.steps.Call.TheVariants.{Overflow}
use Rattle.plan_core.specs.Plan.{from_to}
use Rattle.plan_core.specs.calls.Bits.{bits_above}
use Rattle.plan_tables.specs.AreaTables.{area_bytes, counted_start}
use Rattle.plan_tables.proofs.ByClass.{calls-same, end-same}
use Rattle.plan_tables.proofs.Passes.{length-table}
use Rattle.plan_tables.proofs.PerClass.{bytes-at, classes-next, count-at, counted_call, key-in, present, start-most, start-next}
use Rattle.plan_tables.proofs.Room.{at_most-region}
use Rattle.plan_tables.proofs.appended.add_area_calls.Goals as goal

pub at-count-requires : goal.at-count-requires
at-count-requires c =
    let l = length-table _ (c.args.plan.now.ranks * 81) c.args.areas.now.counts c.requires.counts in
    let k = key-in c.args.plan.now.ranks c.args.r c.loop-class.class c.requires.rank c.loop-class-test.true in
    omega (arith, l, k)

pub at-length-requires : goal.at-length-requires
at-length-requires c =
    let l = length-table _ (c.args.plan.now.ranks * 81) c.args.areas.now.bytes c.requires.bytes in
    let k = key-in c.args.plan.now.ranks c.args.r c.loop-class.class c.requires.rank c.loop-class-test.true in
    omega (arith, l, k)

pub overflow_add-start : goal.overflow_add-start
overflow_add-start c =
    let p = c.args.plan.now in
    let n = c.at-length.ensures ∙ ap (λ xs. get_or xs (c.args.r * 81 + c.loop-class.class) 0) c.requires.bytes
    ∙ bytes-at p c.args.r c.loop-class.class c.requires.rank c.loop-class-test.true in
    let s = c.loop-class.invariant.start in
    let m = start-most p c.args.r c.loop-class.class c.loop-class-test.true in
    let f = at_most-region p c.args.r c.requires.tabled in
    omega (arith, n, s, m, f)

pub loop-class-preserved : goal.loop-class-preserved
loop-class-preserved c =
    let p = c.args.plan.now in
    let r = c.args.r in
    let k = c.loop-class.class in
    let n = c.at-length.ensures ∙ ap (λ xs. get_or xs (r * 81 + k) 0) c.requires.bytes
    ∙ bytes-at p r k c.requires.rank c.loop-class-test.true in
    let q = c.at-count.ensures ∙ ap (λ xs. get_or xs (r * 81 + k) 0) c.requires.counts
    ∙ count-at p r k c.requires.rank c.loop-class-test.true in
    let s = c.loop-class.invariant.start in
    let before = c.args.calls.now.items ++ map (counted_call p r) (filter (present p r) (from_to 0 k)) in
    record {
      start = ap₂ (λ a b. a + b) s n ∙ sym (start-next p r k);
      calls =
          c.in_ok-push_area.ensures
          ∙ ap (λ v. v ++ cond (nat_lt 0 c.at-count.result) (Overflow c.loop-class.start c.at-length.result
          (bits_above c.from.result 0 * 2 ^ 16) (2 ^ 40 - 1) ∷ []) []) c.loop-class.invariant.calls
          ∙ ap (λ v. before ++ v)
          (ap (λ v. cond (nat_lt 0 v) (Overflow c.loop-class.start c.at-length.result (bits_above c.from.result 0 * 2 ^ 16) (2 ^ 40 - 1)
          ∷ []) []) q
          ∙ ap (λ v. cond (present p r k) (Overflow v c.at-length.result (bits_above c.from.result 0 * 2 ^ 16) (2 ^ 40 - 1) ∷ []) []) s
          ∙ ap (λ v. cond (present p r k) (Overflow (counted_start p r k) v (bits_above c.from.result 0 * 2 ^ 16) (2 ^ 40 - 1) ∷ []) []) n
          ∙ ap (λ v. cond (present p r k) (Overflow (counted_start p r k) (area_bytes p r k) (bits_above v 0 * 2 ^ 16) (2 ^ 40 - 1) ∷ [])
          []) c.from.ensures)
          ∙ append_assoc c.args.calls.now.items (map (counted_call p r) (filter (present p r) (from_to 0 k)))
          (cond (present p r k) (counted_call p r k ∷ []) [])
          ∙ ap (λ v. c.args.calls.now.items ++ v) (sym (classes-next (counted_call p r) p r k));
    }

pub returns-clause-calls : goal.returns-clause-calls
returns-clause-calls c =
    let p = c.args.plan.now in
    let r = c.args.r in
    let t = c.loop-class-test.false in
    let u = c.loop-class.auto.class-end in
    let e : c.loop-class.class ≡ 81 = omega (arith, t, u) in
    c.loop-class.invariant.calls
    ∙ ap (λ v. c.args.calls.now.items ++ v) (ap (λ n. map (counted_call p r) (filter (present p r) (from_to 0 n))) e
    ∙ calls-same p r c.requires.rank)

pub returns-clause-end : goal.returns-clause-end
returns-clause-end c =
    let p = c.args.plan.now in
    let r = c.args.r in
    let t = c.loop-class-test.false in
    let u = c.loop-class.auto.class-end in
    let e : c.loop-class.class ≡ 81 = omega (arith, t, u) in
    c.loop-class.invariant.start ∙ ap (counted_start p r) e ∙ end-same p r c.requires.rank
