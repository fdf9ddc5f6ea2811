use Rattle.std.proofs.Common.{subst, arith}
use Rattle.plan_terms.specs.terms.Terms.{IsTable}
use Rattle.plan_terms.proofs.terms.table.Terms.place.Goals as goal

pub overflow_add-result : goal.overflow_add-result
overflow_add-result c =
    let room = (subst IsTable c.self.view_is c.self.invariant).room in
    let base = c.base.ensures in
    let from = c.from.ensures in
    let r = c.requires in
    omega (arith, room, base, from, r)

pub overflow_cast-result : goal.overflow_cast-result
overflow_cast-result c =
    let room = (subst IsTable c.self.view_is c.self.invariant).room in
    let base = c.base.ensures in
    let from = c.from.ensures in
    let r = c.requires in
    omega (arith, room, base, from, r)
