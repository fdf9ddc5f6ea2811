use Rattle.std.proofs.Common.{◌+◌, ◌≤◌, ◌^◌, length, arith}
use Rattle.coll_text.specs.Cuts.{parts_after}
use Rattle.log_words.proofs.Columns.{room}
use Rattle.log_words.proofs.words.Rest.next.Goals as goal

pub overflow_add-self : goal.overflow_add-self
overflow_add-self c =
    omega (
      arith,
      room c.self.inside.column c.self.inside.left c.in_ok-self.field-0 c.cut.result.0.now (parts_after 32 c.cut.result.1)
          c.self.invariant c.in_ok-self.was c.cut.ensures.parts,
    )

pub overflow_add-self-2 : goal.overflow_add-self-2
overflow_add-self-2 c =
    omega (
      arith,
      room c.self.inside.column c.self.inside.left c.in_ok-self.field-0 c.cut.result.0.now (parts_after 32 c.cut.result.1)
          c.self.invariant c.in_ok-self.was c.cut.ensures.parts,
    )

pub invariant_of-result : goal.invariant_of-result
invariant_of-result c =
    let h : c.self.inside.column + length c.cut.result.0.now ≤ 2 ^ 63 =
    omega (
      arith,
      room c.self.inside.column c.self.inside.left c.in_ok-self.field-0 c.cut.result.0.now (parts_after 32 c.cut.result.1)
          c.self.invariant c.in_ok-self.was c.cut.ensures.parts,
    ) in
    h
