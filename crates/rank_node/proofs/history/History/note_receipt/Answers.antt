use Rattle.std.proofs.Common.{◌≡◌, ◌∙◌, ap, refl, sym, arith}
use Rattle.cuts.specs.histories.History.Local.{Receive}
use Rattle.rank_node.specs.Copies.{Diary}
use Rattle.rank_node.proofs.Copies.{listed-push, started-push, or-false}
use Rattle.rank_node.proofs.history.History.note_receipt.Goals as goal

pub invariant_of-self : goal.invariant_of-self
invariant_of-self c =
    let room : c.self.inside.room ≡ c.args.self.now.room = ap (λ (d : Diary). d.room) c.self.view_is in
    let e = Receive c.args.source c.args.lane c.args.message.now in (
      rw (c.received-self-inside.ensures, c.header.ensures, c.bytes.ensures.list, c.push_reserved.ensures.items)
          (listed-push c.self.inside.past.locals e c.self.inside.steps.items c.self.invariant.0),
      rw (c.received-self-inside.ensures, c.header.ensures, c.bytes.ensures.list)
          (c.self.invariant.1 ∙ sym (started-push c.self.inside.past.locals e ∙ or-false _)),
      omega arith,
    )

pub returns-clause-does : goal.returns-clause-does
returns-clause-does c = rw (
  c.received-self-inside.ensures,
  c.header.ensures,
  c.bytes.ensures.list,
  c.push_reserved.ensures.items,
  ← c.self.view_is,
) refl
