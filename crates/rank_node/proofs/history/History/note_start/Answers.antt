use Rattle.std.proofs.Common.{◌≡◌, ◌∙◌, ap, refl, sym, arith}
use Rattle.cuts.specs.histories.History.Local.{Start}
use Rattle.rank_node.specs.Copies.{Diary}
use Rattle.rank_node.proofs.Copies.{listed-push, started-push, or-true}
use Rattle.rank_node.proofs.history.History.note_start.Goals as goal

pub invariant_of-self : goal.invariant_of-self
invariant_of-self c =
    let room : c.self.inside.room ≡ c.args.self.now.room = ap (λ (d : Diary). d.room) c.self.view_is in (
      rw (c.started-self-inside.ensures, c.push_reserved.ensures.items)
          (listed-push c.self.inside.past.locals Start c.self.inside.steps.items c.self.invariant.0),
      rw c.started-self-inside.ensures (sym (started-push c.self.inside.past.locals Start ∙ or-true _)),
      omega arith,
    )

pub returns : goal.returns
returns c = rw (c.started-self-inside.ensures, c.push_reserved.ensures.items, ← c.self.view_is) refl
