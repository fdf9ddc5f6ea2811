use Rattle.std.proofs.Common.{◌≡◌, ◌∙◌, ap, refl, sym, arith}
use Rattle.cuts.specs.histories.History.Local.{Fire}
use Rattle.rank_node.specs.Copies.{Diary}
use Rattle.rank_node.proofs.Copies.{listed-push, started-push, or-false}
use Rattle.rank_node.proofs.history.History.note_fire.Goals as goal

pub invariant_of-self : goal.invariant_of-self
invariant_of-self c =
    let room : c.self.inside.room ≡ c.args.self.now.room = ap (λ (d : Diary). d.room) c.self.view_is in (
      rw (c.fired-self-inside.ensures, c.push_reserved.ensures.items)
          (listed-push c.self.inside.past.locals (Fire c.args.number) c.self.inside.steps.items c.self.invariant.0),
      rw c.fired-self-inside.ensures (c.self.invariant.1 ∙ sym (started-push c.self.inside.past.locals (Fire c.args.number) ∙ or-false _)),
      omega arith,
    )

pub returns : goal.returns
returns c = rw (c.fired-self-inside.ensures, c.push_reserved.ensures.items, ← c.self.view_is) refl
