use Rattle.std.proofs.Common.{ap, ◌∙◌, sym, ℕ, Some}
use Rattle.turn_table.specs.Views.{open_turn}
use Rattle.fabric_cases.proofs.wires.turns.visit.Goals as goal

pub give-requires-clause-turn : goal.give-requires-clause-turn
give-requires-clause-turn g c = let t = c.take-slot.ensures.taken in let a = c.add.ensures in record {
  value = c.take-slot.result.value;
  turn = ap (λ v. v.turn) t.1.taken ∙ ap (λ (k : ℕ). Some (open_turn k c.take-slot.result.value)) (sym t.0);
  grows = a.grows;
  named = a.number;
  short = a.short t.1.found.short;
}

pub returns-clause-parts : goal.returns-clause-parts
returns-clause-parts g c = let t = c.take-slot.ensures.taken in let w = ap (λ v. v.turn) t.1.taken
    ∙ ap (λ (k : ℕ). Some (open_turn k c.take-slot.result.value))
    (sym t.0) in
    ap (λ v. v.parts) (c.give.ensures.given c.take-slot.result.value w) ∙ (ap (λ v. v.parts) t.1.taken ∙ ap (λ v. v.parts) t.1.alike)
