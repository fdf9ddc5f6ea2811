use Rattle.std.proofs.Common.{◌≡◌, None, sym, ap, ◌∙◌, inl, inr, rules, arith}
use Rattle.std.proofs.lemmas.Bool.{cases_lt}
use Rattle.std.proofs.lemmas.Bool.Decides.{eqb_tells}
use Rattle.triggered_ops.specs.Layout.{wait_at}
use Rattle.triggered_ops.proofs.Entering.{no-stray}
use Rattle.triggered_ops.proofs.Places.{same-length, same-both, wait-past}
use Rattle.triggered_ops.proofs.told.tell_strays.Goals as goal

pub loop-place-preserved : goal.loop-place-preserved
loop-place-preserved g c =
    let i = c.loop-place.invariant in
    let e = c.tell_one.ensures in
    let l = same-length _ _ e.same in
    record {
      hung = e.hung;
      same = same-both _ _ _ i.same e.same;
      told = e.told ∙ i.told;
      due = λ p x lt f is. elim (eqb_tells p c.loop-place.place) [
        | inl here ↦ e.here x (ap (wait_at c.tell_one.new.spots.spots) (sym here.1) ∙ f) is
        | inr other ↦ i.due p x (let n = other.1 in omega (arith, lt, n)) (sym (e.others p other.1) ∙ f) is
      ];
      long = omega (arith, l, i.long);
    }

pub returns-then-is_none-clause-due : goal.returns-then-is_none-clause-due
returns-then-is_none-clause-due g c = λ p x e is. absurd (no-stray (wait_at c.args.spots.now.spots) c.args.threads.now c.args.stamps.now
    c.requires.hung c.args.ct c.requires.belongs (let none : c.first.result ≡ None = search rules in sym c.first.ensures ∙ none) p x e is)

pub returns-clause-due : goal.returns-clause-due
returns-clause-due g c = λ p x e is. elim (cases_lt p c.loop-place.place) [
  | inl lt ↦ c.loop-place.invariant.due p x lt e is
  | inr le ↦ let none = wait-past c.loop-place.spots.spots p (omega (arith, le, c.loop-place.invariant.long)) in cc
]
