use Rattle.std.proofs.Common.{rules, ◌≡◌, ◌<◌, ◌++◌, ◌∷◌, [], ◌∙◌, List, ap, append-nil, append_assoc, arith, length, subst, sym, refl}
use Rattle.std.proofs.lemmas.List.{nil_from_length}
use mathlib.Core.Option.{some}
use lib.ListN.{get_elem?}
use Rattle.std.specs.Vec.Iter.{into_iter_items}
use Rattle.pair_wires.specs.declared.bounds.Bounds.{Bounds}
use Rattle.pair_wires.specs.Wires.{WireState}
use Rattle.rank_wiring.specs.declared.open.WireEnd.{WireEnd}
use Rattle.rank_slots.specs.declared.turn_rank.TurnRank.{TurnRank}
use Rattle.rank_wiring.specs.Opening.{AreFirst, AreLines, IsHanded, wires_in}
use Rattle.rank_slots.specs.Moves.{GainsIn, MayGainIn, Slotwise}
use Rattle.rank_wiring.proofs.Handing.{first-rest, gains-outs, handed-more, lines-rest, may-gain, outs-chain, outs-stay, target-in}
use Rattle.rank_slots.proofs.Snocs.{map_snoc}
use Rattle.rank_wiring.proofs.open.hand_load.Goals as goal

pub loop-line-init : goal.loop-line-init
loop-line-init c = let all = c.into_iter-line-iterator.ensures.into_iter_gives.0 in record {
  len = search rules;
  rest = refl;
  wires = sym (append-nil c.args.wires.now.items);
  lines = subst (AreLines (length c.args.wires.now.items)) (sym all) c.requires.lines;
  lanes = subst (λ (m : List WireEnd). AreFirst c.args.job.now (c.args.wires.now.items ++ wires_in m)) (sym all) c.requires.lanes;
  handed = c.requires.handed;
  count = refl;
  outs = outs-stay c.args.slots.now;
}

pub put_in-requires-clause-rank : goal.put_in-requires-clause-rank
put_in-requires-clause-rank c =
    let i = c.loop-line.invariant in let job = c.args.job.now in let wires = c.loop-line.wires.items in
    let step = c.in-Some.ensures.steps.0 in
    let line = (subst (AreLines (length wires)) step i.lines).0 in
    let first = subst (λ (m : List WireEnd). AreFirst job (wires ++ wires_in m)) step i.lanes in
    subst (λ (b : Bounds). b.target < length c.loop-line.slots) (sym c.bounds.ensures)
    (target-in job c.requires.sound wires c.loop-line.slots i.handed c.in-Some.line line (wires_in (into_iter_items c.next.new.self)) first)

pub put_in-requires-clause-port : goal.put_in-requires-clause-port
put_in-requires-clause-port c =
    let i = c.loop-line.invariant in let job = c.args.job.now in let wires = c.loop-line.wires.items in
    let step = c.in-Some.ensures.steps.0 in
    let line = (subst (AreLines (length wires)) step i.lines).0 in
    let first = subst (λ (m : List WireEnd). AreFirst job (wires ++ wires_in m)) step i.lanes in
    subst (λ (b : Bounds). (x : TurnRank) → get_elem? c.loop-line.slots b.target ≡ some x → MayGainIn x c.in-Some.line.into)
    (sym c.bounds.ensures)
    (may-gain job c.requires.sound wires c.loop-line.slots i.handed c.in-Some.line line (wires_in (into_iter_items c.next.new.self)) first)

pub loop-line-preserved : goal.loop-line-preserved
loop-line-preserved c =
    let i = c.loop-line.invariant in let job = c.args.job.now in let wires = c.loop-line.wires.items in let l = c.in-Some.line in
    let step = c.in-Some.ensures.steps.0 in
    let h = subst (AreLines (length wires)) step i.lines in
    let first = subst (λ (m : List WireEnd). AreFirst job (wires ++ wires_in m)) step i.lanes in
    let rest = into_iter_items c.next.new.self in
    let pushed = c.in_ok-push.ensures.items in
    let gains = subst (λ (b : Bounds). Slotwise
    (GainsIn b.target l.into) c.loop-line.slots c.put_in.new.slots) c.bounds.ensures c.in_ok-put_in.ensures.put in
    let handed = handed-more job c.requires.sound wires c.loop-line.slots i.handed l h.0 c.put_in.new.slots c.put_in.ensures.count
    c.put_in.ensures.nodes gains in record {
      len = (let gone = c.in-Some.ensures.steps.1 in let was = i.len in let short = ap (λ (m : List WireEnd). length m) step in
          omega (arith, gone, was, short));
      rest = append_assoc c.loop-line.yielded (l ∷ []) rest ∙ (ap (λ (m : List WireEnd). c.loop-line.yielded ++ m) (sym step) ∙ i.rest);
      wires = pushed ∙ (ap (λ (m : List WireState). m ++ l.wire ∷ []) i.wires
          ∙ (append_assoc c.args.wires.now.items (wires_in c.loop-line.yielded) (l.wire ∷ [])
          ∙ ap (λ (m : List WireState). c.args.wires.now.items ++ m) (sym (map_snoc (λ (x : WireEnd). x.wire) c.loop-line.yielded l))));
      lines = subst (λ (m : List WireState). AreLines (length m) rest) (sym pushed) (lines-rest (length wires) wires l.wire rest refl h.1);
      lanes = subst (λ (m : List WireState). AreFirst job (m ++ wires_in rest)) (sym pushed)
          (first-rest job wires l.wire (wires_in rest) first);
      handed = subst (λ (m : List WireState). IsHanded job m c.put_in.new.slots) (sym pushed) handed;
      count = c.put_in.ensures.count ∙ i.count;
      outs = outs-chain c.args.slots.now c.loop-line.slots c.put_in.new.slots i.outs
          (gains-outs l.wire.bounds.target l.into c.loop-line.slots c.put_in.new.slots gains);
    }

pub returns-clause-wires : goal.returns-clause-wires
returns-clause-wires c =
    let at = c.loop-line in let i = at.invariant in let none = c.in-None.ensures.steps in
    let empty : into_iter_items at.line-iterator ≡ [] = nil_from_length _ (sym i.len ∙ none.0) in
    let all : at.yielded ≡ c.args.load.lines.items =
    sym (append-nil at.yielded) ∙ (ap (λ (m : List WireEnd). at.yielded ++ m) (sym empty)
    ∙ (i.rest ∙ c.into_iter-line-iterator.ensures.into_iter_gives.0)) in
    i.wires ∙ ap (λ (m : List WireEnd). c.args.wires.now.items ++ wires_in m) all
