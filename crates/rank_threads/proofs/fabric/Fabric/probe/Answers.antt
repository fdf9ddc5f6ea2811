use Rattle.std.proofs.Common.{append-nil, ◌<◌, [], ◌∙◌, List, length, ap, refl, sym, subst, arith}
use Rattle.std.specs.Prelude.{slice_set}
use lib.ListN.{get_elem?}
use Rattle.atomic_table.proofs.Lists.{set_else, set_here}
use Rattle.turn_table.specs.Hands.{Took}
use Rattle.rest_probe.specs.declared.notes.RankNote.{RankNote}
use Rattle.rest_probe.specs.Waves.{IsFor}
use Rattle.rest_probe.proofs.Kept.{for-set}
use Rattle.rank_slots.specs.Chronicles.{chronicle}
use Rattle.rank_slots.specs.Names.{history, mark, plate}
use Rattle.rank_slots.specs.Probes.{Says}
use Rattle.rank_slots.specs.Sound.{IsSound}
use Rattle.rank_threads.specs.Turns.{Turned}
use Rattle.rank_slots.proofs.Chronicles.{keeps-still}
use Rattle.rank_slots.proofs.Pairs.{exists_at, same_at}
use Rattle.rank_threads.proofs.Probing.{has-in, has-out, says}
use Rattle.rank_threads.proofs.Turns.{may-end}
use Rattle.rank_threads.proofs.fabric.Fabric.probe.Goals as goal

pub note_in-requires-clause-rank : goal.note_in-requires-clause-rank
note_in-requires-clause-rank g c = let n = c.requires.lanes.count in let r = c.requires.rank in omega (arith, n, r)

pub note_in-requires-clause-outs : goal.note_in-requires-clause-outs
note_in-requires-clause-outs g c = let t = c.take-slot in let fabric = c.args.self.now in
    has-out fabric.job t.ensures.sound fabric.wires t.ensures.lanes c.args.rank t.result.value t.ensures.named c.args.wave.now
    c.requires.lanes

pub note_in-requires-clause-ins : goal.note_in-requires-clause-ins
note_in-requires-clause-ins g c = let t = c.take-slot in let fabric = c.args.self.now in
    has-in fabric.job t.ensures.sound fabric.wires t.ensures.lanes c.args.rank t.result.value t.ensures.named c.args.wave.now
    c.requires.lanes

pub give-requires-clause-sound : goal.give-requires-clause-sound
give-requires-clause-sound g c = λ _ _. subst IsSound (sym c.take-slot.ensures.named.job_is) c.take-slot.ensures.sound

pub give-requires-clause-taken : goal.give-requires-clause-taken
give-requires-clause-taken g c = λ _ _. let t = c.take-slot in let x = t.result.value in
    may-end t.result.slot c.args.rank c.args.hand.now.knows t.new.hand.knows x x t.ensures.slot t.ensures.took refl
    ([], append-nil (history x)) (keeps-still x x refl)

pub returns-clause-noted : goal.returns-clause-noted
returns-clause-noted g c = let t = c.take-slot in let x = t.result.value in let fabric = c.args.self.now in let w = c.args.wave.now in
    let r = c.args.rank in
    let took = subst (λ k. Took chronicle plate c.args.hand.now.knows k x t.new.hand.knows) (sym t.ensures.slot) t.ensures.took in
    let one = subst (λ k. Turned c.args.hand.now.knows c.give.new.hand.knows k (mark x) (mark x)) t.ensures.slot
    (c.give.ensures.turned c.args.hand.now.knows x took) in
    let low : r < length w = (let n = c.requires.lanes.count in let h = c.requires.rank in omega (arith, n, h)) in
    let y = exists_at w r low in let e = c.note_in.ensures y.0 y.1 in (
      mark x,
      one,
      λ z at. (let same = same_at (slice_set w r e.0) r e.0 z (set_here w r e.0 low) (ap (λ (l : List RankNote). get_elem? l r) (sym e.1)
          ∙ at) in (
            sym (ap (λ (v : RankNote). v.there) same) ∙ e.2.there,
            subst (λ (v : RankNote). Says fabric.job r (history x) x.node.value.kept v.note) same
                (says fabric.job t.ensures.sound fabric.wires t.ensures.lanes r x t.ensures.named w c.requires.lanes y.0 e.0
                t.ensures.kept e.2),
          )),
    )

pub returns-clause-others : goal.returns-clause-others
returns-clause-others g c = λ q apart. let t = c.take-slot in let w = c.args.wave.now in let r = c.args.rank in
    let low : r < length w = (let n = c.requires.lanes.count in let h = c.requires.rank in omega (arith, n, h)) in
    let y = exists_at w r low in let e = c.note_in.ensures y.0 y.1 in
    ap (λ (l : List RankNote). get_elem? l q) e.1 ∙ set_else w r q e.0 apart

pub returns-clause-lanes : goal.returns-clause-lanes
returns-clause-lanes g c = let t = c.take-slot in let w = c.args.wave.now in let r = c.args.rank in
    let low : r < length w = (let n = c.requires.lanes.count in let h = c.requires.rank in omega (arith, n, h)) in
    let y = exists_at w r low in let e = c.note_in.ensures y.0 y.1 in let p = c.args.self.now.job.schedule.plan in
    subst (IsFor p) (sym e.1) (for-set p w r y.0 e.0 y.1 e.2.lanes c.requires.lanes)
