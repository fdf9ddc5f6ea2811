use Rattle.std.proofs.Common.{◌∙◌, List, set, set-set, ap, refl, sym, subst, arith}
use lib.ListN.{get_elem?}
use Rattle.ni_model.specs.Calls.{AnswersReady}
use Rattle.ni_model.specs.State.{State}
use Rattle.rank_node.specs.Copies.{has_start}
use Rattle.rank_node.specs.Node.{NodeState}
use Rattle.rest_probe.specs.declared.notes.RankNote.{RankNote}
use Rattle.rest_probe.specs.Counted.{cleared}
use Rattle.rest_probe.specs.Waves.{begun, with_got, with_sent}
use Rattle.rest_probe.proofs.Kept.{twice-cleared}
use Rattle.rank_slots.specs.Probes.{HasIn, HasOut}
use Rattle.rank_slots.proofs.Pairs.{exists_at, same_at}
use Rattle.rank_slots.proofs.Counting.{same-lanes, set-is, set-long}
use Rattle.rank_slots.proofs.turn_rank.TurnRank.note_in.Goals as goal

pub note_sent-requires-clause-rank : goal.note_sent-requires-clause-rank
note_sent-requires-clause-rank c = let w = c.args.wave.now in let r = c.args.rank in let y = exists_at w r c.requires.rank in
    let n = set-long w c.begin.new.self r (begun c.started.result c.ready.result y.0) (c.begin.ensures y.0 y.1) in let low =
    c.requires.rank in omega (arith, n, low)

pub note_sent-requires-clause-there : goal.note_sent-requires-clause-there
note_sent-requires-clause-there c = λ z at. let w = c.args.wave.now in let r = c.args.rank in let y = exists_at w r c.requires.rank in
    let here = set-is w c.begin.new.self r (begun c.started.result c.ready.result y.0) c.requires.rank (c.begin.ensures y.0 y.1) in
    ap (λ (v : RankNote). v.there) (sym (same_at c.begin.new.self r _ z here at))

pub note_sent-requires-clause-ends : goal.note_sent-requires-clause-ends
note_sent-requires-clause-ends c = λ z i k at there. let w = c.args.wave.now in let r = c.args.rank in let y =
    exists_at w r c.requires.rank
    in
    let here = set-is w c.begin.new.self r (begun c.started.result c.ready.result y.0) c.requires.rank (c.begin.ensures y.0 y.1) in
    same-lanes (HasOut c.args.self.now) y.0.note.sent (cleared y.0.note.sent) (twice-cleared y.0.note.sent)
    (λ i k. c.requires.outs y.0 i k y.1) i k
    (ap (λ (v : RankNote). get_elem? v.note.sent i) (same_at c.begin.new.self r _ z here at) ∙ there)

pub note_got-requires-clause-rank : goal.note_got-requires-clause-rank
note_got-requires-clause-rank c = let w = c.args.wave.now in let r = c.args.rank in let y = exists_at w r c.requires.rank in
    let x = begun c.started.result c.ready.result y.0 in
    let here = set-is w c.begin.new.self r x c.requires.rank (c.begin.ensures y.0 y.1) in
    let two = c.note_sent.ensures x here in
    let n = set-long w c.begin.new.self r x (c.begin.ensures y.0 y.1) in let m = set-long c.begin.new.self c.note_sent.new.wave r
    (with_sent x two.0) two.1 in
    let low = c.requires.rank in omega (arith, n, m, low)

pub note_got-requires-clause-there : goal.note_got-requires-clause-there
note_got-requires-clause-there c = λ z at. let w = c.args.wave.now in let r = c.args.rank in let y = exists_at w r c.requires.rank in
    let x = begun c.started.result c.ready.result y.0 in
    let here = set-is w c.begin.new.self r x c.requires.rank (c.begin.ensures y.0 y.1) in
    let two = c.note_sent.ensures x here in
    let n = set-long w c.begin.new.self r x (c.begin.ensures y.0 y.1) in
    let later = set-is c.begin.new.self c.note_sent.new.wave r (with_sent x two.0) (let low = c.requires.rank in omega (arith, n, low))
    two.1 in
    ap (λ (v : RankNote). v.there) (sym (same_at c.note_sent.new.wave r _ z later at))

pub note_got-requires-clause-ends : goal.note_got-requires-clause-ends
note_got-requires-clause-ends c = λ z i k at there. let w = c.args.wave.now in let r = c.args.rank in let y =
    exists_at w r c.requires.rank in
    let x = begun c.started.result c.ready.result y.0 in
    let here = set-is w c.begin.new.self r x c.requires.rank (c.begin.ensures y.0 y.1) in
    let two = c.note_sent.ensures x here in
    let n = set-long w c.begin.new.self r x (c.begin.ensures y.0 y.1) in
    let later = set-is c.begin.new.self c.note_sent.new.wave r (with_sent x two.0) (let low = c.requires.rank in omega (arith, n, low))
    two.1 in
    same-lanes (HasIn c.args.self.now) y.0.note.got (cleared y.0.note.got) (twice-cleared y.0.note.got)
    (λ i k. c.requires.ins y.0 i k y.1) i k
    (ap (λ (v : RankNote). get_elem? v.note.got i) (same_at c.note_sent.new.wave r _ z later at) ∙ there)

pub returns : goal.returns
returns c = λ x at. let w = c.args.wave.now in let r = c.args.rank in let s = c.args.self.now in
    let first = begun c.started.result c.ready.result x in let one = c.begin.ensures x at in
    let here = set-is w c.begin.new.self r first c.requires.rank one in
    let two = c.note_sent.ensures first here in let second = with_sent first two.0 in
    let n = set-long w c.begin.new.self r first one in
    let later = set-is c.begin.new.self c.note_sent.new.wave r second (let low = c.requires.rank in omega (arith, n, low)) two.1 in
    let three = c.note_got.ensures second later in let last = with_got second three.0 in (
      last,
      three.1 ∙ (ap (λ (l : List RankNote). set l r last) two.1
          ∙ (set-set c.begin.new.self r second last ∙ (ap (λ (l : List RankNote). set l r last) one ∙ set-set w r first last))),
      record {
        there = refl;
        lanes = record { sent = two.2.lanes ∙ twice-cleared x.note.sent; got = three.2.lanes ∙ twice-cleared x.note.got };
        started = c.started.ensures ∙ ap (λ (m : NodeState). has_start m.diary.locals) c.deref.ensures;
        ready = subst (λ (v : State). AnswersReady v c.ready.result) (c.nic.ensures ∙ ap (λ (m : NodeState). m.nic) c.deref-2.ensures)
            c.ready.ensures.value;
        sent = two.2.each;
        got = three.2.each;
      },
    )
