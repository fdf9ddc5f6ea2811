use Rattle.std.proofs.Common.{◌≡◌, [], take, subst, arith, rules}
use Rattle.port_io.specs.Ends.{GivesFront}
use Rattle.run_text.proofs.Taking.{Rose-later}
use Rattle.run_text.proofs.Fronts.{GivesFront-nothing, GivesFront-then, IsAtEnd-stays}
use Rattle.run_text.proofs.reading.read_text.Goals as goal

pub loop-text-init : goal.loop-text-init
loop-text-init g c = record {
  front = rw c.new-text.ensures.items (GivesFront-nothing _);
  short = omega arith;
  room = c.in-Ok.ensures.len;
  faults = omega arith;
}

pub loop-text-preserved : goal.loop-text-preserved
loop-text-preserved g c = record {
  front = rw c.in-Ok-read_piece.ensures.added (GivesFront-then _ _ _ _ _ c.loop-text.invariant.front c.in-Ok-read_piece.ensures.front);
  short = let len = c.in-Ok-read_piece.ensures.len in let within = c.in-Ok-read_piece.ensures.within in omega arith;
  room = c.loop-text.invariant.room;
  faults = omega (arith, c.read_piece.ensures.faults);
}

pub returns-in-Ok-eq0-clause-text : goal.returns-in-Ok-eq0-clause-text
returns-in-Ok-eq0-clause-text g c =
    let len = c.in-Ok-eq0.ensures.len in
    let before = g.S.Source.inflow c.loop-text.source in
    let zero_read : c.in-Ok-eq0.field-0 ≡ 0 = search rules in
    let nothing : GivesFront before.left (g.S.Source.inflow c.read_piece.new.source).left [] =
    subst (λ n. GivesFront before.left (g.S.Source.inflow c.read_piece.new.source).left (take n c.read_piece.new.piece)) zero_read
    c.in-Ok-eq0.ensures.front in
    record {
      front = rw c.in-Ok-eq0.ensures.added (GivesFront-then _ before.left _ _ _ c.loop-text.invariant.front c.in-Ok-eq0.ensures.front);
      short = rw (← c.read_piece.new.text.ok.0) (omega arith);
      whole = λ h. IsAtEnd-stays before.left _ (c.in-Ok-eq0.ensures.end zero_read) nothing;
      faults = omega (arith, c.read_piece.ensures.faults);
    }

pub returns-in-Err-clause-failed : goal.returns-in-Err-clause-failed
returns-in-Err-clause-failed g c h = Rose-later _ _ _ c.loop-text.invariant.faults (c.in-Err.ensures.failed h)

pub returns-clause-text : goal.returns-clause-text
returns-clause-text g c = record {
  front = c.loop-text.invariant.front;
  short = rw (← c.loop-text.text.ok.0) c.loop-text.invariant.short;
  whole = λ h. absurd (let len = c.loop-text.text.ok.0 in omega arith);
  faults = c.loop-text.invariant.faults;
}
