use Rattle.std.proofs.Common.{◌≡◌, ◌∙◌, Bool, true, false, true≢false, sym, refl}
use Rattle.std.specs.Prelude.{IsTrue, IsFalse}
use Rattle.atomic_table.proofs.Lists.{at_index}
use Rattle.rank_slots.proofs.posts.flush_at.Goals as goal

pub flush-requires : goal.flush-requires
flush-requires g c = record {
  wire = c.requires.is c.index-wires-port.result
      (at_index c.args.wires.now c.args.port.now.wire c.index-wires-port.result c.requires.inside c.index-wires-port.is);
}

-- what still waits was not flushed
not-flushed : {P : Type 0} (answer waits : Bool) → (IsTrue answer → waits ≡ false) → (IsFalse answer → P) → waits ≡ true → P
not-flushed true waits done other w = absurd (true≢false (sym w ∙ done refl))
not-flushed false waits done other w = other refl

pub returns-clause-flushed : goal.returns-clause-flushed
returns-clause-flushed g c =
    let was = c.requires.is c.index-wires-port.result (at_index c.args.wires.now c.args.port.now.wire c.index-wires-port.result
    c.requires.inside c.index-wires-port.is) in
    let f = c.flush.ensures in record {
      same = record { target = refl; lane = refl; number = refl; wire = f.wire.0 ∙ sym was.0; bounds = f.wire.1 ∙ sym was.1 };
      sent = f.sent;
      full = not-flushed c.flush.result c.flush.new.end.waits (λ e. (f.flushed e).0) (λ e. (f.full e).0);
    }
