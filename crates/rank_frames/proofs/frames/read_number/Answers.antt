use Rattle.std.proofs.Common.{List, ℕ, subst, sym}
use Rattle.std.proofs.lemmas.Nat.{le_bytes_4}
use Rattle.port_io.specs.Ends.{GivesFront}
use Rattle.rank_frames.proofs.frames.read_number.Goals as goal

pub returns-clause-front : goal.returns-clause-front
returns-clause-front g c =
    let bytes = c.read_whole.new.into in
    let front = c.in_ok-read_whole.ensures.front in
    let whole = le_bytes_4 bytes c.from_le_bytes.result c.read_whole.ensures.kept c.read_whole.ensures.bytes c.from_le_bytes.ensures in
    subst (λ (l : List ℕ). GivesFront (g.S.Source.inflow c.args.source.now).left (g.S.Source.inflow c.read_whole.new.source).left l)
    (sym whole) front
