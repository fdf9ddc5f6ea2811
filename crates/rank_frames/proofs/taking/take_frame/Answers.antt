use Rattle.std.proofs.Common.{◌≡◌, ◌++◌, ◌∙◌, ℕ, List, None, arith, subst, sym}
use Rattle.std.proofs.lemmas.Result.{err_from_is_err_and}
use Rattle.message_codec.specs.Encoding.{encoding}
use Rattle.message_codec.specs.Reading.{reading}
use Rattle.port_io.specs.Ends.{GivesFront}
use Rattle.rank_frames.specs.Frames.{frame, head}
use Rattle.rank_frames.specs.Place.{Refuses, fault_of_head}
use Rattle.rank_frames.proofs.By.{bytes-lack, bytes-stop, frame-takes, front-then, head-lacks, head-stops}
use Rattle.rank_frames.proofs.taking.take_frame.Goals as goal

pub returns-in_err-from-clause-went : goal.returns-in_err-from-clause-went
returns-in_err-from-clause-went g c =
    let p = err_from_is_err_and c.from_residual.result c.from_residual.ensures.1 in
    rw p.1 (head-lacks p.0 c.args.place.now (g.S.Source.inflow c.args.source.now) (g.S.Source.inflow c.read_head.new.source)
    (g.K.Sink.outflow c.args.sink.now) c.requires.idle c.requires.waits (rw p.2 c.in_err-from.ensures.stops))

pub returns-in_err-pass_head-clause-went : goal.returns-in_err-pass_head-clause-went
returns-in_err-pass_head-clause-went g c =
    let r = c.from_residual-in_err-pass_head in
    let p = err_from_is_err_and r.result r.ensures.1 in
    rw p.1 (head-stops p.0 c.args.place.now (g.S.Source.inflow c.args.source.now) (g.S.Source.inflow c.read_head.new.source)
    (g.K.Sink.outflow c.args.sink.now) c.in_ok-from.from c.in_ok-from.count c.in_ok-from.ensures.front
    (rw p.2 c.in_err-pass_head.ensures.refused))

pub returns-in_err-read_bytes-clause-went : goal.returns-in_err-read_bytes-clause-went
returns-in_err-read_bytes-clause-went g c =
    let r = c.from_residual-in_err-read_bytes in
    let p = err_from_is_err_and r.result r.ensures.1 in
    rw p.1 (bytes-lack p.0 c.args.place.now (g.S.Source.inflow c.args.source.now) (g.S.Source.inflow c.read_head.new.source)
    (g.S.Source.inflow c.read_bytes.new.source) (g.K.Sink.outflow c.args.sink.now) c.in_ok-from.from c.in_ok-from.count c.requires.idle
    c.requires.waits c.in_ok-from.ensures.front c.in_ok-from.ensures.faults (rw p.2 c.in_err-read_bytes.ensures.stops))

pub returns-in_err-message-clause-went : goal.returns-in_err-message-clause-went
returns-in_err-message-clause-went g c =
    let r = c.from_residual-in_err-message in
    let p = err_from_is_err_and r.result r.ensures.1 in
    let place = c.args.place.now in
    let source = c.in_ok-from.from in
    let xs = c.read_bytes.new.buffer.items in
    let x = g.S.Source.inflow c.args.source.now in
    let y = g.S.Source.inflow c.read_head.new.source in
    let z = g.S.Source.inflow c.read_bytes.new.source in
    let whole = sym c.in_ok-read_bytes.ensures.whole in
    let front = front-then x.left y.left z.left (head source c.in_ok-from.count) xs c.in_ok-from.ensures.front
    c.in_ok-read_bytes.ensures.front in
    rw p.1 (bytes-stop p.0 place x z (g.K.Sink.outflow c.args.sink.now) source xs
    (subst (λ n. GivesFront x.left z.left (head source n ++ xs)) whole front)
    (subst (λ n. fault_of_head place source n ≡ None) whole c.in_ok-pass_head.ensures.passes)
    (subst (λ (l : List ℕ). Refuses place source p.0 (reading l)) c.as_slice.ensures.value (rw p.2 c.in_err-message.ensures.refused)))

pub returns-clause-went : goal.returns-clause-went
returns-clause-went g c =
    let source = c.in_ok-from.from in
    let xs = c.read_bytes.new.buffer.items in
    let x = g.S.Source.inflow c.args.source.now in
    let y = g.S.Source.inflow c.read_head.new.source in
    let z = g.S.Source.inflow c.read_bytes.new.source in
    let front = front-then x.left y.left z.left (head source c.in_ok-from.count) xs c.in_ok-from.ensures.front
    c.in_ok-read_bytes.ensures.front in
    let whole : GivesFront x.left z.left (frame source xs) =
    subst (λ n. GivesFront x.left z.left (head source n ++ xs)) (sym c.in_ok-read_bytes.ensures.whole) front in
    let is : xs ≡ encoding c.in_ok-message.message = sym c.as_slice.ensures.value ∙ c.in_ok-message.ensures.found in
    let before = c.in_ok-from.ensures.faults in
    let after = c.in_ok-read_bytes.ensures.faults in
    frame-takes c.follow.result c.args.place.now c.follow.new.place x z (g.K.Sink.outflow c.args.sink.now)
    (g.K.Sink.outflow c.follow.new.sink) (frame source (encoding c.in_ok-message.message))
    (subst (λ (l : List ℕ). GivesFront x.left z.left (frame source l)) is whole) (omega (arith, before, after)) c.follow.ensures.went
    c.follow.ensures.idle
