use Rattle.std.proofs.Common.{List, ℕ, ap, ap₂, refl, sym, subst, ◌∙◌}
use Rattle.ptl_types.specs.declared.headers.Header.{Header}
use Rattle.rank_frames.specs.Frames.{frame}
use Rattle.rank_frames.specs.Going.{Writes}
use Rattle.rank_frames.proofs.Steps.{one-frame}
use Rattle.rank_frames.proofs.going.send.Goals as goal

pub returns-in-Ok : goal.returns-in-Ok
returns-in-Ok g c =
    let r = c.write.result in
    let a = g.K.Sink.outflow c.args.sink.now in
    let b = g.K.Sink.outflow c.write.new.sink in
    subst (λ (text : List ℕ). Writes r a b text)
    (ap₂ frame (ap (λ (h : Header). h.target) c.header.ensures) (c.as_slice.ensures.value ∙ c.in-Ok.ensures.ok)
    ∙ sym (one-frame c.args.message.now)) c.write.ensures

pub returns-in-Err : goal.returns-in-Err
returns-in-Err g c = refl
