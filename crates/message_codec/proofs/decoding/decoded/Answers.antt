-- What the header and the bytes behind it say, by where each part lies.
use Rattle.std.proofs.Common.{◌≡◌, ap, sym, subst, ◌∙◌, drop, arith}
use Rattle.std.proofs.lemmas.Result.{IfOk-weaker}
use Rattle.ptl_types.specs.Messages.{Sent, message}
use Rattle.message_codec.specs.Encoding.{encoding}
use Rattle.message_codec.specs.Reading.{Gives}
use Rattle.message_codec.proofs.Laws.{is_encoding, reads-judged}
use Rattle.message_codec.proofs.decoding.decoded.Goals as goal

pub returns-clause-found : goal.returns-clause-found
returns-clause-found c =
    let frame = c.args.frame.now in
    let h = c.in-Ok.header in
    let list = c.split_at.result.1.now in
    let behind : drop 80 frame ≡ list = sym c.split_at.ensures.back in
    let whole = is_encoding frame h c.if-frame-lt-HEADER.false (λ i. omega (arith, (c.type_inv.frame i).fits)) c.in-Ok.ensures.reads in
    IfOk-weaker c.judged.result (λ (m : Sent). m ≡ message h list) (λ (m : Sent). frame ≡ encoding m)
    (λ m e. whole ∙ ap (λ l. encoding (message h l)) behind ∙ ap encoding (sym e)) c.judged.ensures.made

pub returns-clause-exact : goal.returns-clause-exact
returns-clause-exact c =
    let read = reads-judged c.args.frame.now c.in-Ok.header c.split_at.result.1.now c.if-frame-lt-HEADER.false
    (sym c.in-Ok.ensures.exact) (sym c.split_at.ensures.back) in
    subst (λ r. Gives c.judged.result r) (sym read) c.judged.ensures.exact
