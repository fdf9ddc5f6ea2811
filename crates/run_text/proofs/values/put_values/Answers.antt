use Rattle.std.proofs.Common.{◌≡◌, ◌<◌, ◌*◌, ◌++◌, ◌∙◌, ap, append-nil, arith, length, subst}
use Rattle.op_laws.proofs.Bytes.{bytes-pos}
use Rattle.ptl_types.specs.Operations.{bytes_of}
use Rattle.run_text.specs.Putting.{Takes}
use Rattle.run_text.proofs.Spaced.{spaced, spaced-append, spaced-none}
use Rattle.run_text.proofs.Taking.{Fails-next, Puts-stops, Takes-next}
use Rattle.run_text.proofs.values.put_values.Goals as goal

pub share-requires-clause-nonempty : goal.share-requires-clause-nonempty
share-requires-clause-nonempty g c = let s = c.loop-rest.invariant.is_size in let p = bytes-pos c.args.ty in omega (arith, s, p)

pub put_many-requires : goal.put_many-requires
put_many-requires g c =
    let w = c.share.ensures.whole in
    (w.0, c.split_at.ensures.front_len ∙ (w.1 ∙ ap (λ v. w.0 * v) c.loop-rest.invariant.is_size), w.2)

pub returns-in_err-put_many : goal.returns-in_err-put_many
returns-in_err-put_many g c =
    let ty = c.args.ty in let many = c.split_at.result.0.now in let behind = c.split_at.result.1.now in
    let old = g.K.Sink.outflow c.args.sink.now in
    let before = g.K.Sink.outflow c.loop-rest.sink in
    let text = c.args.out.now ++ spaced ty c.args.bytes.now in
    let w = c.share.ensures.whole in
    let whole : length many ≡ w.0 * bytes_of ty = c.split_at.ensures.front_len ∙ (w.1 ∙ ap (λ v. w.0 * v) c.loop-rest.invariant.is_size) in
    let split : spaced ty c.loop-rest.rest.now ≡ spaced ty many ++ spaced ty behind =
    ap (λ v. spaced ty v) c.split_at.ensures.by_index.0 ∙ spaced-append ty w.0 many behind whole in
    Puts-stops _ _ c.args.out.now c.put_many.new.out (spaced ty c.args.bytes.now) _ c.from_residual.ensures.0
    (Fails-next old before _ text c.loop-rest.out (spaced ty many) (spaced ty behind)
    (subst (λ rest. Takes old before text (c.loop-rest.out ++ rest)) split c.loop-rest.invariant.taken) c.in_err-put_many.ensures)

pub loop-rest-preserved : goal.loop-rest-preserved
loop-rest-preserved g c =
    let ty = c.args.ty in let many = c.split_at.result.0.now in let behind = c.split_at.result.1.now in
    let old = g.K.Sink.outflow c.args.sink.now in
    let before = g.K.Sink.outflow c.loop-rest.sink in
    let text = c.args.out.now ++ spaced ty c.args.bytes.now in
    let w = c.share.ensures.whole in
    let whole : length many ≡ w.0 * bytes_of ty = c.split_at.ensures.front_len ∙ (w.1 ∙ ap (λ v. w.0 * v) c.loop-rest.invariant.is_size) in
    let split : spaced ty c.loop-rest.rest.now ≡ spaced ty many ++ spaced ty behind =
    ap (λ v. spaced ty v) c.split_at.ensures.by_index.0 ∙ spaced-append ty w.0 many behind whole in
    record {
      taken = Takes-next old before _ text c.loop-rest.out c.put_many.new.out (spaced ty many) (spaced ty behind)
          (subst (λ rest. Takes old before text (c.loop-rest.out ++ rest)) split c.loop-rest.invariant.taken) c.in_ok-put_many.ensures;
      is_size = c.loop-rest.invariant.is_size;
    }

pub returns : goal.returns
returns g c =
    let old = g.K.Sink.outflow c.args.sink.now in
    let before = g.K.Sink.outflow c.loop-rest.sink in
    let text = c.args.out.now ++ spaced c.args.ty c.args.bytes.now in
    let short : length c.loop-rest.rest.now < bytes_of c.args.ty = let s = c.loop-rest.invariant.is_size in omega (arith, s) in
    subst (λ rest. Takes old before text rest)
    (ap (λ v. c.loop-rest.out ++ v) (spaced-none c.args.ty c.loop-rest.rest.now short) ∙ append-nil c.loop-rest.out)
    c.loop-rest.invariant.taken
