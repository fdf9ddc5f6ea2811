use Rattle.std.proofs.Common.{◌≡◌, ◌+◌, ◌≤◌, true, length, sym, ◌∙◌, arith}
use Rattle.op_laws.proofs.Bytes.{length-part}
use Rattle.ni_model.specs.Refusals.{put_fits}
use Rattle.initiator_engine.proofs.Bounds.{part-fits}
use Rattle.initiator_engine.proofs.starts.read_bytes.Goals as goal

pub overflow_add-from : goal.overflow_add-from
overflow_add-from c =
    let fits : put_fits c.in-Some.args c.args.mds.now ≡ true = rw c.in-Some.is at c.requires.fits in
    let part : c.in-Some-bound_of.bound.md.start + c.in-Some.args.local_offset + c.in-Some.args.length ≤ length c.args.region.now =
    part-fits (length c.args.region.now) c.in-Some.args c.args.mds.now c.in-Some-bound_of.bound c.requires.inside fits
    (sym c.bound_of.ensures ∙ c.in-Some-bound_of.is) in
    omega arith

pub read_into-requires-clause-fits : goal.read_into-requires-clause-fits
read_into-requires-clause-fits c =
    let fits : put_fits c.in-Some.args c.args.mds.now ≡ true = rw c.in-Some.is at c.requires.fits in
    part-fits (length c.args.region.now) c.in-Some.args c.args.mds.now c.in-Some-bound_of.bound c.requires.inside fits
    (sym c.bound_of.ensures ∙ c.in-Some-bound_of.is)

pub returns-in-Some-bound_of-clause-length : goal.returns-in-Some-bound_of-clause-length
returns-in-Some-bound_of-clause-length c =
    let fits : put_fits c.in-Some.args c.args.mds.now ≡ true = rw c.in-Some.is at c.requires.fits in
    let part : c.in-Some-bound_of.bound.md.start + c.in-Some.args.local_offset + c.in-Some.args.length ≤ length c.args.region.now =
    part-fits (length c.args.region.now) c.in-Some.args c.args.mds.now c.in-Some-bound_of.bound c.requires.inside fits
    (sym c.bound_of.ensures ∙ c.in-Some-bound_of.is) in
    rw (c.read_into.ensures, c.in-Some.is) (length-part (c.in-Some-bound_of.bound.md.start + c.in-Some.args.local_offset)
    c.in-Some.args.length c.args.region.now part)
