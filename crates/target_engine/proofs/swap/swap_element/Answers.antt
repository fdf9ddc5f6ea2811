use Rattle.std.proofs.Common.{◌≡◌, [], take, drop, arith, sym}
use Rattle.std.proofs.lemmas.List.{append-nil, take_all, drop_all}
use Rattle.ptl_types.specs.Operations.{bytes_of, swapped}
use Rattle.target_engine.proofs.Exchanging.{one-element}
use Rattle.target_engine.proofs.swap.swap_element.Goals as goal

pub returns : goal.returns
returns c =
    let old : take (bytes_of c.args.ty) c.args.old.now ≡ c.args.old.now = take_all (bytes_of c.args.ty) c.args.old.now (omega arith) in
    let new : take (bytes_of c.args.ty) c.args.new.now ≡ c.args.new.now = take_all (bytes_of c.args.ty) c.args.new.now (omega arith) in
    let none : drop (bytes_of c.args.ty) c.args.new.now ≡ [] = drop_all (bytes_of c.args.ty) c.args.new.now (omega arith) in
    rw (
      c.write_pattern.ensures.does,
      none,
      append-nil,
      c.swapped.ensures.value,
      c.read_pattern-before.ensures.value,
      c.read_pattern-came.ensures.value,
      old,
      new,
    )
    (sym (one-element (swapped c.args.op c.args.ty c.args.operand) c.args.ty c.args.old.now c.args.new.now c.requires.old c.requires.new))
