-- A put writes what it carries.
use Rattle.std.proofs.lemmas.Result.{on_ok_weaker}
use Rattle.plan_terms.proofs.Placing.{put_landed}
use Rattle.plan_terms.proofs.places.land.Goals as goal

pub returns-then-is_within : goal.returns-then-is_within
returns-then-is_within c =
    on_ok_weaker c.write.result
    (λ is V k. put_landed V c.args.link.now k c.carried.result.now _ c.args.places.now c.write.new.places c.in-Put.is c.carried.ensures is)
    c.write.ensures
