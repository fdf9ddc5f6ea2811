use Rattle.std.proofs.Common.{◌≡◌, length, arith}
use Rattle.std.proofs.lemmas.Bool.Decides.{nat_tests}
use Rattle.ni_objects.proofs.handles.Growth.{length-table_of}
use Rattle.ni_objects.proofs.handles.Store.is_full.Goals as goal

pub returns-then-len-self : goal.returns-then-len-self
returns-then-len-self g c = let e : length c.args.self.now.live ≡ _ = length-table_of c.self.inside.slab c.self.inside.given
    c.self.inside.limit c.args.self.now c.self.view_is in grind (arith, nat_tests, e)

pub returns-else-len-self : goal.returns-else-len-self
returns-else-len-self g c = let e : length c.args.self.now.live ≡ _ = length-table_of c.self.inside.slab c.self.inside.given
    c.self.inside.limit c.args.self.now c.self.view_is in grind (arith, nat_tests, e)
