use Rattle.std.proofs.Common.{◌≡◌, ◌∷◌, ◌++◌, drop}
use Rattle.std.specs.List.{flat_map}
use Rattle.std.specs.Fmt.{decimal}
use Rattle.coll_lang.proofs.printing.print_members.Given as goal

-- what stands there with what is left is the whole
abbrev pub invariant-loop-r : goal.invariant-loop-r
invariant-loop-r l = l.out.items ++ flat_map (λ r. 32 ∷ decimal r) (drop l.r-index l.members)
    ≡ l.fn.out.items ++ flat_map (λ r. 32 ∷ decimal r) l.members
