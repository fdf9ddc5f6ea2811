-- Who may read a buffer, who holds what a step makes, and how long it is: the group of the ranks 0, 2 and 3.
use Rattle.std.proofs.Common.{ℕ, true, false, ◌≡◌, List, [], ◌∷◌, Some, None, refl, arith, inl, inr, lit<}
use Rattle.ptl_types.specs.declared.elements.AtomicOp.TheVariants.{Sum}
use Rattle.coll_shape.specs.declared.types.Buffer.{Buffer}
use Rattle.coll_shape.specs.declared.types.CollStep.TheVariants.{Allgather, Allreduce, Alltoall, Barrier, Broadcast, Exscan, Gather}
use Rattle.coll_shape.specs.declared.types.CollStep.TheVariants.{Gatherv}
use Rattle.coll_shape.specs.declared.types.CollStep.TheVariants.{Reduce, Reducescatter, Scan, Scatter}
use Rattle.coll_shape.specs.Collectives.{IsRoot, Reads, can_read, holding_places, made_holders, made_length, result_of, source_of}
use Rattle.coll_shape.specs.Collectives.{spread_so}

abbrev group : List ℕ
group = 0 ∷ 2 ∷ 3 ∷ []

-- six elements at these ranks
abbrev at_ranks : List ℕ → Buffer
at_ranks holders = spread_so 6 holders

abbrev every : Buffer
every = at_ranks (0 ∷ 1 ∷ 2 ∷ 3 ∷ [])

-- ---- who holds what is made: everyone, the root alone (a place among the members), or all but the first
held_by_everyone : (made_holders group (Broadcast 1 0 1) ≡ group) × (made_holders group (Allreduce Sum 0 1) ≡ group)
    × (made_holders group (Allgather 0 1) ≡ group) × (made_holders group (Alltoall 0 1) ≡ group)
    × (made_holders group (Scan Sum 0 1) ≡ group)
    × (made_holders group (Scatter 1 0 1) ≡ group) × (made_holders group (Reducescatter Sum 0 1) ≡ group)
held_by_everyone = (refl, refl, refl, refl, refl, refl, refl)

held_by_the_root : (made_holders group (Reduce 1 Sum 0 1) ≡ 2 ∷ []) × (made_holders group (Gather 0 0 1) ≡ 0 ∷ [])
    × (made_holders group (Gatherv 2 0 1) ≡ 3 ∷ [])
held_by_the_root = (refl, refl, refl)

held_but_by_the_first : made_holders group (Exscan Sum 0 1) ≡ 2 ∷ 3 ∷ []
held_but_by_the_first = refl

held_by_none : made_holders group Barrier ≡ []
held_by_none = refl

-- ---- how long it is, where rank 2 and rank 3 of the group hold what is read, and rank 1, which is no member
abbrev two_of_them : Buffer
two_of_them = at_ranks (1 ∷ 2 ∷ 3 ∷ [])

-- of the ranks 0 and 1 the group has rank 0, at place 0
places_of_holders : (holding_places group (1 ∷ 2 ∷ 3 ∷ []) ≡ 1 ∷ 2 ∷ []) × (holding_places group (0 ∷ 1 ∷ []) ≡ 0 ∷ [])
places_of_holders = (refl, refl)

a_list_of_each_holder : made_length group (Gatherv 0 0 1) two_of_them ≡ 12
a_list_of_each_holder = refl

a_list_of_each_member : (made_length group (Gather 0 0 1) every ≡ 18) × (made_length group (Allgather 0 1) every ≡ 18)
a_list_of_each_member = (refl, refl)

a_block_for_each : (made_length group (Scatter 0 0 1) every ≡ 2) × (made_length group (Reducescatter Sum 0 1) every ≡ 2)
a_block_for_each = (refl, refl)

as_long_as_it_was : (made_length group (Reduce 0 Sum 0 1) every ≡ 6) × (made_length group (Broadcast 0 0 1) every ≡ 6)
    × (made_length group (Alltoall 0 1) every ≡ 6) × (made_length group (Exscan Sum 0 1) every ≡ 6)
    × (made_length group (Scan Sum 0 1) every ≡ 6)
    × (made_length group (Allreduce Sum 0 1) every ≡ 6)
as_long_as_it_was = (refl, refl, refl, refl, refl, refl)

-- ---- who may read: the root has to hold it, or every member, or some member
root_holds : (can_read group (Broadcast 1 0 1) (at_ranks (2 ∷ [])) ≡ true) × (can_read group (Scatter 1 0 1) (at_ranks (2 ∷ [])) ≡ true)
root_holds = (refl, refl)

-- rank 1 isn't place 1
root_lacks_it : (can_read group (Broadcast 1 0 1) (at_ranks (0 ∷ 1 ∷ 3 ∷ [])) ≡ false)
    × (can_read group (Scatter 1 0 1) (at_ranks (0 ∷ 1 ∷ 3 ∷ [])) ≡ false)
root_lacks_it = (refl, refl)

members_hold : (can_read group (Reduce 0 Sum 0 1) (at_ranks group) ≡ true) × (can_read group (Gather 0 0 1) (at_ranks group) ≡ true)
    × (can_read group (Scan Sum 0 1) (at_ranks group) ≡ true) × (can_read group (Alltoall 0 1) (at_ranks group) ≡ true)
members_hold = (refl, refl, refl, refl)

the_last_lacks_it : (can_read group (Reduce 0 Sum 0 1) (at_ranks (0 ∷ 2 ∷ [])) ≡ false)
    × (can_read group (Allreduce Sum 0 1) (at_ranks (0 ∷ 2 ∷ [])) ≡ false) × (can_read group (Gather 0 0 1) (at_ranks (0 ∷ 2 ∷ [])) ≡ false)
    × (can_read group (Allgather 0 1) (at_ranks (0 ∷ 2 ∷ [])) ≡ false) × (can_read group (Alltoall 0 1) (at_ranks (0 ∷ 2 ∷ [])) ≡ false)
    × (can_read group (Scan Sum 0 1) (at_ranks (0 ∷ 2 ∷ [])) ≡ false) × (can_read group (Exscan Sum 0 1) (at_ranks (0 ∷ 2 ∷ [])) ≡ false)
    × (can_read group (Reducescatter Sum 0 1) (at_ranks (0 ∷ 2 ∷ [])) ≡ false)
the_last_lacks_it = (refl, refl, refl, refl, refl, refl, refl, refl)

some_member_holds : (can_read group (Gatherv 0 0 1) (at_ranks (3 ∷ [])) ≡ true)
    × (can_read group (Gatherv 0 0 1) (at_ranks (1 ∷ [])) ≡ false)
some_member_holds = (refl, refl)

-- a block for each of three members
not_in_blocks : (can_read group (Scatter 0 0 1) (spread_so 7 group) ≡ false) × (can_read group (Alltoall 0 1) (spread_so 8 group) ≡ false)
    × (can_read group (Reducescatter Sum 0 1) (spread_so 7 group) ≡ false)
not_in_blocks = (refl, refl, refl)

without_blocks : (can_read group (Broadcast 0 0 1) (spread_so 7 group) ≡ true)
    × (can_read group (Reduce 0 Sum 0 1) (spread_so 7 group) ≡ true)
without_blocks = (refl, refl)

a_barrier_reads_nothing : can_read group Barrier (at_ranks []) ≡ true
a_barrier_reads_nothing = refl

-- ---- the same as facts
gatherv_reads : Reads group (Gatherv 0 0 1) (at_ranks (3 ∷ []))
gatherv_reads = (2, lit< tt, inl refl)

scatter_reads : Reads group (Scatter 1 0 1) (at_ranks (2 ∷ []))
scatter_reads = (inl refl, refl)

scatter_of_another : Reads group (Scatter 1 0 1) (at_ranks (0 ∷ [])) → ⊥
scatter_of_another h = elim h.0 [ inl e ↦ absurd (omega (arith, e)) | inr i ↦ absurd i ]

scatter_without_blocks : Reads group (Scatter 1 0 1) (spread_so 7 group) → ⊥
scatter_without_blocks h = let q : 1 ≡ 0 = h.1 in absurd (omega (arith, q))

reduce_of_two : Reads group (Reduce 0 Sum 0 1) (at_ranks (0 ∷ 2 ∷ [])) → ⊥
reduce_of_two h = elim (h 2 (lit< tt)) [
  | inl e ↦ absurd (omega (arith, e))
  | inr i ↦ elim i [ inl e ↦ absurd (omega (arith, e)) | inr j ↦ absurd j ]
]

reduce_of_the_others : Reads group (Reduce 0 Sum 0 1) (at_ranks (2 ∷ 3 ∷ [])) → ⊥
reduce_of_the_others h = elim (h 0 (lit< tt)) [
  | inl e ↦ absurd (omega (arith, e))
  | inr i ↦ elim i [ inl e ↦ absurd (omega (arith, e)) | inr j ↦ absurd j ]
]

-- ---- roots are places
last_place : IsRoot (Reduce 2 Sum 0 1) 3
last_place = lit< tt

no_place : IsRoot (Gatherv 3 0 1) 3 → ⊥
no_place h = absurd (omega (arith, h))

-- ---- what is read and what is made
from_a_to_b : (source_of (Gatherv 0 4 5) ≡ Some 4) × (result_of (Gatherv 0 4 5) ≡ Some 5) × (source_of (Scatter 0 4 5) ≡ Some 4)
    × (result_of (Reduce 0 Sum 4 5) ≡ Some 5) × (source_of Barrier ≡ None) × (result_of Barrier ≡ None)
from_a_to_b = (refl, refl, refl, refl, refl, refl)
