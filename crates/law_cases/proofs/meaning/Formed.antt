-- Which shapes are well formed: one of three ranks with a group, and shapes that aren't, by one fault each.
use Rattle.std.proofs.Common.{ℕ, zero, suc, true, ◌≡◌, ◌<◌, List, [], ◌∷◌, Option, Some, None, codes, get_or, length, refl}
use Rattle.std.proofs.Common.{arith, ap, subst, inl, inr, lit<}
use Rattle.ptl_types.specs.declared.elements.AtomicOp.TheVariants.{Sum}
use Rattle.ptl_types.specs.declared.elements.ElemType.TheVariants.{U16, U8}
use Rattle.coll_shape.specs.declared.types.Buffer.{Buffer}
use Rattle.coll_shape.specs.declared.types.CollStep.TheVariants.{Barrier, Gatherv, Reduce}
use Rattle.coll_shape.specs.declared.types.Version.TheVariants.{One, Two}
use Rattle.number_lists.specs.Members.{In}
use Rattle.coll_shape.specs.Collectives.{buffer_after, named}
use Rattle.coll_shape.specs.Outline.{Outline, buffer_at}
use Rattle.coll_shape.specs.WellFormed.{AreMembers, FitsVersion, IsWellFormed, StandsIn, StepFits, elements_of, made_upto, most_ranks}
use Rattle.coll_shape.specs.WellFormed.{printed_elements}

-- the group of the ranks 0 and 2 reduces the input to rank 2
abbrev shape : Outline
shape = record {
  version = Two;
  ranks = 3;
  remote = true;
  groups = record { name = codes "g"; members = 0 ∷ 2 ∷ [] } ∷ [];
  buffers =
      record { name = codes "a"; ty = U16; spread = record { length = 5; holders = 0 ∷ 1 ∷ 2 ∷ [] } }
      ∷ record { name = codes "b"; ty = U16; spread = record { length = 5; holders = 2 ∷ [] } } ∷ [];
  inputs = 1;
  steps = Reduce 1 Sum 0 1 ∷ Barrier ∷ [];
  on = Some 0 ∷ None ∷ [];
  prints = 1 ∷ 0 ∷ [];
}

-- ---- members: ranks, rising
below2 : (P : ℕ → Type 0) → P 0 → P 1 → (i : ℕ) → i < 2 → P i
below2 P a b zero h = a
below2 P a b (suc zero) h = b
below2 P a b (suc (suc i)) h = absurd (omega arith)

first_and_last : AreMembers 3 (0 ∷ 2 ∷ [])
first_and_last = record {
  some = lit< tt;
  at_most = omega arith;
  ranks = below2 (λ i. get_or (0 ∷ 2 ∷ []) i 0 < 3) (lit< tt) (lit< tt);
  rising = λ i j h k. below2 (λ j. i < j → get_or (0 ∷ 2 ∷ []) i 0 < get_or (0 ∷ 2 ∷ []) j 0) (λ h. absurd (omega (arith, h)))
      (λ h. below1 i h) j k h;
}
  where
    below1 : (i : ℕ) → i < 1 → get_or (0 ∷ 2 ∷ []) i 0 < 2
    below1 zero h = lit< tt
    below1 (suc i) h = absurd (omega arith)

no_members : AreMembers 3 [] → ⊥
no_members h = let q = h.some in absurd (omega (arith, q))

no_rank : AreMembers 3 (0 ∷ 3 ∷ []) → ⊥
no_rank h = let q = h.ranks 1 (lit< tt) in absurd (omega (arith, q))

falling : AreMembers 3 (2 ∷ 1 ∷ []) → ⊥
falling h = let q = h.rising 0 1 (lit< tt) (lit< tt) in absurd (omega (arith, q))

one_twice : AreMembers 3 (0 ∷ 1 ∷ 1 ∷ []) → ⊥
one_twice h = let q = h.rising 1 2 (lit< tt) (lit< tt) in absurd (omega (arith, q))

-- ---- versions
ranks_of_versions : (most_ranks One ≡ 64) × (most_ranks Two ≡ 256)
ranks_of_versions = (refl, refl)

not_in_version_1 : StandsIn Two One → ⊥
not_in_version_1 h = h

in_later_ones : StandsIn One Two × StandsIn One One × StandsIn Two Two
in_later_ones = (tt, tt, tt)

many_ranks : FitsVersion (record shape { version = One; ranks = 65; groups = []; steps = []; on = [] }) → ⊥
many_ranks h = let q = h.few_ranks in absurd (omega (arith, q))

group_in_version_1 : FitsVersion (record shape { version = One; steps = []; on = [] }) → ⊥
group_in_version_1 h = h.groups 0 (lit< tt)

gatherv_in_version_1 : FitsVersion (record shape {
  version = One;
  groups = [];
  steps = Barrier ∷ Gatherv 0 0 1 ∷ [];
  on = None ∷ None
      ∷ [];
}) → ⊥
gatherv_in_version_1 h = h.steps 1 (lit< tt)

-- ---- steps
abbrev in_some : Option ℕ → ℕ
in_some None = 0
in_some (Some b) = b

reduces : StepFits shape 1 (0 ∷ 2 ∷ []) (Reduce 1 Sum 0 1)
reduces = record {
  members = first_and_last;
  root = lit< tt;
  source = λ a e. (let q : 0 ≡ a = ap in_some e in omega (arith, q));
  reads = below2 (λ i. In (get_or (0 ∷ 2 ∷ []) i 0) (0 ∷ 1 ∷ 2 ∷ [])) (inl refl) (inr (inr (inl refl)));
  next = λ b e. (let q : 1 ≡ b = ap in_some e in omega (arith, q));
  result = λ b e. (let q : 1 ≡ b = ap in_some e in omega (arith, q));
  makes = λ b e. subst (λ b. buffer_at shape b ≡ named (buffer_at shape b).name (buffer_after (0 ∷ 2 ∷ []) (Reduce 1 Sum 0 1)
      (buffer_at shape 0))) (ap in_some e) refl;
}

root_past_the_last : StepFits shape 1 (0 ∷ 2 ∷ []) (Reduce 2 Sum 0 1) → ⊥
root_past_the_last h = let q = h.root in absurd (omega (arith, q))

reads_its_own : StepFits shape 1 (0 ∷ 2 ∷ []) (Reduce 1 Sum 1 1) → ⊥
reads_its_own h = let q = h.source 1 refl in absurd (omega (arith, q))

not_the_next : StepFits shape 0 (0 ∷ 2 ∷ []) (Reduce 1 Sum 0 1) → ⊥
not_the_next h = let q = h.next 1 refl in absurd (omega (arith, q))

past_the_buffers : StepFits shape 2 (0 ∷ 2 ∷ []) (Reduce 1 Sum 0 2) → ⊥
past_the_buffers h = let q = h.result 2 refl in absurd (omega (arith, q))

held_elsewhere : StepFits shape 1 (0 ∷ 2 ∷ []) (Reduce 0 Sum 0 1) → ⊥
held_elsewhere h = let q : 2 ≡ 0 = ap (λ (x : Buffer). get_or x.spread.holders 0 7) (h.makes 1 refl) in absurd (omega (arith, q))

-- ---- counts
buffers_so_far : (made_upto shape 0 ≡ 1) × (made_upto shape 1 ≡ 2) × (made_upto shape 2 ≡ 2)
buffers_so_far = (refl, refl, refl)

elements_in_all : (elements_of (buffer_at shape 0) ≡ 15) × (elements_of (buffer_at shape 1) ≡ 5) × (printed_elements shape ≡ 20)
elements_in_all = (refl, refl, refl)

-- ---- whole shapes
not_held_by_all : IsWellFormed (record shape { inputs = 2; steps = []; on = [] }) → ⊥
not_held_by_all h = let q : 2 ≡ 0 = ap (λ (rs : List ℕ). get_or rs 0 7) (h.held 1 (lit< tt)) in absurd (omega (arith, q))

one_is_made_by_none : IsWellFormed (record shape { steps = []; on = [] }) → ⊥
one_is_made_by_none h = let q : 1 ≡ 2 = h.all in absurd (omega (arith, q))

named_alike : IsWellFormed (record shape { groups = record { name = codes "a"; members = 0 ∷ 2 ∷ [] } ∷ [] }) → ⊥
named_alike h = let q = h.distinct 0 1 (lit< tt) (lit< tt) refl in absurd (omega (arith, q))

no_name : IsWellFormed (record shape { groups = record { name = codes "1"; members = 0 ∷ 2 ∷ [] } ∷ [] }) → ⊥
no_name h = let q = h.spelled 0 (lit< tt) in cc

-- an input alone, of so many elements
abbrev alone : ℕ → Outline
alone n = record shape {
  buffers = record { name = codes "a"; ty = U8; spread = record { length = n; holders = 0 ∷ 1 ∷ 2 ∷ [] } } ∷ [];
  steps = [];
  on = [];
  prints = [];
}

no_elements : IsWellFormed (alone 0) → ⊥
no_elements h = let q = h.some 0 (lit< tt) in absurd (omega (arith, q))

too_many_elements : IsWellFormed (alone 4097) → ⊥
too_many_elements h = let q = h.short 0 (lit< tt) in absurd (omega (arith, q))

printed_past_the_last : IsWellFormed (record shape { prints = 2 ∷ [] }) → ⊥
printed_past_the_last h = let q = h.shape.printed 0 (lit< tt) in absurd (omega (arith, q))

no_such_group : IsWellFormed (record shape { on = Some 1 ∷ None ∷ [] }) → ⊥
no_such_group h = let q = h.shape.on_group 0 (lit< tt) in absurd (omega (arith, q))

without_its_group : IsWellFormed (record shape { on = Some 0 ∷ [] }) → ⊥
without_its_group h = let q = h.shape.on_groups in absurd (omega (arith, q))

of_257_ranks : IsWellFormed (record shape { ranks = 257 }) → ⊥
of_257_ranks h = let q = h.shape.few_ranks in absurd (omega (arith, q))
