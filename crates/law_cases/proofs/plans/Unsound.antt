-- Plans that aren't sound, each by one fault.
use Rattle.std.proofs.Common.{◌≡◌, ◌<◌, ◌≤◌, List, [], ◌∷◌, Some, refl, false, ◌+◌, inl, inr, arith, lit<, lit≤}
use Rattle.ptl_types.specs.declared.elements.AtomicOp.TheVariants.{Sum}
use Rattle.plan_core.specs.declared.Cell.{Cell}
use Rattle.plan_core.specs.declared.Link.{Link}
use Rattle.plan_core.specs.declared.LinkKind.TheVariants.{Atomic, Put}
use Rattle.plan_core.specs.Plan.{Plan}
use Rattle.plan_core.specs.Sound.{SoundPlan}
use Rattle.law_cases.proofs.plans.Broadcast.{bump_link, plain, put_link, plan}
use Rattle.law_cases.proofs.plans.Orders.{empty_on, sync_link}

-- ---- a barrier of three ranks with one cell for both rounds: the second round's links go from that cell to itself
abbrev one_for_all : Plan
one_for_all = record {
  ranks = 3;
  remote = false;
  cells = empty_on 0 1 ∷ empty_on 1 1 ∷ empty_on 2 1
      ∷ empty_on 0 1 ∷ empty_on 1 1 ∷ empty_on 2 1
      ∷ empty_on 0 4 ∷ empty_on 1 4 ∷ empty_on 2 4 ∷ [];
  links = bump_link 0 3 ∷ bump_link 1 4 ∷ bump_link 2 5
      ∷ bump_link 3 6 ∷ sync_link 5 6 ∷ bump_link 6 6 ∷ sync_link 7 6
      ∷ bump_link 4 7 ∷ sync_link 3 7 ∷ bump_link 7 7 ∷ sync_link 8 7
      ∷ bump_link 5 8 ∷ sync_link 4 8 ∷ bump_link 8 8 ∷ sync_link 6 8 ∷ [];
}

rounds_share_a_cell : SoundPlan one_for_all 0 → ⊥
rounds_share_a_cell s = let q : 6 < 6 = (s.links_sound 5 (lit< tt)).rising in absurd (omega (arith, q))

-- ---- faults of the broadcast on one rank, whose plan is sound
abbrev with_cells : List Cell → Plan
with_cells cs = record plan { cells = cs }

abbrev with_links : List Link → Plan
with_links ls = record plan { links = ls }

waits_for_one_less : SoundPlan (with_cells (plain 0 1 ∷ plain 1 1 ∷ plain 1 1 ∷ plain 1 1 ∷ [])) 1 → ⊥
waits_for_one_less s = let q : 1 ≡ 2 = s.needs 2 (lit< tt) (lit≤ tt) in absurd (omega (arith, q))

byte_without_a_put : SoundPlan (with_cells (plain 0 1 ∷ plain 1 1 ∷ plain 1 2 ∷ plain 2 1 ∷ [])) 1 → ⊥
byte_without_a_put s = let q : 1 ≡ 2 = s.covered 3 (lit< tt) (lit≤ tt) refl in absurd (omega (arith, q))

go_cell_with_a_byte : SoundPlan (with_cells (plain 1 1 ∷ plain 1 1 ∷ plain 1 2 ∷ plain 1 1 ∷ [])) 1 → ⊥
go_cell_with_a_byte s = let q : 1 ≡ 0 = (s.go_needs 0 (lit< tt)).3 in absurd (omega (arith, q))

two_puts_on_one_byte : SoundPlan (with_links (bump_link 0 1 ∷ put_link 1 2 ∷ put_link 1 2 ∷ put_link 2 3 ∷ [])) 1 → ⊥
two_puts_on_one_byte s = elim (s.apart 1 2 (lit< tt) (lit< tt) (λ e. absurd (omega (arith, e))) refl refl refl)
    [ inl q ↦ absurd (omega (arith, q)) | inr q ↦ absurd (omega (arith, q)) ]

put_past_its_target : SoundPlan (with_links (bump_link 0 1 ∷ bump_link 0 2 ∷ put_link 1 2 ∷ record (put_link 2 3) { target_offset = 1 }
    ∷ [])) 1 → ⊥
put_past_its_target s = let q : 1 + 1 ≤ 1 = (s.links_sound 3 (lit< tt)).within_target in absurd (omega (arith, q))

atomic_without_an_operation : SoundPlan (with_links (bump_link 0 1 ∷ bump_link 0 2 ∷ put_link 1 2 ∷ record (put_link 2 3)
    { kind = Atomic } ∷ [])) 1 → ⊥
atomic_without_an_operation s = (s.links_sound 3 (lit< tt)).no_atomic refl refl

put_to_an_operation : SoundPlan (with_cells (plain 0 1 ∷ plain 1 1 ∷ plain 1 2 ∷ record (plain 1 1) { op = Some Sum } ∷ [])) 1 → ⊥
put_to_an_operation s = let q : Put ≡ Atomic = (s.links_sound 3 (lit< tt)).atomic_here Sum refl in cc

too_few_inputs : SoundPlan plan 0 → ⊥
too_few_inputs s = let q : 0 ≡ 1 = s.covered 1 (lit< tt) (lit≤ tt) refl in absurd (omega (arith, q))
