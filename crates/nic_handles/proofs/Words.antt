-- The machine values of a block and of a hold: beside the pointer they own facts alone, so each is made of what the pointer owns.
use Rattle.std.proofs.Common.{List, [], ◌∷◌, refl}
use mathlib.Core.Bool.{true, ◌&&◌}
use lib.Dec.{T}
use seplogic.Ra.Ura.{Ura}
use mir.Syntax.{ty_ptr}
use mir.Val.{Val, vstruct, vcons, vnil, has_ty, WT}
use types.Logic.{Logic}
use types.Kit.{Item, Goal, Step, step, ‵, ◌$◌, fjoin}
use denote.RattleType.{RattleType}
use denote.RawPtr.{Ptr, ptr_val, rawptr_Lawful}
use denote.Shadow.{pure_i}
use denote.Struct.Owning.{shape, to}
use denote.Struct.Struct.{Struct}
use Rattle.core.specs.declared.alloc.Allocator.{Ghosts}
use Rattle.std_alloc.proofs.ResultValues.{and_tt}
use Rattle.std_alloc.specs.Box.Ownership.{box_owns}
use Rattle.nic_handles.specs.Owning.{behind}
use Rattle.nic_handles.specs.declared.block.Block.{Block}
use Rattle.nic_handles.specs.contracts.block.Block as block
use Rattle.nic_handles.specs.declared.hold.Hold.{Hold}
use Rattle.nic_handles.specs.contracts.hold.Hold as hold

-- a value of no bytes, and the two structs of an address
abbrev pub empty : Val
empty = vstruct vnil

abbrev pub block_word : Ptr → Val
block_word p = vstruct (vcons (ptr_val p) (vcons empty vnil))

abbrev pub hold_word : Ptr → Val
hold_word p = vstruct (vcons (ptr_val p) vnil)

module _ {M : Type 1} {𝓤 : Ura M} (𝓛 : Logic 𝓤) (p : Ptr) where
  pub pointer_fits : T (has_ty ty_ptr (ptr_val p)) × WT (ptr_val p)
  pointer_fits = ((rawptr_Lawful 𝓛).typed p _ refl).0

  pub hold_fits : T (has_ty ty_ptr (ptr_val p) && true) × WT (hold_word p)
  hold_fits = (and_tt (has_ty ty_ptr (ptr_val p)) pointer_fits.0, (pointer_fits.1, tt))

  pub block_fits : T (has_ty ty_ptr (ptr_val p) && true) × WT (block_word p)
  block_fits = (and_tt (has_ty ty_ptr (ptr_val p)) pointer_fits.0, (pointer_fits.1, (tt, tt)))

module _ (R Z : RattleType) (g : Ghosts Z.Denot)
    {M : Type 1} {𝓤 : Ura M} {𝓛 : Logic 𝓤} {K : Type 0} {Γ : List (Item 𝓤)} {G : Goal 𝓤 𝓛.H} where
  pub block_in : K → (b : Block R.Denot Z.Denot)
      → Step K 𝓛 (‵ ((block.the_row R Z g).own_val b (block_word b.at ∷ [])) ∷ Γ) G
      (‵ (box_owns (g.dealloc_token b.giver) R b.at b.value) ∷ Γ) G
  block_in t b = step (λ next.
      pure_i t ((Struct (shape (block.the_type R Z g))).own_val (to (block.the_type R Z g) b) (block_word b.at ∷ []))
      (λ _. (tt, (tt, ((λ _. (tt, tt)), tt))))
      ((ptr_val b.at ∷ [], (empty ∷ [], tt)), (refl, (refl, ((tt, (refl, tt)), tt)))) $ fjoin t $ next)

module _ {M : Type 1} {𝓤 : Ura M} {𝓛 : Logic 𝓤} {K : Type 0} {Γ : List (Item 𝓤)} {G : Goal 𝓤 𝓛.H} where
  pub hold_in : K → (h : Hold) → Step K 𝓛 (‵ (hold.the_row.own_val h (hold_word h.at ∷ [])) ∷ Γ) G (‵ (behind h.nic h.at) ∷ Γ) G
  hold_in t h = step (λ next.
      pure_i t ((Struct (shape hold.the_type)).own_val (to hold.the_type h) (hold_word h.at ∷ [])) (λ _. (tt, (tt, tt)))
      ((ptr_val h.at ∷ [], tt), (refl, (refl, tt))) $ fjoin t $ next)
