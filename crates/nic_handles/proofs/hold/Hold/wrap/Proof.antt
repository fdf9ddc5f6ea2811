-- What the block owned is behind the hold: a walk.
use Rattle.std.proofs.Common.{[], ◌∷◌, refl}
use Rattle.std.proofs.raw_atomic.Walks.{proved}
use Rattle.std.specs.Prelude.{Some}
use base.Fml.{ftrue}
use types.Kit.{‵, ◌⊛◌, ◌$◌, ◌∵◌, !, qed, done, keep, drop, split, join, fsplit, suffices}
use types.Part.{agg, whole, sub}
use types.Run.{enter, of_opd, stop, fld, and_then, no_more, returns}
use types.ByLocal.{alloc_all, pass_all, free_all, look_at, get as gets, get_in, sets}
use denote.Exit.{yes}
use denote.Signature.{plain}
use denote.Steps.{nothing}
use denote.Triple.Walked.{Stays, walk_of, says, stay_dropped, ends_at}
use Rattle.core.proofs.alloc.Calls.{Goes-blank}
use Rattle.std_heap.specs.contracts.Global.{the_row as Heap}
use Rattle.std_heap.specs.contracts.GlobalAllocator.TheImpl.{ghosts}
use Rattle.std_heap.proofs.Global.TheLaws.{the_row_laws as heap_laws}
use Rattle.portals_ni.specs.contracts.nic.Nic.{the_row as Row}
use Rattle.portals_ni.proofs.nic.Nic.TheLaws.{the_row_laws as laws}
use Rattle.nic_handles.specs.Owning.{behind}
use Rattle.nic_handles.proofs.Words.{block_word, block_fits, hold_word, hold_fits, hold_in, pointer_fits}
use Rattle.nic_handles.specs.contracts.block.Block as block
use Rattle.nic_handles.proofs.block.Block.TheLaws as block_laws
use Rattle.nic_handles.specs.contracts.hold.Hold.wrap as f
use Rattle.nic_handles.proofs.hold.Hold.wrap.Statement.{statement}
use Rattle.nic_handles.proofs.hold.Hold.wrap.Code as code

abbrev stayed : Stays f.ended.signature.params f.ended.kept
stayed = (stay_dropped (plain (λ _. block.the_row Row Heap ghosts)) yes, tt)

pub wrap_spec : {M : Type 1} → statement M
unfolding behind
wrap_spec 𝓤 𝓛 𝓜 𝓡 wired =
    let c = f.clauses 𝓛 𝓜.mem 𝓡.returns in
    proved 𝓛 f.ended stayed c 𝓜 𝓡 (Goes-blank 𝓛 0 (plain (λ _. block.the_row Row Heap ghosts)) yes (λ κs x w. tt), tt)
    f.Key.name code.function (code.unfolded 𝓤 𝓛.H 𝓜 𝓡 wired)
    (λ κs. ((λ b. block_word b.at ∷ []), tt)) (λ κs. ((block_laws.lowers Row Heap ghosts laws heap_laws).val_is, tt))
    (λ κs qs bounds a _ are.
    let b = a.0 in let p = b.at in
    let y : (walk_of 𝓛 f.ended stayed c).Ghost = ((κs, qs, bounds, a, (block_word p ∷ [], tt)), tt) in
    qed 𝓛 ((‵ ftrue ⊛ ‵ ((block.the_row Row Heap ghosts).own_val b (block_word p ∷ [])) ⊛ ‵ ftrue) ∷ ‵ ftrue ∷ []) ∵
    split ! $ drop ! $ split ! $ fsplit ! $ drop ! $ keep ! (0 ∷ []) $
    -- [what the pointer owns]
    enter ! _ _ _ _ _ $ alloc_all ! (λ l. pass_all ! refl (block_fits 𝓛 p, tt) $
    sets ! (of_opd ! (get_in ! (fld ! refl (stop !)) (sub ! 0 refl (whole !)))) refl (pointer_fits 𝓛 p) $
    sets ! (of_opd ! (gets ! refl)) refl (pointer_fits 𝓛 p) $
    sets ! (agg ! (and_then ! (gets ! refl) (no_more !))) refl (hold_fits 𝓛 p) $
    returns ! (look_at ! 0 refl) $ free_all ! refl $
    hold_in ! (record { at = p; nic = Some b.value }) $
    suffices ! _ (ends_at 𝓛 f.ended stayed c y (hold_word p) (record { at = p; nic = Some b.value }) (tt, tt) (tt, tt)) $
    says ! refl $ nothing ! $ nothing ! $ join ! $ join ! $ nothing ! $ join ! $ done !))
