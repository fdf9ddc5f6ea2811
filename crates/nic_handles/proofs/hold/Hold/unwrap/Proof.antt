-- What is behind the hold is the block's: a walk.
use Rattle.std.proofs.Common.{◌≡◌, [], ◌∷◌, T, refl, sym, subst}
use Rattle.std.proofs.raw_atomic.Walks.{proved}
use Rattle.std.specs.Prelude.{IsSome, None, Option, Some}
use base.Fml.{ftrue}
use contract.Monad.{fact}
use types.Kit.{‵, raw, ◌⊛◌, ◌$◌, ◌∵◌, !, qed, done, keep, move, drop, split, join, fsplit, rewrite, suffices}
use types.Part.{agg, whole, sub}
use types.Run.{enter, of_opd, stop, fld, and_then, no_more, returns}
use types.ByLocal.{alloc_all, pass_all, free_all, look_at, get as gets, get_in, sets}
use denote.Exit.{yes}
use denote.Signature.{plain}
use denote.Steps.{nothing, heard}
use denote.Triple.Walked.{Stays, walk_of, says, stay_dropped, ends_at}
use Rattle.core.proofs.alloc.Calls.{Goes-blank}
use Rattle.std_heap.specs.contracts.Global.{the_row as Heap}
use Rattle.std_heap.specs.contracts.GlobalAllocator.TheImpl.{ghosts}
use Rattle.ni_model.specs.State.{State}
use Rattle.portals_ni.specs.contracts.nic.Nic.{the_row as Row}
use Rattle.nic_handles.specs.Owning.{behind}
use Rattle.nic_handles.proofs.Words.{block_word, block_fits, block_in, hold_word, hold_fits, pointer_fits}
use Rattle.nic_handles.specs.contracts.hold.Hold.{the_row as Held}
use Rattle.nic_handles.proofs.hold.Hold.TheLaws.{lowers}
use Rattle.nic_handles.specs.contracts.hold.Hold.unwrap as f
use Rattle.nic_handles.proofs.hold.Hold.unwrap.Statement.{statement}
use Rattle.nic_handles.proofs.hold.Hold.unwrap.Code as code

-- what there is, where there is something
some_one : {X : Type 0} → (o : Option X) → IsSome o → (x : X) × (o ≡ Some x)
some_one (Some x) is = (x, refl)
some_one None is = absurd (subst T (sym is) tt)

abbrev stayed : Stays f.ended.signature.params f.ended.kept
stayed = (stay_dropped (plain (λ _. Held)) yes, tt)

pub unwrap_spec : {M : Type 1} → statement M
unfolding behind
unwrap_spec 𝓤 𝓛 𝓜 𝓡 wired =
    let c = f.clauses 𝓛 𝓜.mem 𝓡.returns in
    proved 𝓛 f.ended stayed c 𝓜 𝓡 (Goes-blank 𝓛 0 (plain (λ _. Held)) yes (λ κs x w. tt), tt)
    f.Key.name code.function (code.unfolded 𝓤 𝓛.H 𝓜 𝓡 wired)
    (λ κs. ((λ h. hold_word h.at ∷ []), tt)) (λ κs. (lowers.val_is, tt)) (λ κs qs bounds a _ are.
    let h = a.0 in let p = h.at in
    let y : (walk_of 𝓛 f.ended stayed c).Ghost = ((κs, qs, bounds, a, (hold_word p ∷ [], tt)), tt) in
    qed 𝓛 ((‵ ftrue ⊛ ‵ (Held.own_val h (hold_word p ∷ [])) ⊛ ‵ ftrue) ∷ raw (fact 𝓤 (IsSome h.nic)) ∷ []) ∵
    move ! (1 ∷ []) $ heard ! _ (λ is. let found = some_one h.nic is in let nic : State = found.0 in
    split ! $ drop ! $ split ! $ fsplit ! $ drop ! $ keep ! (0 ∷ []) $
    rewrite ! 0 (λ (o : Option State). ‵ (behind o p)) found.1 refl $
    -- [what the pointer owns]
    enter ! _ _ _ _ _ $ alloc_all ! (λ l. pass_all ! refl (hold_fits 𝓛 p, tt) $
    sets ! (of_opd ! (get_in ! (fld ! refl (stop !)) (sub ! 0 refl (whole !)))) refl (pointer_fits 𝓛 p) $
    sets ! (agg ! (no_more !)) refl (tt, tt) $
    sets ! (agg ! (and_then ! (gets ! refl) (and_then ! (gets ! refl) (no_more !)))) refl (block_fits 𝓛 p) $
    returns ! (look_at ! 0 refl) $ free_all ! refl $
    block_in Row Heap ghosts ! (record { at = p; from = record {}; value = nic; giver = record { memory = record { seal = tt } } }) $
    suffices ! _ (ends_at 𝓛 f.ended stayed c y (block_word p)
    (record { at = p; from = record {}; value = nic; giver = record { memory = record { seal = tt } } }) (tt, tt) (tt, tt)) $
    says ! (sym found.1) $ nothing ! $ nothing ! $ join ! $ join ! $ nothing ! $ join ! $ done !)))
