-- The hold of nothing: a walk.
use Rattle.std.proofs.Common.{[], ◌∷◌, refl, lit<}
use Rattle.std.proofs.raw_atomic.Walks.{proved}
use Rattle.std.specs.Prelude.{None}
use base.Fml.{ftrue}
use types.Kit.{‵, raw, ◌$◌, ◌∵◌, !, qed, done, keep, join, suffices}
use types.Part.{agg}
use types.Run.{enter, lit, and_then, no_more, returns}
use types.ByLocal.{alloc_all, pass_all, free_all, look_at, sets}
use denote.RawPtr.{null_ptr}
use denote.Steps.{nothing}
use denote.Triple.Entry.{on_entry}
use denote.Triple.Walked.{Stays, walk_of, says, ends_at}
use Rattle.nic_handles.specs.Owning.{behind}
use Rattle.nic_handles.proofs.Words.{hold_word, hold_in}
use Rattle.nic_handles.specs.contracts.hold.Hold.none as f
use Rattle.nic_handles.proofs.hold.Hold.none.Statement.{statement}
use Rattle.nic_handles.proofs.hold.Hold.none.Code as code

abbrev stayed : Stays f.ended.signature.params f.ended.kept
stayed = tt

pub none_spec : {M : Type 1} → statement M
unfolding behind
none_spec 𝓤 𝓛 𝓜 𝓡 wired =
    let c = f.clauses 𝓛 𝓜.mem 𝓡.returns in
    proved 𝓛 f.ended stayed c 𝓜 𝓡 tt
    f.Key.name code.function (code.unfolded 𝓤 𝓛.H 𝓜 𝓡 wired) (λ κs. tt) (λ κs. tt) (λ κs qs bounds a _ are.
    let y : (walk_of 𝓛 f.ended stayed c).Ghost = ((κs, qs, bounds, a, tt), tt) in
    qed 𝓛 (raw (on_entry 𝓛 f.signature κs qs a y.0.4) ∷ ‵ ftrue ∷ []) ∵ keep ! (1 ∷ []) $
    enter ! _ _ _ _ _ $ alloc_all ! (λ l. pass_all ! refl tt $
    sets ! (agg ! (and_then ! (lit ! tt) (no_more !))) refl (tt, (record { fits = lit< tt }, tt)) $
    returns ! (look_at ! 0 refl) $ free_all ! refl $
    hold_in ! (record { at = null_ptr; nic = None }) $
    suffices ! _ (ends_at 𝓛 f.ended stayed c y (hold_word null_ptr) (record { at = null_ptr; nic = None }) tt tt) $
    says ! refl $ nothing ! $ join ! $ nothing ! $ join ! $ done !))
