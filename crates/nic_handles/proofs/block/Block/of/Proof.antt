-- `of` keeps the address that `into_raw` gives: a walk.
use Rattle.std.proofs.Common.{List, [], ◌∷◌, ◌++◌, refl, ap}
use Rattle.std.proofs.raw_atomic.Walks.{proved_at}
use base.Logic.{SProp, id⊢}
use base.Fml.{ftrue, flft}
use mir.Syntax.{a_type, dcons, dnil}
use mir.MapTy.{inst_fn}
use mir.Val.{Val}
use prog.Wp.{WpFn}
use types.Kit.{‵, raw, prop, ◌⊛◌, some, later, ◌$◌, ◌∵◌, !, qed, done, move, drop, split, join, fsplit, fjoin, feq_l, pick}
use types.Kit.{suffices, use1, await, rewrite, regoal}
use types.Run.{enter, of_opd, no_more, and_then, returns}
use types.ByLocal.{alloc_all, pass_all, free_all, look_at, get, sets, lands_as}
use types.Part.{agg}
use contract.Running.{tables}
use denote.Builtin.{RawPtr}
use denote.Exit.{no}
use denote.Param.{bounded}
use denote.Param.Laws.{param_laws}
use denote.RattleType.{owns}
use denote.RawPtr.{Ptr}
use denote.Signature.{types_at, plain}
use denote.Steps.{nothing, only}
use denote.Triple.Call.{calls_at}
use denote.Triple.Clauses.{Lasts, lasts}
use denote.Triple.Spec.{triple_of}
use denote.Triple.Walked.{Stays, stay_dropped, walk_of, says, ends_at}
use Rattle.core.proofs.alloc.Calls.{Goes-blank}
use Rattle.core.proofs.atomic.Steps.{fm}
use Rattle.core.proofs.cell.Inside.{one}
use Rattle.std_alloc.specs.Box.Ownership.{box_owns}
use Rattle.std_alloc.proofs.BoxSteps.Form as box
use Rattle.std_alloc.proofs.boxed.Box.TheLaws as box_laws
use Rattle.std_alloc.specs.contracts.boxed.Box.into_raw as callee
use Rattle.std_alloc.proofs.boxed.Box.into_raw.Met.{met}
use Rattle.nic_handles.proofs.Words.{block_word, block_fits, block_in, pointer_fits}
use Rattle.nic_handles.specs.contracts.block.Block.of as f
use Rattle.nic_handles.proofs.block.Block.of.Statement.{statement}
use Rattle.nic_handles.proofs.block.Block.of.Code as code

pub of_spec : {M : Type 1} → statement M
of_spec 𝓤 𝓛 𝓜 𝓡 wired T A L LA g d dx dd allocator glue glued =
    let E : box.Bx = record { row = T; laws = L; al = record { row = A; laws = LA; g = g; d = d; drops = dd } } in
    let law = (box_laws.the_field_loose (box.R E) (box.P E) g (param_laws 0 T L) (param_laws 1 A LA)).lawful 𝓛 in
    let inst = bounded (a_type ∷ a_type ∷ []) (T, (A, tt)) (dcons d (dcons dx (dcons dd dnil))) in let fn = inst_fn inst code.function in
    let En = f.ended T A g d dx dd in let c = f.clauses T A g d dx dd 𝓛 𝓜.mem 𝓡.returns in let 𝓣 = tables 𝓤 𝓛.H 𝓜 𝓡 𝓡.env in
    let stayed : Stays En.signature.params En.kept = (stay_dropped (plain (λ _. box.B E)) no, tt) in
    let G = triple_of 𝓛 (callee.signature T A g d dd dx) (callee.spec T A g d dd dx 𝓛 𝓜.mem 𝓡.returns) in
    proved_at 𝓛 En stayed c 𝓜 𝓡 (Goes-blank 𝓛 2 (plain (λ _. box.B E)) no (λ κs x w. tt), tt)
    (f.Key.name inst) fn (code.unfolded 𝓤 𝓛.H 𝓜 𝓡 wired (T, (A, tt)) d dx dd) (λ y are.
    let κs = y.0.0 in let qs = y.0.1 in let v = y.0.3.0 in let vs = y.0.4.0 in
    let Post : Val → SProp 𝓤 = (walk_of 𝓛 En stayed c).post y in
    let tokens = ‵ (flft κs.0 qs.0) ⊛ ‵ (flft κs.1.0 qs.1.0) ⊛ ‵ ftrue in
    let word = one (box.box_ty E) vs (law.typed v vs are.0) in
    let z : G.Ghost = ((κs, qs, tt, (v, tt), (word.0 ∷ [], tt)), tt) in
    qed 𝓛 ((tokens ⊛ ‵ (owns (types_at En.signature.params κs) y.0.3 y.0.4)) ∷ raw ((c κs y.0.3).requires y.1) ∷ []) ∵
    split ! $ move ! (1 ∷ []) $ fsplit ! $ rewrite ! 0 (λ (us : List Val). ‵ ((box.B E).own_val v us)) word.1 refl $
    regoal ! (λ (us : List Val). prop (WpFn 𝓤 𝓛.H 𝓣.C 𝓣.Λ fn (us ++ []) Post)) word.1 refl $
    fjoin ! $ move ! (1 ∷ 0 ∷ []) $ join ! $ join ! $ use1 𝓛 (raw (G.pre z)) (id⊢ 𝓤 _) $
    enter ! _ _ _ _ _ $ alloc_all ! (λ l. pass_all ! refl (word.2, tt) $
    sets ! (of_opd ! (get ! refl)) refl word.2 $
    calls_at ! (fm 𝓛 𝓜 𝓡) G (met 𝓤 𝓛 𝓜 𝓡 (code.calls-std_alloc::boxed::Box::into_raw 𝓡.env wired) T A L LA g d dd dx allocator glued glue) z
    (and_then ! (get ! refl) (no_more !)) (λ u.
    use1 𝓛 (later (some (λ (p : Ptr). (tokens ⊛ ‵ (RawPtr.own_val p (u ∷ []))) ⊛
    some (λ (ws : Lasts (callee.ended T A g d dd dx) κs z.0.3).
    ‵ (lasts (callee.ended T A g d dd dx) κs z.0.3 ws) ⊛ ‵ (box_owns (g.dealloc_token v.alloc) (box.R E) p v.value))))) (id⊢ 𝓤 _) $
    await ! tt $ pick ! (λ p. split ! $ split ! $ move ! (1 ∷ []) $ feq_l ! (λ is_p.
    -- [the tokens; what the pointer owns; the locals]
    move ! (1 ∷ []) $ pick ! (λ ws. split ! $ drop ! $ move ! (1 ∷ []) $
    lands_as ! (ap only is_p) refl (pointer_fits 𝓛 p) $
    sets ! (agg ! (no_more !)) refl (tt, tt) $
    sets ! (agg ! (and_then ! (get ! refl) (and_then ! (get ! refl) (no_more !)))) refl (block_fits 𝓛 p) $
    returns ! (look_at ! 0 refl) $ free_all ! refl $ move ! (1 ∷ []) $
    block_in (box.R E) (box.P E) g ! (record { at = p; from = record {}; value = v.value; giver = v.alloc }) $
    suffices ! _ (ends_at 𝓛 En stayed c y (block_word p) (record { at = p; from = record {}; value = v.value; giver = v.alloc })
    ((tt, (tt, tt)), tt) (tt, tt)) $
    says ! refl $ nothing ! $ nothing ! $ join ! $ join ! $ move ! (1 ∷ 0 ∷ []) $ join ! $ done !))))))
