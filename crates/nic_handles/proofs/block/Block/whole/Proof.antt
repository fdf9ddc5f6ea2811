-- `whole` hands the address to `from_raw`: a walk.
use Rattle.std.proofs.Common.{◌≡◌, List, [], ◌∷◌, ◌++◌, refl, sym}
use Rattle.std.proofs.raw_atomic.Walks.{proved_at}
use base.Logic.{SProp, id⊢}
use base.Fml.{ftrue, flft}
use mir.Syntax.{a_type, dcons, dnil}
use mir.MapTy.{inst_fn}
use mir.Val.{Val}
use prog.Wp.{WpFn}
use types.Kit.{‵, raw, prop, ◌⊛◌, some, later, at_ret, ◌$◌, ◌∵◌, !, qed, done, move, drop, split, split3, join, fsplit, fsplit3, fjoin}
use types.Kit.{feq_i, pick, suffices, use1, await, rewrite, regoal}
use types.Run.{enter, of_opd, stop, fld, no_more, and_then, first, blocks, exec, returns}
use types.ByLocal.{alloc_all, pass_all, free_all, look_at, get, get_in, sets, lands_last, env}
use types.Part.{sub, whole as all_of}
use contract.BorrowLft.{◌⊑◌}
use contract.Monad.{fact}
use contract.Running.{tables}
use denote.Exit.{no}
use denote.Laws.{Is, shows}
use denote.Param.{bounded}
use denote.Param.Laws.{param_laws}
use denote.RattleType.{owns}
use denote.RawPtr.{ptr_val}
use denote.Signature.{types_at, plain}
use denote.Steps.{nothing, heard, peeks}
use denote.Triple.Call.{calls_at_last}
use denote.Triple.Clauses.{Lasts, lasts}
use denote.Triple.Spec.{triple_of}
use denote.Triple.Walked.{Stays, stay_dropped, walk_of, says, ends_at}
use Rattle.core.proofs.alloc.Calls.{α, Goes-blank}
use Rattle.core.proofs.alloc.Shapes.{after}
use Rattle.core.proofs.atomic.Steps.{fm}
use Rattle.core.proofs.cell.Inside.{one}
use Rattle.std_alloc.specs.Box.Ownership.{box_owns}
use Rattle.std_alloc.proofs.BoxSteps.Form as box
use Rattle.std_alloc.proofs.boxed.Box.TheLaws as box_laws
use Rattle.std_alloc.specs.contracts.boxed.Box.from_raw as callee
use Rattle.std_alloc.proofs.boxed.Box.from_raw.Met.{met}
use Rattle.nic_handles.proofs.Words.{block_word, block_fits, pointer_fits}
use Rattle.nic_handles.proofs.block.Block.TheLaws as laws
use Rattle.nic_handles.specs.contracts.block.Block as block
use Rattle.nic_handles.specs.contracts.block.Block.whole as f
use Rattle.nic_handles.proofs.block.Block.whole.Statement.{statement}
use Rattle.nic_handles.proofs.block.Block.whole.Code as code

pub whole_spec : {M : Type 1} → statement M
whole_spec 𝓤 𝓛 𝓜 𝓡 wired T A L LA g d dx dd allocator glue glued =
    let E : box.Bx = record { row = T; laws = L; al = record { row = A; laws = LA; g = g; d = d; drops = dd } } in
    let LR = param_laws 0 T L in let LZ = param_laws 1 A LA in
    let law = (box_laws.the_field_loose (box.R E) (box.P E) g LR LZ).lawful 𝓛 in
    let inst = bounded (a_type ∷ a_type ∷ []) (T, (A, tt)) (dcons d (dcons dx (dcons dd dnil))) in let fn = inst_fn inst code.function in
    let En = f.ended T A g d dx dd in let c = f.clauses T A g d dx dd 𝓛 𝓜.mem 𝓡.returns in let 𝓣 = tables 𝓤 𝓛.H 𝓜 𝓡 𝓡.env in
    let Blk = block.the_row (box.R E) (box.P E) g in
    let stayed : Stays En.signature.params En.kept = (stay_dropped (plain (λ _. Blk)) no, (stay_dropped (plain (λ _. box.P E)) no, tt)) in
    let G = triple_of 𝓛 (callee.signature T A g d dd) (callee.spec T A g d dd 𝓛 𝓜.mem 𝓡.returns) in
    proved_at 𝓛 En stayed c 𝓜 𝓡
    (Goes-blank 𝓛 2 (plain (λ _. Blk)) no (λ κs x w. tt), (Goes-blank 𝓛 2 (plain (λ _. box.P E)) no (λ κs x w. tt), tt))
    (f.Key.name inst) fn (code.unfolded 𝓤 𝓛.H 𝓜 𝓡 wired (T, (A, tt)) d dx dd) (λ y are.
    let κs = y.0.0 in let qs = y.0.1 in let b = y.0.3.0 in let p = b.at in let a = y.0.3.1.0 in let vs = y.0.4.0 in let us = y.0.4.1.0 in
    let Post : Val → SProp 𝓤 = (walk_of 𝓛 En stayed c).post y in
    let tokens = ‵ (flft κs.0 qs.0) ⊛ ‵ (flft κs.1.0 qs.1.0) ⊛ ‵ ftrue in
    let is_word : vs ≡ block_word p ∷ [] = (laws.lowers (box.R E) (box.P E) g LR LZ).val_is b vs are.0 in
    let word = one (α E.al) us ((LZ.lawful 𝓛).typed a us are.1.0) in
    let z : G.Ghost = ((κs, qs, tt, (a, (p, tt)), (word.0 ∷ [], (ptr_val p ∷ [], tt))), b.value) in
    qed 𝓛 ((tokens ⊛ ‵ (owns (types_at En.signature.params κs) y.0.3 y.0.4))
    ∷ (raw (fact 𝓤 (κs.0 ⊑ T.lives)) ⊛ raw (fact 𝓤 (κs.1.0 ⊑ A.lives)) ⊛ raw (fact 𝓤 (a ≡ b.giver))) ∷ []) ∵
    regoal ! (λ (ws : List Val). prop (WpFn 𝓤 𝓛.H 𝓣.C 𝓣.Λ fn (ws ++ (us ++ [])) Post)) is_word refl $
    regoal ! (λ (ws : List Val). prop (WpFn 𝓤 𝓛.H 𝓣.C 𝓣.Λ fn (block_word p ∷ (ws ++ [])) Post)) word.1 refl $
    move ! (1 ∷ []) $ split3 ! $ move ! (2 ∷ []) $ heard ! _ (λ same. move ! (2 ∷ []) $ split ! $ move ! (1 ∷ []) $
    fsplit3 ! $ fsplit ! $ drop ! $ rewrite ! 0 (λ (x : A.Denot). ‵ (box_owns (g.dealloc_token x) (box.R E) p b.value)) (sym same) refl $
    move ! (1 ∷ []) $ rewrite ! 0 (λ (ws : List Val). ‵ ((box.P E).own_val a ws)) word.1 refl $
    -- [the allocator; what the pointer owns; nothing; the tokens; what is known of the lifetimes]
    move ! (5 ∷ 1 ∷ []) $ join ! $ move ! (4 ∷ 0 ∷ []) $ join ! $
    move ! (2 ∷ []) $ feq_i ! (List Val) (ptr_val p ∷ []) (ptr_val p ∷ []) refl $ fjoin ! $ move ! (2 ∷ 0 ∷ []) $ fjoin ! $
    move ! (2 ∷ 0 ∷ []) $ join ! $ join ! $ use1 𝓛 (raw (G.pre z)) (id⊢ 𝓤 _) $
    enter ! _ _ _ _ _ $ alloc_all ! (λ l. pass_all ! refl (block_fits 𝓛 p, (word.2, tt)) $ let Ev = env fn.locals l in
    sets ! (of_opd ! (get_in ! (fld ! refl (stop !)) (sub ! 0 refl (all_of !)))) refl (pointer_fits 𝓛 p) $
    first ! $ blocks ! $ sets ! (of_opd ! (get ! refl)) refl word.2 $
    calls_at_last ! (fm 𝓛 𝓜 𝓡) G (met 𝓤 𝓛 𝓜 𝓡 (code.calls-std_alloc::boxed::Box::from_raw 𝓡.env wired) T A L LA g d dd allocator glued) z
    (and_then ! (get ! refl) (and_then ! (get ! refl) (no_more !))) (λ u.
    use1 𝓛 (later (some (λ (r : (box.B E).Denot). (tokens ⊛ ‵ ((box.B E).own_val r (u ∷ []))) ⊛
    some (λ (ws : Lasts (callee.ended T A g d dd) κs z.0.3). ‵ (lasts (callee.ended T A g d dd) κs z.0.3 ws) ⊛
    (raw (fact 𝓤 (r.value ≡ b.value)) ⊛ raw (fact 𝓤 (r.alloc ≡ a))))))) (id⊢ 𝓤 (G.post z u)) $
    await ! tt $ pick ! (λ r. split ! $ split ! $ move ! (2 ∷ []) $ pick ! (λ ws. split3 ! $ drop ! $ heard ! _ (λ is_value. drop ! $
    -- [the tokens; the box; the locals]
    move ! (1 ∷ []) $ peeks ! (box.B E) (Is (box.B E)) (shows 𝓛 (box.B E)) r (u ∷ []) (λ is.
    let fits = (law.typed r (u ∷ []) is).0 in
    lands_last ! refl fits $ exec ! 𝓣.C 𝓣.Λ Ev (after 2 fn.body) (at_ret Ev Post) $ sets ! (of_opd ! (get ! refl)) refl fits $
    returns ! (look_at ! 0 refl) $ free_all ! refl $
    suffices ! _ (ends_at 𝓛 En stayed c y u r (tt, (tt, tt)) (tt, (tt, tt))) $ says ! is_value $
    nothing ! $ nothing ! $ join ! $ nothing ! $ join ! $ join ! $ move ! (1 ∷ 0 ∷ []) $ join ! $ done !))))))))
