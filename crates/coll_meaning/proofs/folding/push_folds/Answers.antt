use Rattle.std.proofs.Common.{◌≡◌, ◌++◌, ◌∷◌, [], suc, ◌+◌, ℕ, List, map, ap, sym, ◌∙◌, arith, append_assoc}
use Rattle.number_lists.specs.Numbers.{from_to}
use Rattle.coll_shape.specs.Folding.{reduced}
use Rattle.ptl_types.specs.Elements.{combined}
use Rattle.coll_meaning.proofs.Rows.{row_more}
use Rattle.coll_meaning.proofs.Folds.{reduced_more}
use Rattle.coll_meaning.proofs.folding.push_folds.Goals as goal

after : {X : Type 0} (f : ℕ → X) (start now next : List X) (x : X) (i : ℕ) → next ≡ now ++ x ∷ [] → now ≡ start ++ map f (from_to 0 i) →
    x ≡ f i → next ≡ start ++ map f (from_to 0 (i + 1))
after f start now next x i e h is =
    e ∙ ap (λ v. v ++ x ∷ []) h ∙ append_assoc start (map f (from_to 0 i)) (x ∷ []) ∙ ap (λ v. start ++ (map f (from_to 0 i) ++ v ∷ []))
    is ∙ ap (λ v. start ++ v) (sym (row_more f i))

pub loop-i-preserved : goal.loop-i-preserved
loop-i-preserved c =
    let folded : c.combine_next.new.so_far.items ≡ reduced c.args.op c.args.ty (c.loop-i.i + 1) c.args.xs.now =
    c.combine_next.ensures ∙ ap (λ v. combined c.args.op c.args.ty v c.list.result.now) c.loop-i.invariant.so_far
    ∙ ap (λ v. combined c.args.op c.args.ty (reduced c.args.op c.args.ty c.loop-i.i c.args.xs.now) v) c.list.ensures
    ∙ sym (reduced_more c.args.op c.args.ty c.loop-i.i c.args.xs.now) in
    record {
      so_far = folded;
      folds = after (λ i. reduced c.args.op c.args.ty (suc i) c.args.xs.now) _ _ _ _ c.loop-i.i c.in_ok-push.ensures.items
          c.loop-i.invariant.folds
          (c.in_ok-copied.ensures ∙ c.as_slice.ensures.value ∙ folded ∙ ap (λ n. reduced c.args.op c.args.ty n c.args.xs.now)
          (let e : c.loop-i.i + 1 ≡ suc c.loop-i.i = omega arith in e));
    }
