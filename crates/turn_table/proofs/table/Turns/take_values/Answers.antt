use Rattle.std.proofs.Common.{◌≡◌, ℕ, Some, None, List, [], ◌∷◌, ap, ◌∙◌, sym, subst, arith, ⊎_elim, length, length-append}
use mathlib.Core.Option.{some, some-injective}
use lib.ListN.{get_elem?}
use Rattle.std.proofs.lemmas.Grind.{common_steps}
use Rattle.turn_table.specs.Rules.{Ends}
use Rattle.turn_table.proofs.Whole.{finals, snoc_at}
use Rattle.turn_table.proofs.table.Turns.take_values.Goals as goal

-- what is found is the value that the rule speaks of
found_is : {A : Type 0} (xs ys : List A) (i : ℕ) (a b : A) → xs ≡ ys → get_elem? xs i ≡ some a → get_elem? ys i ≡ some b → a ≡ b
found_is xs ys i a b e p q = some-injective a b (sym p ∙ (ap (λ l. get_elem? l i) e ∙ q))

no_some : {A : Type 0} (x : A) → None ≡ Some x → ⊥
no_some x e = cc

same_some : {A : Type 0} (x y : A) → Some x ≡ Some y → x ≡ y
same_some x y e = cc

pub unreachable-requires : goal.unreachable-requires
unreachable-requires g c = let z = c.self.invariant in let h = c.loop-i.invariant in
    let t = finals g.T.Past.past g.T.Past.name _ _ _ _ _ c.close_with-closed.ensures.values.2 c.requires.seat.1 c.requires.seat.2
    c.loop-i.i (omega (arith, z.slots_are, c.slot_count-count.ensures, c.loop-i-test.true)) in
    no_some t.0 (sym c.in-None.is ∙ found_is _ _ c.loop-i.i _ _ h.items c.take.ensures.value t.1)

pub loop-i-preserved : goal.loop-i-preserved
loop-i-preserved g c = let z = c.self.invariant in let h = c.loop-i.invariant in let p = c.push_reserved.ensures in let o =
    c.take.ensures.others in
    let t = finals g.T.Past.past g.T.Past.name _ _ _ _ _ c.close_with-closed.ensures.values.2 c.requires.seat.1 c.requires.seat.2
    c.loop-i.i (omega (arith, z.slots_are, c.slot_count-count.ensures, c.loop-i-test.true)) in
    let is : c.in-Some.value ≡ t.0 = same_some _ _ (sym c.in-Some.is ∙ found_is _ _ c.loop-i.i _ _ h.items c.take.ensures.value t.1) in
    let end = subst (λ (l : List g.row.T.Denot). Ends g.T.Past.past g.T.Past.name l c.args.seat.me.0 c.loop-i.i t.0)
    (ap (λ t. t.start) c.self.view_is) t.2 in record {
      filled = grind (arith, common_steps);
      gone = grind (arith, common_steps);
      items = o.0 ∙ h.items;
      len = o.2 ∙ h.len;
      within = omega arith;
      moved = omega (arith, ap (λ (l : List g.row.T.Denot). length l) p.items, length-append c.loop-i.room.items (c.in-Some.value ∷ []));
      roomy = omega (arith, p.capacity);
      ended = λ k x e. ⊎_elim (λ (q : get_elem? c.loop-i.room.items k ≡ some x). h.ended k x q)
          (λ (q : (k ≡ length c.loop-i.room.items) × (c.in-Some.value ≡ x)). subst
          (λ (y : ℕ × g.row.T.Denot). Ends g.T.Past.past g.T.Past.name c.args.self.start c.args.seat.me.0 y.0 y.1)
          (λ i. (sym (q.0 ∙ h.moved) i, (sym is ∙ q.1) i)) end)
          (snoc_at c.loop-i.room.items c.in-Some.value x k (ap (λ l. get_elem? l k) (sym p.items) ∙ e));
    }
