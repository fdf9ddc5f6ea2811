-- The counting event and descriptors of tickets.
use Rattle.std.proofs.Common.{ℕ, ◌+◌, ◌*◌, ◌≡◌, ◌∙◌, List, [], ◌∷◌, ◌++◌, None, Some, ap, arith, map, subst, sym}
use Rattle.coll_lang.specs.declared.choices.ChoiceKind.{ChoiceKind}
use Rattle.coll_lang.specs.declared.choices.ChoiceKind.TheVariants.{Tickets}
use Rattle.ptl_types.specs.declared.entries.Descriptor.{Descriptor}
use Rattle.ptl_types.specs.declared.handles.Handle.{Handle}
use Rattle.ni_model.specs.State.{State}
use Rattle.ni_model.specs.Tables.{handle}
use Rattle.rank_node.specs.Calls.{NewCounter, NewDescriptor}
use Rattle.rank_node.specs.Handles.{AreAllOf, Handles, Tells}
use Rattle.plan_choice.specs.texts.machine.Choices.{choice_at}
use Rattle.plan_choice.specs.texts.view.Calls.{step_calls}
use Rattle.plan_choice.specs.texts.view.Calls.Call.{CtAlloc, MdBind}
use Rattle.plan_choice.specs.texts.view.Install.{Slots, before, counters_in, counters_of, ct_of, descriptor_of, parts_of, result_counter}
use Rattle.plan_choice.specs.texts.view.Install.Counter.{First}
use Rattle.plan_choice.specs.texts.view.Install.Part.{Given, Result}
use Rattle.plan_choice.specs.ranks.Given.{Agrees, AreMade}
use Rattle.plan_choice.proofs.ranks.Elected.{word_md}
use Rattle.plan_choice.proofs.ranks.Made.{made-both, made-counter, made-descriptor}

module _ (ks : List ChoiceKind) (t counter : ℕ) (s0 s1 s2 s3 : State) (a0 a1 a2 a3 : Handles) (d1 d2 : Descriptor) (h : Handle)
    (is : choice_at ks t ≡ Tickets) (number : counter ≡ 2 + before counters_in ks t) (all : AreAllOf s0 a0) (n1 : NewCounter s0 s1 a0 a1)
    (n2 : NewDescriptor d1 s1 s2 a1 a2) (n3 : NewDescriptor d2 s2 s3 a2 a3) (e1 : d1 ≡ word_md (32 * t + 8) None)
    (e2 : d2 ≡ word_md (32 * t + 24) (Some h)) (told : (f : ℕ → ℕ) → Tells f a2.counters → h ≡ handle (f counter) counter) where
  m1 : AreMade ks (CtAlloc (First t) ∷ []) s0 s1 a0 a1
  m1 = made-counter ks (First t) s0 s1 a0 a1 n1 all

  m2 : AreMade ks (MdBind (Given t) ∷ []) s1 s2 a1 a2
  m2 = made-descriptor ks (Given t) d1 s1 s2 a1 a2 n2 m1.all (λ k g. sym e1)

  result_is : (k : Slots) → Agrees k a3 → descriptor_of k ks (Result t) ≡ d2
  result_is k g =
      ap (λ x. word_md (32 * t + 24) (Some (ct_of k ks (result_counter x t)))) is
      ∙ ap (λ n. word_md (32 * t + 24) (Some (handle (k.ct n) n)))
      (let q : 2 + (before counters_in ks t + 0) ≡ counter = omega (arith, number) in q)
      ∙ ap (λ x. word_md (32 * t + 24) (Some x))
      (sym (told k.ct (subst (Tells k.ct) (ap (λ (v : Handles). v.counters) n3.left) g.counters)))
      ∙ sym e2

  m3 : AreMade ks (MdBind (Result t) ∷ []) s2 s3 a2 a3
  m3 = made-descriptor ks (Result t) d2 s2 s3 a2 a3 n3 m2.all result_is

  pub tickets_made : AreMade ks (step_calls ks t) s0 s3 a0 a3
  tickets_made =
      subst (λ x. AreMade ks (map CtAlloc (counters_of x t) ++ map MdBind (parts_of x t)) s0 s3 a0 a3) (sym is)
      (made-both ks (CtAlloc (First t) ∷ []) (MdBind (Given t) ∷ MdBind (Result t) ∷ []) s0 s1 s3 a0 a1 a3 m1
      (made-both ks (MdBind (Given t) ∷ []) (MdBind (Result t) ∷ []) s1 s2 s3 a1 a2 a3 m2 m3))
