-- The counting events and descriptors of an elect.
use Rattle.std.proofs.Common.{ℕ, false, ◌+◌, ◌*◌, ◌≡◌, ◌∙◌, List, [], ◌∷◌, ◌++◌, None, Option, Some, ap, arith, is_some, map, subst, sym}
use Rattle.coll_lang.specs.declared.choices.ChoiceKind.{ChoiceKind}
use Rattle.coll_lang.specs.declared.choices.ChoiceKind.TheVariants.{Elect}
use Rattle.ptl_types.specs.declared.entries.Descriptor.{Descriptor}
use Rattle.ptl_types.specs.declared.entries.TheConstants.HiddenDescriptorEvents as hidden_descriptor_events
use Rattle.ptl_types.specs.declared.handles.Handle.{Handle}
use Rattle.ni_model.specs.State.{State}
use Rattle.ni_model.specs.Tables.{handle}
use Rattle.rank_node.specs.Calls.{NewCounter, NewDescriptor}
use Rattle.rank_node.specs.Handles.{AreAllOf, Handles, Tells}
use Rattle.plan_choice.specs.texts.machine.Choices.{choice_at}
use Rattle.plan_choice.specs.texts.view.Calls.{step_calls}
use Rattle.plan_choice.specs.texts.view.Calls.Call.{CtAlloc, MdBind}
use Rattle.plan_choice.specs.texts.view.Install.{Slots, before, counters_in, counters_of, ct_of, descriptor_of, parts_of, result_counter}
use Rattle.plan_choice.specs.texts.view.Install.Counter.{First, Second}
use Rattle.plan_choice.specs.texts.view.Install.Part.{Given, Old, Result}
use Rattle.plan_choice.specs.ranks.Given.{Agrees, AreMade}
use Rattle.plan_choice.proofs.ranks.Made.{made-both, made-counter, made-descriptor}

-- the descriptor of a word
abbrev pub word_md : ℕ → Option Handle → Descriptor
word_md start ct = record {
  start = start;
  length = 8;
  eq = None;
  ct = ct;
  count_send = false;
  count_reply = is_some ct;
  count_ack = false;
  hidden = hidden_descriptor_events.NONE;
}

module _ (ks : List ChoiceKind) (t counter : ℕ) (s0 s1 s2 s3 s4 s5 : State) (a0 a1 a2 a3 a4 a5 : Handles) (d1 d2 d3 : Descriptor)
    (h1 h2 : Handle) (is : choice_at ks t ≡ Elect) (number : counter ≡ 2 + before counters_in ks t) (all : AreAllOf s0 a0)
    (n1 : NewCounter s0 s1 a0 a1) (n2 : NewCounter s1 s2 a1 a2) (n3 : NewDescriptor d1 s2 s3 a2 a3) (n4 : NewDescriptor d2 s3 s4 a3 a4)
    (n5 : NewDescriptor d3 s4 s5 a4 a5) (e1 : d1 ≡ word_md (32 * t + 8) None) (e2 : d2 ≡ word_md (32 * t + 16) (Some h1))
    (e3 : d3 ≡ word_md (32 * t + 24) (Some h2)) (told1 : (f : ℕ → ℕ) → Tells f a3.counters → h1 ≡ handle (f counter) counter)
    (told2 : (f : ℕ → ℕ) → Tells f a4.counters → h2 ≡ handle (f (counter + 1)) (counter + 1)) where
  m1 : AreMade ks (CtAlloc (First t) ∷ []) s0 s1 a0 a1
  m1 = made-counter ks (First t) s0 s1 a0 a1 n1 all

  m2 : AreMade ks (CtAlloc (Second t) ∷ []) s1 s2 a1 a2
  m2 = made-counter ks (Second t) s1 s2 a1 a2 n2 m1.all

  m3 : AreMade ks (MdBind (Given t) ∷ []) s2 s3 a2 a3
  m3 = made-descriptor ks (Given t) d1 s2 s3 a2 a3 n3 m2.all (λ k g. sym e1)

  old_is : (k : Slots) → Agrees k a4 → descriptor_of k ks (Old t) ≡ d2
  old_is k g =
      ap (λ n. word_md (32 * t + 16) (Some (handle (k.ct n) n)))
      (let q : 2 + (before counters_in ks t + 0) ≡ counter = omega (arith, number) in q)
      ∙ ap (λ h. word_md (32 * t + 16) (Some h))
      (sym (told1 k.ct (subst (Tells k.ct) (ap (λ (v : Handles). v.counters) n4.left) g.counters)))
      ∙ sym e2

  m4 : AreMade ks (MdBind (Old t) ∷ []) s3 s4 a3 a4
  m4 = made-descriptor ks (Old t) d2 s3 s4 a3 a4 n4 m3.all old_is

  result_is : (k : Slots) → Agrees k a5 → descriptor_of k ks (Result t) ≡ d3
  result_is k g =
      ap (λ x. word_md (32 * t + 24) (Some (ct_of k ks (result_counter x t)))) is
      ∙ ap (λ n. word_md (32 * t + 24) (Some (handle (k.ct n) n)))
      (let q : 2 + (before counters_in ks t + 1) ≡ counter + 1 = omega (arith, number) in q)
      ∙ ap (λ h. word_md (32 * t + 24) (Some h))
      (sym (told2 k.ct (subst (Tells k.ct) (ap (λ (v : Handles). v.counters) n5.left) g.counters)))
      ∙ sym e3

  m5 : AreMade ks (MdBind (Result t) ∷ []) s4 s5 a4 a5
  m5 = made-descriptor ks (Result t) d3 s4 s5 a4 a5 n5 m4.all result_is

  pub elect_made : AreMade ks (step_calls ks t) s0 s5 a0 a5
  elect_made =
      subst (λ x. AreMade ks (map CtAlloc (counters_of x t) ++ map MdBind (parts_of x t)) s0 s5 a0 a5) (sym is)
      (made-both ks (CtAlloc (First t) ∷ []) (CtAlloc (Second t) ∷ MdBind (Given t) ∷ MdBind (Old t) ∷ MdBind (Result t) ∷ []) s0 s1 s5
      a0 a1 a5 m1
      (made-both ks (CtAlloc (Second t) ∷ []) (MdBind (Given t) ∷ MdBind (Old t) ∷ MdBind (Result t) ∷ []) s1 s2 s5 a1 a2 a5 m2
      (made-both ks (MdBind (Given t) ∷ []) (MdBind (Old t) ∷ MdBind (Result t) ∷ []) s2 s3 s5 a2 a3 a5 m3
      (made-both ks (MdBind (Old t) ∷ []) (MdBind (Result t) ∷ []) s3 s4 s5 a3 a4 a5 m4 m5))))
