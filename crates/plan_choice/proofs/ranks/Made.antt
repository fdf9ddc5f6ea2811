-- What single calls leave, and one list of calls after another.
use Rattle.std.proofs.Common.{ℕ, ◌+◌, ◌≡◌, ◌∙◌, List, [], ◌∷◌, ◌++◌, ap, ap₂, add-zero, arith, length, refl, subst, sym}
use Rattle.std.specs.Prelude.{sum_by}
use Rattle.std.proofs.lemmas.List.Sums.{sum_by-append}
use Rattle.coll_lang.specs.declared.choices.ChoiceKind.{ChoiceKind}
use Rattle.ptl_types.specs.declared.handles.Handle.{Handle}
use Rattle.ptl_types.specs.declared.calls.TriggeredOp.{TriggeredOp}
use Rattle.ptl_types.specs.declared.entries.Descriptor.{Descriptor}
use Rattle.ptl_types.specs.declared.entries.List.TheVariants.{Priority}
use Rattle.ni_model.specs.Calls.{with_bound, with_counter, with_operation}
use Rattle.ni_model.specs.State.{State, parts_of}
use Rattle.cuts.specs.view.Calls.{with_entry}
use Rattle.rank_node.specs.Calls.{NewCounter, NewDescriptor, NewEntry}
use Rattle.rank_node.specs.Handles.{AreAllOf, Handles, with_counter_handle, with_descriptor_handle, with_entry_handle}
use Rattle.rank_node.proofs.Lists.{length-push, tells-front, tells-last}
use Rattle.rank_node.proofs.Made.{made-done}
use Rattle.rank_node.proofs.Steady.{linked-counters, linked-given}
use Rattle.plan_choice.specs.texts.view.Calls.{Call, calls_made}
use Rattle.plan_choice.specs.texts.view.Calls.Call.{CtAlloc, MdBind, MeAppend, Trigger}
use Rattle.plan_choice.specs.texts.view.Install.{Counter, Part, Slots, RankOp, ct_of, action_of, descriptor_of, work_counter, word_entry}
use Rattle.plan_choice.proofs.texts.view.Called.{made-append}
use Rattle.plan_choice.specs.ranks.Given.{Agrees, AreMade, counters_by, descriptors_by, entries_by}

same : (n : ℕ) → n ≡ n + 0
same n = sym (add-zero n)

-- ---- no call at all
pub made-none : (ks : List ChoiceKind) (s : State) (hs : Handles) → AreAllOf s hs → AreMade ks [] s s hs hs
made-none ks s hs all = record {
  state = λ k g. refl;
  kept = λ k g. g;
  all = all;
  counters = same (length hs.counters);
  entries = same (length hs.entries);
  descriptors = same (length hs.descriptors);
  room = refl;
  ranks = refl;
  limits = refl;
}

-- ---- one list after another
more : (f : Call → ℕ) (xs ys : List Call) (a b c : ℕ) → b ≡ a + sum_by f xs → c ≡ b + sum_by f ys → c ≡ a + sum_by f (xs ++ ys)
more f xs ys a b c e h = let q = sum_by-append f xs ys in omega (arith, e, h, q)

pub made-both : (ks : List ChoiceKind) (xs ys : List Call) (s t u : State) (a b c : Handles)
    → AreMade ks xs s t a b → AreMade ks ys t u b c → AreMade ks (xs ++ ys) s u a c
made-both ks xs ys s t u a b c m n = record {
  state = λ k g. n.state k g ∙ ap (calls_made k ks ys) (m.state k (n.kept k g)) ∙ sym (made-append k ks xs ys s);
  kept = λ k g. m.kept k (n.kept k g);
  all = n.all;
  counters = more counters_by xs ys (length a.counters) (length b.counters) (length c.counters) m.counters n.counters;
  entries = more entries_by xs ys (length a.entries) (length b.entries) (length c.entries) m.entries n.entries;
  descriptors = more descriptors_by xs ys (length a.descriptors) (length b.descriptors) (length c.descriptors) m.descriptors n.descriptors;
  room = n.room ∙ m.room;
  ranks = n.ranks ∙ m.ranks;
  limits = n.limits ∙ m.limits;
}

-- ---- a counting event
pub made-counter : (ks : List ChoiceKind) (c : Counter) (s t : State) (hs left : Handles) → NewCounter s t hs left → AreAllOf s hs
    → AreMade ks (CtAlloc c ∷ []) s t hs left
made-counter ks c s t hs left made all =
    subst (λ (x : Handles). AreMade ks (CtAlloc c ∷ []) s t hs x) (sym made.left)
    (subst (λ (x : State). AreMade ks (CtAlloc c ∷ []) s x hs (with_counter_handle made.ct hs)) (sym made.state) there)
  where
    kept : AreAllOf (with_counter made.ct.slot s) (with_counter_handle made.ct hs)
    kept = subst (λ (x : Handles). AreAllOf (with_counter made.ct.slot s) x) made.left
        (subst (λ (x : State). AreAllOf x left) made.state (made-done [] s t hs left made all).all)

    there : AreMade ks (CtAlloc c ∷ []) s (with_counter made.ct.slot s) hs (with_counter_handle made.ct hs)
    there = record {
      state = λ k g. ap (λ n. with_counter n s) (sym (tells-last k.ct hs.counters made.ct g.counters) ∙ ap k.ct (sym all.counters));
      kept = λ k g. record { counters = tells-front k.ct hs.counters made.ct g.counters; entries = g.entries; descriptors = g.descriptors };
      all = kept;
      counters = length-push hs.counters made.ct;
      entries = same (length hs.entries);
      descriptors = same (length hs.descriptors);
      room = refl;
      ranks = refl;
      limits = refl;
    }

-- ---- a descriptor
pub made-descriptor : (ks : List ChoiceKind) (x : Part) (md : Descriptor) (s t : State) (hs left : Handles) → NewDescriptor md s t hs left
    → AreAllOf s hs → ((k : Slots) → Agrees k left → descriptor_of k ks x ≡ md) → AreMade ks (MdBind x ∷ []) s t hs left
made-descriptor ks x md s t hs left new all is =
    subst (λ (v : Handles). AreMade ks (MdBind x ∷ []) s t hs v) (sym new.left)
    (subst (λ (v : State). AreMade ks (MdBind x ∷ []) s v hs (with_descriptor_handle new.made hs)) (sym new.state) there)
  where
    there : AreMade ks (MdBind x ∷ []) s (with_bound new.made.slot md s) hs (with_descriptor_handle new.made hs)
    there = record {
      state = λ k g. ap₂ (λ slot d. with_bound slot d s)
          (sym (tells-last k.md hs.descriptors new.made g.descriptors) ∙ ap k.md (sym all.descriptors))
          (sym (is k (subst (Agrees k) (sym new.left) g)));
      kept = λ k g. record {
        counters = g.counters;
        entries = g.entries;
        descriptors = tells-front k.md hs.descriptors new.made g.descriptors;
      };
      all = record {
        counters = all.counters;
        entries = all.entries;
        descriptors = ap (λ n. n + 1) all.descriptors ∙ sym (length-push hs.descriptors new.made);
        live = all.live;
      };
      counters = same (length hs.counters);
      entries = same (length hs.entries);
      descriptors = length-push hs.descriptors new.made;
      room = refl;
      ranks = refl;
      limits = refl;
    }

-- ---- a triggered operation
pub made-operation : (ks : List ChoiceKind) (w : RankOp) (action : TriggeredOp) (ct : Handle) (s t : State) (hs : Handles)
    → t ≡ with_operation action ct 1 s → AreAllOf s hs → ((k : Slots) → Agrees k hs → action ≡ action_of k ks w)
    → ((k : Slots) → Agrees k hs → ct ≡ ct_of k ks (work_counter ks w)) → AreMade ks (Trigger w ∷ []) s t hs hs
made-operation ks w action ct s t hs e all does waits = record {
  state = λ k g. e ∙ ap₂ (λ d h. with_operation d h 1 s) (does k g) (waits k g);
  kept = λ k g. g;
  all = subst (λ (v : State). AreAllOf v hs) (sym e)
      (record { counters = all.counters; entries = all.entries; descriptors = all.descriptors; live = all.live });
  counters = same (length hs.counters);
  entries = same (length hs.entries);
  descriptors = same (length hs.descriptors);
  room = refl;
  ranks = ap (λ (v : State). v.ranks) e;
  limits = ap (λ (v : State). v.limits) e;
}

-- ---- the entry of a word
pub made-word : (ks : List ChoiceKind) (n : ℕ) (s t : State) (hs left : Handles) → NewEntry Priority (word_entry n) s t hs left
    → AreAllOf s hs → AreMade ks (MeAppend n ∷ []) s t hs left
made-word ks n s t hs left new all =
    subst (λ (x : Handles). AreMade ks (MeAppend n ∷ []) s t hs x) (sym new.left)
    (subst (λ (x : State). AreMade ks (MeAppend n ∷ []) s x hs (with_entry_handle new.made hs)) (sym new.state) there)
  where
    there : AreMade ks (MeAppend n ∷ []) s (with_entry new.made.slot Priority (word_entry n) s) hs (with_entry_handle new.made hs)
    there = record {
      state = λ k g. ap (λ slot. with_entry slot Priority (word_entry n) s)
          (sym (tells-last k.me hs.entries new.made g.entries) ∙ ap k.me (sym all.entries));
      kept = λ k g. record { counters = g.counters; entries = tells-front k.me hs.entries new.made g.entries; descriptors = g.descriptors };
      all = record {
        counters = (linked-counters new.made.slot 0 Priority (word_entry n) (parts_of s) refl).given ∙ all.counters;
        entries =
            linked-given new.made.slot 0 Priority (word_entry n) (parts_of s) refl ∙ ap (λ m. m + 1) all.entries
            ∙ sym (length-push hs.entries new.made);
        descriptors = all.descriptors;
        live = (linked-counters new.made.slot 0 Priority (word_entry n) (parts_of s) refl).handles ∙ all.live;
      };
      counters = same (length hs.counters);
      entries = length-push hs.entries new.made;
      descriptors = same (length hs.descriptors);
      room = refl;
      ranks = refl;
      limits = refl;
    }
