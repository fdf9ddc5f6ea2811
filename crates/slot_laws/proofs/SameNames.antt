-- The words of two runs that differ in the slots of handles stay the same as things come and go.
use Rattle.std.proofs.Common.{◌≡◌, ℕ, Bool, true, false, ◌==◌, ◌&&◌, List, Option, Some}
use Rattle.std.proofs.Common.{None, option_map, cond, refl, ap, sym, ◌∙◌, is_some}
use mathlib.Core.Logic.{◌⊎◌, inl, inr}
use Rattle.std.proofs.lemmas.Bool.{eq-eqb, eqb-true, true≢false}
use Rattle.std.specs.List.Sorted.{IsStrictlySortedBy}
use Rattle.ptl_types.specs.declared.handles.Handle.{Handle}
use Rattle.ptl_types.specs.Handles.{same_handle}
use Rattle.log_answers.specs.declared.names.names.Named.{Named}
use Rattle.log_answers.specs.declared.names.names.Names.{Names}
use Rattle.log_answers.specs.names.Keys.{at_word, number_lookup}
use Rattle.log_answers.specs.names.Names.{bound, cleared, names_it, no_names, thing_of, word_if, word_of}
use Rattle.slot_laws.specs.Renaming.{KeepsApart}
use Rattle.slot_laws.specs.Naming.{IsRising, NamesAgree, NamesRenamed, NoneAt, OnlyAtItsSlot, WordsKnown}
use Rattle.slot_laws.proofs.Naming.{bound_rising, bound_worded, cleared_rising, cleared_worded, is_given, is_gone, names_it-bound-new}
use Rattle.slot_laws.proofs.Naming.{names_it-bound-other, names_it-cleared-other, thing_of-bound}
use Rattle.slot_laws.proofs.Naming.{thing_of-cleared, word_of-bound, word_of-bound-new, word_of-bound-other, word_of-cleared}
use Rattle.slot_laws.proofs.Naming.{word_of-cleared-other}
use Rattle.ni_objects.proofs.users.SumLemmas.{same-is, same-self}

-- ---- nothing is named at first

none_rising : IsRising no_names
unfolding IsStrictlySortedBy
none_rising = record { things = tt; words = tt }

pub none_renamed : (f : Handle → Handle) → NamesRenamed f no_names no_names
none_renamed f = record { rising = none_rising; rising' = none_rising; things = λ w. refl; words = λ h. refl }

pub none_agree : (Known : Handle → Type 0) (f : Handle → Handle) → NamesAgree Known f no_names no_names
none_agree Known f = record {
  rising = none_rising;
  rising' = none_rising;
  worded = λ w h e. cc;
  worded' = λ w h e. cc;
  things = λ w h k. refl;
  words = λ h k. refl;
}

pub none_known : (Known : Handle → Type 0) → WordsKnown Known no_names
none_known Known h e = absurd (true≢false (sym e))

-- fewer are known
pub agree_fewer : (Known Fewer : Handle → Type 0) (f : Handle → Handle) (n n' : Names) → ((h : Handle) → Fewer h → Known h) →
    NamesAgree Known f n n' → NamesAgree Fewer f n n'
agree_fewer Known Fewer f n n' fewer a = record {
  rising = a.rising;
  rising' = a.rising';
  worded = a.worded;
  worded' = a.worded';
  things = λ w h k. a.things w h (fewer h k);
  words = λ h k. a.words h (fewer h k);
}

pub named_it : (h : Handle) (o : Option Handle) → names_it h o ≡ true → o ≡ Some h
named_it h None e = cc
named_it h (Some x) e = ap Some (same-is x h e)

-- ---- what stands at the slot of a thing

-- a stamp and a word of a slot are the word of a thing
word_of-slot : (slot : ℕ) (x : Named) (n : Names) → number_lookup slot n.words ≡ Some x →
    word_of (record { slot = slot; stamp = x.stamp }) n ≡ Some x.word
word_of-slot slot x n e =
    ap (word_if x.stamp) e ∙ ap (λ b. cond b (Some x.word) None) (eq-eqb x.stamp x.stamp refl)

no_word_at : (slot : ℕ) (n : Names) → NoneAt slot n → number_lookup slot n.words ≡ None
no_word_at slot n none = by_word (number_lookup slot n.words) refl
  where
    by_word : (o : Option Named) → number_lookup slot n.words ≡ o → o ≡ None
    by_word None e = refl
    by_word (Some x) e =
        let has : word_of (record { slot = slot; stamp = x.stamp }) n ≡ Some x.word = word_of-slot slot x n e in
        let has_none : word_of (record { slot = slot; stamp = x.stamp }) n ≡ None = none (record { slot = slot; stamp = x.stamp }) refl in
        cc

pub none_at-known : (Known : Handle → Type 0) (slot : ℕ) (n : Names) → WordsKnown Known n → ((k : Handle) → Known k → k.slot ≡ slot → ⊥) →
    NoneAt slot n
none_at-known Known slot n known apart k there = by_word (word_of k n) refl
  where
    by_word : (o : Option (List ℕ)) → word_of k n ≡ o → o ≡ None
    by_word None e = refl
    by_word (Some w) e = absurd (apart k (known k (ap is_some e)) there)

pub only_at-known : (Known : Handle → Type 0) (h : Handle) (n : Names) → WordsKnown Known n →
    ((k : Handle) → Known k → k.slot ≡ h.slot → k ≡ h) → OnlyAtItsSlot h n
only_at-known Known h n known alone k there has = alone k (known k has) there

pub none_at-only : (h : Handle) (n : Names) → OnlyAtItsSlot h n → word_of h n ≡ None → NoneAt h.slot n
none_at-only h n alone none k there = by_word (word_of k n) refl
  where
    by_word : (o : Option (List ℕ)) → word_of k n ≡ o → o ≡ None
    by_word None e = refl
    by_word (Some w) e = sym e ∙ ap (λ x. word_of x n) (alone k there (ap is_some e)) ∙ none

-- ---- a new thing, at a slot whose things have no words

word_of-bound-free : (k h : Handle) (word : Option (List ℕ)) (n : Names) → IsRising n → NoneAt h.slot n →
    word_of k (bound h word n) ≡ cond (same_handle h k) word (word_of k n)
word_of-bound-free k h word n rising none =
    word_of-bound k h word n rising ∙ ap (cond (same_handle h k) word) (by_slot (h.slot == k.slot) refl)
  where
    by_slot : (b : Bool) → (h.slot == k.slot) ≡ b → cond b None (word_of k n) ≡ word_of k n
    by_slot true e = sym (none k (sym (eqb-true h.slot k.slot e)))
    by_slot false e = refl

thing_of-cleared-free : (w : List ℕ) (slot : ℕ) (n : Names) → IsRising n → NoneAt slot n → thing_of w (cleared slot n) ≡ thing_of w n
unfolding is_gone
thing_of-cleared-free w slot n rising none =
    thing_of-cleared w slot n rising
    ∙ ap (λ o. cond (is_gone slot o w n.things) None (thing_of w n)) (no_word_at slot n none)

pub bound_renamed : (f : Handle → Handle) (n n' : Names) (h : Handle) (word : Option (List ℕ)) → KeepsApart f → NamesRenamed f n n' →
    NoneAt h.slot n → NoneAt (f h).slot n' → NamesRenamed f (bound h word n) (bound (f h) word n')
bound_renamed f n n' h word k a none none' = record {
  rising = bound_rising h word n a.rising;
  rising' = bound_rising (f h) word n' a.rising';
  things = λ w.
      thing_of-bound w (f h) word n'
      ∙ ap (cond (is_given w word) (Some (f h))) (thing_of-cleared-free w (f h).slot n' a.rising' none' ∙ a.things w)
      ∙ by_given w (is_given w word)
      ∙ ap (λ o. option_map f (cond (is_given w word) (Some h) o)) (sym (thing_of-cleared-free w h.slot n a.rising none))
      ∙ ap (option_map f) (sym (thing_of-bound w h word n));
  words = λ x.
      word_of-bound-free (f x) (f h) word n' a.rising' none'
      ∙ ap (λ b. cond b word (word_of (f x) n')) (k.same h x)
      ∙ ap (cond (same_handle h x) word) (a.words x)
      ∙ sym (word_of-bound-free x h word n a.rising none);
}
  where
    by_given : (w : List ℕ) (b : Bool) → cond b (Some (f h)) (option_map f (thing_of w n)) ≡ option_map f (cond b (Some h) (thing_of w n))
    by_given w true = refl
    by_given w false = refl

-- ---- a thing is gone, which alone of its slot has a word

word_of-cleared-alone : (k h : Handle) (n : Names) → IsRising n → OnlyAtItsSlot h n →
    word_of k (cleared h.slot n) ≡ cond (same_handle h k) None (word_of k n)
word_of-cleared-alone k h n rising alone =
    word_of-cleared k h.slot n rising ∙ by_slot (h.slot == k.slot) refl (same_handle h k) refl (word_of k n) refl
  where
    by_slot : (b : Bool) → (h.slot == k.slot) ≡ b → (a : Bool) → same_handle h k ≡ a → (o : Option (List ℕ)) → word_of k n ≡ o →
        cond b None o ≡ cond a None o
    by_slot b e true same o has =
        ap (λ c. cond c None o) (sym e ∙ eq-eqb h.slot k.slot (ap (λ (x : Handle). x.slot) (same-is h k same)))
    by_slot false e false same o has = refl
    by_slot true e false same None has = refl
    by_slot true e false same (Some w) has =
        let itself : k ≡ h = alone k (sym (eqb-true h.slot k.slot e)) (ap is_some has) in
        absurd (true≢false (sym (same-self h) ∙ ap (same_handle h) (sym itself) ∙ same))

-- whether a word names nothing once the thing is gone, by the word of that
gone_by : Option (List ℕ) → Handle → List ℕ → Names → Bool
gone_by None h w n = false
gone_by (Some v) h w n = names_it h (thing_of v n) && at_word v w

is_gone-alone : (h : Handle) (w : List ℕ) (n : Names) → OnlyAtItsSlot h n →
    is_gone h.slot (number_lookup h.slot n.words) w n.things ≡ gone_by (word_of h n) h w n
unfolding is_gone gone_by
is_gone-alone h w n alone = by_word (number_lookup h.slot n.words) refl
  where
    by_word : (o : Option Named) → number_lookup h.slot n.words ≡ o → is_gone h.slot o w n.things ≡ gone_by (word_if h.stamp o) h w n
    by_word None e = refl
    by_word (Some x) e =
        let itself : Path Handle (record { slot = h.slot; stamp = x.stamp }) h =
        alone (record { slot = h.slot; stamp = x.stamp }) refl (ap is_some (word_of-slot h.slot x n e)) in
        let stamp : x.stamp ≡ h.stamp = ap (λ (k : Handle). k.stamp) itself in
        ap (λ k. names_it k (thing_of x.word n) && at_word x.word w) itself
        ∙ ap (λ b. gone_by (cond b (Some x.word) None) h w n) (sym (eq-eqb x.stamp h.stamp stamp))

names_it_renamed : (f : Handle → Handle) → KeepsApart f → (h : Handle) (o : Option Handle) → names_it (f h) (option_map f o) ≡ names_it h o
names_it_renamed f k h None = refl
names_it_renamed f k h (Some x) = k.same x h

gone_by_renamed : (f : Handle → Handle) (n n' : Names) (h : Handle) (w : List ℕ) (word : Option (List ℕ)) → KeepsApart f →
    NamesRenamed f n n' → gone_by word (f h) w n' ≡ gone_by word h w n
unfolding gone_by
gone_by_renamed f n n' h w None k a = refl
gone_by_renamed f n n' h w (Some v) k a =
    ap (λ b. b && at_word v w) (ap (names_it (f h)) (a.things v) ∙ names_it_renamed f k h (thing_of v n))

pub cleared_renamed : (f : Handle → Handle) (n n' : Names) (h : Handle) → KeepsApart f → NamesRenamed f n n' →
    OnlyAtItsSlot h n → OnlyAtItsSlot (f h) n' → NamesRenamed f (cleared h.slot n) (cleared (f h).slot n')
cleared_renamed f n n' h k a alone alone' = record {
  rising = cleared_rising h.slot n a.rising;
  rising' = cleared_rising (f h).slot n' a.rising';
  things = λ w.
      thing_of-cleared w (f h).slot n' a.rising'
      ∙ ap (λ b. cond b None (thing_of w n')) (same_gone w)
      ∙ ap (cond (is_gone h.slot (number_lookup h.slot n.words) w n.things) None) (a.things w)
      ∙ by_gone w (is_gone h.slot (number_lookup h.slot n.words) w n.things)
      ∙ ap (option_map f) (sym (thing_of-cleared w h.slot n a.rising));
  words = λ x.
      word_of-cleared-alone (f x) (f h) n' a.rising' alone'
      ∙ ap (λ b. cond b None (word_of (f x) n')) (k.same h x)
      ∙ ap (cond (same_handle h x) None) (a.words x)
      ∙ sym (word_of-cleared-alone x h n a.rising alone);
}
  where
    same_gone : (w : List ℕ) → is_gone (f h).slot (number_lookup (f h).slot n'.words) w n'.things
        ≡ is_gone h.slot (number_lookup h.slot n.words) w n.things
    same_gone w =
        is_gone-alone (f h) w n' alone' ∙ ap (λ o. gone_by o (f h) w n') (a.words h)
        ∙ gone_by_renamed f n n' h w (word_of h n) k a ∙ sym (is_gone-alone h w n alone)

    by_gone : (w : List ℕ) (b : Bool) → cond b None (option_map f (thing_of w n)) ≡ option_map f (cond b None (thing_of w n))
    by_gone w true = refl
    by_gone w false = refl

-- ---- the same of the things that are known

pub bound_agrees : (Known : Handle → Type 0) (f : Handle → Handle) (n n' : Names) (h : Handle) (word : Option (List ℕ)) →
    NamesAgree Known f n n' → ((k : Handle) → Known k → k.slot ≡ h.slot → ⊥) → ((k : Handle) → Known k → (f k).slot ≡ (f h).slot → ⊥) →
    NamesAgree (λ k. Known k ⊎ (k ≡ h)) f (bound h word n) (bound (f h) word n')
bound_agrees Known f n n' h word a apart apart' = record {
  rising = bound_rising h word n a.rising;
  rising' = bound_rising (f h) word n' a.rising';
  worded = bound_worded h word n a.rising a.worded;
  worded' = bound_worded (f h) word n' a.rising' a.worded';
  things = λ w k known. named w k known;
  words = λ k known. has k known;
}
  where
    named : (w : List ℕ) (k : Handle) → Known k ⊎ (k ≡ h) →
        names_it (f k) (thing_of w (bound (f h) word n')) ≡ names_it k (thing_of w (bound h word n))
    named w k (inl known) =
        names_it-bound-other w (f k) (f h) word n' a.rising' (apart' k known)
        ∙ ap (cond (is_given w word) false) (a.things w k known)
        ∙ sym (names_it-bound-other w k h word n a.rising (apart k known))
    named w k (inr new) =
        ap (λ x. names_it (f x) (thing_of w (bound (f h) word n'))) new
        ∙ names_it-bound-new w (f h) word n' a.rising' a.worded'
        ∙ sym (names_it-bound-new w h word n a.rising a.worded)
        ∙ ap (λ x. names_it x (thing_of w (bound h word n))) (sym new)

    has : (k : Handle) → Known k ⊎ (k ≡ h) → word_of (f k) (bound (f h) word n') ≡ word_of k (bound h word n)
    has k (inl known) =
        word_of-bound-other (f k) (f h) word n' a.rising' (apart' k known)
        ∙ a.words k known
        ∙ sym (word_of-bound-other k h word n a.rising (apart k known))
    has k (inr new) =
        ap (λ x. word_of (f x) (bound (f h) word n')) new
        ∙ word_of-bound-new (f h) word n' a.rising'
        ∙ sym (word_of-bound-new h word n a.rising)
        ∙ ap (λ x. word_of x (bound h word n)) (sym new)

pub cleared_agrees : (Known : Handle → Type 0) (f : Handle → Handle) (n n' : Names) (h : Handle) →
    NamesAgree Known f n n' → ((k : Handle) → Known k → (k ≡ h → ⊥) → k.slot ≡ h.slot → ⊥) →
    ((k : Handle) → Known k → (k ≡ h → ⊥) → (f k).slot ≡ (f h).slot → ⊥) →
    NamesAgree (λ k. Known k × (k ≡ h → ⊥)) f (cleared h.slot n) (cleared (f h).slot n')
cleared_agrees Known f n n' h a apart apart' = record {
  rising = cleared_rising h.slot n a.rising;
  rising' = cleared_rising (f h).slot n' a.rising';
  worded = cleared_worded h.slot n a.rising a.worded;
  worded' = cleared_worded (f h).slot n' a.rising' a.worded';
  things = λ w k known.
      names_it-cleared-other w (f k) (f h).slot n' a.rising' (apart' k known.0 known.1)
      ∙ a.things w k known.0
      ∙ sym (names_it-cleared-other w k h.slot n a.rising (apart k known.0 known.1));
  words = λ k known.
      word_of-cleared-other (f k) (f h).slot n' a.rising' (apart' k known.0 known.1)
      ∙ a.words k known.0
      ∙ sym (word_of-cleared-other k h.slot n a.rising (apart k known.0 known.1));
}

-- what a word names in the one run it names in the other, where that is known
pub named_agrees : (Known : Handle → Type 0) (f : Handle → Handle) (n n' : Names) (w : List ℕ) (k : Handle) → NamesAgree Known f n n' →
    Known k → thing_of w n ≡ Some k → thing_of w n' ≡ Some (f k)
named_agrees Known f n n' w k a known e =
    named_it (f k) (thing_of w n') (a.things w k known ∙ ap (names_it k) e ∙ same-self k)

pub named_agrees_back : (Known : Handle → Type 0) (f : Handle → Handle) (n n' : Names) (w : List ℕ) (k : Handle) → NamesAgree Known f n n' →
    Known k → thing_of w n' ≡ Some (f k) → thing_of w n ≡ Some k
named_agrees_back Known f n n' w k a known e =
    named_it k (thing_of w n) (sym (a.things w k known) ∙ ap (names_it (f k)) e ∙ same-self (f k))

-- whether a word names anything
pub is_named_renamed : (f : Handle → Handle) (n n' : Names) (w : List ℕ) → NamesRenamed f n n' →
    is_some (thing_of w n') ≡ is_some (thing_of w n)
is_named_renamed f n n' w a = ap is_some (a.things w) ∙ by_thing (thing_of w n)
  where
    by_thing : (o : Option Handle) → is_some (option_map f o) ≡ is_some o
    by_thing None = refl
    by_thing (Some x) = refl
