-- What words name once a thing is new, or gone, in two runs that differ in the slots of handles.
use Rattle.std.proofs.Common.{◌≡◌, ℕ, Bool, true, false, ◌==◌, ◌&&◌, List, Option, Some, None, cond, refl, ap, sym, ◌∙◌, is_some}
use mathlib.Core.Logic.{◌⊎◌, inl, inr}
use Rattle.std.specs.Map.{keys_of}
use Rattle.std.specs.List.Sorted.{IsStrictlySortedBy}
use Rattle.std.specs.Ordering.{nat_cmp}
use Rattle.std.specs.Cmp.Lexicographic.{slice_cmp}
use Rattle.std.proofs.lemmas.Bool.{and_from, and_parts, eq-eqb, eqb-true, false_from_ne_true, ne_eqb, true≢false}
use Rattle.std.proofs.lemmas.Cmp.{nat_cmp_total, nat_eq_equiv, nat_list_cmp_total}
use Rattle.ptl_types.specs.declared.handles.Handle.{Handle}
use Rattle.ptl_types.specs.Handles.{same_handle}
use Rattle.log_answers.specs.declared.names.names.Named.{Named}
use Rattle.log_answers.specs.declared.names.names.Names.{Names}
use Rattle.log_answers.specs.names.Keys.{Words, at_number, at_word, number_lookup, without_word, word_lookup}
use Rattle.log_answers.specs.names.Names.{bound, cleared, names_it, thing_of, things_without, word_if, word_of}
use Rattle.slot_laws.specs.Naming.{HaveTheirWords, IsRising, WordsKnown}
use Rattle.slot_laws.proofs.Maps.{at_word-same, at_word-true, number_gone, number_put}
use Rattle.slot_laws.proofs.Maps.{rising-insert_entry, rising-remove_entry, word_gone, word_put}
use Rattle.ni_objects.proofs.users.SumLemmas.{same-is, same-self}

-- ---- handles

-- of two slots
pub same_handle-apart : (a b : Handle) → (b.slot ≡ a.slot → ⊥) → same_handle a b ≡ false
same_handle-apart a b apart = false_from_ne_true (same_handle a b) (λ e. apart (ap (λ (h : Handle). h.slot) (sym (same-is a b e))))

-- ---- the maps stay in order

things_without-rising : (slot : ℕ) (x : Option Named) (n : Names) → IsRising n →
    IsStrictlySortedBy (slice_cmp nat_cmp) (keys_of (things_without slot x n.things))
things_without-rising slot None n rising = rising.things
things_without-rising slot (Some x) n rising = by_test (names_it (record { slot = slot; stamp = x.stamp }) (word_lookup x.word n.things))
  where
    by_test : (b : Bool) → IsStrictlySortedBy (slice_cmp nat_cmp) (keys_of (cond b (without_word x.word n.things) n.things))
    by_test true = rising-remove_entry (slice_cmp nat_cmp) (at_word x.word) n.things rising.things
    by_test false = rising.things

pub cleared_rising : (slot : ℕ) (n : Names) → IsRising n → IsRising (cleared slot n)
unfolding cleared
cleared_rising slot n rising = record {
  things = things_without-rising slot (number_lookup slot n.words) n rising;
  words = rising-remove_entry nat_cmp (at_number slot) n.words rising.words;
}

pub bound_rising : (h : Handle) (word : Option (List ℕ)) (n : Names) → IsRising n → IsRising (bound h word n)
unfolding bound
bound_rising h None n rising = cleared_rising h.slot n rising
bound_rising h (Some w) n rising =
    let below : IsRising (cleared h.slot n) = cleared_rising h.slot n rising in
    record {
      things = rising-insert_entry nat_list_cmp_total w h (cleared h.slot n).things below.things;
      words = rising-insert_entry nat_cmp_total h.slot (record { stamp = h.stamp; word = w }) (cleared h.slot n).words below.words;
    }

-- ---- the word of a thing, after one step

word_if-none : (stamp : ℕ) (b : Bool) (x : Option Named) → word_if stamp (cond b None x) ≡ cond b None (word_if stamp x)
word_if-none stamp true x = refl
word_if-none stamp false x = refl

pub word_of-cleared : (k : Handle) (slot : ℕ) (n : Names) → IsRising n →
    word_of k (cleared slot n) ≡ cond (slot == k.slot) None (word_of k n)
unfolding cleared
word_of-cleared k slot n rising =
    ap (word_if k.stamp) (number_gone k.slot slot n.words rising.words)
    ∙ word_if-none k.stamp (slot == k.slot) (number_lookup k.slot n.words)

pub word_of-cleared-here : (k : Handle) (slot : ℕ) (n : Names) → IsRising n → k.slot ≡ slot → word_of k (cleared slot n) ≡ None
word_of-cleared-here k slot n rising e =
    word_of-cleared k slot n rising ∙ ap (λ b. cond b None (word_of k n)) (eq-eqb slot k.slot (sym e))

pub word_of-cleared-other : (k : Handle) (slot : ℕ) (n : Names) → IsRising n → (k.slot ≡ slot → ⊥) →
    word_of k (cleared slot n) ≡ word_of k n
word_of-cleared-other k slot n rising apart =
    word_of-cleared k slot n rising ∙ ap (λ b. cond b None (word_of k n)) (ne_eqb slot k.slot (λ e. apart (sym e)))

-- of the thing itself the word that it was given; of an older one of its slot none
pub word_of-bound : (k h : Handle) (word : Option (List ℕ)) (n : Names) → IsRising n →
    word_of k (bound h word n) ≡ cond (same_handle h k) word (cond (h.slot == k.slot) None (word_of k n))
unfolding bound
word_of-bound k h None n rising = word_of-cleared k h.slot n rising ∙ by_test (same_handle h k) refl
  where
    by_test : (b : Bool) → same_handle h k ≡ b →
        cond (h.slot == k.slot) None (word_of k n) ≡ cond b None (cond (h.slot == k.slot) None (word_of k n))
    by_test true e =
        ap (λ b. cond b None (word_of k n)) (eq-eqb h.slot k.slot (ap (λ (x : Handle). x.slot) (same-is h k e)))
    by_test false e = refl
word_of-bound k h (Some w) n rising =
    ap (word_if k.stamp) (number_put k.slot h.slot (record { stamp = h.stamp; word = w }) (cleared h.slot n).words)
    ∙ ap (λ b. word_if k.stamp (cond b (Some (record { stamp = h.stamp; word = w })) (number_lookup k.slot (cleared h.slot n).words)))
    (nat_eq_equiv.symm k.slot h.slot)
    ∙ by_slot (h.slot == k.slot) (word_of-cleared k h.slot n rising)
  where
    here : (a : Bool) → cond a (Some w) None ≡ cond (a && true) (Some w) None
    here true = refl
    here false = refl

    there : (a : Bool) → word_of k n ≡ cond (a && false) (Some w) (word_of k n)
    there true = refl
    there false = refl

    by_slot : (b : Bool) → word_of k (cleared h.slot n) ≡ cond b None (word_of k n) →
        word_if k.stamp (cond b (Some (record { stamp = h.stamp; word = w })) (number_lookup k.slot (cleared h.slot n).words))
        ≡ cond ((h.stamp == k.stamp) && b) (Some w) (cond b None (word_of k n))
    by_slot true e = here (h.stamp == k.stamp)
    by_slot false e = e ∙ there (h.stamp == k.stamp)

pub word_of-bound-new : (h : Handle) (word : Option (List ℕ)) (n : Names) → IsRising n → word_of h (bound h word n) ≡ word
word_of-bound-new h word n rising =
    word_of-bound h h word n rising
    ∙ ap (λ b. cond b word (cond (h.slot == h.slot) None (word_of h n))) (same-self h)

pub word_of-bound-here : (k h : Handle) (word : Option (List ℕ)) (n : Names) → IsRising n → k.slot ≡ h.slot → (k.stamp ≡ h.stamp → ⊥) →
    word_of k (bound h word n) ≡ None
word_of-bound-here k h word n rising e apart =
    word_of-bound k h word n rising
    ∙ ap (λ b. cond b word (cond (h.slot == k.slot) None (word_of k n)))
    (false_from_ne_true (same_handle h k) (λ same. apart (ap (λ (x : Handle). x.stamp) (sym (same-is h k same)))))
    ∙ ap (λ b. cond b None (word_of k n)) (eq-eqb h.slot k.slot (sym e))

pub word_of-bound-other : (k h : Handle) (word : Option (List ℕ)) (n : Names) → IsRising n → (k.slot ≡ h.slot → ⊥) →
    word_of k (bound h word n) ≡ word_of k n
word_of-bound-other k h word n rising apart =
    word_of-bound k h word n rising
    ∙ ap (λ b. cond b word (cond (h.slot == k.slot) None (word_of k n))) (same_handle-apart h k apart)
    ∙ ap (λ b. cond b None (word_of k n)) (ne_eqb h.slot k.slot (λ e. apart (sym e)))

-- ---- what a word names, after one step

-- whether a word names nothing once the thing of a slot is gone
unfoldable pub is_gone : ℕ → Option Named → List ℕ → Words Handle → Bool
is_gone slot None w things = false
is_gone slot (Some x) w things = names_it (record { slot = slot; stamp = x.stamp }) (word_lookup x.word things) && at_word x.word w

things_without-lookup : (w : List ℕ) (slot : ℕ) (x : Option Named) (things : Words Handle) →
    IsStrictlySortedBy (slice_cmp nat_cmp) (keys_of things) →
    word_lookup w (things_without slot x things) ≡ cond (is_gone slot x w things) None (word_lookup w things)
unfolding is_gone
things_without-lookup w slot None things rising = refl
things_without-lookup w slot (Some x) things rising =
    by_test (names_it (record { slot = slot; stamp = x.stamp }) (word_lookup x.word things)) (word_gone w x.word things rising)
  where
    by_test : (b : Bool) → word_lookup w (without_word x.word things) ≡ cond (at_word x.word w) None (word_lookup w things) →
        word_lookup w (cond b (without_word x.word things) things) ≡ cond (b && at_word x.word w) None (word_lookup w things)
    by_test true gone = gone
    by_test false gone = refl

pub thing_of-cleared : (w : List ℕ) (slot : ℕ) (n : Names) → IsRising n →
    thing_of w (cleared slot n) ≡ cond (is_gone slot (number_lookup slot n.words) w n.things) None (thing_of w n)
unfolding cleared
thing_of-cleared w slot n rising = things_without-lookup w slot (number_lookup slot n.words) n.things rising.things

-- what is gone was a thing of that slot
is_gone-slot : (k : Handle) (w : List ℕ) (slot : ℕ) (x : Option Named) (things : Words Handle) → (k.slot ≡ slot → ⊥) →
    is_gone slot x w things ≡ true → names_it k (word_lookup w things) ≡ false
unfolding is_gone
is_gone-slot k w slot None things apart gone = absurd (true≢false (sym gone))
is_gone-slot k w slot (Some x) things apart gone =
    let parts : (names_it (record { slot = slot; stamp = x.stamp }) (word_lookup x.word things) ≡ true) × (at_word x.word w ≡ true) =
    and_parts (names_it (record { slot = slot; stamp = x.stamp }) (word_lookup x.word things)) (at_word x.word w) gone in
    by_thing (word_lookup w things)
    (ap (λ v. names_it (record { slot = slot; stamp = x.stamp }) (word_lookup v things)) (sym (at_word-true x.word w parts.1)) ∙ parts.0)
  where
    by_thing : (o : Option Handle) → names_it (record { slot = slot; stamp = x.stamp }) o ≡ true → names_it k o ≡ false
    by_thing None e = refl
    by_thing (Some t) e =
        let there : t.slot ≡ slot = ap (λ (h : Handle). h.slot) (same-is t (record { slot = slot; stamp = x.stamp }) e) in
        same_handle-apart t k (λ same. apart (same ∙ there))

-- other things keep the words that name them
pub names_it-cleared-other : (w : List ℕ) (k : Handle) (slot : ℕ) (n : Names) → IsRising n → (k.slot ≡ slot → ⊥) →
    names_it k (thing_of w (cleared slot n)) ≡ names_it k (thing_of w n)
names_it-cleared-other w k slot n rising apart =
    ap (names_it k) (thing_of-cleared w slot n rising)
    ∙ by_test (is_gone slot (number_lookup slot n.words) w n.things) (is_gone-slot k w slot (number_lookup slot n.words) n.things apart)
  where
    by_test : (b : Bool) → (b ≡ true → names_it k (thing_of w n) ≡ false) →
        names_it k (cond b None (thing_of w n)) ≡ names_it k (thing_of w n)
    by_test true gone = sym (gone refl)
    by_test false gone = refl

-- whether a word is the one that was given
abbrev pub is_given : List ℕ → Option (List ℕ) → Bool
is_given w None = false
is_given w (Some v) = at_word w v

is_given-true : (w : List ℕ) (word : Option (List ℕ)) → is_given w word ≡ true → word ≡ Some w
is_given-true w None e = cc
is_given-true w (Some v) e = ap Some (sym (at_word-true w v e))

pub thing_of-bound : (w : List ℕ) (h : Handle) (word : Option (List ℕ)) (n : Names) →
    thing_of w (bound h word n) ≡ cond (is_given w word) (Some h) (thing_of w (cleared h.slot n))
unfolding bound
thing_of-bound w h None n = refl
thing_of-bound w h (Some v) n = word_put w v h (cleared h.slot n).things

pub names_it-bound-other : (w : List ℕ) (k h : Handle) (word : Option (List ℕ)) (n : Names) → IsRising n → (k.slot ≡ h.slot → ⊥) →
    names_it k (thing_of w (bound h word n)) ≡ cond (is_given w word) false (names_it k (thing_of w n))
names_it-bound-other w k h word n rising apart =
    ap (names_it k) (thing_of-bound w h word n) ∙ by_test (is_given w word) (names_it-cleared-other w k h.slot n rising apart)
  where
    by_test : (b : Bool) → names_it k (thing_of w (cleared h.slot n)) ≡ names_it k (thing_of w n) →
        names_it k (cond b (Some h) (thing_of w (cleared h.slot n))) ≡ cond b false (names_it k (thing_of w n))
    by_test true e = same_handle-apart h k apart
    by_test false e = e

pub thing_of-bound-new : (w : List ℕ) (h : Handle) (n : Names) → thing_of w (bound h (Some w) n) ≡ Some h
thing_of-bound-new w h n = thing_of-bound w h (Some w) n ∙ ap (λ b. cond b (Some h) (thing_of w (cleared h.slot n))) (at_word-same w)

pub thing_of-bound-other : (w v : List ℕ) (h : Handle) (n : Names) → (w ≡ v → ⊥) →
    thing_of w (bound h (Some v) n) ≡ thing_of w (cleared h.slot n)
thing_of-bound-other w v h n apart =
    thing_of-bound w h (Some v) n
    ∙ ap (λ b. cond b (Some h) (thing_of w (cleared h.slot n))) (false_from_ne_true (at_word w v) (λ e. apart (at_word-true w v e)))

-- ---- which things have words, after one step

pub cleared_known : (Known : Handle → Type 0) (slot : ℕ) (n : Names) → IsRising n → WordsKnown Known n →
    WordsKnown (λ k. Known k × (k.slot ≡ slot → ⊥)) (cleared slot n)
cleared_known Known slot n rising known k has =
    let apart : k.slot ≡ slot → ⊥ = λ e. true≢false (sym has ∙ ap is_some (word_of-cleared-here k slot n rising e)) in
    (known k (ap is_some (sym (word_of-cleared-other k slot n rising apart)) ∙ has), apart)

pub bound_known : (Known : Handle → Type 0) (h : Handle) (word : Option (List ℕ)) (n : Names) → IsRising n → WordsKnown Known n →
    WordsKnown (λ k. Known k ⊎ (k ≡ h)) (bound h word n)
bound_known Known h word n rising known k has =
    by_slot (same_handle h k) refl (h.slot == k.slot) (sym (ap is_some (word_of-bound k h word n rising)) ∙ has)
  where
    by_slot : (a : Bool) → same_handle h k ≡ a → (b : Bool) → is_some (cond (same_handle h k) word (cond b None (word_of k n))) ≡ true →
        Known k ⊎ (k ≡ h)
    by_slot true e b some = inr (sym (same-is h k e))
    by_slot false e true some = absurd (true≢false (sym some ∙ ap (λ a. is_some (cond a word None)) e))
    by_slot false e false some = inl (known k (ap (λ a. is_some (cond a word (word_of k n))) (sym e) ∙ some))

-- ---- a thing that a word names has that word

-- the word of a thing, where it names that, names nothing once the thing of its slot is gone
is_gone-itself : (k : Handle) (w : List ℕ) (x : Option Named) (things : Words Handle) → word_lookup w things ≡ Some k →
    word_if k.stamp x ≡ Some w → is_gone k.slot x w things ≡ true
unfolding is_gone
is_gone-itself k w None things is has = cc
is_gone-itself k w (Some x) things is has = by_stamp (x.stamp == k.stamp) refl has
  where
    by_stamp : (b : Bool) → (x.stamp == k.stamp) ≡ b → cond b (Some x.word) None ≡ Some w →
        (names_it (record { slot = k.slot; stamp = x.stamp }) (word_lookup x.word things) && at_word x.word w) ≡ true
    by_stamp true stamp word =
        let same : x.word ≡ w = cc in
        let itself : Path Handle k (record { slot = k.slot; stamp = x.stamp }) =
        ap (λ t. record { slot = k.slot; stamp = t }) (sym (eqb-true x.stamp k.stamp stamp)) in
        and_from (names_it (record { slot = k.slot; stamp = x.stamp }) (word_lookup x.word things)) (at_word x.word w)
        (ap (names_it (record { slot = k.slot; stamp = x.stamp })) (ap (λ v. word_lookup v things) same ∙ is)
        ∙ ap (same_handle k) (sym itself) ∙ same-self k)
        (ap (λ v. at_word v w) same ∙ at_word-same w)
    by_stamp false stamp word = cc

-- once the thing of a slot is gone, no word names a thing of that slot
pub thing_of-cleared-apart : (w : List ℕ) (k : Handle) (slot : ℕ) (n : Names) → IsRising n → HaveTheirWords n →
    thing_of w (cleared slot n) ≡ Some k → (thing_of w n ≡ Some k) × (k.slot ≡ slot → ⊥)
thing_of-cleared-apart w k slot n rising worded e =
    by_test (is_gone slot (number_lookup slot n.words) w n.things) refl (sym (thing_of-cleared w slot n rising) ∙ e)
  where
    by_test : (b : Bool) → is_gone slot (number_lookup slot n.words) w n.things ≡ b → cond b None (thing_of w n) ≡ Some k →
        (thing_of w n ≡ Some k) × (k.slot ≡ slot → ⊥)
    by_test true gone is = cc
    by_test false gone is = (
      is,
      λ there. true≢false
          (sym (is_gone-itself k w (number_lookup k.slot n.words) n.things is (worded w k is))
          ∙ ap (λ s. is_gone s (number_lookup s n.words) w n.things) there ∙ gone),
    )

pub cleared_worded : (slot : ℕ) (n : Names) → IsRising n → HaveTheirWords n → HaveTheirWords (cleared slot n)
cleared_worded slot n rising worded w k e =
    let parts : (thing_of w n ≡ Some k) × (k.slot ≡ slot → ⊥) = thing_of-cleared-apart w k slot n rising worded e in
    word_of-cleared-other k slot n rising parts.1 ∙ worded w k parts.0

pub bound_worded : (h : Handle) (word : Option (List ℕ)) (n : Names) → IsRising n → HaveTheirWords n → HaveTheirWords (bound h word n)
bound_worded h word n rising worded w k e = by_given (is_given w word) refl (sym (thing_of-bound w h word n) ∙ e)
  where
    kept : thing_of w (cleared h.slot n) ≡ Some k → word_of k (bound h word n) ≡ Some w
    kept is =
        let parts : (thing_of w n ≡ Some k) × (k.slot ≡ h.slot → ⊥) = thing_of-cleared-apart w k h.slot n rising worded is in
        word_of-bound-other k h word n rising parts.1 ∙ worded w k parts.0

    by_given : (b : Bool) → is_given w word ≡ b → cond b (Some h) (thing_of w (cleared h.slot n)) ≡ Some k →
        word_of k (bound h word n) ≡ Some w
    by_given true given is =
        let same : k ≡ h = cc in
        ap (λ x. word_of x (bound h word n)) same ∙ word_of-bound-new h word n rising ∙ is_given-true w word given
    by_given false given is = kept is

-- once the thing of a slot is gone, no word names it
pub names_it-cleared-here : (w : List ℕ) (k : Handle) (slot : ℕ) (n : Names) → IsRising n → HaveTheirWords n → k.slot ≡ slot →
    names_it k (thing_of w (cleared slot n)) ≡ false
names_it-cleared-here w k slot n rising worded there =
    by_thing (thing_of w (cleared slot n)) refl
  where
    by_thing : (o : Option Handle) → thing_of w (cleared slot n) ≡ o → names_it k o ≡ false
    by_thing None e = refl
    by_thing (Some t) e =
        let parts : (thing_of w n ≡ Some t) × (t.slot ≡ slot → ⊥) = thing_of-cleared-apart w t slot n rising worded e in
        same_handle-apart t k (λ same. parts.1 (sym same ∙ there))

-- a new thing is named by the word that was given for it, and by no other
pub names_it-bound-new : (w : List ℕ) (h : Handle) (word : Option (List ℕ)) (n : Names) → IsRising n → HaveTheirWords n →
    names_it h (thing_of w (bound h word n)) ≡ is_given w word
names_it-bound-new w h word n rising worded =
    ap (names_it h) (thing_of-bound w h word n) ∙ by_test (is_given w word) (names_it-cleared-here w h h.slot n rising worded refl)
  where
    by_test : (b : Bool) → names_it h (thing_of w (cleared h.slot n)) ≡ false →
        names_it h (cond b (Some h) (thing_of w (cleared h.slot n))) ≡ b
    by_test true e = same-self h
    by_test false e = e
