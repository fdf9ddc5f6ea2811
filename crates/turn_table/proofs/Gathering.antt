-- What the hands know together.
use Rattle.std.proofs.Common.{◌≡◌, ℕ, zero, suc, List, [], ◌∷◌, ◌++◌, length, sym, refl, ap, ◌∙◌, arith, length-append}
use mathlib.Core.Option.{some, some-injective, some-ne-none}
use lib.ListN.{get_elem?}
use Rattle.std.proofs.lemmas.List.Elements.{All-push, All-same, All-nil}
use Rattle.std.proofs.lemmas.List.Sums.{sum_by-append}
use Rattle.turn_table.specs.declared.views.SlotView.{SlotView}
use Rattle.turn_table.specs.declared.views.HandView.{HandView}
use Rattle.turn_table.specs.States.{HandState}
use Rattle.std.specs.Prelude.{sum_by}
use Rattle.turn_table.specs.Views.{times, places, joined_slots, after_join}
use Rattle.turn_table.specs.Rules.{Follows, Ends}
use Rattle.turn_table.specs.Hands.{Gathered, Left}
use Rattle.turn_table.proofs.Sums.{times_append}
use Rattle.turn_table.proofs.Whole.{merged_places}

longer_at : {A : Type 0} (xs ys : List A) (i : ℕ) (b : A) → get_elem? xs i ≡ some b → get_elem? (xs ++ ys) i ≡ some b
longer_at [] ys i b e = absurd (some-ne-none b (sym e))
longer_at (x ∷ xs) ys zero b e = e
longer_at (x ∷ xs) ys (suc i) b e = longer_at xs ys i b e

behind_at : {A : Type 0} (xs ys : List A) (i : ℕ) (b : A) → get_elem? ys i ≡ some b → (j : ℕ) × (get_elem? (xs ++ ys) j ≡ some b)
behind_at [] ys i b e = (i, e)
behind_at (x ∷ xs) ys i b e = let t = behind_at xs ys i b e in (suc t.0, t.1)

module _ {T N I : Type 0} (past : T → List I) (name : T → N) where
  left_follows : (xs ys : List (SlotView T)) (k : ℕ) (x : T) → length xs ≡ length ys → Follows past name (joined_slots xs ys) k x →
      Follows past name xs k x
  left_follows [] ys k x e h = λ p i b q z. absurd (some-ne-none p (sym q))
  left_follows (a ∷ xs) [] k x e h = absurd (omega arith)
  left_follows (a ∷ xs) (c ∷ ys) zero x e h = λ p i b q z. h _ i b refl
      (longer_at a.seen c.seen i b (ap (λ (y : SlotView T). get_elem? y.seen i) (some-injective a p q) ∙ z))
  left_follows (a ∷ xs) (c ∷ ys) (suc k) x e h = left_follows xs ys k x (omega arith) h

  right_follows : (xs ys : List (SlotView T)) (k : ℕ) (x : T) → length xs ≡ length ys → Follows past name (joined_slots xs ys) k x →
      Follows past name ys k x
  right_follows [] [] k x e h = h
  right_follows [] (c ∷ ys) k x e h = absurd (omega arith)
  right_follows (a ∷ xs) [] k x e h = absurd (omega arith)
  right_follows (a ∷ xs) (c ∷ ys) zero x e h = λ p i b q z. let t =
      behind_at a.seen c.seen i b
      (ap (λ (y : SlotView T). get_elem? y.seen i) (some-injective c p q) ∙ z)
      in h _ t.0 b refl t.1
  right_follows (a ∷ xs) (c ∷ ys) (suc k) x e h = right_follows xs ys k x (omega arith) h

  pub gathers_first : (hs rest : List (HandState T)) (h : HandState T) → hs ≡ rest ++ h ∷ [] → Gathered past name hs h.knows rest
  gathers_first hs rest h is = record {
    parts = (let a = sum_by-append (λ (g : HandState T). g.knows.parts) rest (h ∷ []) in let b =
        ap (λ (l : List (HandState T)). sum_by
        (λ g. g.knows.parts) l) is in omega arith);
    placed = λ k p. (let a = sum_by-append (λ (g : HandState T). times p (places g.knows k)) rest (h ∷ []) in let b =
        ap (λ (l : List (HandState T)). sum_by (λ g. times p (places g.knows k)) l) is in omega arith);
    long = λ k. (let a = sum_by-append (λ (g : HandState T). length (places g.knows k)) rest (h ∷ []) in let b =
        ap (λ (l : List (HandState
        T)). sum_by (λ g. length
        (places g.knows k)) l) is
        in omega arith);
    begun = λ k x mine others. All-same (λ (g : HandState T). Follows past name g.knows.slots k x) hs (rest ++ h ∷ []) is
        (All-push (λ (g : HandState T). Follows past name g.knows.slots k x) rest h others mine);
  }

  pub gathers_more : (hs rest rest' : List (HandState T)) (v : HandView T) (h : HandState T) → Gathered past name hs v rest →
      rest ≡ rest' ++ h ∷ [] → length v.slots ≡ length h.knows.slots → Gathered past name hs (after_join v h.knows) rest'
  gathers_more hs rest rest' v h old is sized = record {
    parts = (let a = sum_by-append (λ (g : HandState T). g.knows.parts) rest' (h ∷ []) in let b =
        ap (λ (l : List (HandState T)). sum_by
        (λ g. g.knows.parts) l) is in let c =
        old.parts in omega arith);
    placed = λ k p. (let a = sum_by-append (λ (g : HandState T). times p (places g.knows k)) rest' (h ∷ []) in let b =
        ap (λ (l : List (HandState T)). sum_by (λ g. times p (places g.knows k)) l) is in let c = old.placed k p in
        let d = ap (λ (l : List ℕ). times p l) (merged_places v.slots h.knows.slots k sized) in let e =
        times_append p (places v k)
        (places h.knows k) in omega arith);
    long = λ k. (let a = sum_by-append (λ (g : HandState T). length (places g.knows k)) rest' (h ∷ []) in let b =
        ap (λ (l : List (HandState
        T)). sum_by (λ g. length
        (places g.knows k)) l) is
        in let c = old.long k in
        let d = ap (λ (l : List ℕ). length l) (merged_places v.slots h.knows.slots k sized) in let e =
        length-append (places v k)
        (places h.knows k) in omega arith);
    begun = λ k x mine others. old.begun k x (left_follows v.slots h.knows.slots k x sized mine)
        (All-same (λ (g : HandState T). Follows past name g.knows.slots k x) rest (rest' ++ h ∷ []) is
        (All-push (λ (g : HandState T). Follows past name g.knows.slots k x) rest' h others
        (right_follows v.slots h.knows.slots k x sized mine)));
  }

  -- at the end one view has what all hands had
  pub leaves : (start : List T) (hs : List (HandState T)) (v : HandView T) (k : ℕ) (x : T) → Gathered past name hs v [] →
      Ends past name start v k x → Left past name start hs k x
  leaves start hs v k x all end = record {
    named = end.named;
    begun = all.begun k x end.begun (All-nil (λ (g : HandState T). Follows past name g.knows.slots k x));
    placed = λ p. (let a = all.placed k p in let b = end.placed p in omega arith);
    long = (let a = all.long k in let b = end.long in omega arith);
  }
