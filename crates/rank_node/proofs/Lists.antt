-- Lists of handles that grow by one.
use Rattle.std.proofs.Common.{◌≡◌, ◌<◌, ℕ, ◌+◌, List, [], ◌∷◌, ◌++◌, length, refl, ap, ap₂, ◌⊎◌, ◌∙◌, sym, inl, inr, arith, get_or}
use Rattle.std.proofs.Common.{length-append, nat_lt, true, false}
use Rattle.std.proofs.lemmas.Bool.Decides.{nat_tests}
use Rattle.std.proofs.Math.ListN.{get_or-append}
use Rattle.std.proofs.Math.Seq.{get_or-append_seam}
use Rattle.std.proofs.lemmas.List.{get_or_default}
use Rattle.ptl_types.specs.declared.handles.Handle.{Handle}
use Rattle.ni_model.specs.Tables.{handle}
use Rattle.rank_node.specs.Handles.{Tells, AreInOrder}

pub get-front : {A : Type 0} (xs : List A) (x : A) (n : ℕ) (d : A) → n < length xs → get_or (xs ++ x ∷ []) n d ≡ get_or xs n d
get-front xs x n d h = get_or-append xs (x ∷ []) d n h

pub get-last : {A : Type 0} (xs : List A) (x d : A) → get_or (xs ++ x ∷ []) (length xs) d ≡ x
get-last xs x d = get_or-append_seam xs x [] d

pub length-push : {A : Type 0} (xs : List A) (x : A) → length (xs ++ x ∷ []) ≡ length xs + 1
length-push xs x = length-append xs (x ∷ [])

-- the slots of the front are told too, and so is that of the last
pub tells-front : (f : ℕ → ℕ) (hs : List Handle) (h : Handle) → Tells f (hs ++ h ∷ []) → Tells f hs
tells-front f hs h t = record {
  slots = λ n lt. let more : n < length (hs ++ h ∷ []) = omega (arith, length-push hs h) in t.slots n more
      ∙ ap (λ (x : Handle). x.slot) (get-front hs h n (handle 0 0) lt);
}

pub tells-last : (f : ℕ → ℕ) (hs : List Handle) (h : Handle) → Tells f (hs ++ h ∷ []) → f (length hs) ≡ h.slot
tells-last f hs h t =
    let more : length hs < length (hs ++ h ∷ []) = omega (arith, length-push hs h) in
    t.slots (length hs) more ∙ ap (λ (x : Handle). x.slot) (get-last hs h (handle 0 0))

pub in_order-none : AreInOrder []
in_order-none = record { stamps = λ n lt. absurd (omega arith) }

pub in_order-push : (hs : List Handle) (h : Handle) → AreInOrder hs → h.stamp ≡ length hs → AreInOrder (hs ++ h ∷ [])
in_order-push hs h all next = record { stamps = λ n lt. at n (split n (omega (arith, lt, length-push hs h))) }
  where
    split : (n : ℕ) → n < length hs + 1 → (n < length hs) ⊎ (n ≡ length hs)
    split n lt = elim (nat_lt n (length hs)) as (λ b. nat_lt n (length hs) ≡ b → (n < length hs) ⊎ (n ≡ length hs)) [
      | true ↦ λ e. inl (grind (arith, nat_tests))
      | false ↦ λ e. inr (grind (arith, nat_tests))
    ] refl

    at : (n : ℕ) → (n < length hs) ⊎ (n ≡ length hs) → (get_or (hs ++ h ∷ []) n (handle 0 0)).stamp ≡ n
    at n (inl lt) = ap (λ (x : Handle). x.stamp) (get-front hs h n (handle 0 0) lt) ∙ all.stamps n lt
    at n (inr e) = ap (λ m. (get_or (hs ++ h ∷ []) m (handle 0 0)).stamp) e ∙ ap (λ (x : Handle). x.stamp) (get-last hs h (handle 0 0))
        ∙ next ∙ sym e

-- a handle whose stamp is its number, and whose slot is told
pub handle-told : (f : ℕ → ℕ) (hs : List Handle) (n : ℕ) (d : Handle) → AreInOrder hs → Tells f hs → n < length hs →
    get_or hs n d ≡ handle (f n) n
handle-told f hs n d all t lt =
    let zero : get_or hs n d ≡ get_or hs n (handle 0 0) = get_or_default hs n d (handle 0 0) lt in
    zero ∙ ap₂ handle (sym (t.slots n lt)) (all.stamps n lt)
