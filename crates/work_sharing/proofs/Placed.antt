-- Values at the places of their indices.
use Rattle.std.proofs.Common.{ℕ, ◌≡◌, ◌<◌, List, ◌∷◌, length, sym, subst, inl, inr}
use Rattle.std.specs.Prelude.{All, Option, None, Some, IfSome, slice_index_or, slice_set}
use Rattle.std.proofs.lemmas.Bool.{cases_eq}
use Rattle.std.proofs.lemmas.Option.{IfSome_then}
use Rattle.std.proofs.lemmas.List.Elements.{All-head, All-rest}
use Rattle.std.proofs.lemmas.List.{get_or-set_same, get_or-set_other, length-set}
use denote.Param.Members.{Shared}
use Rattle.work_sharing.specs.Sharing.{AreGiven, AreShared, Gives, IsGiven}

module _ {F X : Type 0} (g : Shared F (ℕ × Unit {0}) (Option X)) (f : F) where
  pub shared-none : (ys : List (Option X)) → All (λ o. o ≡ None) ys → AreShared g f ys
  shared-none ys all i d low = subst (λ o. IfSome o (Gives g f i)) (sym (all i d low)) tt

  pub shared-set : (ys : List (Option X)) (i : ℕ) (x : X) → AreShared g f ys → Gives g f i x → AreShared g f (slice_set ys i (Some x))
  shared-set ys i x old is j d low = elim (cases_eq j i) [
    | inl e ↦ subst (λ k. IfSome (slice_index_or (slice_set ys i (Some x)) k d) (Gives g f k)) (sym e)
        (subst (λ o. IfSome o (Gives g f i)) (sym (get_or-set_same ys i (Some x) d (subst (λ k. k < length ys) e low'))) is)
    | inr ne ↦ subst (λ o. IfSome o (Gives g f j)) (sym (get_or-set_other ys i j (Some x) d ne)) (old j d low')
  ]
    where
      low' : j < length ys
      low' = subst (λ n. j < n) (length-set ys i (Some x)) low

  -- the next value of a thread: its index has a place, and there it goes
  pub given-first : (count i : ℕ) (x : X) (rest xs : List (ℕ × X)) → xs ≡ (i, x) ∷ rest → AreGiven g f count xs → IsGiven g f count (i, x)
  given-first count i x rest xs is all = All-head (IsGiven g f count) (i, x) rest (subst (AreGiven g f count) is all)

  pub place-first : (count i : ℕ) (x : X) (rest xs : List (ℕ × X)) (ys : List (Option X)) → xs ≡ (i, x) ∷ rest → AreGiven g f count xs
      → AreShared g f ys → record { given : AreGiven g f count rest; shared : AreShared g f (slice_set ys i (Some x)) }
  place-first count i x rest xs ys is all old = record {
    given = All-rest (IsGiven g f count) (i, x) rest xs is all;
    shared = shared-set ys i x old (given-first count i x rest xs is all).1;
  }

  -- for a caller: what holds of all that a call may give holds of what lies there
  pub shared-each : (P : ℕ → X → Type 0) → ((i : ℕ) (x : X) → g.post f (i, tt) (Some x) → P i x) → (ys : List (Option X)) → AreShared g f ys
      → (i : ℕ) (d : Option X) → i < length ys → IfSome (slice_index_or ys i d) (P i)
  shared-each P says ys all i d low =
      IfSome_then (slice_index_or ys i d) {P = Gives g f i} {Q = P i} (all i d low) (λ x given. says i x given.met)
