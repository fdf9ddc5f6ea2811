-- The cells that the lines of a plan name.
use Rattle.std.proofs.Common.{ℕ, ◌≡◌, ◌+◌, ◌*◌, ◌<◌, List, [], ◌∷◌, Option, Some, None, length, get_or, set, drop, ◌≤◌}
use Rattle.std.proofs.Common.{refl, sym, ap, ap₂, subst, ◌∙◌, ◌⊎◌, inl, inr, arith}
use Rattle.std.proofs.lemmas.Bool.{cases_eq}
use Rattle.std.proofs.lemmas.List.{drop_all, drop_more, get_or-replicate, get_or-set_other, get_or-set_same, length-replicate, length-set}
use Rattle.std.proofs.lemmas.Nat.{mul-add-lt}
use Rattle.coll_shape.specs.Outline.{Outline}
use Rattle.given_lines.specs.declared.given.Mark.{Mark}
use Rattle.given_lines.specs.declared.given.Mark.TheVariants.{Result, Enter, Leave}
use Rattle.plan_core.specs.Draw.{HeldCells, held_cell, hold, place_of}
use Rattle.plan_core.specs.Members.{In}
use Rattle.plan_steps.proofs.Settled.{rows-apart}
use Rattle.verdict_laws.specs.GivenJobs.{AreWithin, named_cells, no_cells, results_of}

swapped : (m n : ℕ) → m * n ≡ n * m
swapped m n = omega arith

some_is : (c d : ℕ) → Some c ≡ Some d → c ≡ d
some_is c d e = cc

pub named-ranks : (h : HeldCells) (ms : List Mark) → (named_cells h ms).ranks ≡ h.ranks
unfolding named_cells hold
named-ranks h [] = refl
named-ranks h (Result b r c ∷ ms) = named-ranks (hold h b r c) ms
named-ranks h (Enter s r c ∷ ms) = named-ranks h ms
named-ranks h (Leave s r c ∷ ms) = named-ranks h ms

pub named-buffers : (h : HeldCells) (ms : List Mark) → (named_cells h ms).buffers ≡ h.buffers
unfolding named_cells hold
named-buffers h [] = refl
named-buffers h (Result b r c ∷ ms) = named-buffers (hold h b r c) ms
named-buffers h (Enter s r c ∷ ms) = named-buffers h ms
named-buffers h (Leave s r c ∷ ms) = named-buffers h ms

same_result : (b a r q c d : ℕ) → b ≡ a → r ≡ q → c ≡ d → Result b r c ≡ Result a q d
same_result b a r q c d e f g = cc

-- one line more: for the same buffer and rank its cell, or what was there before
one-more : (h : HeldCells) (a q d b r c : ℕ) → length h.cells ≡ h.buffers * h.ranks → q < h.ranks → b < h.buffers → r < h.ranks
    → held_cell (hold h a q d) b r ≡ Some c → (held_cell h b r ≡ Some c) ⊎ (Result b r c ≡ Result a q d)
unfolding hold
one-more h a q d b r c long hq hb hr e = by_buffer (cases_eq b a)
  where
    apart : (place_of h a q ≡ place_of h b r → ⊥) → held_cell h b r ≡ Some c
    apart ne = sym (get_or-set_other h.cells (place_of h a q) (place_of h b r) (Some d) None (λ x. ne (sym x))) ∙ e

    there : place_of h a q < length h.cells → b ≡ a → r ≡ q → c ≡ d
    there low same eq =
        let p : place_of h b r ≡ place_of h a q = ap₂ (λ x y. x * h.ranks + y) same eq in
        some_is c d (sym e ∙ (ap (λ x. get_or (set h.cells (place_of h a q) (Some d)) x None) p
        ∙ get_or-set_same h.cells (place_of h a q) (Some d) None low))

    low : b ≡ a → place_of h a q < length h.cells
    low same =
        let m = mul-add-lt a h.ranks q h.buffers (subst (λ x. x < h.buffers) same hb) hq in
        subst (λ n. place_of h a q < n) (swapped h.ranks h.buffers ∙ sym long) m

    by_rank : b ≡ a → (r ≡ q) ⊎ (r ≡ q → ⊥) → (held_cell h b r ≡ Some c) ⊎ (Result b r c ≡ Result a q d)
    by_rank same (inr ne) =
        let w : a * h.ranks ≡ b * h.ranks = ap (λ v. v * h.ranks) (sym same) in
        inl (apart (λ x. ne (omega (arith, x, w))))
    by_rank same (inl eq) = inr (same_result b a r q c d same eq (there (low same) same eq))

    by_buffer : (b ≡ a) ⊎ (b ≡ a → ⊥) → (held_cell h b r ≡ Some c) ⊎ (Result b r c ≡ Result a q d)
    by_buffer (inl same) = by_rank same (cases_eq r q)
    by_buffer (inr ne) = inl (apart (λ x. rows-apart h.ranks a b q r hq hr (λ y. ne (sym y)) x))

held-long : (h : HeldCells) (a q d : ℕ) → length (hold h a q d).cells ≡ length h.cells
unfolding hold
held-long h a q d = length-set h.cells (place_of h a q) (Some d)

-- each named cell was there before, or is of one of the lines
pub named : (h : HeldCells) (ms : List Mark) (b r c : ℕ) → length h.cells ≡ h.buffers * h.ranks
    → ((a q d : ℕ) → In (Result a q d) ms → q < h.ranks) → b < h.buffers → r < h.ranks
    → held_cell (named_cells h ms) b r ≡ Some c → (held_cell h b r ≡ Some c) ⊎ In (Result b r c) ms
unfolding named_cells hold
named h [] b r c long within hb hr e = inl e
named h (Result a q d ∷ ms) b r c long within hb hr e =
    at (named (hold h a q d) ms b r c (held-long h a q d ∙ long) (λ x y z i. within x y z (inr i)) hb hr e)
  where
    at : (held_cell (hold h a q d) b r ≡ Some c) ⊎ In (Result b r c) ms →
        (held_cell h b r ≡ Some c) ⊎ In (Result b r c) (Result a q d ∷ ms)
    at (inr i) = inr (inr i)
    at (inl f) = new (one-more h a q d b r c long (within a q d (inl refl)) hb hr f)
      where
        new : (held_cell h b r ≡ Some c) ⊎ (Result b r c ≡ Result a q d) →
            (held_cell h b r ≡ Some c) ⊎ In (Result b r c) (Result a q d ∷ ms)
        new (inl g) = inl g
        new (inr g) = inr (inl (sym g))
named h (Enter s q d ∷ ms) b r c long within hb hr e =
    at (named h ms b r c long (λ x y z i. within x y z (inr i)) hb hr e)
  where
    at : (held_cell h b r ≡ Some c) ⊎ In (Result b r c) ms → (held_cell h b r ≡ Some c) ⊎ In (Result b r c) (Enter s q d ∷ ms)
    at (inl f) = inl f
    at (inr i) = inr (inr i)
named h (Leave s q d ∷ ms) b r c long within hb hr e =
    at (named h ms b r c long (λ x y z i. within x y z (inr i)) hb hr e)
  where
    at : (held_cell h b r ≡ Some c) ⊎ In (Result b r c) ms → (held_cell h b r ≡ Some c) ⊎ In (Result b r c) (Leave s q d ∷ ms)
    at (inl f) = inl f
    at (inr i) = inr (inr i)

-- from the beginning on there are those of lines alone
pub of_lines : (o : Outline) (ms : List Mark) (b r c : ℕ) → AreWithin o ms → b < length o.buffers → r < o.ranks
    → held_cell (results_of o ms) b r ≡ Some c → In (Result b r c) ms
of_lines o ms b r c within hb hr e =
    at (named (no_cells o) ms b r c (length-replicate (length o.buffers * o.ranks) None) (λ x y z i. (within x y z i).1) hb hr e)
  where
    at : (held_cell (no_cells o) b r ≡ Some c) ⊎ In (Result b r c) ms → In (Result b r c) ms
    at (inr i) = i
    at (inl f) =
        let m = mul-add-lt b o.ranks r (length o.buffers) hb hr in
        let none = get_or-replicate {A = Option ℕ} (length o.buffers * o.ranks) (place_of (no_cells o) b r) None None
        (subst (λ n. place_of (no_cells o) b r < n) (swapped o.ranks (length o.buffers)) m) in
        absurd (cc (f, none))

-- ---- line by line

pub result-next : (h : HeldCells) (ms : List Mark) (i b r c : ℕ) → i < length ms → get_or ms i (Result 0 0 0) ≡ Result b r c
    → named_cells h (drop i ms) ≡ named_cells (hold h b r c) (drop (i + 1) ms)
unfolding named_cells
result-next h ms i b r c low is =
    ap (λ (l : List Mark). named_cells h l) (drop_more ms i (Result 0 0 0) low)
    ∙ ap (λ (m : Mark). named_cells h (m ∷ drop (i + 1) ms)) is

pub enter-next : (h : HeldCells) (ms : List Mark) (i s r c : ℕ) → i < length ms → get_or ms i (Result 0 0 0) ≡ Enter s r c
    → named_cells h (drop i ms) ≡ named_cells h (drop (i + 1) ms)
unfolding named_cells
enter-next h ms i s r c low is =
    ap (λ (l : List Mark). named_cells h l) (drop_more ms i (Result 0 0 0) low)
    ∙ ap (λ (m : Mark). named_cells h (m ∷ drop (i + 1) ms)) is

pub leave-next : (h : HeldCells) (ms : List Mark) (i s r c : ℕ) → i < length ms → get_or ms i (Result 0 0 0) ≡ Leave s r c
    → named_cells h (drop i ms) ≡ named_cells h (drop (i + 1) ms)
unfolding named_cells
leave-next h ms i s r c low is =
    ap (λ (l : List Mark). named_cells h l) (drop_more ms i (Result 0 0 0) low)
    ∙ ap (λ (m : Mark). named_cells h (m ∷ drop (i + 1) ms)) is

pub none-left : (h : HeldCells) (ms : List Mark) (i : ℕ) → length ms ≤ i → named_cells h (drop i ms) ≡ h
unfolding named_cells
none-left h ms i past = ap (λ (l : List Mark). named_cells h l) (drop_all i ms past)

-- while lines are left the buffers and ranks are those of the description
pub buffers-left : (h : HeldCells) (o : Outline) (ms left : List Mark) → named_cells h left ≡ results_of o ms → h.buffers ≡ length o.buffers
buffers-left h o ms left is = sym (named-buffers h left) ∙ (ap (λ (x : HeldCells). x.buffers) is ∙ named-buffers (no_cells o) ms)

pub ranks-left : (h : HeldCells) (o : Outline) (ms left : List Mark) → named_cells h left ≡ results_of o ms → h.ranks ≡ o.ranks
ranks-left h o ms left is = sym (named-ranks h left) ∙ (ap (λ (x : HeldCells). x.ranks) is ∙ named-ranks (no_cells o) ms)
