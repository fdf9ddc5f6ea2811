-- After a step: a member's exit and the cell that holds the new buffer there are those of its place, and all others stay.
use Rattle.std.proofs.Common.{ℕ, zero, suc, Bool, true, false, nat_lt, ◌+◌, ◌-◌, ◌*◌, ◌≡◌, ◌<◌, ◌≤◌, List, Option, Some, None, refl, length}
use Rattle.std.proofs.Common.{get_or, set, ap, ◌∙◌, sym, subst, arith, get_or-set_same, get_or-set_other, ◌⊎◌, inl, inr, eq-or-lt_of_le}
use Rattle.std.proofs.Math.Nat.{mul-le-mul_right}
use Rattle.std.proofs.lemmas.Bool.{ltb-true, ltb-false}
use Rattle.std.proofs.lemmas.List.{length-set}
use Rattle.plan_core.specs.Draw.{HeldCells, held_cell, hold, place_of}
use Rattle.coll_shape.specs.WellFormed.{AreMembers}
use Rattle.plan_steps.specs.declared.ends.StepExit.{StepExit}
use Rattle.plan_steps.specs.Steps.{end_at, exits_by, held_by, hold_by}

abbrev member : List ℕ → ℕ → ℕ
member g i = get_or g i 0

apart : (n : ℕ) (g : List ℕ) → AreMembers n g → (i j : ℕ) → i < j → j < length g → member g i ≡ member g j → ⊥
apart n g are i j h l e = let r = are.rising i j h l in absurd (omega (arith, r, e))

pub length-exits_by : (xs g : List ℕ) (ends : List StepExit) (m : ℕ) → length (exits_by xs g ends m) ≡ length xs
unfolding exits_by
length-exits_by xs g ends zero = refl
length-exits_by xs g ends (suc m) = length-set (exits_by xs g ends m) (member g m) (end_at ends m).exit ∙ length-exits_by xs g ends m

-- a rank that is none of the first m members
pub exits_by-stays : (xs g : List ℕ) (ends : List StepExit) (m r : ℕ) → ((i : ℕ) → i < m → member g i ≡ r → ⊥) →
    get_or (exits_by xs g ends m) r 0 ≡ get_or xs r 0
unfolding exits_by
exits_by-stays xs g ends zero r h = refl
exits_by-stays xs g ends (suc m) r h =
    other (exits_by xs g ends m) (member g m) r (end_at ends m).exit (λ e. h m (omega arith) (sym e))
    ∙ exits_by-stays xs g ends m r (λ i l e. h i (omega arith) e)
  where
    other : (ys : List ℕ) (a b x : ℕ) → (b ≡ a → ⊥) → get_or (set ys a x) b 0 ≡ get_or ys b 0
    other ys a b x ne = get_or-set_other ys a b x 0 ne

-- the exit of a member is that of its place
pub exits_by-member : (n : ℕ) (xs g : List ℕ) (ends : List StepExit) → AreMembers n g → n ≤ length xs → (m i : ℕ) → i < m → m ≤ length g →
    get_or (exits_by xs g ends m) (member g i) 0 ≡ (end_at ends i).exit
unfolding exits_by
exits_by-member n xs g ends are long zero i h l = absurd (omega arith)
exits_by-member n xs g ends are long (suc m) i h l = at (last (omega arith)) (λ k. exits_by-member n xs g ends are long m i k (omega arith))
  where
    last : i ≤ m → (i ≡ m) ⊎ (i < m)
    last k = eq-or-lt_of_le k

    same : (ys : List ℕ) (a x : ℕ) → a < length ys → get_or (set ys a x) a 0 ≡ x
    same ys a x w = get_or-set_same ys a x 0 w

    other : (ys : List ℕ) (a b x : ℕ) → (b ≡ a → ⊥) → get_or (set ys a x) b 0 ≡ get_or ys b 0
    other ys a b x ne = get_or-set_other ys a b x 0 ne

    at : (i ≡ m) ⊎ (i < m) → (i < m → get_or (exits_by xs g ends m) (member g i) 0 ≡ (end_at ends i).exit) →
        get_or (set (exits_by xs g ends m) (member g m) (end_at ends m).exit) (member g i) 0 ≡ (end_at ends i).exit
    at (inl e) rest =
        ap (λ j. get_or (set (exits_by xs g ends m) (member g m) (end_at ends m).exit) (member g j) 0) e
        ∙ same (exits_by xs g ends m) (member g m) (end_at ends m).exit (let a = length-exits_by xs g ends m in let b =
        are.ranks m (omega arith) in omega (arith, a, b, long))
        ∙ ap (λ j. (end_at ends j).exit) (sym e)
    at (inr k) rest = other (exits_by xs g ends m) (member g m) (member g i) (end_at ends m).exit
        (λ e. apart n g are i m k (omega arith) e) ∙ rest k

pub exits_by-rank : (n : ℕ) (xs g : List ℕ) (ends : List StepExit) → AreMembers n g → n ≤ length xs → (i : ℕ) → i < length g →
    get_or (exits_by xs g ends (length g)) (member g i) 0 ≡ (end_at ends i).exit
exits_by-rank n xs g ends are long i h = exits_by-member n xs g ends are long (length g) i h (let z : length g ≤ length g = omega arith in
    z)

-- ---- the cells that hold buffers
-- the rows of two buffers have no place in common
pub rows-apart : (n b c r q : ℕ) → r < n → q < n → (b ≡ c → ⊥) → b * n + r ≡ c * n + q → ⊥
rows-apart n b c r q h l ne e = at (nat_lt b c) refl
  where
    lower : (x y u v : ℕ) → x < y → u < n → x * n + u ≡ y * n + v → ⊥
    lower x y u v k w f = let a : suc x * n ≡ x * n + n = omega arith in let m = mul-le-mul_right n k in absurd (omega (arith, a, m, w, f))

    at : (t : Bool) → nat_lt b c ≡ t → ⊥
    at true f = lower b c r q (ltb-true _ _ f) h e
    at false f = other (eq-or-lt_of_le (ltb-false _ _ f))
      where
        other : (c ≡ b) ⊎ (c < b) → ⊥
        other (inl g) = ne (sym g)
        other (inr g) = lower c b q r g l (sym e)

ranks-hold_by : (h : HeldCells) (b r : ℕ) (o : Option ℕ) → (hold_by h b r o).ranks ≡ h.ranks
unfolding hold
ranks-hold_by h b r None = refl
ranks-hold_by h b r (Some c) = refl

buffers-hold_by : (h : HeldCells) (b r : ℕ) (o : Option ℕ) → (hold_by h b r o).buffers ≡ h.buffers
unfolding hold
buffers-hold_by h b r None = refl
buffers-hold_by h b r (Some c) = refl

many-hold_by : (h : HeldCells) (b r : ℕ) (o : Option ℕ) → length (hold_by h b r o).cells ≡ length h.cells
unfolding hold
many-hold_by h b r None = refl
many-hold_by h b r (Some c) = length-set h.cells (place_of h b r) (Some c)

pub ranks-held_by : (h : HeldCells) (g : List ℕ) (ends : List StepExit) (b m : ℕ) → (held_by h g ends b m).ranks ≡ h.ranks
unfolding held_by
ranks-held_by h g ends b zero = refl
ranks-held_by h g ends b (suc m) = ranks-hold_by (held_by h g ends b m) b (member g m) (end_at ends m).holder ∙ ranks-held_by h g ends b m

pub buffers-held_by : (h : HeldCells) (g : List ℕ) (ends : List StepExit) (b m : ℕ) → (held_by h g ends b m).buffers ≡ h.buffers
unfolding held_by
buffers-held_by h g ends b zero = refl
buffers-held_by h g ends b (suc m) = buffers-hold_by (held_by h g ends b m) b (member g m) (end_at ends m).holder
    ∙ buffers-held_by h g ends b m

pub many-held_by : (h : HeldCells) (g : List ℕ) (ends : List StepExit) (b m : ℕ) → length (held_by h g ends b m).cells ≡ length h.cells
unfolding held_by
many-held_by h g ends b zero = refl
many-held_by h g ends b (suc m) = many-hold_by (held_by h g ends b m) b (member g m) (end_at ends m).holder ∙ many-held_by h g ends b m

-- a place x of the table stays unless it is the new one
hold_by-stays : (h : HeldCells) (b r : ℕ) (o : Option ℕ) (x : ℕ) → (b * h.ranks + r ≡ x → ⊥) →
    get_or (hold_by h b r o).cells x None ≡ get_or h.cells x None
unfolding hold
hold_by-stays h b r None x ne = refl
hold_by-stays h b r (Some c) x ne = get_or-set_other h.cells (place_of h b r) x (Some c) None (λ e. ne (sym e))

hold_by-there : (h : HeldCells) (b r : ℕ) (o : Option ℕ) → b * h.ranks + r < length h.cells →
    get_or h.cells (b * h.ranks + r) None ≡ None → get_or (hold_by h b r o).cells (b * h.ranks + r) None ≡ o
unfolding hold
hold_by-there h b r None l e = e
hold_by-there h b r (Some c) l e = get_or-set_same h.cells (place_of h b r) (Some c) None l

pub held_by-stays : (h : HeldCells) (g : List ℕ) (ends : List StepExit) (b m x : ℕ) → ((i : ℕ) → i < m → b * h.ranks + member g i ≡ x → ⊥)
    → get_or (held_by h g ends b m).cells x None ≡ get_or h.cells x None
unfolding held_by
held_by-stays h g ends b zero x ne = refl
held_by-stays h g ends b (suc m) x ne =
    hold_by-stays (held_by h g ends b m) b (member g m) (end_at ends m).holder x
    (λ e. ne m (omega arith) (ap (λ v. b * v + member g m) (sym (ranks-held_by h g ends b m)) ∙ e))
    ∙ held_by-stays h g ends b m x (λ i l e. ne i (omega arith) e)

-- buffer b is held by none so far: then the cell of a member is that of its place
pub held_by-member : (h : HeldCells) (g : List ℕ) (ends : List StepExit) (b : ℕ) → AreMembers h.ranks g →
    ((r : ℕ) → r < h.ranks → b * h.ranks + r < length h.cells) → ((r : ℕ) → r < h.ranks → held_cell h b r ≡ None)
    → (m i : ℕ) → i < m → m ≤ length g → get_or (held_by h g ends b m).cells (b * h.ranks + member g i) None ≡ (end_at ends i).holder
unfolding held_by
held_by-member h g ends b are long none zero i k l = absurd (omega arith)
held_by-member h g ends b are long none (suc m) i k l = at (last (omega arith))
    (λ w. held_by-member h g ends b are long none m i w (omega arith))
  where
    last : i ≤ m → (i ≡ m) ⊎ (i < m)
    last w = eq-or-lt_of_le w

    same : member g m < h.ranks → get_or (hold_by (held_by h g ends b m) b (member g m) (end_at ends m).holder).cells
        (b * h.ranks + member g m) None ≡ (end_at ends m).holder
    same w =
        let e = ranks-held_by h g ends b m in
        ap (λ v. get_or (hold_by (held_by h g ends b m) b (member g m) (end_at ends m).holder).cells (b * v + member g m) None) (sym e)
        ∙ hold_by-there (held_by h g ends b m) b (member g m) (end_at ends m).holder
        (subst (λ v. b * v + member g m < length (held_by h g ends b m).cells) (sym e) (let a = many-held_by h g ends b m in let c =
        long (member g m) w in omega (arith, a, c)))
        (ap (λ v. get_or (held_by h g ends b m).cells (b * v + member g m) None) e
        ∙ held_by-stays h g ends b m (b * h.ranks + member g m)
        (λ j j_low q. apart h.ranks g are j m j_low (omega arith) (let z : member g j ≡ member g m = omega (arith, q) in z))
        ∙ none (member g m) w)

    at : (i ≡ m) ⊎ (i < m) → (i < m → get_or (held_by h g ends b m).cells (b * h.ranks + member g i) None ≡ (end_at ends i).holder)
        → get_or (hold_by (held_by h g ends b m) b (member g m) (end_at ends m).holder).cells (b * h.ranks + member g i) None
        ≡ (end_at ends i).holder
    at (inl e) rest =
        ap (λ j. get_or (hold_by (held_by h g ends b m) b (member g m) (end_at ends m).holder).cells (b * h.ranks + member g j) None) e
        ∙ same (are.ranks m (omega arith))
        ∙ ap (λ j. (end_at ends j).holder) (sym e)
    at (inr w) rest =
        hold_by-stays (held_by h g ends b m) b (member g m) (end_at ends m).holder (b * h.ranks + member g i)
        (λ q. apart h.ranks g are i m w (omega arith) (let z : member g i ≡ member g m =
        omega (arith, ap (λ v. b * v) (ranks-held_by h g ends b m), q) in z))
        ∙ rest w
