-- The lists of the inputs, one after the other, are cut into the rows that they were.
use Rattle.std.proofs.Common.{◌≡◌, ℕ, zero, suc, ◌<◌, List, [], ◌∷◌, ◌++◌, length, take, drop, get_or, refl, sym, ap, ◌∙◌, arith, subst}
use Rattle.std.proofs.Common.{length-append}
use Rattle.std.specs.Prelude.{All}
use Rattle.std.proofs.lemmas.List.{get_or-take, get_or_default, length-take-le}
use Rattle.std.proofs.Math.Seq.{drop-append_seam, take-append_seam}
use Rattle.coll_shape.specs.declared.types.Buffer.{Buffer}
use Rattle.coll_shape.specs.Outline.{Outline, no_buffer}
use Rattle.coll_shape.specs.Rows.{in_rows, joined}
use Rattle.coll_shape.specs.WellFormed.{IsWellFormed}
use Rattle.coll_shape.specs.Meaning.{AreInputs, Lists}
use Rattle.coll_lang.proofs.InputLists.{Filled, IsListOf}

front : (n : ℕ) (row : List (List ℕ)) (rows : Lists) → length row ≡ n → take n (row ++ joined rows) ≡ row
front n row rows long = ap (λ k. take k (row ++ joined rows)) (sym long) ∙ take-append_seam row (joined rows)

back : (n : ℕ) (row : List (List ℕ)) (rows : Lists) → length row ≡ n → drop n (row ++ joined rows) ≡ joined rows
back n row rows long = ap (λ k. drop k (row ++ joined rows)) (sym long) ∙ drop-append_seam row (joined rows)

pub rows_back : (n m : ℕ) (rows : Lists) → length rows ≡ m → ((b : ℕ) → b < m → length (get_or rows b []) ≡ n)
    → in_rows n m (joined rows) ≡ rows
rows_back n zero [] e w = refl
rows_back n zero (row ∷ rows) e w = absurd (omega (arith, e))
rows_back n (suc m) [] e w = absurd (omega (arith, e))
rows_back n (suc m) (row ∷ rows) e w =
    ap (λ (l : List (List ℕ)). l ∷ in_rows n m (drop n (row ++ joined rows))) (front n row rows (w 0 (omega arith)))
    ∙ (ap (λ (l : List (List ℕ)). row ∷ in_rows n m l) (back n row rows (w 0 (omega arith)))
    ∙ ap (λ (l : Lists). row ∷ l) (rows_back n m rows (omega (arith, e)) (λ b l. w (suc b) (omega (arith, l)))))

filled : (n : ℕ) (bs : List Buffer) (rows : Lists) → length rows ≡ length bs → ((b : ℕ) → b < length bs → length (get_or rows b []) ≡ n)
    → ((b r : ℕ) → b < length bs → r < n → IsListOf (get_or bs b no_buffer) (get_or (get_or rows b []) r [])) → Filled n bs (joined rows)
filled n [] [] e w h = refl
filled n [] (row ∷ rows) e w h = absurd (omega (arith, e))
filled n (b ∷ bs) [] e w h = absurd (omega (arith, e))
filled n (b ∷ bs) (row ∷ rows) e w h =
    let long : length row ≡ n = w 0 (omega arith) in
    let all = length-append row (joined rows) in (
      omega (arith, all, long),
      subst (λ (l : List (List ℕ)). All (IsListOf b) l) (sym (front n row rows long))
          (λ r d l. subst (IsListOf b) (get_or_default row r [] d l) (h 0 r (omega arith) (omega (arith, l, long)))),
      subst (λ (l : List (List ℕ)). Filled n bs l) (sym (back n row rows long))
          (filled n bs rows (omega (arith, e)) (λ i l. w (suc i) (omega (arith, l))) (λ i r l k. h (suc i) r (omega (arith, l)) k)),
    )

-- the inputs of a shape have their lists
pub inputs_filled : (o : Outline) (inputs : Lists) → IsWellFormed o → AreInputs o inputs
    → Filled o.ranks (take o.inputs o.buffers) (joined inputs)
inputs_filled o inputs f g = filled o.ranks (take o.inputs o.buffers) inputs (g.many ∙ sym count) (λ b l. g.ranks b (below b l)) of_it
  where
    count : length (take o.inputs o.buffers) ≡ o.inputs
    count = length-take-le o.inputs o.buffers f.shape.few_inputs

    below : (b : ℕ) → b < length (take o.inputs o.buffers) → b < o.inputs
    below b l = omega (arith, count, l)

    of_it : (b r : ℕ) → b < length (take o.inputs o.buffers) → r < o.ranks
        → IsListOf (get_or (take o.inputs o.buffers) b no_buffer) (get_or (get_or inputs b []) r [])
    of_it b r l k =
        subst (λ (x : Buffer). IsListOf x (get_or (get_or inputs b []) r [])) (sym (get_or-take o.inputs o.buffers b no_buffer (below b l)))
        (record { whole = g.long b r (below b l) k; bytes = g.bytes b r (below b l) k })
