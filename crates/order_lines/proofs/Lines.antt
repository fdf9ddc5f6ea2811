-- Order lines, one after the other.
use Rattle.std.proofs.Common.{◌≡◌, ℕ, suc, ◌+◌, ◌-◌, ◌<◌, ◌≤◌, List, [], ◌∷◌, ◌++◌, length, Result, Ok, Err, true, false, cond, refl, sym}
use Rattle.std.proofs.Common.{ap, ◌∙◌, arith, append_assoc}
use Rattle.std.specs.Prelude.{◌==◌}
use Rattle.std.specs.List.{onto_first}
use Rattle.std.proofs.lemmas.List.{append-nil}
use Rattle.std.proofs.lemmas.List.Splits.{length-slice_split}
use Rattle.ptl_types.specs.declared.steps.LocalStep.{LocalStep}
use Rattle.coll_text.specs.Text.{is_empty, lines}
use Rattle.coll_lang.specs.Verdicts.{Fails}
use Rattle.coll_lang.specs.declared.fault.ParseFault.{ParseFault}
use Rattle.coll_lang.specs.declared.fault.ParseFault.TheVariants.{NoMemory, Refused}
use Rattle.coll_lang.specs.declared.fault.Refusal.{Refusal}
use Rattle.coll_lang.specs.declared.fault.Refusal.TheVariants.{AfterEnd, Unended}
use Rattle.coll_lang.proofs.Reading.{not_empty}
use Rattle.order_lines.specs.Orders.{and_later, order_at, read_orders}

-- there is a piece at least
pub some_piece : (bytes : List ℕ) → (piece : List ℕ) × (pieces : List (List ℕ)) × (lines bytes ≡ piece ∷ pieces)
some_piece bytes = at (lines bytes) (let n = length-slice_split (λ b. b == 10) bytes in omega (arith, n))
  where
    at : (pieces : List (List ℕ)) → 0 < length pieces → (piece : List ℕ) × (later : List (List ℕ)) × (pieces ≡ piece ∷ later)
    at [] h = absurd (omega (arith, h))
    at (piece ∷ later) h = (piece, later, refl)

-- what is read after these
abbrev pub and_then : List (List LocalStep) → Result (List (List LocalStep)) (ℕ × Refusal) → Result (List (List LocalStep)) (ℕ × Refusal)
and_then done (Err refusal) = Err refusal
and_then done (Ok lists) = Ok (done ++ lists)

-- all orders, where those of the ranks below r are these, and what is left begins with line k
unfoldable pub left_over : ℕ → ℕ → ℕ → List (List LocalStep) → List (List ℕ) → Result (List (List LocalStep)) (ℕ × Refusal)
left_over ranks r k done pieces = and_then done (read_orders ranks (ranks - r) r k pieces)

pub begins : (ranks k : ℕ) (pieces : List (List ℕ)) → read_orders ranks ranks 0 k pieces ≡ left_over ranks 0 k [] pieces
unfolding left_over
begins ranks k pieces =
    let n : ranks ≡ ranks - 0 = omega arith in
    ap (λ left. read_orders ranks left 0 k pieces) n ∙ at (read_orders ranks (ranks - 0) 0 k pieces)
  where
    at : (x : Result (List (List LocalStep)) (ℕ × Refusal)) → x ≡ and_then [] x
    at (Err refusal) = refl
    at (Ok lists) = refl

one_less : (ranks r : ℕ) → r < ranks → ranks - r ≡ suc (ranks - (r + 1))
one_less ranks r lt = omega (arith, lt)

pub takes : (ranks r k : ℕ) (done : List (List LocalStep)) (line bytes : List ℕ) (steps : List LocalStep) → r < ranks
    → order_at ranks r k line ≡ Ok steps
    → left_over ranks r k done (line ∷ lines bytes) ≡ left_over ranks (r + 1) (k + 1) (done ++ steps ∷ []) (lines bytes)
unfolding left_over read_orders
takes ranks r k done line bytes steps lt h =
    let p = some_piece bytes in
    rw (p.2, one_less ranks r lt, h) (at (read_orders ranks (ranks - (r + 1)) (r + 1) (k + 1) (p.0 ∷ p.1)))
  where
    at : (x : Result (List (List LocalStep)) (ℕ × Refusal)) → and_then done (and_later (Ok steps) x) ≡ and_then (done ++ steps ∷ []) x
    at (Err refusal) = refl
    at (Ok lists) = ap (λ (l : List (List LocalStep)). Ok l) (sym (append_assoc done (steps ∷ []) lists))

pub breaks : (ranks r k : ℕ) (done : List (List LocalStep)) (line bytes : List ℕ) (refusal : ℕ × Refusal) → r < ranks
    → order_at ranks r k line ≡ Err refusal → left_over ranks r k done (line ∷ lines bytes) ≡ Err refusal
unfolding left_over read_orders
breaks ranks r k done line bytes refusal lt h =
    let p = some_piece bytes in
    rw (p.2, one_less ranks r lt, h) refl

pub fails_at : (ranks r k : ℕ) (done : List (List LocalStep)) (line bytes : List ℕ) (fault : ParseFault) → r < ranks
    → Fails fault (order_at ranks r k line) → Fails fault (left_over ranks r k done (line ∷ lines bytes))
fails_at ranks r k done line bytes (Refused at name) lt h = breaks ranks r k done line bytes (at, name) lt h
fails_at ranks r k done line bytes NoMemory lt h = tt

pub breaks_off : (ranks r k : ℕ) (done : List (List LocalStep)) (line : List ℕ) → r < ranks
    → left_over ranks r k done (line ∷ []) ≡ Err (k, Unended)
unfolding left_over read_orders
breaks_off ranks r k done line lt = rw (one_less ranks r lt) refl

-- ---- after the last line
full : (ranks r k b : ℕ) (piece : List ℕ) (pieces : List (List ℕ)) → read_orders ranks 0 r k ((b ∷ piece) ∷ pieces) ≡ Err (k, AfterEnd)
unfolding read_orders
full ranks r k b piece [] = rw (not_empty b piece) refl
full ranks r k b piece (other ∷ pieces) = refl

too_much : (ranks r k b : ℕ) (bytes : List ℕ) → read_orders ranks 0 r k (lines (b ∷ bytes)) ≡ Err (k, AfterEnd)
unfolding read_orders
too_much ranks r k b bytes =
    let h = some_piece bytes in
    elim (b == 10) as (λ t. read_orders ranks 0 r k (cond t ([] ∷ lines bytes) (onto_first b (lines bytes))) ≡ Err (k, AfterEnd)) [
      | true ↦ rw h.2 refl
      | false ↦ rw h.2 (full ranks r k b h.0 h.1)
    ]

none_left : (ranks r : ℕ) → ranks ≤ r → ranks - r ≡ 0
none_left ranks r le = omega (arith, le)

pub ends : (ranks r k : ℕ) (done : List (List LocalStep)) (bytes : List ℕ) → ranks ≤ r
    → left_over ranks r k done (lines bytes) ≡ cond (is_empty bytes) (Ok done) (Err (k, AfterEnd))
unfolding left_over read_orders
ends ranks r k done [] le = rw (none_left ranks r le) (ap (λ (l : List (List LocalStep)). Ok l) (append-nil done))
ends ranks r k done (b ∷ bytes) le = rw (none_left ranks r le, not_empty b bytes) (ap (and_then done) (too_much ranks r k b bytes))
