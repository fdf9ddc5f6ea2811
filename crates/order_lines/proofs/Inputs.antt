-- A description and the order lines after it.
use Rattle.std.proofs.Common.{◌≡◌, ℕ, zero, suc, ◌+◌, ◌≤◌, List, [], ◌∷◌, length, take, drop, Result, Ok, Err, Bool, true, false, cond}
use Rattle.std.proofs.Common.{refl, ap, arith}
use Rattle.std.specs.Prelude.{nat_lt}
use Rattle.std.proofs.lemmas.Bool.Decides.{nat_tests}
use Rattle.ptl_types.specs.declared.steps.LocalStep.{LocalStep}
use Rattle.coll_text.specs.Text.{is_empty, lines}
use Rattle.coll_lang.specs.Language.{read}
use Rattle.coll_lang.specs.Program.{Program}
use Rattle.coll_lang.specs.Verdicts.{Fails}
use Rattle.coll_lang.specs.declared.fault.ParseFault.{ParseFault}
use Rattle.coll_lang.specs.declared.fault.ParseFault.TheVariants.{NoMemory, Refused}
use Rattle.coll_lang.specs.declared.fault.Refusal.{Refusal}
use Rattle.coll_lang.specs.declared.fault.Refusal.TheVariants.{AfterEnd}
use Rattle.order_lines.specs.Check.{description_bytes, line_after, orders_after, read_check, with_lists, with_orders}
use Rattle.order_lines.specs.Orders.{and_later, order_at, read_orders}
use Rattle.order_lines.specs.declared.checking.TheConstants.{LONGEST_CHECK}

not_above : (n : ℕ) → n ≤ LONGEST_CHECK → nat_lt LONGEST_CHECK n ≡ false
not_above n le = grind (arith, nat_tests)

-- an input that isn't too long, by its parts
pub parted : (bytes : List ℕ) (front next : ℕ) → length bytes ≤ LONGEST_CHECK → front ≡ description_bytes (lines bytes)
    → next ≡ line_after 1 (lines bytes)
    → read_check bytes ≡ with_orders (read (take front bytes)) next (lines (drop front bytes))
unfolding read_check
parted bytes front next short f n = rw (f, n, not_above (length bytes) short) refl

-- a description that isn't read
pub fails_at : (fault : ParseFault) (r : Result Program (ℕ × Refusal)) (k : ℕ) (pieces : List (List ℕ)) → Fails fault r
    → Fails fault (with_orders r k pieces)
fails_at (Refused line name) r k pieces h = rw h refl
fails_at NoMemory r k pieces h = tt

-- orders that aren't read
pub lists_fail : (fault : ParseFault) (d : Program) (r : Result (List (List LocalStep)) (ℕ × Refusal)) → Fails fault r
    → Fails fault (with_lists d r)
lists_fail (Refused line name) d r h = rw h refl
lists_fail NoMemory d r h = tt

-- the rest is what is read after the description
pub reads_on : (d : Program) (r : Result Program (ℕ × Refusal)) (k : ℕ) (pieces : List (List ℕ)) → r ≡ Ok d
    → with_orders r k pieces ≡ orders_after d d.choices k pieces
reads_on d r k pieces h = ap (λ x. with_orders x k pieces) h

-- there are as many orders as were due
pub many : (ranks left r k : ℕ) (pieces : List (List ℕ)) (lists : List (List LocalStep)) → read_orders ranks left r k pieces ≡ Ok lists
    → length lists ≡ left
unfolding read_orders
many ranks zero r k [] lists h = cc
many ranks zero r k (piece ∷ []) lists h = at (is_empty piece) h
  where
    at : (b : Bool) → cond {A = Result (List (List LocalStep)) (ℕ × Refusal)} b (Ok []) (Err (k, AfterEnd)) ≡ Ok lists → length lists ≡ 0
    at true h = cc
    at false h = cc
many ranks zero r k (line ∷ piece ∷ pieces) lists h = cc
many ranks (suc left) r k [] lists h = cc
many ranks (suc left) r k (piece ∷ []) lists h = cc
many ranks (suc left) r k (line ∷ piece ∷ pieces) lists h =
    at (order_at ranks r k line) (read_orders ranks left (r + 1) (k + 1) (piece ∷ pieces))
    (λ later e. many ranks left (r + 1) (k + 1) (piece ∷ pieces) later e) h
  where
    at : (x : Result (List LocalStep) (ℕ × Refusal)) (y : Result (List (List LocalStep)) (ℕ × Refusal))
        → ((later : List (List LocalStep)) → y ≡ Ok later → length later ≡ left) → and_later x y ≡ Ok lists → length lists ≡ suc left
    at (Err refusal) y n h = cc
    at (Ok steps) (Err refusal) n h = cc
    at (Ok steps) (Ok later) n h =
        let at_most = n later refl in
        let q : steps ∷ later ≡ lists = cc in
        let m = ap length q in
        omega (arith, at_most, m)
