-- A history that grows by one step.
use Rattle.std.proofs.Common.{◌≡◌, ◌+◌, Bool, true, false, ◌||◌, List, [], ◌∷◌, ◌++◌, length, nat_lt, cond, count_by, map, zero-add}
use Rattle.std.proofs.Common.{add_assoc, refl, ap, ◌∙◌, sym, arith}
use Rattle.std.proofs.lemmas.List.{map-append}
use Rattle.std.proofs.lemmas.Bool.Decides.{nat_tests}
use Rattle.plan_core.proofs.Lists.{count-append, count-cons}
use Rattle.cuts.specs.histories.Lanes.{is_receipt}
use Rattle.cuts.specs.histories.History.{Local, is_start}
use Rattle.cuts.specs.histories.History.Local.{Start as Started, Receive as Received, Fire as Fired}
use Rattle.ptl_types.specs.declared.steps.LocalStep.{LocalStep}
use Rattle.rank_node.specs.Copies.{has_start, bytes_received, listed}

-- the steps are those of the list, before and after one more
pub listed-push : (es : List Local) (e : Local) (steps : List LocalStep) → map listed es ≡ steps →
    map listed (es ++ e ∷ []) ≡ steps ++ listed e ∷ []
listed-push es e steps is = map-append listed es (e ∷ []) ∙ ap (λ l. l ++ listed e ∷ []) is

-- ---- whether there was a start
pub or-false : (b : Bool) → (b || false) ≡ b
or-false true = refl
or-false false = refl

pub or-true : (b : Bool) → (b || true) ≡ true
or-true true = refl
or-true false = refl

start-cons : (x : Local) (es : List Local) → has_start (x ∷ es) ≡ (is_start x || has_start es)
start-cons x es = ap (nat_lt 0) (count-cons is_start x es) ∙ at (is_start x)
  where
    at : (b : Bool) → nat_lt 0 (cond b 1 0 + count_by is_start es) ≡ (b || nat_lt 0 (count_by is_start es))
    at true = grind (arith, nat_tests)
    at false = ap (nat_lt 0) (zero-add (count_by is_start es))

or-assoc : (a b c : Bool) → (a || (b || c)) ≡ ((a || b) || c)
or-assoc true b c = refl
or-assoc false b c = refl

pub started-push : (es : List Local) (e : Local) → has_start (es ++ e ∷ []) ≡ (has_start es || is_start e)
started-push [] e = start-cons e [] ∙ or-false (is_start e)
started-push (x ∷ es) e = start-cons x (es ++ e ∷ []) ∙ ap (λ b. is_start x || b) (started-push es e)
    ∙ or-assoc (is_start x) (has_start es) (is_start e) ∙ ap (λ b. b || is_start e) (sym (start-cons x es))

-- a start before the list, or in it
pub started-front : (b : Bool) (x : Local) (es : List Local) → ((b || is_start x) || has_start es) ≡ (b || has_start (x ∷ es))
started-front b x es = sym (or-assoc b (is_start x) (has_start es)) ∙ ap (λ c. b || c) (sym (start-cons x es))

-- ---- how many messages were received, and how many bytes
pub receipts-push : (es : List Local) (e : Local) → count_by is_receipt (es ++ e ∷ []) ≡ count_by is_receipt es + count_by is_receipt
    (e ∷ [])
receipts-push es e = count-append is_receipt es (e ∷ [])

pub bytes-push : (es : List Local) (e : Local) → bytes_received (es ++ e ∷ []) ≡ bytes_received es + bytes_received (e ∷ [])
bytes-push [] e = sym (zero-add (bytes_received (e ∷ [])))
bytes-push (Received s l m ∷ es) e = ap (λ n. length m.bytes + n) (bytes-push es e)
    ∙ sym (add_assoc (length m.bytes) (bytes_received es) (bytes_received (e ∷ [])))
bytes-push (Started ∷ es) e = bytes-push es e
bytes-push (Fired t ∷ es) e = bytes-push es e
