-- The table of what has a line.
use Rattle.std.proofs.Common.{ℕ, Bool, true, false, cond, not, ◌&&◌, ◌||◌, ◌≡◌, ◌+◌, ◌*◌, ◌<◌, ◌==◌, List, [], Some, None}
use Rattle.std.proofs.Common.{refl, ap, ap₂, ◌∙◌, sym, length, get_or, set, take, ltb, inl, inr, arith}
use Rattle.std.proofs.lemmas.Bool.{and_from, and_left, and_parts, cases_Bool, cases_eq, eqb-true, eq-eqb, false_from_ne_true, false≢true}
use Rattle.std.proofs.lemmas.Bool.{and_right, ltb-true, or_right}
use Rattle.std.proofs.lemmas.List.{get_or-set_other, get_or-set_same}
use Rattle.std.proofs.lemmas.List.Folds.{list_any_more}
use Rattle.coll_shape.specs.Outline.{Outline}
use Rattle.given_lines.specs.declared.given.Mark.{Mark}
use Rattle.mark_judge.specs.declared.flaw.Due.{Due}
use Rattle.mark_judge.specs.declared.flaw.Due.TheVariants.{Result, Enter, Leave}
use Rattle.mark_judge.specs.declared.flaw.MarkFlaw.TheVariants.{BadResult}
use Rattle.mark_judge.specs.Due.{due_of, is_good, is_named, is_same, mark_at, no_mark}
use Rattle.mark_judge.specs.Judged.{line_flaw}
use Rattle.mark_judge.specs.Tables.{AreNamed, has, is_small, place_of, places}
use Rattle.mark_judge.proofs.Tests.{or-false}
use Rattle.plan_core.specs.Plan.{Plan}

-- ---- two are for the same
pub same-is : (d e : Due) → is_same d e ≡ true → d ≡ e
same-is (Result b r) (Result a q) t = let h = and_parts (b == a) (r == q) t in ap₂ Result (eqb-true b a h.0) (eqb-true r q h.1)
same-is (Result b r) (Enter s q) t = absurd (false≢true t)
same-is (Result b r) (Leave s q) t = absurd (false≢true t)
same-is (Enter s r) (Result a q) t = absurd (false≢true t)
same-is (Enter s r) (Enter u q) t = let h = and_parts (s == u) (r == q) t in ap₂ Enter (eqb-true s u h.0) (eqb-true r q h.1)
same-is (Enter s r) (Leave u q) t = absurd (false≢true t)
same-is (Leave s r) (Result a q) t = absurd (false≢true t)
same-is (Leave s r) (Enter u q) t = absurd (false≢true t)
same-is (Leave s r) (Leave u q) t = let h = and_parts (s == u) (r == q) t in ap₂ Leave (eqb-true s u h.0) (eqb-true r q h.1)

pub same_itself : (d : Due) → is_same d d ≡ true
same_itself (Result b r) = and_from (b == b) (r == r) (eq-eqb b b refl) (eq-eqb r r refl)
same_itself (Enter s r) = and_from (s == s) (r == r) (eq-eqb s s refl) (eq-eqb r r refl)
same_itself (Leave s r) = and_from (s == s) (r == r) (eq-eqb s s refl) (eq-eqb r r refl)

pub is-same : (d e : Due) → d ≡ e → is_same d e ≡ true
is-same d e q = ap (λ x. is_same d x) (sym q) ∙ same_itself d

-- ---- places
-- a row and a rank of a thing within the limits
row_low : (n k r : ℕ) → (ltb n k && ltb r 256) ≡ true → (n < k) × (r < 256)
row_low n k r t = let h = and_parts (ltb n k) (ltb r 256) t in (ltb-true n k h.0, ltb-true r 256 h.1)

pub place_low : (d : Due) → is_small d ≡ true → place_of d < places
place_low (Result b r) t = let h = row_low b 128 r t in let x = h.0 in let y = h.1 in omega (arith, x, y)
place_low (Enter s r) t = let h = row_low s 64 r t in let x = h.0 in let y = h.1 in omega (arith, x, y)
place_low (Leave s r) t = let h = row_low s 64 r t in let x = h.0 in let y = h.1 in omega (arith, x, y)

-- two rows with a rank each that have one place
one_row : (m n r q : ℕ) → r < 256 → q < 256 → m * 256 + r ≡ n * 256 + q → m ≡ n
one_row m n r q h k e = omega (arith, h, k, e)

one_rank : (m n r q : ℕ) → r < 256 → q < 256 → m * 256 + r ≡ n * 256 + q → r ≡ q
one_rank m n r q h k e = omega (arith, h, k, e)

pub one_place : (d e : Due) → is_small d ≡ true → is_small e ≡ true → place_of d ≡ place_of e → d ≡ e
one_place (Result b r) (Result a q) t u z =
    let h = row_low b 128 r t in let k = row_low a 128 q u in
    ap₂ Result (one_row b a r q h.1 k.1 z) (one_rank b a r q h.1 k.1 z)
one_place (Result b r) (Enter s q) t u z =
    let h = row_low b 128 r t in let k = row_low s 64 q u in
    let x = h.0 in let y = one_row b (128 + s) r q h.1 k.1 z in absurd (omega (arith, x, y))
one_place (Result b r) (Leave s q) t u z =
    let h = row_low b 128 r t in let k = row_low s 64 q u in
    let x = h.0 in let y = one_row b (128 + 64 + s) r q h.1 k.1 z in absurd (omega (arith, x, y))
one_place (Enter s r) (Result b q) t u z =
    let h = row_low s 64 r t in let k = row_low b 128 q u in
    let x = k.0 in let y = one_row (128 + s) b r q h.1 k.1 z in absurd (omega (arith, x, y))
one_place (Enter s r) (Enter v q) t u z =
    let h = row_low s 64 r t in let k = row_low v 64 q u in
    let y = one_row (128 + s) (128 + v) r q h.1 k.1 z in
    ap₂ Enter (omega (arith, y)) (one_rank (128 + s) (128 + v) r q h.1 k.1 z)
one_place (Enter s r) (Leave v q) t u z =
    let h = row_low s 64 r t in let k = row_low v 64 q u in
    let x = h.0 in let y = one_row (128 + s) (128 + 64 + v) r q h.1 k.1 z in absurd (omega (arith, x, y))
one_place (Leave s r) (Result b q) t u z =
    let h = row_low s 64 r t in let k = row_low b 128 q u in
    let x = k.0 in let y = one_row (128 + 64 + s) b r q h.1 k.1 z in absurd (omega (arith, x, y))
one_place (Leave s r) (Enter v q) t u z =
    let h = row_low s 64 r t in let k = row_low v 64 q u in
    let x = k.0 in let y = one_row (128 + 64 + s) (128 + v) r q h.1 k.1 z in absurd (omega (arith, x, y))
one_place (Leave s r) (Leave v q) t u z =
    let h = row_low s 64 r t in let k = row_low v 64 q u in
    let y = one_row (128 + 64 + s) (128 + 64 + v) r q h.1 k.1 z in
    ap₂ Leave (omega (arith, y)) (one_rank (128 + 64 + s) (128 + 64 + v) r q h.1 k.1 z)

-- ---- one noted
pub has_noted : (named : List Bool) (e : Due) → length named ≡ places → is_small e ≡ true → (d : Due)
    → has (set named (place_of e) true) d ≡ (has named d || is_same d e)
has_noted named e room small d =
    elim (cases_Bool (is_small d)) [
      | inl t ↦ elim (cases_eq (place_of d) (place_of e)) [
        | inl z ↦ and_from (is_small d) (get_or (set named (place_of e) true) (place_of d) false) t
            (ap (λ n. get_or (set named (place_of e) true) n false) z
            ∙ get_or-set_same named (place_of e) true false (let low = place_low e small in omega (arith, low, room)))
            ∙ sym (or_right (has named d) (is_same d e) (is-same d e (one_place d e t small z)))
        | inr ne ↦ ap (λ b. is_small d && b) (get_or-set_other named (place_of e) (place_of d) true false ne)
            ∙ sym (ap (λ b. has named d || b)
            (false_from_ne_true (is_same d e) (λ u. ne (ap place_of (same-is d e u)))) ∙ or-false (has named d))
      ]
      | inr f ↦ and_left (is_small d) (get_or (set named (place_of e) true) (place_of d) false) f
          ∙ sym (ap₂ (λ a b. a || b) (and_left (is_small d) (get_or named (place_of d) false) f)
          (false_from_ne_true (is_same d e)
          (λ u. false≢true (sym f ∙ ap is_small (same-is d e u) ∙ small))))
    ]

-- the table with one line more
pub named_more : (ms : List Mark) (i : ℕ) (named : List Bool) (m : Mark) → m ≡ mark_at ms i → i < length ms → length named ≡ places
    → AreNamed (take i ms) named → is_small (due_of m) ≡ true → AreNamed (take (i + 1) ms) (set named (place_of (due_of m)) true)
named_more ms i named m is h room before small d =
    has_noted named (due_of m) room small d
    ∙ ap₂ (λ a b. a || b) (before d) (ap (λ x. is_same d (due_of x)) is)
    ∙ sym (list_any_more (λ x. is_same d (due_of x)) ms i no_mark h)

-- ---- the line at a place
test_at : (p : Plan) (o : Outline) (ms : List Mark) (i : ℕ) (named : List Bool) (m : Mark) (b : Bool) → m ≡ mark_at ms i
    → AreNamed (take i ms) named → b ≡ (is_good p o m && not (has named (due_of m)))
    → b ≡ (is_good p o (mark_at ms i) && not (is_named (take i ms) (due_of (mark_at ms i))))
test_at p o ms i named m b is before e =
    e ∙ ap (λ x. is_good p o x && not (has named (due_of x))) is
    ∙ ap (λ t. is_good p o (mark_at ms i) && not t) (before (due_of (mark_at ms i)))

pub line_right : (p : Plan) (o : Outline) (ms : List Mark) (i : ℕ) (named : List Bool) (m : Mark) → m ≡ mark_at ms i
    → AreNamed (take i ms) named → true ≡ (is_good p o m && not (has named (due_of m))) → None ≡ line_flaw p o ms i
line_right p o ms i named m is before e =
    ap (λ (t : Bool). cond t None (Some (BadResult i))) (test_at p o ms i named m true is before e)

pub line_wrong : (p : Plan) (o : Outline) (ms : List Mark) (i : ℕ) (named : List Bool) (m : Mark) → m ≡ mark_at ms i
    → AreNamed (take i ms) named → false ≡ (is_good p o m && not (has named (due_of m))) → Some (BadResult i) ≡ line_flaw p o ms i
line_wrong p o ms i named m is before e =
    ap (λ (t : Bool). cond t None (Some (BadResult i))) (test_at p o ms i named m false is before e)

-- ---- a table of nothing
pub none_named : (named : List Bool) → ((k : ℕ) → k < places → get_or named k false ≡ false) → AreNamed [] named
none_named named none d =
    elim (cases_Bool (is_small d)) [
      | inl t ↦ and_right (is_small d) (get_or named (place_of d) false) (none (place_of d) (place_low d t))
      | inr f ↦ and_left (is_small d) (get_or named (place_of d) false) f
    ]
