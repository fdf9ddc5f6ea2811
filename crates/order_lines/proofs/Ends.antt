-- The first line `end` of a text.
use Rattle.std.proofs.Common.{◌≡◌, ℕ, ◌+◌, ◌≤◌, List, [], ◌∷◌, ◌++◌, length, true, false, refl, sym, ap, ◌∙◌, arith, codes, length-append}
use Rattle.std.specs.List.{join_with_byte}
use Rattle.std.specs.Str.{bytes_eq}
use Rattle.std.proofs.lemmas.List.Splits.{join_with_byte-slice_split}
use Rattle.coll_text.specs.Text.{lines}
use Rattle.order_lines.specs.Check.{description_bytes, line_after}
use Rattle.order_lines.proofs.Lines.{some_piece}

-- a line that is cut off has its LF after it
pub cut_long : (xs line ys : List ℕ) → lines xs ≡ line ∷ lines ys → length xs ≡ length line + 1 + length ys
cut_long xs line ys h =
    let p = some_piece ys in
    let whole : xs ≡ line ++ 10 ∷ ys =
    sym (join_with_byte-slice_split 10 xs) ∙ ap (join_with_byte 10) (h ∙ ap (λ (v : List (List ℕ)). line ∷ v) p.2)
    ∙ ap (λ (v : List ℕ). line ++ 10 ∷ v) (ap (join_with_byte 10) (sym p.2) ∙ join_with_byte-slice_split 10 ys) in
    let n = ap length whole in
    let m = length-append line (10 ∷ ys) in
    omega (arith, n, m)

pub last_long : (xs line : List ℕ) → lines xs ≡ line ∷ [] → length xs ≡ length line
last_long xs line h = ap length (sym (join_with_byte-slice_split 10 xs) ∙ ap (join_with_byte 10) h)

-- where so much of a text is left, from line k on, the first line `end` stands in it
pub record IsLeft (text rest : List ℕ) (k : ℕ) : Type 0 where
  pub bytes : description_bytes (lines text) + length rest ≡ length text + description_bytes (lines rest)
  pub line : line_after 1 (lines text) ≡ line_after k (lines rest)
  pub within : length rest ≤ length text
  pub at_most : k + length rest ≤ length text + 1

pub begins : (text : List ℕ) → IsLeft text text 1
begins text = record {
  bytes = omega arith;
  line = refl;
  within = omega arith;
  at_most = omega arith;
}

pub bytes_on : (xs line ys : List ℕ) → lines xs ≡ line ∷ lines ys → bytes_eq line (codes "end") ≡ false
    → description_bytes (lines xs) ≡ length line + 1 + description_bytes (lines ys)
unfolding description_bytes
bytes_on xs line ys h other = let p = some_piece ys in rw (h, p.2, other) refl

line_on : (xs line ys : List ℕ) (k : ℕ) → lines xs ≡ line ∷ lines ys → bytes_eq line (codes "end") ≡ false
    → line_after k (lines xs) ≡ line_after (k + 1) (lines ys)
unfolding line_after
line_on xs line ys k h other = let p = some_piece ys in rw (h, p.2, other) refl

pub bytes_at : (xs line ys : List ℕ) → lines xs ≡ line ∷ lines ys → bytes_eq line (codes "end") ≡ true
    → description_bytes (lines xs) ≡ length line + 1
unfolding description_bytes
bytes_at xs line ys h same = let p = some_piece ys in rw (h, p.2, same) refl

line_at : (xs line ys : List ℕ) (k : ℕ) → lines xs ≡ line ∷ lines ys → bytes_eq line (codes "end") ≡ true
    → line_after k (lines xs) ≡ k + 1
unfolding line_after
line_at xs line ys k h same = let p = some_piece ys in rw (h, p.2, same) refl

pub goes_on : (text xs line ys : List ℕ) (k : ℕ) → IsLeft text xs k → lines xs ≡ line ∷ lines ys → bytes_eq line (codes "end") ≡ false
    → IsLeft text ys (k + 1)
goes_on text xs line ys k left h other =
    let n = cut_long xs line ys h in
    let b = bytes_on xs line ys h other in
    let c = left.bytes in
    let w = left.within in
    let f = left.at_most in
    record {
      bytes = omega (arith, n, b, c);
      line = left.line ∙ line_on xs line ys k h other;
      within = omega (arith, n, w);
      at_most = omega (arith, n, f);
    }

-- what is found: how many bytes, and which line stands after them
pub record IsFound (text : List ℕ) (bytes line : ℕ) : Type 0 where
  pub front : bytes ≡ description_bytes (lines text)
  pub within : bytes ≤ length text
  pub next : line ≡ line_after 1 (lines text)
  pub at_most : line ≤ bytes + 1

pub stops : (text xs line ys : List ℕ) (k n : ℕ) → IsLeft text xs k → lines xs ≡ line ∷ lines ys → bytes_eq line (codes "end") ≡ true
    → n + length ys ≡ length text → IsFound text n (k + 1)
stops text xs line ys k n left h same e =
    let l = cut_long xs line ys h in
    let b = bytes_at xs line ys h same in
    let c = left.bytes in
    let f = left.at_most in
    record {
      front = omega (arith, l, b, c, e);
      within = omega (arith, e);
      next = sym (left.line ∙ line_at xs line ys k h same);
      at_most = omega (arith, l, f, e);
    }

bytes_all : (xs line : List ℕ) → lines xs ≡ line ∷ [] → description_bytes (lines xs) ≡ length xs
unfolding description_bytes
bytes_all xs line h = ap description_bytes h ∙ sym (last_long xs line h)

line_same : (xs line : List ℕ) (k : ℕ) → lines xs ≡ line ∷ [] → line_after k (lines xs) ≡ k
unfolding line_after
line_same xs line k h = rw h refl

pub breaks_off : (text xs line : List ℕ) (k : ℕ) → IsLeft text xs k → lines xs ≡ line ∷ [] → IsFound text (length text) k
breaks_off text xs line k left h =
    let b = bytes_all xs line h in
    let c = left.bytes in
    let f = left.at_most in
    record {
      front = omega (arith, b, c);
      within = omega arith;
      next = sym (left.line ∙ line_same xs line k h);
      at_most = omega (arith, f);
    }
