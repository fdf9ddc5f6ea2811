-- What a message's encoding reads as, and how what was read is encoded.
use Rattle.std.proofs.Common.{◌≡◌, ℕ, ◌+◌, ◌<◌, ◌≤◌, Bool, true, false, ltb, List, ◌∷◌, ◌++◌, length}
use Rattle.std.proofs.Common.{get_or, drop, Option, Some, None, is_some, Result, Ok, refl, sym, ap, ◌∙◌, arith, inl, inr}
use Rattle.std.specs.Int.{w32, w64, to_le_bytes}
use Rattle.std.proofs.lemmas.Bool.{le-ltb, cases_lt}
use Rattle.std.proofs.lemmas.List.{drop_more, take-append-drop, length-take, length-drop, get_or-drop, get_or-take, get_or_past, drop-drop}
use Rattle.std.proofs.lemmas.Nat.{le_bytes_4, le_bytes_8, from_le_bytes-to_le_bytes_4, from_le_bytes-to_le_bytes_8}
use Rattle.ptl_types.specs.declared.handles.Handle.{Handle}
use Rattle.ptl_types.specs.declared.headers.Header.{Header}
use Rattle.ptl_types.specs.Elements.{part}
use Rattle.ptl_types.specs.Messages.{Sent, message}
use Rattle.message_codec.specs.declared.fault.Fault.{Fault}
use Rattle.message_codec.specs.declared.decoding.Codes.{Codes}
use Rattle.message_codec.specs.Codes.{kind_code, ack_code, operation_code, swap_code, type_code, flag_code}
use Rattle.message_codec.specs.Encoding.{home_slot, home_stamp, encoding, HasEncoding}
use Rattle.message_codec.specs.Reading.{word_at, double_word_at, codes_at, home_at, header_at, header_with}
use Rattle.message_codec.specs.Reading.{codes_of, fault_of, judged, reading, CodesAt, HomeAt, HeaderAt}
use Rattle.message_codec.proofs.Tables.{kind-again, ack-again, operation-again, swap-again, type-again, flag-again}
use Rattle.message_codec.proofs.Rules.{sound}

abbrev pub IsBytes : List ℕ → Type 0
IsBytes bytes = (i : ℕ) → get_or bytes i 0 < 256

-- ---- a header is read where it lies

codes-read : (bytes : List ℕ) (k : Codes) → CodesAt bytes k → codes_at bytes ≡ Ok k
unfolding codes_at
codes-read bytes k at =
    rw (
      at.kind,
      kind-again k.kind,
      at.ok,
      flag-again k.ok,
      at.ack,
      ack-again k.ack,
      at.op,
      operation-again k.op,
      at.swap,
      swap-again k.swap,
      at.ty,
      type-again k.ty,
      at.home,
      flag-again k.home,
      at.reserved,
    ) refl

home-read : (is_there : Bool) (bytes : List ℕ) (home : Option Handle) → HomeAt is_there bytes home → home_at is_there bytes ≡ Ok home
unfolding home_at
home-read true bytes None at = let e = at.flag in absurd cc
home-read true bytes (Some a) at = rw (at.slot, at.stamp) refl
home-read false bytes None at = rw (at.slot, at.stamp) refl
home-read false bytes (Some a) at = let e = at.flag in absurd cc

with-read : (bytes : List ℕ) (h : Header) → HeaderAt bytes h → header_with (codes_of h) h.home bytes ≡ h
with-read bytes h at = rw (at.source, at.target, at.pt, at.match_bits, at.offset, at.length, at.hdr_data, at.operand, at.home_offset) refl

abbrev done : Header → Result Header Fault
done h = Ok h

is_read : (bytes : List ℕ) (h : Header) → HeaderAt bytes h → header_at bytes ≡ Ok h
unfolding header_at
is_read bytes h at =
    rw (codes-read bytes (codes_of h) at.codes, home-read (is_some h.home) bytes h.home at.home) (ap done (with-read bytes h at))

-- ---- what is encoded so is read

message_is_read : (bytes : List ℕ) (m : Sent) → 80 ≤ length bytes → HeaderAt bytes m.header → drop 80 bytes ≡ m.bytes
    → fault_of m.header (length m.bytes) ≡ None → reading bytes ≡ Ok m
unfolding reading
message_is_read bytes m long at behind none =
    let whole : ltb (length bytes) 80 ≡ false = le-ltb _ _ (omega arith) in
    rw (whole, is_read bytes m.header at, behind, none) refl

encoded : (m : Sent) → HasEncoding m → HeaderAt (encoding m) m.header
encoded m has =
    let h = m.header in
    let fit = has.fit in
    record {
      codes = record { kind = refl; ok = refl; ack = refl; op = refl; swap = refl; ty = refl; home = refl; reserved = refl };
      home = record {
        flag = refl;
        slot = from_le_bytes-to_le_bytes_4 (home_slot h.home) fit.slot;
        stamp = from_le_bytes-to_le_bytes_8 (home_stamp h.home) fit.stamp;
      };
      source = from_le_bytes-to_le_bytes_4 h.source fit.source;
      target = from_le_bytes-to_le_bytes_4 h.target fit.target;
      pt = from_le_bytes-to_le_bytes_4 h.pt fit.pt;
      match_bits = from_le_bytes-to_le_bytes_8 h.match_bits fit.match_bits;
      offset = from_le_bytes-to_le_bytes_8 h.offset fit.offset;
      length = from_le_bytes-to_le_bytes_8 h.length fit.length;
      hdr_data = from_le_bytes-to_le_bytes_8 h.hdr_data fit.hdr_data;
      operand = from_le_bytes-to_le_bytes_8 h.operand fit.operand;
      home_offset = from_le_bytes-to_le_bytes_8 h.home_offset fit.home_offset;
    }

pub again : (m : Sent) → HasEncoding m → reading (encoding m) ≡ Ok m
again m has =
    message_is_read (encoding m) m (omega arith) (encoded m has) refl (sound m.header m.bytes has.fills.0 has.fills.1)

-- what a header and the bytes behind it read as
pub reads-judged : (bytes : List ℕ) (h : Header) (list : List ℕ) → 80 ≤ length bytes → header_at bytes ≡ Ok h → drop 80 bytes ≡ list
    → reading bytes ≡ judged h list (fault_of h (length list))
unfolding reading
reads-judged bytes h list long at behind =
    let whole : ltb (length bytes) 80 ≡ false = le-ltb _ _ (omega arith) in
    rw (whole, at, behind) refl

-- ---- what was read is encoded so

IsBytes-part : (at n : ℕ) (xs : List ℕ) → at + n ≤ length xs → IsBytes xs → IsBytes (part at n xs)
IsBytes-part at n xs long fits i =
    elim (cases_lt i n) [
      | inl lt ↦ rw (get_or-take n (drop at xs) i 0 lt, get_or-drop at xs i 0) (fits (at + i))
      | inr le ↦ rw (get_or_past (part at n xs) i 0 (omega (arith, length-take n (drop at xs)))) (omega arith)
    ]

length-part : (at n : ℕ) (xs : List ℕ) → at + n ≤ length xs → length (part at n xs) ≡ n
length-part at n xs long = omega (arith, length-take n (drop at xs), length-drop at xs)

-- the list from `at` on is the part of n bytes, and what is behind it
drop-part : (at n : ℕ) (rest xs : List ℕ) → drop (at + n) xs ≡ rest → drop at xs ≡ part at n xs ++ rest
drop-part at n rest xs behind =
    sym (take-append-drop n (drop at xs)) ∙ ap (λ (l : List ℕ). part at n xs ++ l) (drop-drop n at xs ∙ behind)

code_at : (at code : ℕ) (rest xs : List ℕ) → at < length xs → get_or xs at 0 ≡ code → drop (at + 1) xs ≡ rest → drop at xs ≡ code ∷ rest
code_at at code rest xs within is behind =
    drop_more xs at 0 within ∙ ap (λ (l : List ℕ). get_or xs at 0 ∷ l) behind ∙ ap (λ (c : ℕ). c ∷ rest) is

word_is : (at n : ℕ) (rest xs : List ℕ) → IsBytes xs → at + 4 ≤ length xs → word_at at xs ≡ n
    → drop (at + 4) xs ≡ rest → drop at xs ≡ to_le_bytes w32 n ++ rest
word_is at n rest xs fits long is behind =
    let back : to_le_bytes w32 n ≡ part at 4 xs =
    le_bytes_4 (part at 4 xs) n (length-part at 4 xs long) (IsBytes-part at 4 xs long fits) (sym is) in
    drop-part at 4 rest xs behind ∙ ap (λ (l : List ℕ). l ++ rest) (sym back)

double_word_is : (at n : ℕ) (rest xs : List ℕ) → IsBytes xs → at + 8 ≤ length xs → double_word_at at xs ≡ n
    → drop (at + 8) xs ≡ rest → drop at xs ≡ to_le_bytes w64 n ++ rest
double_word_is at n rest xs fits long is behind =
    let back : to_le_bytes w64 n ≡ part at 8 xs =
    le_bytes_8 (part at 8 xs) n (length-part at 8 xs long) (IsBytes-part at 8 xs long fits) (sym is) in
    drop-part at 8 rest xs behind ∙ ap (λ (l : List ℕ). l ++ rest) (sym back)

pub is_encoding : (bytes : List ℕ) (h : Header) → 80 ≤ length bytes → IsBytes bytes → HeaderAt bytes h
    → bytes ≡ encoding (message h (drop 80 bytes))
is_encoding bytes h long fits at =
    let t72 = double_word_is 72 h.home_offset (drop 80 bytes) bytes fits (omega arith) at.home_offset refl in
    let t64 = double_word_is 64 (home_stamp h.home) _ bytes fits (omega arith) at.home.stamp t72 in
    let t56 = double_word_is 56 h.operand _ bytes fits (omega arith) at.operand t64 in
    let t48 = double_word_is 48 h.hdr_data _ bytes fits (omega arith) at.hdr_data t56 in
    let t40 = double_word_is 40 h.length _ bytes fits (omega arith) at.length t48 in
    let t32 = double_word_is 32 h.offset _ bytes fits (omega arith) at.offset t40 in
    let t24 = double_word_is 24 h.match_bits _ bytes fits (omega arith) at.match_bits t32 in
    let t20 = word_is 20 (home_slot h.home) _ bytes fits (omega arith) at.home.slot t24 in
    let t16 = word_is 16 h.pt _ bytes fits (omega arith) at.pt t20 in
    let t12 = word_is 12 h.target _ bytes fits (omega arith) at.target t16 in
    let t8 = word_is 8 h.source _ bytes fits (omega arith) at.source t12 in
    let t7 = code_at 7 0 _ bytes (omega arith) at.codes.reserved t8 in
    let t6 = code_at 6 (flag_code (is_some h.home)) _ bytes (omega arith) at.codes.home t7 in
    let t5 = code_at 5 (type_code h.ty) _ bytes (omega arith) at.codes.ty t6 in
    let t4 = code_at 4 (swap_code h.swap) _ bytes (omega arith) at.codes.swap t5 in
    let t3 = code_at 3 (operation_code h.op) _ bytes (omega arith) at.codes.op t4 in
    let t2 = code_at 2 (ack_code h.ack) _ bytes (omega arith) at.codes.ack t3 in
    let t1 = code_at 1 (flag_code h.ok) _ bytes (omega arith) at.codes.ok t2 in
    code_at 0 (kind_code h.kind) _ bytes (omega arith) at.codes.kind t1
