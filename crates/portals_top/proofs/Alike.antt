-- Texts of which the same is read.
use Rattle.std.proofs.Common.{◌≡◌, ℕ, ◌<◌, List, length, Err, refl, sym, ◌∙◌, ap, inl, inr}
use Rattle.std.proofs.lemmas.Bool.{lt-ltb}
use Rattle.coll_lang.specs.declared.fault.Refusal.TheVariants.{TooLong}
use Rattle.coll_lang.specs.Language.{read}
use Rattle.coll_lang.specs.declared.whole.TheConstants.{LONGEST_TEXT}
use Rattle.json_lang.specs.Reading.{read_json}
use Rattle.order_lines.specs.Check.{read_check}
use Rattle.order_lines.specs.declared.checking.TheConstants.{LONGEST_CHECK}
use Rattle.run_text.proofs.Told.{AreAlike}
use Rattle.portals_top.specs.declared.words.Format.{Format}
use Rattle.portals_top.specs.declared.words.Format.TheVariants.{Text, Json}
use Rattle.portals_top.specs.Formats.{read_as}

-- one byte too many is enough
pub read-long : (format : Format) (text : List ℕ) → LONGEST_TEXT < length text → read_as format text ≡ Err (0, TooLong)
unfolding read read_json
read-long Text text long = rw (lt-ltb LONGEST_TEXT (length text) long) refl
read-long Json text long = rw (lt-ltb LONGEST_TEXT (length text) long) refl

pub check-long : (text : List ℕ) → LONGEST_CHECK < length text → read_check text ≡ Err (0, TooLong)
unfolding read_check
check-long text long = rw (lt-ltb LONGEST_CHECK (length text) long) refl

pub same-read : (format : Format) (xs ys : List ℕ) → AreAlike LONGEST_TEXT xs ys → read_as format xs ≡ read_as format ys
same-read format xs ys (inl same) = ap (read_as format) same
same-read format xs ys (inr long) = read-long format xs long.0 ∙ sym (read-long format ys long.1)

pub same-check : (xs ys : List ℕ) → AreAlike LONGEST_CHECK xs ys → read_check xs ≡ read_check ys
same-check xs ys (inl same) = ap read_check same
same-check xs ys (inr long) = check-long xs long.0 ∙ sym (check-long ys long.1)
