-- The lines of a text of which a part was read.
use Rattle.std.proofs.Common.{◌≡◌, ℕ, ◌+◌, ◌<◌, List, [], ◌∷◌, ◌++◌, length, Bool, true, false, Option, Some, None, refl, sym, ap, ◌∙◌}
use Rattle.std.proofs.Common.{append_assoc, arith, subst, zero, suc}
use Rattle.std.specs.Prelude.{◌==◌, All}
use Rattle.std.proofs.lemmas.Bool.Decides.{nat_tests}
use Rattle.std.proofs.lemmas.List.{append-nil}
use Rattle.std.proofs.lemmas.List.Elements.{All-append}
use Rattle.std.proofs.lemmas.List.Splits.{slice_split_none}
use Rattle.coll_text.specs.Text.{lines}
use Rattle.coll_text.proofs.ReadBack.{line_of}
use Rattle.port_io.specs.Ends.{GivesFront, IsAtEnd}
use Rattle.run_text.specs.Ending.{IsTold}
use Rattle.log_top.specs.Reading.{NoBreak}

-- a line that LF ended
pub after_line : (held bytes rest line left : List ℕ) → NoBreak line → held ++ bytes ≡ line ++ 10 ∷ left
    → lines (held ++ (bytes ++ rest)) ≡ line ∷ lines (left ++ rest)
after_line held bytes rest line left free e =
    ap lines (sym (append_assoc held bytes rest) ∙ ap (λ x. x ++ rest) e ∙ append_assoc line (10 ∷ left) rest)
    ∙ line_of line (left ++ rest) free

-- what stands behind the last LF
pub last_line : (line : List ℕ) → NoBreak line → lines line ≡ line ∷ []
last_line line free = slice_split_none (λ b. b == 10) line free

-- of a text that begins without LF the first piece begins so
pub record Begins (line text : List ℕ) : Type 0 where
  pub more : List ℕ
  pub pieces : List (List ℕ)
  pub are : lines text ≡ (line ++ more) ∷ pieces

pub free_one : (b : ℕ) → b == 10 ≡ false → NoBreak (b ∷ [])
free_one b e zero d lt = e
free_one b e (suc k) d lt = absurd (omega arith)

pub begins : (line rest : List ℕ) → NoBreak line → Begins line (line ++ rest)
begins line [] free = record {
  more = [];
  pieces = [];
  are = ap lines (append-nil line) ∙ last_line line free ∙ ap (λ (x : List ℕ). x ∷ []) (sym (append-nil line));
}
begins line (b ∷ bs) free = at (b == 10) refl (λ (further : NoBreak (line ++ b ∷ [])). begins (line ++ b ∷ []) bs further)
  where
    at :
        (t : Bool) →
        b == 10 ≡ t →
        (NoBreak (line ++ b ∷ []) → Begins (line ++ b ∷ []) ((line ++ b ∷ []) ++ bs)) →
        Begins line (line ++ b ∷ bs)
    at true is on =
        let ten : b ≡ 10 = grind (arith, nat_tests, is) in
        record {
          more = [];
          pieces = lines bs;
          are = ap (λ (x : ℕ). lines (line ++ x ∷ bs)) ten ∙ line_of line bs free
              ∙ ap (λ (x : List ℕ). x ∷ lines bs) (sym (append-nil line));
        }
    at false is on =
        let one = append_assoc line (b ∷ []) bs in
        let later = on (All-append (λ b. b == 10 ≡ false) line (b ∷ []) free (free_one b is)) in
        record {
          more = b ∷ later.more;
          pieces = later.pieces;
          are = ap lines (sym one) ∙ later.are ∙ ap (λ (x : List ℕ). x ∷ later.pieces) (append_assoc line (b ∷ []) later.more);
        }

pub begins_after : (held bytes rest line left : List ℕ) → NoBreak line → held ++ bytes ≡ line ++ left
    → Begins line (held ++ (bytes ++ rest))
begins_after held bytes rest line left free e =
    subst (Begins line) (sym (sym (append_assoc held bytes rest) ∙ ap (λ x. x ++ rest) e ∙ append_assoc line left rest))
    (begins line (left ++ rest) free)

-- ---- the bytes of a source, as far as it tells them

pub record TellsRest (a b : Option (List ℕ)) (past : List ℕ) : Type 0 where
  pub rest : List ℕ
  pub all : IsTold a (past ++ rest)
  pub left : IsTold b rest

pub tells_rest : (a b : Option (List ℕ)) (past : List ℕ) → GivesFront a b past → TellsRest a b past
tells_rest None b past front = record { rest = []; all = tt; left = none b front }
  where
    none : (b : Option (List ℕ)) → b ≡ None → IsTold b []
    none None e = tt
    none (Some x) e = absurd cc
tells_rest (Some all) None past front = absurd front
tells_rest (Some all) (Some rest) past front = record { rest = rest; all = front; left = refl }

-- and at its end
pub tells_end : (a b : Option (List ℕ)) (past : List ℕ) → GivesFront a b past → IsAtEnd b → IsTold a (past ++ []) × IsTold b []
tells_end None None past front end = (tt, tt)
tells_end None (Some x) past front end = (tt, end)
tells_end (Some all) None past front end = absurd front
tells_end (Some all) (Some rest) past front end = (front ∙ ap (λ r. past ++ r) end, end)
