-- Data lines that are read before their turn comes.
use Rattle.std.proofs.Common.{◌≡◌, Bool, Result, ℕ, ◌+◌, ◌-◌, ◌<◌, ◌++◌, List, [], ◌∷◌, Ok, Err, true, false, suc, zero}
use Rattle.std.proofs.Common.{refl, drop, get_or, length, map, set, add-one, sym, ◌∙◌, ap, arith, subst, inl, inr, Option, None, IfSome}
use Rattle.std.proofs.lemmas.Bool.Decides.{eqb_tells}
use Rattle.std.proofs.lemmas.Grind.{get_or-set_at}
use Rattle.std.proofs.lemmas.List.{get_or-set_other, length-set}
use Rattle.std.proofs.Math.Seq.{drop-cons}
use Rattle.std.specs.Prelude.{if◌then◌else◌}
use denote.Ref.{Bor}
use Rattle.std.specs.List.{list_all}
use Rattle.ptl_types.specs.declared.elements.ElemType.{ElemType}
use Rattle.coll_text.specs.Text.{lines, words}
use Rattle.coll_text.specs.Values.{data_line}
use Rattle.coll_lang.specs.declared.fault.LineFault.{LineFault}
use Rattle.coll_lang.specs.declared.fault.LineFault.TheVariants as faults
use Rattle.coll_lang.specs.declared.fault.Refusal.{Refusal}
use Rattle.coll_lang.specs.declared.fault.Refusal.TheVariants.{BadByte}
use Rattle.coll_lang.specs.declared.stage.Stage.{Stage}
use Rattle.coll_lang.specs.declared.stage.Stage.TheVariants.{Data}
use Rattle.coll_lang.specs.Answers.{Fails, Gives}
use Rattle.coll_lang.specs.Blocks.{AreSaid, data_said}
use Rattle.coll_lang.specs.Language.{Past, ◌>>=◌, data_due, with_values}
use Rattle.coll_lang.specs.Language.{is_allowed, is_finished, judge, line_at, read_from, unless_flawed, values_line}
use Rattle.coll_lang.specs.Verdicts as verdicts
use Rattle.coll_lang.specs.Verdicts.{fault_at}
use Rattle.coll_lang.proofs.Reading.{some_piece}

-- at its stage a data line gives its values, where all its bytes are allowed
by_stage : (allowed : Bool) (past : Past) (left : ℕ) (ty : ElemType) (count : ℕ) (line : List ℕ) (stage : Stage)
    → stage ≡ Data left ty count
    → (if allowed then line_at stage past line else Err BadByte)
    ≡ ((if allowed then unless_flawed (data_line ty count (words line)) else Err BadByte)
    >>= λ bytes. Ok (with_values past left ty count bytes))
unfolding line_at values_line
by_stage true past left ty count line stage e = rw e refl
by_stage false past left ty count line stage e = refl

-- a data line is judged by what it says by itself
pub judged_data : (past : Past) (left : ℕ) (ty : ElemType) (count : ℕ) (line : List ℕ) → past.stage ≡ Data left ty count
    → judge past line ≡ (data_said ty count line >>= λ bytes. Ok (with_values past left ty count bytes))
unfolding judge
judged_data past left ty count line e = by_stage (list_all is_allowed line) past left ty count line past.stage e

-- so it is refused as that is
pub data_fails : (past : Past) (left : ℕ) (ty : ElemType) (count : ℕ) (line : List ℕ) (fault : LineFault)
    → past.stage ≡ Data left ty count → Fails fault (data_said ty count line) → Fails fault (judge past line)
data_fails past left ty count line (faults.Refused name) e h = rw (judged_data past left ty count line e, h) refl
data_fails past left ty count line faults.NoMemory e h = tt

-- or gives the same values
pub data_gives : (past : Past) (left : ℕ) (ty : ElemType) (count : ℕ) (line bytes : List ℕ) → past.stage ≡ Data left ty count
    → data_said ty count line ≡ Ok bytes → judge past line ≡ Ok (with_values past left ty count bytes)
data_gives past left ty count line bytes e h = rw (judged_data past left ty count line e, h) refl

-- after it one line fewer is due
pub due_after : (past next : Past) (left : ℕ) (ty : ElemType) (count : ℕ) (line : List ℕ) → past.stage ≡ Data left ty count
    → judge past line ≡ Ok next → next.stage ≡ data_due (left - 1) ty count
due_after past next left ty count line e h =
    due (data_said ty count line) (sym (judged_data past left ty count line e) ∙ h)
  where
    due : (said : Result (List ℕ) Refusal) → (said >>= λ bytes. Ok (with_values past left ty count bytes)) ≡ Ok next
        → next.stage ≡ data_due (left - 1) ty count
    due (Ok bytes) h = cc
    due (Err name) h = cc

-- a piece stands after any lines
some_more : (xs : List (List ℕ)) (bytes : List ℕ) → (piece : List ℕ) × (pieces : List (List ℕ)) × (xs ++ lines bytes ≡ piece ∷ pieces)
some_more [] bytes = some_piece 0 bytes
some_more (x ∷ xs) bytes = (x, xs ++ lines bytes, refl)

-- reading goes on after a line, before more lines
pub goes_on_by : (past next : Past) (k : ℕ) (line : List ℕ) (xs : List (List ℕ)) (bytes : List ℕ)
    → is_finished past.stage ≡ false → judge past line ≡ Ok next
    → read_from past k (line ∷ (xs ++ lines bytes)) ≡ read_from next (k + 1) (xs ++ lines bytes)
unfolding read_from
goes_on_by past next k line xs bytes going taken =
    let h = some_more xs bytes in
    rw (h.2, going, taken) refl

-- or fails there
pub fails_by : (past : Past) (fault : LineFault) (k : ℕ) (line : List ℕ) (xs : List (List ℕ)) (bytes : List ℕ)
    → is_finished past.stage ≡ false → Fails fault (judge past line)
    → verdicts.Fails (fault_at k fault) (read_from past k (line ∷ (xs ++ lines bytes)))
unfolding read_from
fails_by past (faults.Refused name) k line xs bytes going taken =
    let h = some_more xs bytes in
    rw (h.2, going, taken) refl
fails_by past faults.NoMemory k line xs bytes going taken = tt

-- the next line is taken
pub next_one : {A : Type 0} (f : A → List ℕ) (xs : List A) (i : ℕ) (d : A) (ys : List (List ℕ)) → i < length xs
    → map f (drop i xs) ++ ys ≡ f (get_or xs i d) ∷ (map f (drop (i + 1) xs) ++ ys)
next_one f xs i d ys h = rw (add-one, drop-cons xs i d) refl

-- the line of number i is taken, and those after it are left
pub goes_on_next : (past next : Past) (k i : ℕ) (xs : List (Bor (List ℕ))) (d : Bor (List ℕ)) (bytes : List ℕ) → i < length xs
    → is_finished past.stage ≡ false → judge past (get_or xs i d).now ≡ Ok next
    → read_from past (k + i) (map (λ (x : Bor (List ℕ)). x.now) (drop i xs) ++ lines bytes)
    ≡ read_from next (k + (i + 1)) (map (λ (x : Bor (List ℕ)). x.now) (drop (i + 1) xs) ++ lines bytes)
goes_on_next past next k i xs d bytes within going taken =
    let rest = map (λ (x : Bor (List ℕ)). x.now) (drop (i + 1) xs) in
    let count : k + i + 1 ≡ k + (i + 1) = omega arith in
    rw (next_one (λ (x : Bor (List ℕ)). x.now) xs i d (lines bytes) within)
    (subst (λ n. read_from past (k + i) ((get_or xs i d).now ∷ (rest ++ lines bytes)) ≡ read_from next n (rest ++ lines bytes)) count
    (goes_on_by past next (k + i) (get_or xs i d).now rest bytes going taken))

-- or is refused
pub fails_next : (past : Past) (fault : LineFault) (k i : ℕ) (xs : List (Bor (List ℕ))) (d : Bor (List ℕ)) (bytes : List ℕ)
    → i < length xs → is_finished past.stage ≡ false → Fails fault (judge past (get_or xs i d).now)
    → verdicts.Fails (fault_at k fault) (read_from past k (map (λ (x : Bor (List ℕ)). x.now) (drop i xs) ++ lines bytes))
fails_next past fault k i xs d bytes within going fails =
    rw (next_one (λ (x : Bor (List ℕ)). x.now) xs i d (lines bytes) within)
    (fails_by past fault k (get_or xs i d).now (map (λ (x : Bor (List ℕ)). x.now) (drop (i + 1) xs)) bytes going fails)

-- while lines are due, the next one is a data line too
pub due_next : (past next : Past) (left i : ℕ) (ty : ElemType) (count : ℕ) (line : List ℕ)
    → i + 1 < left → past.stage ≡ Data (left - i) ty count → judge past line ≡ Ok next → next.stage ≡ Data (left - (i + 1)) ty count
due_next past next left i ty count line more e taken =
    due_after past next (left - i) ty count line e taken ∙ due (left - i - 1) (left - (i + 1)) (omega arith) (omega arith)
  where
    due : (n m : ℕ) → 0 < n → n ≡ m → data_due n ty count ≡ Data m ty count
    due zero m some_left e = absurd (omega arith)
    due (suc n) m some_left e = ap (λ k. Data k ty count) e

-- what stands at the places is said by the lines, also where one was taken out
pub said_but_one : (ty : ElemType) (count : ℕ) (xs : List (Bor (List ℕ))) (places : List (Option (Result (List ℕ) LineFault))) (i : ℕ)
    (left : Option (Result (List ℕ) LineFault)) → left ≡ None → AreSaid ty count xs places → AreSaid ty count xs (set places i left)
said_but_one ty count xs places i left none said = λ j d e within.
    let Said = λ (place : Option (Result (List ℕ) LineFault)).
    IfSome place (λ x. Gives (λ list. list) x (data_said ty count (get_or xs j e).now)) in
    let inside : j < length places = omega (arith, length-set places i left) in
    elim (eqb_tells j i) [
      | inl q ↦ subst Said (sym (get_or-set_at places i j left d q.1 (omega (arith, q.1)) ∙ none)) tt
      | inr q ↦ subst Said (sym (get_or-set_other places i j left d q.1)) (said j d e inside)
    ]
