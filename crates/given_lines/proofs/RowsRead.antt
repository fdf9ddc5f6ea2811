-- Lines of one kind, one after the other.
use Rattle.std.proofs.Common.{◌≡◌, ℕ, suc, ◌+◌, ◌-◌, ◌<◌, ◌≤◌, List, [], ◌∷◌, ◌++◌, Option, Some, None}
use Rattle.std.proofs.Common.{Ok, Err, refl, sym, ap, ◌∙◌, arith, append_assoc}
use Rattle.std.proofs.lemmas.List.{append-nil}
use Rattle.coll_text.specs.Text.{lines, words}
use Rattle.coll_lang.proofs.Reading.{some_piece}
use Rattle.given_lines.specs.declared.fault.GivenFault.{GivenFault}
use Rattle.given_lines.specs.declared.fault.GivenFault.TheVariants.{Refused}
use Rattle.given_lines.specs.declared.fault.GivenRefusal.TheVariants.{BadPlan, Unended}
use Rattle.given_lines.specs.Given.{Read, and_then, rows}
use Rattle.given_lines.specs.Reads.{Fails}

-- what is read after these
abbrev pub after : {A : Type 0} → List A → Read (List A × List (List ℕ)) → Read (List A × List (List ℕ))
after done read = and_then read (λ more. Ok (done ++ more.0, more.1))

-- all lines, where the first n say these things, and what is left begins with line k
unfoldable pub left_over : {A : Type 0} → (ℕ → List (List ℕ) → Option A) → ℕ → ℕ → ℕ → List A → List (List ℕ)
    → Read (List A × List (List ℕ))
left_over read count n k done pieces = after done (rows read (count - n) n k pieces)

none_yet : {A : Type 0} (r : Read (List A × List (List ℕ))) → r ≡ after [] r
none_yet (Err refusal) = refl
none_yet (Ok more) = refl

pub begins : {A : Type 0} (read : ℕ → List (List ℕ) → Option A) (count k : ℕ) (pieces : List (List ℕ))
    → rows read count 0 k pieces ≡ left_over read count 0 k [] pieces
unfolding left_over
begins read count k pieces =
    let n : count ≡ count - 0 = omega arith in
    ap (λ left. rows read left 0 k pieces) n ∙ none_yet (rows read (count - 0) 0 k pieces)

one_less : (count n : ℕ) → n < count → count - n ≡ suc (count - (n + 1))
one_less count n lt = omega (arith, lt)

one_more : {A : Type 0} (done : List A) (x : A) (r : Read (List A × List (List ℕ)))
    → after done (and_then r (λ more. Ok (x ∷ more.0, more.1))) ≡ after (done ++ x ∷ []) r
one_more {A} done x (Err refusal) = refl
one_more {A} done x (Ok more) = ap (λ (l : List A). Ok (l, more.1)) (sym (append_assoc done (x ∷ []) more.0))

pub turn : {A : Type 0} (read : ℕ → List (List ℕ) → Option A) (count n k next : ℕ) (done more : List A) (text line rest : List ℕ) (x : A)
    (all : Read (List A × List (List ℕ))) → n < count → all ≡ left_over read count n k done (lines text)
    → lines text ≡ line ∷ lines rest → read n (words line) ≡ Some x → next ≡ k + 1 → more ≡ done ++ x ∷ []
    → all ≡ left_over read count (n + 1) next more (lines rest)
unfolding left_over rows
turn read count n k next done more text line rest x all lt so_far cut said number grew =
    let p = some_piece 0 rest in
    let step : left_over read count n k done (line ∷ p.0 ∷ p.1) ≡ left_over read count (n + 1) (k + 1) (done ++ x ∷ []) (p.0 ∷ p.1) =
    rw (one_less count n lt, said) (one_more done x (rows read (count - (n + 1)) (n + 1) (k + 1) (p.0 ∷ p.1))) in
    rw (number, grew, p.2) (so_far ∙ ap (left_over read count n k done) (cut ∙ ap (λ (l : List (List ℕ)). line ∷ l) p.2) ∙ step)

pub is_bad : {A : Type 0} (read : ℕ → List (List ℕ) → Option A) (count n k : ℕ) (done : List A) (text line rest : List ℕ)
    (all : Read (List A × List (List ℕ))) → n < count → all ≡ left_over read count n k done (lines text)
    → lines text ≡ line ∷ lines rest → read n (words line) ≡ None → all ≡ Err (k, BadPlan)
unfolding left_over rows
is_bad read count n k done text line rest all lt so_far cut none =
    let p = some_piece 0 rest in
    let step : left_over read count n k done (line ∷ p.0 ∷ p.1) ≡ Err (k, BadPlan) = rw (one_less count n lt, none) refl in
    so_far ∙ ap (left_over read count n k done) (cut ∙ ap (λ (l : List (List ℕ)). line ∷ l) p.2) ∙ step

pub no_line : {A : Type 0} (read : ℕ → List (List ℕ) → Option A) (count n k : ℕ) (done : List A) (text : List ℕ)
    (all : Read (List A × List (List ℕ))) (fault : GivenFault) → n < count → all ≡ left_over read count n k done (lines text)
    → ((piece : List ℕ) × (lines text ≡ piece ∷ [])) × (fault ≡ Refused k Unended) → Fails fault all
unfolding left_over rows
no_line read count n k done text all fault lt so_far missing =
    let step : left_over read count n k done (missing.0.0 ∷ []) ≡ Err (k, Unended) = rw (one_less count n lt) refl in
    rw missing.1 (so_far ∙ ap (left_over read count n k done) missing.0.1 ∙ step)

none_left : (count n : ℕ) → count ≤ n → count - n ≡ 0
none_left count n le = omega (arith, le)

pub ends : {A : Type 0} (read : ℕ → List (List ℕ) → Option A) (count n k : ℕ) (done : List A) (pieces : List (List ℕ)) → count ≤ n
    → left_over read count n k done pieces ≡ Ok (done, pieces)
unfolding left_over rows
ends {A} read count n k done pieces le = rw (none_left count n le) (ap (λ (l : List A). Ok (l, pieces)) (append-nil done))
