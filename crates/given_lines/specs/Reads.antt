-- What the reader answers.
use Rattle.std.specs.Prelude.{◌≡◌, ℕ, ◌+◌, List, [], ◌∷◌, Option, Result, Ok, Err}
use Rattle.std.specs.Borrow.{Bor}
use Rattle.coll_text.specs.Text.{lines}
use Rattle.given_lines.specs.declared.fault.GivenFault.{GivenFault}
use Rattle.given_lines.specs.declared.fault.GivenFault.TheVariants.{Refused, NoMemory}
use Rattle.given_lines.specs.declared.fault.GivenRefusal.TheVariants.{Unended}
use Rattle.given_lines.specs.declared.given.Counts.{Counts}
use Rattle.given_lines.specs.Given.{Read, rows}

-- Unless memory runs out, it is what reading gives, both ways.
abbrev pub Fails : {Y : Type 0} → GivenFault → Read Y → Type 0
Fails NoMemory read = Unit {0}
Fails (Refused line name) read = read ≡ Err (line, name)

abbrev pub Reads : {X Y : Type 0} → (X → Y) → Result X GivenFault → Read Y → Type 0
Reads view (Ok x) read = read ≡ Ok (view x)
Reads view (Err e) read = Fails e read

-- One thing a line, so many lines from line k on; and the line and the pieces that come next.
abbrev pub ReadsRows : {X A : Type 0} → (X → List A) → (ℕ → List (List ℕ) → Option A) → ℕ → ℕ → List (List ℕ) → Result X GivenFault → ℕ
    → List (List ℕ) → Type 0
ReadsRows view read count k pieces (Ok xs) next rest = (rows read count 0 k pieces ≡ Ok (view xs, rest)) × (next ≡ k + count)
ReadsRows view read count k pieces (Err e) next rest = Fails e (rows read count 0 k pieces)

-- the line that is taken is line k, unless the text has no LF
abbrev pub TakesLine : List ℕ → ℕ → Result (Bor (List ℕ)) GivenFault → List ℕ → ℕ → Type 0
TakesLine text k (Ok line) rest next = (lines text ≡ line.now ∷ lines rest) × (next ≡ k + 1)
TakesLine text k (Err e) rest next = ((piece : List ℕ) × (lines text ≡ piece ∷ [])) × (e ≡ Refused k Unended)

-- the head, and the line and the pieces that come next
abbrev pub ReadsHead : Read (Counts × List (List ℕ)) → ℕ → Result Counts GivenFault → ℕ → List (List ℕ) → Type 0
ReadsHead read k (Ok counts) next rest = (read ≡ Ok (counts, rest)) × (next ≡ k + 1)
ReadsHead read k (Err e) next rest = Fails e read
