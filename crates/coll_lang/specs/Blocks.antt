-- Data lines that are read before their turn comes.
use Rattle.std.specs.Prelude.{ℕ, ◌≡◌, ◌<◌, ◌≤◌, ◌+◌, List, ◌++◌, Option, Result, Ok, Err, IfSome, if◌then◌else◌, length, slice_index_or}
use Rattle.std.specs.List.{list_all}
use denote.Ref.{Bor}
use Rattle.ptl_types.specs.declared.elements.ElemType.{ElemType}
use Rattle.coll_text.specs.Text.{lines, words}
use Rattle.coll_text.specs.Values.{data_line}
use Rattle.coll_lang.specs.Answers.{Gives}
use Rattle.coll_lang.specs.Language.{Past, is_allowed, read_from, unless_flawed}
use Rattle.coll_lang.specs.Verdicts.{Fails}
use Rattle.coll_lang.specs.declared.fault.ParseFault.{ParseFault}
use Rattle.coll_lang.specs.declared.fault.LineFault.{LineFault}
use Rattle.coll_lang.specs.declared.fault.Refusal.{Refusal}
use Rattle.coll_lang.specs.declared.fault.Refusal.TheVariants.{BadByte}

-- what a data line says by itself: the bytes of its values, or its refusal
abbrev pub data_said : ElemType → ℕ → List ℕ → Result (List ℕ) Refusal
data_said ty count line = if list_all is_allowed line then unless_flawed (data_line ty count (words line)) else Err BadByte

-- what was read at each place, where something was, is what the line of that number says
abbrev pub AreSaid : ElemType → ℕ → List (Bor (List ℕ)) → List (Option (Result (List ℕ) LineFault)) → Type 0
AreSaid ty count lines said = (i : ℕ) (d : Option (Result (List ℕ) LineFault)) (e : Bor (List ℕ)) → i < length said →
    IfSome (slice_index_or said i d) (λ x. Gives (λ list. list) x (data_said ty count (slice_index_or lines i e).now))

-- the lines from line k on are taken, before the lines of more bytes
abbrev pub TakesBlock : Result (Unit {0}) ParseFault → ℕ → List (List ℕ) → List ℕ → Past → Past → Type 0
TakesBlock (Ok done) k taken bytes old new = read_from old k (taken ++ lines bytes) ≡ read_from new (k + length taken) (lines bytes)
TakesBlock (Err e) k taken bytes old new = Fails e (read_from old k (taken ++ lines bytes))

-- reading the bytes from line k on goes on at a later line, with the bytes that are left
abbrev pub ReadsOn : Result (ℕ × Bor (List ℕ)) ParseFault → ℕ → List ℕ → Past → Past → Type 0
ReadsOn (Ok (later, rest)) k bytes old new =
    (read_from old k (lines bytes) ≡ read_from new later (lines rest.now))
    × ((later + length rest.now ≤ k + length bytes) × (length rest.now ≤ length bytes))
ReadsOn (Err e) k bytes old new = Fails e (read_from old k (lines bytes))
