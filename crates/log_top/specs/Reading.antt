-- Lines that come from a source.
use Rattle.std.specs.Prelude.{ℕ, ◌≡◌, ◌+◌, ◌≤◌, ◌<◌, ◌==◌, Bool, true, false, All, List, [], ◌∷◌, ◌++◌, length, Option, Some, None, ◌⊎◌}
use Rattle.port_io.specs.Ends.{GivesFront, Inflow, IsAtEnd}
use Rattle.log_lines.specs.declared.lines.TheConstants.{LONGEST_LINE}
use Rattle.log_top.specs.declared.reading.Read.{Read}
use Rattle.log_top.specs.declared.reading.Read.TheVariants.{Line, Long, Last}

-- the bytes that came from the source and weren't looked at yet, and the line that was read
pub record Reader : Type 0 where
  pub held : List ℕ
  pub line : List ℕ

abbrev pub NoBreak : List ℕ → Type 0
NoBreak = All (λ b. b == 10 ≡ false)

-- Of these bytes a line was read, behind which LF stood; the beginning of one that is too long; or what stands behind the last LF. The
-- others are left.
abbrev pub Parts : Read → List ℕ → List ℕ → List ℕ → Type 0
Parts Line bytes line held = bytes ≡ line ++ 10 ∷ held
Parts Long bytes line held = (bytes ≡ line ++ held) × (length line ≡ LONGEST_LINE + 1)
Parts Last bytes line held = (bytes ≡ line) × (held ≡ [])

-- a line was read
pub record Reads (r : Reader) (source : Inflow) (q : Reader) (source' : Inflow) (read : Read) : Type 0 where
  pub bytes : List ℕ
  pub front : GivesFront source.left source'.left bytes
  pub faults : source.faults ≤ source'.faults
  pub no_break : NoBreak q.line
  pub parts : Parts read (r.held ++ bytes) q.line q.held
  pub over : read ≡ Last → IsAtEnd source'.left
  -- the source is asked only where no LF was held
  pub asks : (source' ≡ source) ⊎ NoBreak r.held

-- ---- one look at the bytes that are held

-- nothing is told as long as a line may go on
abbrev pub LooksAs : Option Read → List ℕ → List ℕ → Reader → Type 0
LooksAs None bytes line q = (bytes ≡ line) × (q.held ≡ []) × (length q.line ≤ LONGEST_LINE)
LooksAs (Some Line) bytes line q = Parts Line bytes line q.held
LooksAs (Some Long) bytes line q = Parts Long bytes line q.held
LooksAs (Some Last) bytes line q = ⊥

-- what of them is more of the line
pub record Looks (r q : Reader) (read : Option Read) : Type 0 where
  pub more : List ℕ
  pub line : q.line ≡ r.line ++ more
  pub no_break : NoBreak more
  pub looks : LooksAs read (r.line ++ r.held) q.line q

-- the next piece of the source; nothing is held where there is none
pub record More (r : Reader) (source : Inflow) (q : Reader) (source' : Inflow) (some : Bool) : Type 0 where
  pub line : q.line ≡ r.line
  pub front : GivesFront source.left source'.left q.held
  pub faults : source.faults ≤ source'.faults
  pub over : some ≡ false → IsAtEnd source'.left × (q.held ≡ [])
  pub goes_on : some ≡ true → 0 < length q.held

-- a line that has begun, of which nothing is held, was read on
pub record GoesOn (r : Reader) (source : Inflow) (q : Reader) (source' : Inflow) (read : Read) : Type 0 where
  pub bytes : List ℕ
  pub front : GivesFront source.left source'.left bytes
  pub faults : source.faults ≤ source'.faults
  pub no_break : NoBreak q.line
  pub parts : Parts read (r.line ++ bytes) q.line q.held
  pub over : read ≡ Last → IsAtEnd source'.left

-- what is left of a line was passed over, with its LF; or up to the end
abbrev pub SkipParts : Bool → List ℕ → List ℕ → List ℕ → Type 0
SkipParts true bytes passed held = bytes ≡ passed ++ 10 ∷ held
SkipParts false bytes passed held = (bytes ≡ passed) × (held ≡ [])

pub record Skips (r : Reader) (source : Inflow) (q : Reader) (source' : Inflow) (ended : Bool) : Type 0 where
  pub bytes : List ℕ
  pub passed : List ℕ
  pub front : GivesFront source.left source'.left bytes
  pub faults : source.faults ≤ source'.faults
  pub no_break : NoBreak passed
  pub parts : SkipParts ended (r.held ++ bytes) passed q.held
  pub over : ended ≡ false → IsAtEnd source'.left

-- as far as it was passed over
pub record SkippedSoFar (r : Reader) (source : Inflow) (q : Reader) (now : Inflow) : Type 0 where
  pub bytes : List ℕ
  pub passed : List ℕ
  pub front : GivesFront source.left now.left bytes
  pub faults : source.faults ≤ now.faults
  pub no_break : NoBreak passed
  pub parts : r.held ++ bytes ≡ passed ++ q.held
