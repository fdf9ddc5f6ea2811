-- What a wave answers: the lowest cause that it isn't at rest.
use Rattle.std.specs.Prelude.{ℕ, true, false, ◌≡◌, ◌≢◌, ◌<◌, ◌⊎◌, List, Some, None}
use mathlib.Core.Option.{some}
use lib.ListN.{get_elem?}
use Rattle.ptl_types.specs.declared.headers.Lane.{Lane}
use Rattle.rest_probe.specs.declared.answers.WaveAnswer.{WaveAnswer}
use Rattle.rest_probe.specs.declared.answers.WaveAnswer.TheVariants.{Rest, NotStarted, Ready, Between}
use Rattle.rest_probe.specs.declared.notes.LaneCount.{LaneCount}
use Rattle.rest_probe.specs.declared.notes.RankNote.{RankNote}
use Rattle.rest_probe.specs.Counted.{Tells, TellsNone}

abbrev pub AllStarted : List RankNote → ℕ → Type 0
AllStarted w n = (r : ℕ) (x : RankNote) → r < n → get_elem? w r ≡ some x → x.note.started ≡ true

abbrev pub NoneReady : List RankNote → ℕ → Type 0
NoneReady w n = (r : ℕ) (x : RankNote) → r < n → get_elem? w r ≡ some x → x.note.ready ≡ None

-- as much was received as was sent on the lane at this place among those of rank s: its target tells the same number, if it tells any
abbrev pub IsEven : List RankNote → ℕ → ℕ → Type 0
IsEven w s at = (x y : RankNote) (c : LaneCount) → get_elem? w s ≡ some x → get_elem? x.note.sent at ≡ some c
    → get_elem? w c.rank ≡ some y → Tells y.note.got s c.lane c.number ⊎ TellsNone y.note.got s c.lane

-- of all lanes from ranks below s, and of those of rank s before this place
abbrev pub EvenBelow : List RankNote → ℕ → ℕ → Type 0
EvenBelow w s at = (r i : ℕ) → (r < s) ⊎ ((r ≡ s) × (i < at)) → IsEven w r i

-- the lane at this place among those of rank s has two numbers
pub record Differs (w : List RankNote) (s at d : ℕ) (lane : Lane) (sent got : ℕ) : Type 0 where
  pub source : RankNote
  pub source_is : get_elem? w s ≡ some source
  pub there : get_elem? source.note.sent at ≡ some (record { rank = d; lane = lane; number = sent })
  pub target : RankNote
  pub target_is : get_elem? w d ≡ some target
  pub got_is : Tells target.note.got s lane got
  pub apart : sent ≢ got

-- the answer tells of this lane, whose numbers differ
abbrev pub IsUneven : List RankNote → ℕ → ℕ → WaveAnswer → Type 0
IsUneven w s at Rest = ⊥
IsUneven w s at (NotStarted r) = ⊥
IsUneven w s at (Ready r t) = ⊥
IsUneven w s at (Between s' d lane sent got) = (s' ≡ s) × Differs w s at d lane sent got

-- the answer tells of the lowest rank with an operation that was ready
abbrev pub IsReadyOne : List RankNote → WaveAnswer → Type 0
IsReadyOne w Rest = ⊥
IsReadyOne w (NotStarted r) = ⊥
IsReadyOne w (Ready r t) = (x : RankNote) × (get_elem? w r ≡ some x) × (x.note.ready ≡ Some t) × NoneReady w r
IsReadyOne w (Between s d lane sent got) = ⊥

-- NotStarted names the lowest rank that hadn't started; else Ready the lowest with an operation that is ready; else Between the first
-- lane, by source, target and kind, whose numbers differ; else it is Rest
abbrev pub Answered : List RankNote → WaveAnswer → Type 0
Answered w Rest = ((n : ℕ) → AllStarted w n) × ((n : ℕ) → NoneReady w n) × ((s at : ℕ) → IsEven w s at)
Answered w (NotStarted r) = (x : RankNote) × (get_elem? w r ≡ some x) × (x.note.started ≡ false) × AllStarted w r
Answered w (Ready r t) = ((n : ℕ) → AllStarted w n) × ((x : RankNote) × (get_elem? w r ≡ some x) × (x.note.ready ≡ Some t) × NoneReady w r)
Answered w (Between s d lane sent got) =
    ((n : ℕ) → AllStarted w n) × ((n : ℕ) → NoneReady w n) × ((at : ℕ) × Differs w s at d lane sent got × EvenBelow w s at)
