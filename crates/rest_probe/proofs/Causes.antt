-- What a wave answers, from what was looked for.
use Rattle.std.proofs.Common.{◌≡◌, ◌<◌, ◌⊎◌, ⊎_elim, ℕ, List, subst, sym}
use Rattle.rest_probe.specs.declared.answers.WaveAnswer.{WaveAnswer}
use Rattle.rest_probe.specs.declared.answers.WaveAnswer.TheVariants.{Rest, NotStarted, Ready, Between}
use Rattle.rest_probe.specs.declared.notes.RankNote.{RankNote}
use Rattle.rest_probe.specs.Answered.{AllStarted, Answered, Differs, EvenBelow, IsEven, IsReadyOne, IsUneven, NoneReady}

pub ready-answered : (w : List RankNote) (a : WaveAnswer) → ((n : ℕ) → AllStarted w n) → IsReadyOne w a → Answered w a
ready-answered w Rest started h = absurd h
ready-answered w (NotStarted r) started h = absurd h
ready-answered w (Ready r t) started h = (started, h)
ready-answered w (Between s d lane sent got) started h = absurd h

pub uneven-answered : (w : List RankNote) (a : WaveAnswer) (s at : ℕ) → ((n : ℕ) → AllStarted w n) → ((n : ℕ) → NoneReady w n) →
    IsUneven w s at a → EvenBelow w s at → Answered w a
uneven-answered w Rest s at started idle h even = absurd h
uneven-answered w (NotStarted r) s at started idle h even = absurd h
uneven-answered w (Ready r t) s at started idle h even = absurd h
uneven-answered w (Between q d lane sent got) s at started idle h even =
    (started, idle, (at, subst (λ r. Differs w r at d lane sent got) (sym h.0) h.1, subst (λ r. EvenBelow w r at) (sym h.0) even))

-- all lanes of the ranks below, and those of rank s before this place
pub even-below : (w : List RankNote) (s at : ℕ) → ((r i : ℕ) → r < s → IsEven w r i) → ((i : ℕ) → i < at → IsEven w s i) → EvenBelow w s at
even-below w s at ranks lanes r i h = ⊎_elim (λ (low : r < s). ranks r i low)
    (λ (is : (r ≡ s) × (i < at)). subst (λ q. IsEven w q i) (sym is.0) (lanes i is.1)) h
