-- One wave of probes: what was noted of a front of each history.
use Rattle.std.specs.Prelude.{ℕ, true, false, ◌<◌, ◌≡◌, length, count_by}
use Rattle.ptl_types.specs.Messages.{Sent}
use Rattle.ptl_types.specs.declared.headers.Lane.{Lane}
use Rattle.plan_core.specs.Members.{In}
use Rattle.ni_model.specs.Ready.{is_ready}
use Rattle.cuts.specs.histories.History.{got, is_start}
use Rattle.cuts.specs.histories.System.{Histories, System, sent_by, state_at}
use Rattle.cuts.specs.histories.Cut.{IsPrefixOf, is_stray}

-- v has for each rank a front of its history in w, and what is noted of the fronts answers Rest: each has its start, no operation is ready
-- there, and on each used lane as much was received as was sent
pub record IsWave (k : System) (v w : Histories) : Type 0 where
  pub front : (r : ℕ) → r < k.count → IsPrefixOf (v r) (w r)
  pub started : (r : ℕ) → r < k.count → 0 < count_by is_start (v r)
  pub idle : (r t : ℕ) → r < k.count → is_ready (state_at k v r) t ≡ false
  pub balanced : (s d : ℕ) (lane : Lane) → s < k.count → d < k.count → k.used s d lane ≡ true →
      length (got (v d) s lane) ≡ length (sent_by k v s d lane)

-- no rank received a stray
abbrev pub HasNoStray : System → Histories → Type 0
HasNoStray k w = (r s : ℕ) (lane : Lane) (m : Sent) → r < k.count → s < k.count → In m (got (w r) s lane) → is_stray m ≡ false
