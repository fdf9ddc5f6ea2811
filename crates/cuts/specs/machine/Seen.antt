-- The machine of a plan: what one rank has seen, without messages, handles or match bits.
use Rattle.std.specs.Prelude.{ℕ, Bool, true, false, ◌&&◌, ◌||◌, not, ◌==◌, ◌+◌, List, [], ◌∷◌, if◌then◌else◌, count_by}
use Rattle.ptl_types.specs.declared.handles.Count.{Count}
use Rattle.ni_model.specs.Counts.{successes}
use Rattle.plan_core.specs.Plan.{Plan, link, is_bump}
use Rattle.plan_core.specs.Values.{land}
use Rattle.plan_core.specs.calls.RankOps.{RankOp}
use Rattle.plan_core.specs.calls.RankOps.RankOp.{ForLink, ForDone}

-- a link's message came, with these bytes
pub record Came : Type 0 where
  pub link : ℕ
  pub bytes : List ℕ

-- whether it has started, what came, what was fired, its counter of what is done, how many answers it awaits, and what came that is
-- none of the plan's
pub record Seen : Type 0 where
  pub started : Bool
  pub came : List Came  -- in order of arrival
  pub fired : List RankOp  -- the newest first
  pub done : Count  -- the done counter
  pub awaits : ℕ  -- how many answers the descriptor awaits
  pub strays : ℕ

-- at the beginning
abbrev pub nothing_seen : Seen
nothing_seen = record { started = false; came = []; fired = []; done = successes 0; awaits = 0; strays = 0 }

-- one operation
abbrev pub is_same_work : RankOp → RankOp → Bool
is_same_work (ForLink l) (ForLink m) = l == m
is_same_work (ForDone c) (ForDone d) = c == d
is_same_work _ _ = false

-- it is among those that were fired
abbrev pub was_fired : List RankOp → RankOp → Bool
was_fired [] w = false
was_fired (v ∷ vs) w = is_same_work v w || was_fired vs w

-- the bytes of cell c, changed by what came to it, in order of arrival
abbrev pub content : Plan → List Came → ℕ → List ℕ → List ℕ
content p [] c x = x
content p (a ∷ later) c x = content p later c (if (link p a.link).target == c then land p a.link a.bytes x else x)

-- a firing that raises the counter of cell c
abbrev pub bumps : Plan → ℕ → RankOp → Bool
bumps p c (ForLink l) = is_bump (link p l).kind && ((link p l).target == c)
bumps p c (ForDone d) = false

-- an operation that sends
abbrev pub sends : Plan → RankOp → Bool
sends p (ForLink l) = not (is_bump (link p l).kind)
sends p (ForDone c) = false

-- an operation that tells a cell
abbrev pub tells : RankOp → Bool
tells (ForLink l) = false
tells (ForDone c) = true

-- what came to cell c
abbrev pub to_cell : Plan → ℕ → Came → Bool
to_cell p c a = (link p a.link).target == c

-- the counter of cell c of rank r
abbrev pub reached_count : Plan → Seen → ℕ → ℕ → ℕ
reached_count p g r c = (if (c == r) && g.started then 1 else 0) + (count_by (to_cell p c) g.came + count_by (bumps p c) g.fired)
