-- The steps of a moment that are possible under a window, in the order of the enabled ones. Strays that lie in lanes count as what a
-- lane holds.
use Rattle.std.specs.Prelude.{ℕ, Bool, true, nat_lt, List, Option, Some, None, filter, length}
use Rattle.ptl_types.specs.Messages.{Sent}
use Rattle.ptl_types.specs.declared.headers.Lane.TheVariants.{Request, Answer}
use Rattle.ni_model.specs.Ready.{fired}
use Rattle.cuts.specs.histories.System.{System, state_at}
use Rattle.cuts.specs.orders.Chosen.{Scene, enabled_steps}
use Rattle.cuts.specs.declared.orders.Step.{Step}
use Rattle.cuts.specs.declared.orders.Step.TheVariants.{Start, Deliver, Fire}

-- what a firing at rank r sends, if anything, finds fewer messages on its lane than the window
abbrev pub finds_room : ℕ → Scene → ℕ → Option Sent → Bool
finds_room window z r None = true
finds_room window z r (Some m) = nat_lt (length (z.held r m.header.target Request)) window

-- a start and the delivery of an answer always are; the delivery of a request where its answer would find room
abbrev pub is_possible : System → ℕ → Scene → Step → Bool
is_possible k window z (Start r) = true
is_possible k window z (Fire r t) = finds_room window z r (fired (state_at k z.world r) t).message
is_possible k window z (Deliver s d Answer) = true
is_possible k window z (Deliver s d Request) = nat_lt (length (z.held d s Answer)) window

-- of the enabled steps those
abbrev pub possible_steps : System → ℕ → Scene → List Step
possible_steps k window z = filter (is_possible k window z) (enabled_steps k z)
