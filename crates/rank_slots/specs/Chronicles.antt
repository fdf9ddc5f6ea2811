-- The past of a slot: its history, in which beside the start stand the handles that were given by then. No others are given later.
use Rattle.std.specs.Prelude.{true, ◌≡◌, Option, Some, None, List, map}
use Rattle.cuts.specs.histories.History.{Local}
use Rattle.cuts.specs.histories.History.Local.{Start, Receive, Fire}
use Rattle.rank_node.specs.Copies.{has_start}
use Rattle.rank_node.specs.Handles.{Handles}
use Rattle.rank_slots.specs.declared.turn_rank.TurnRank.{TurnRank}
use Rattle.rank_slots.specs.Names.{history}

-- a step, and where it is the start all the handles
abbrev pub Entry : Type 0
Entry = Local × Option Handles

abbrev pub entry : Handles → Local → Entry
entry hs Start = (Start, Some hs)
entry hs (Receive s lane m) = (Receive s lane m, None)
entry hs (Fire t) = (Fire t, None)

abbrev pub chronicle : TurnRank → List Entry
chronicle x = map (entry x.node.value.kept) (history x)

-- a rank that had started gave no further handle
abbrev pub KeepsHandles : TurnRank → TurnRank → Type 0
KeepsHandles old new = has_start (history old) ≡ true → new.node.value.kept ≡ old.node.value.kept
