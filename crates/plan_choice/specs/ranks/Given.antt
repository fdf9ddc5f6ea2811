-- What a list of calls of a choice text leaves of an interface and of the handles that it gave.
use Rattle.std.specs.Prelude.{ℕ, ◌+◌, ◌≡◌, ◌≤◌, ◌<◌, List, length, sum_by}
use Rattle.coll_lang.specs.declared.choices.ChoiceKind.{ChoiceKind}
use Rattle.ni_model.specs.State.{State}
use Rattle.rank_node.specs.Handles.{AreAllOf, Handles, Tells}
use Rattle.plan_choice.specs.texts.view.Calls.{Call, calls_made}
use Rattle.plan_choice.specs.texts.view.Calls.Call.{CtAlloc, MdBind, MeAppend}
use Rattle.plan_choice.specs.texts.view.Install.{Slots}

-- k has the slots of all that was made; of what will be made it may say anything
pub record Agrees (k : Slots) (hs : Handles) : Type 0 where
  pub counters : Tells k.ct hs.counters
  pub entries : Tells k.me hs.entries
  pub descriptors : Tells k.md hs.descriptors

-- how many counting events, entries and descriptors a call makes
abbrev pub counters_by : Call → ℕ
counters_by (CtAlloc c) = 1
counters_by _ = 0

abbrev pub entries_by : Call → ℕ
entries_by (MeAppend t) = 1
entries_by _ = 0

abbrev pub descriptors_by : Call → ℕ
descriptors_by (MdBind x) = 1
descriptors_by _ = 0

-- there is room for the handles that these calls give
pub record HasRoom (calls : List Call) (hs : Handles) : Type 0 where
  pub counters : length hs.counters + sum_by counters_by calls ≤ hs.room.counters
  pub entries : length hs.entries + sum_by entries_by calls ≤ hs.room.entries
  pub descriptors : length hs.descriptors + sum_by descriptors_by calls ≤ hs.room.descriptors

-- after the calls
pub record AreMade (ks : List ChoiceKind) (calls : List Call) (old new : State) (before after : Handles) : Type 0 where
  -- whatever the slots of what is made later: the state is that of the calls
  pub state : (k : Slots) → Agrees k after → new ≡ calls_made k ks calls old
  -- no handle is given up
  pub kept : (k : Slots) → Agrees k after → Agrees k before
  pub all : AreAllOf new after
  pub counters : length after.counters ≡ length before.counters + sum_by counters_by calls
  pub entries : length after.entries ≡ length before.entries + sum_by entries_by calls
  pub descriptors : length after.descriptors ≡ length before.descriptors + sum_by descriptors_by calls
  pub room : after.room ≡ before.room
  pub ranks : new.ranks ≡ old.ranks
  pub limits : new.limits ≡ old.limits

-- operations with requests of a word may be posted
pub record IsWide (s : State) : Type 0 where
  pub some : 0 < s.ranks
  pub whole : 8 ≤ s.limits.msg
  pub fetches : 8 ≤ s.limits.fetch_atomic
