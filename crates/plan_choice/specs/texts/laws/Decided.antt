-- The interfaces of a choice text as a system, and what is decided where nothing is left to do.
use Rattle.std.specs.Prelude.{refl, ℕ, Bool, ◌+◌, ◌*◌, ◌^◌, ◌==◌, ◌<◌, ◌≤◌, ◌≡◌, List, length, Some}
use Rattle.coll_lang.specs.declared.choices.ChoiceKind.{ChoiceKind}
use Rattle.ptl_types.specs.declared.handles.Handle.{Handle}
use Rattle.ptl_types.specs.declared.headers.Lane.{Lane}
use Rattle.ptl_types.specs.declared.headers.Lane.TheVariants.{Answer, Request}
use Rattle.ptl_types.specs.Elements.{part, pattern}
use Rattle.ni_model.specs.Counts.{successes}
use Rattle.ni_model.specs.State.{State}
use Rattle.ni_model.specs.Tables.{lookup}
use Rattle.cuts.specs.start.Start.{go_raised}
use Rattle.cuts.specs.start.Keeps.{go_raised-same}
use Rattle.cuts.specs.histories.History.{Beginning}
use Rattle.cuts.specs.histories.System.{Histories, System, state_at}
use Rattle.plan_choice.specs.texts.machine.Choices.{IsRight, choice_at}
use Rattle.plan_choice.specs.texts.view.Install.{Slots, ct_of}
use Rattle.plan_choice.specs.texts.view.Install.Counter.{Done, Go}
use Rattle.plan_choice.specs.texts.view.Calls.{install}

-- a start is the host's count by one on the go counter, and nothing else
abbrev pub count_from : Handle → Beginning
count_from go = record {
  by = go_raised go;
  rank = λ s. go_raised-same (λ (v : State). v.rank) go s s.rank refl refl;
  pending = λ s. go_raised-same (λ (v : State). v.pending) go s s.pending refl refl;
}

-- requests go to rank 0, and answers come from it
abbrev pub is_choice_lane : ℕ → ℕ → Lane → Bool
is_choice_lane s d Request = d == 0
is_choice_lane s d Answer = s == 0

-- the interfaces of a choice text on so many ranks, whose tables gave out these slots
abbrev pub choice_system : ℕ → List ChoiceKind → (ℕ → Slots) → System
choice_system ranks ks slots = record {
  count = ranks;
  first = λ r. install (slots r) ranks ks r;
  go = λ r. count_from (ct_of (slots r) ks Go);
  used = is_choice_lane;
}

-- the result of step s, in the memory of a rank
abbrev pub result_of : ℕ → State → ℕ
result_of s v = pattern (part (32 * s + 24) 8 v.memory)

-- there are ranks, no more than a text may have, and no more steps than a count counts
pub record IsInRange (ranks : ℕ) (ks : List ChoiceKind) : Type 0 where
  pub some : 0 < ranks
  pub few_ranks : ranks ≤ 256
  pub few_steps : length ks < 2 ^ 64

-- each done counter stands at the number of steps and has no failure, and the results of each step are right
pub record IsDecided (ranks : ℕ) (ks : List ChoiceKind) (slots : ℕ → Slots) (w : Histories) : Type 0 where
  pub done : (r : ℕ) → r < ranks →
      lookup (ct_of (slots r) ks Done) (state_at (choice_system ranks ks slots) w r).cts.live ≡ Some (successes (length ks))
  pub right : (s : ℕ) → s < length ks →
      IsRight (choice_at ks s) ranks (λ r. result_of s (state_at (choice_system ranks ks slots) w r))
