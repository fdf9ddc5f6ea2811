-- Two ranks, of which one starts after a message came to it: a sound plan with a cut at rest, so no premise is empty.
use Rattle.std.proofs.Common.{ℕ, zero, suc, false, ◌+◌, ◌%◌, ◌≡◌, ◌<◌, ◌≤◌, [], ◌∷◌, ◌∙◌, append-nil, List, refl, length, map, arith, Some}
use Rattle.std.proofs.Common.{None, lit<, lit≤, ◌==◌, if◌then◌else◌, count_by}
use Rattle.std.proofs.lemmas.Bool.{ne_eqb}
use Rattle.ptl_types.specs.declared.elements.ElemType.TheVariants.{U8}
use Rattle.ptl_types.specs.declared.headers.Lane.TheVariants.{Answer, Request}
use Rattle.ptl_types.specs.declared.headers.Lane.{Lane}
use Rattle.ptl_types.specs.Elements.{part}
use Rattle.ptl_types.specs.Messages.{Sent}
use Rattle.ptl_types.specs.Operations.{bytes_of}
use Rattle.ni_model.specs.declared.IndexedHeader.{IndexedHeader}
use Rattle.ni_model.specs.Answers.{answered}
use Rattle.ni_model.specs.Arrive.{request}
use Rattle.ni_model.specs.Counts.{successes}
use Rattle.ni_model.specs.Ready.{fired, is_ready}
use Rattle.ni_model.specs.Starts.{started}
use Rattle.ni_model.specs.State.{State, target}
use Rattle.ni_model.specs.Tables.{lookup}
use Rattle.op_laws.proofs.OpLaws.{op_laws}
use Rattle.op_laws.proofs.Starts.{combined-starts}
use Rattle.op_laws.proofs.Swaps.{combined-swaps}
use Rattle.plan_core.specs.declared.Cell.{Cell}
use Rattle.plan_core.specs.declared.Link.{Link}
use Rattle.plan_core.specs.declared.LinkKind.{LinkKind}
use Rattle.plan_core.specs.declared.LinkKind.TheVariants.{Bump, Put}
use Rattle.plan_core.specs.Plan.{Plan, cell, in_links, link}
use Rattle.plan_core.specs.Sound.{AreApart, SoundLink, SoundPlan, put_bytes}
use Rattle.plan_core.specs.Values.{Inputs, input_bytes}
use Rattle.cuts.specs.view.Slots.{Slots, cell_ct, done_ct}
use Rattle.plan_core.specs.calls.RankOps.{done_threshold}
use Rattle.cuts.specs.view.TriggeredOps.{link_message}
use Rattle.cuts.specs.histories.History.{Beginning, Legal, Local, got, is_start, sent, state}
use Rattle.cuts.specs.histories.History.Local.{Fire, Receive, Start}
use Rattle.plan_core.specs.calls.Areas.{area_start, classes}
use Rattle.cuts.proofs.rest.FromRest.{completes}
use Rattle.cuts.specs.start.Start.{bring, cell_started}
use Rattle.cuts.specs.view.Calls.{call_made, prepare}
use Rattle.cuts.specs.histories.Plans.{start_of, system_of, IsComplete}
use Rattle.ni_model.specs.Append.{append}
use Rattle.cuts.specs.histories.Cut.{IsAtRest, IsCut, got_by}
use Rattle.cuts.specs.histories.System.{Histories, System, sent_by, state_at}

-- ---- a broadcast from rank 0, whose message comes to rank 1 before rank 1 has started
abbrev data_cell : ℕ → ℕ → ℕ → Cell
data_cell r n k = record { rank = r; ty = U8; op = None; length = n; needs = k }

abbrev link_as : LinkKind → ℕ → ℕ → Link
link_as Bump a b = record { source = a; source_offset = 0; length = 0; target = b; target_offset = 0; kind = Bump }
link_as k a b = record { source = a; source_offset = 0; length = 1; target = b; target_offset = 0; kind = k }

abbrev pub plan_two : Plan
plan_two = record {
  ranks = 2;
  remote = false;
  cells = data_cell 0 0 1 ∷ data_cell 1 0 1 ∷ data_cell 0 1 1 ∷ data_cell 1 1 1 ∷ data_cell 0 1 2 ∷ data_cell 1 0 1 ∷ data_cell 0 1 1
      ∷ data_cell 1 1 2 ∷ [];
  links = link_as Bump 0 2 ∷ link_as Bump 1 3 ∷ link_as Bump 0 4 ∷ link_as Put 2 4 ∷ link_as Bump 1 5 ∷ link_as Put 4 6 ∷ link_as Bump 5 7
      ∷ link_as Put 6 7 ∷ [];
}

abbrev pub inputs_two : Inputs
inputs_two = ((7 ∷ []) ∷ (9 ∷ []) ∷ []) ∷ []

abbrev pub slots1 : Slots
slots1 = record { ct = λ t. t; me = λ t. t; md = 0 }

abbrev start_at : Plan → ℕ → Beginning
start_at p r = start_of p slots1 r

abbrev begin : ℕ → State
begin r = prepare plan_two inputs_two slots1 r

abbrev pub put_along : ℕ → Sent
put_along l = link_message plan_two slots1 l (7 ∷ [])

abbrev pub order-0 : List Local
order-0 = Start ∷ Fire 0 ∷ Fire 1 ∷ Fire 2 ∷ Receive 0 Request (put_along 3) ∷ Fire 3 ∷ Receive 0 Request (put_along 5) ∷ Fire 4 ∷ Fire 5
    ∷ Fire 6 ∷ Fire 7 ∷ Fire 8 ∷ []

abbrev waiting : State
waiting = state (start_at plan_two 1) (begin 1) (Receive 0 Request (put_along 7) ∷ [])

abbrev pub order-1 : List Local
order-1 = Receive 0 Request (put_along 7) ∷ Start ∷ Fire 0 ∷ Fire 1 ∷ Fire 2 ∷ Fire 3 ∷ Fire 4 ∷ Fire 5 ∷ Fire 6 ∷ []

broadcast-areas : ((begin 0).memory ≡ 7 ∷ 0 ∷ 0 ∷ 0 ∷ 0 ∷ []) × ((begin 1).memory ≡ 9 ∷ 0 ∷ 0 ∷ []) × (classes plan_two 1 ≡ 0 ∷ []) ×
    (area_start plan_two 1 0 ≡ 2)
unfolding append call_made
broadcast-areas = (refl, refl, refl, refl)

broadcast-sent : sent (start_at plan_two 0) (begin 0) order-0 1 Request ≡ put_along 7 ∷ []
unfolding target request answered started fired call_made append cell_started bring
broadcast-sent = refl

broadcast-early : (map {B = ℕ × ℕ} (λ (a : IndexedHeader). (a.header.delivered, a.header.place)) waiting.headers.unexpected ≡ (1, 2) ∷ [])
    × (waiting.memory ≡ 9 ∷ 0 ∷ 7 ∷ []) × (lookup (cell_ct plan_two slots1 7) waiting.cts.live ≡ Some (successes 0))
unfolding target request answered started fired call_made append cell_started bring
broadcast-early = (refl, refl, refl)

-- the start takes it
broadcast-start : (((start_at plan_two 1).by waiting).headers.unexpected ≡ []) ×
    (((start_at plan_two 1).by waiting).memory ≡ 9 ∷ 7 ∷ 7 ∷ []) ×
    (lookup (cell_ct plan_two slots1 7) ((start_at plan_two 1).by waiting).cts.live ≡ Some (successes 1))
unfolding target request answered started fired call_made append cell_started bring
broadcast-start = (refl, refl, refl)

abbrev end : State
end = state (start_at plan_two 1) (begin 1) order-1

broadcast-end : (end.pending.waiting ≡ []) × (end.drops ≡ 0) ×
    (lookup (done_ct slots1) end.cts.live ≡ Some (successes (done_threshold plan_two 1))) × (part 1 1 end.memory ≡ 7 ∷ [])
unfolding target request answered started fired call_made append cell_started bring
broadcast-end = (refl, refl, refl, refl)

below8 : (P : ℕ → Type 0) → P 0 → P 1 → P 2 → P 3 → P 4 → P 5 → P 6 → P 7 → (l : ℕ) → l < 8 → P l
below8 P a b c d e f g h zero i = a
below8 P a b c d e f g h (suc zero) i = b
below8 P a b c d e f g h (suc (suc zero)) i = c
below8 P a b c d e f g h (suc (suc (suc zero))) i = d
below8 P a b c d e f g h (suc (suc (suc (suc zero)))) i = e
below8 P a b c d e f g h (suc (suc (suc (suc (suc zero))))) i = f
below8 P a b c d e f g h (suc (suc (suc (suc (suc (suc zero)))))) i = g
below8 P a b c d e f g h (suc (suc (suc (suc (suc (suc (suc zero))))))) i = h
below8 P a b c d e f g h (suc (suc (suc (suc (suc (suc (suc (suc l)))))))) i = absurd (omega arith)

below2 : (P : ℕ → Type 0) → P 0 → P 1 → (l : ℕ) → l < 2 → P l
below2 P a b zero h = a
below2 P a b (suc zero) h = b
below2 P a b (suc (suc l)) h = absurd (omega arith)

bump_at : (l : ℕ) → (link plan_two l).kind ≡ Bump → (link plan_two l).source < (link plan_two l).target → (link plan_two l).target < 8 →
    (cell plan_two (link plan_two l).source).rank ≡ (cell plan_two (link plan_two l).target).rank → (link plan_two l).length ≡ 0
    → (link plan_two l).source_offset ≡ 0 → (link plan_two l).target_offset ≡ 0 → (cell plan_two (link plan_two l).target).op ≡ None →
    SoundLink plan_two l
bump_at l k up t same z so to none = record {
  rising = up;
  cells = t;
  within_source = omega (arith, z, so);
  within_target =
      omega (arith, z, to);
  bump_stays = λ e. same;
  bump_empty = λ e. z;
  atomic_here = λ o e. cc;
  atomic_whole = λ e. cc;
  no_atomic =
      λ e f. cc;
}

put_at : (l : ℕ) → (link plan_two l).kind ≡ Put → (link plan_two l).source < (link plan_two l).target → (link plan_two l).target < 8 →
    (link plan_two l).source_offset + (link plan_two l).length ≤ (cell plan_two (link plan_two l).source).length →
    (link plan_two l).target_offset + (link plan_two l).length ≤ (cell plan_two (link plan_two l).target).length
    → (cell plan_two (link plan_two l).target).op ≡ None → SoundLink plan_two l
put_at l k up t ws wt none = record {
  rising = up;
  cells = t;
  within_source = ws;
  within_target = wt;
  bump_stays = λ e. cc;
  bump_empty =
      λ e. cc;
  atomic_here = λ o e. cc;
  atomic_whole = λ e. cc;
  no_atomic = λ e f. cc;
}

sound_link : (l : ℕ) → l < 8 → SoundLink plan_two l
sound_link = below8 (SoundLink plan_two)
    (bump_at 0 refl (lit< tt) (lit< tt) refl refl refl refl refl)
    (bump_at 1 refl (lit< tt) (lit< tt) refl refl refl refl refl)
    (bump_at 2 refl (lit< tt) (lit< tt) refl refl refl refl refl)
    (put_at 3 refl (lit< tt) (lit< tt) (lit≤ tt) (lit≤ tt) refl)
    (bump_at 4 refl (lit< tt) (lit< tt) refl refl refl refl refl)
    (put_at 5 refl (lit< tt) (lit< tt) (lit≤ tt) (lit≤ tt) refl)
    (bump_at 6 refl (lit< tt) (lit< tt) refl refl refl refl refl)
    (put_at 7 refl (lit< tt) (lit< tt) (lit≤ tt) (lit≤ tt) refl)

-- a Put to a cell is the only one
abbrev Alone : ℕ → ℕ → Type 0
Alone l m = (l ≡ m → ⊥) → (link plan_two l).target ≡ (link plan_two m).target → (link plan_two l).kind ≡ Put →
    (link plan_two m).kind ≡ Put → AreApart plan_two l m

alone : (l m : ℕ) → l < 8 → m < 8 → Alone l m
alone l m h i = below8 (λ l. Alone l m)
    (λ ne e f g. cc) (λ ne e f g. cc) (λ ne e f g. cc)
    (below8 (λ m. Alone 3 m) (λ ne e f g. cc) (λ ne e f g. cc) (λ ne e f g. cc) (λ ne e f g. absurd (ne refl)) (λ ne e f g. cc)
    (λ ne e f g. absurd (omega arith)) (λ ne e f g. cc) (λ ne e f g. absurd (omega arith)) m i)
    (λ ne e f g. cc)
    (below8 (λ m. Alone 5 m) (λ ne e f g. cc) (λ ne e f g. cc) (λ ne e f g. cc) (λ ne e f g. absurd (omega arith)) (λ ne e f g. cc)
    (λ ne e f g. absurd (ne refl)) (λ ne e f g. cc) (λ ne e f g. absurd (omega arith)) m i)
    (λ ne e f g. cc)
    (below8 (λ m. Alone 7 m) (λ ne e f g. cc) (λ ne e f g. cc) (λ ne e f g. cc) (λ ne e f g. absurd (omega arith)) (λ ne e f g. cc)
    (λ ne e f g. absurd (omega arith)) (λ ne e f g. cc) (λ ne e f g. absurd (ne refl)) m i)
    l h

sound_two : SoundPlan plan_two 1
sound_two = record {
  some_rank = lit≤ tt;
  few_ranks = lit≤ tt;
  links_sound = sound_link;
  needs = below8 (λ c. 2 ≤ c → (cell plan_two c).needs ≡ length (in_links plan_two c)) (λ h. absurd (omega arith))
      (λ h. absurd (omega arith)) (λ h. refl) (λ h. refl) (λ h. refl) (λ h. refl) (λ h. refl) (λ h. refl);
  go_needs = below2 (λ r. ((cell plan_two r).needs ≡ 1) × (in_links plan_two r ≡ []) × ((cell plan_two r).rank ≡ r) ×
      ((cell plan_two r).length ≡ 0)) (refl, refl, refl, refl) (refl, refl, refl, refl);
  apart = alone;
  covered = below8 (λ c. 2 + 2 ≤ c → (cell plan_two c).op ≡ None → put_bytes plan_two c ≡ (cell plan_two c).length)
      (λ h e. absurd (omega arith)) (λ h e. absurd (omega arith)) (λ h e. absurd (omega arith)) (λ h e. absurd (omega arith))
      (λ h e. refl) (λ h e. refl) (λ h e. refl) (λ h e. refl);
  input_cells = below2 (λ i. (2 + i < 8) × ((cell plan_two (2 + i)).op ≡ None) × ((cell plan_two (2 + i)).rank ≡ i % 2))
      (lit< tt, refl, refl) (lit< tt, refl, refl);
  input_links = below8 (λ l. (link plan_two l).target < 2 + 2 → (link plan_two l).kind ≡ Bump) (λ h. refl) (λ h. refl) (λ h. refl)
      (λ h. absurd (omega arith)) (λ h. refl) (λ h. absurd (omega arith)) (λ h. refl) (λ h. absurd (omega arith));
  ranks_known = below8 (λ c. (cell plan_two c).rank < 2) (lit< tt) (lit< tt) (lit< tt) (lit< tt) (lit< tt) (lit< tt) (lit< tt) (lit< tt);
  whole = below8 (λ c. (cell plan_two c).length % bytes_of (cell plan_two c).ty ≡ 0) refl refl refl refl refl refl refl refl;
  all_go = lit≤ tt;
  few_cells = lit< tt;
  few_together = lit< tt;
  few_bytes = lit< tt;
}

abbrev all_slots : ℕ → Slots
all_slots r = slots1

abbrev world_two : Histories
world_two r = if r == 0 then order-0 else order-1

abbrev system_two : System
system_two = system_of plan_two inputs_two all_slots

abbrev LegalAt : ℕ → Type 0
LegalAt r = Legal (start_of plan_two slots1 r) false (prepare plan_two inputs_two slots1 r) (world_two r)

legal_two : (r : ℕ) → r < 2 → LegalAt r
unfolding target request answered started fired call_made append cell_started bring
legal_two = below2 LegalAt (
  refl,
  (
    refl,
    (
      refl,
      (
        refl,
        (
          (refl, refl, refl, refl, tt),
          (refl, ((refl, refl, refl, refl, tt), (refl, (refl, (refl, (refl, (refl, tt))))))),
        ),
      ),
    ),
  ),
)
    ((refl, refl, refl, refl, tt), (refl, (refl, (refl, (refl, (refl, (refl, (refl, (refl, tt)))))))))

known_two : (r s : ℕ) (lane : Lane) → r < 2 → 2 ≤ s → got (world_two r) s lane ≡ []
known_two r zero lane h k = absurd (omega arith)
known_two r (suc s) lane h k = let e : (0 == suc s) ≡ false = ne_eqb 0 (suc s) (λ i. absurd (omega arith)) in
    below2 (λ r. got (world_two r) (suc s) lane ≡ []) (rw e refl) (rw e refl) r h

abbrev LaneAgrees : Lane → ℕ → ℕ → Type 0
LaneAgrees lane s d = got_by world_two d s lane ≡ sent_by system_two world_two s d lane

equal_two : (lane : Lane) (s d : ℕ) → s < 2 → d < 2 → LaneAgrees lane s d
unfolding target request answered started fired call_made append cell_started bring
equal_two Request s d h k = below2 (λ s. LaneAgrees Request s d) (below2 (λ d. LaneAgrees Request 0 d) refl refl d k)
    (below2 (λ d. LaneAgrees Request 1 d) refl refl d k) s h
equal_two Answer s d h k = below2 (λ s. LaneAgrees Answer s d) (below2 (λ d. LaneAgrees Answer 0 d) refl refl d k)
    (below2 (λ d. LaneAgrees Answer 1 d) refl refl d k) s h

pub cut_two : IsCut system_two world_two
unfolding target request answered started fired call_made append cell_started bring
cut_two = record {
  legal = legal_two;
  known = known_two;
  lanes = λ s d lane h k. ([], append-nil (got_by world_two d s lane) ∙ equal_two lane s d h k);
}

pub rest_two : IsAtRest system_two world_two
unfolding target request answered started fired call_made append cell_started bring
rest_two = record {
  started = below2 (λ r. 0 < count_by is_start (world_two r)) (lit< tt) (lit< tt);
  empty = λ s d lane h k. equal_two lane s d h k;
  idle = λ r t h. below2 (λ r. is_ready (state_at system_two world_two r) t ≡ false) refl refl r h;
}

pub complete_two : (r : ℕ) → r < 2 → IsComplete plan_two inputs_two all_slots world_two r
complete_two = completes combined-starts plan_two inputs_two sound_two
    (below2 (λ i. length (input_bytes plan_two inputs_two i) ≡ (cell plan_two (2 + i)).length) refl refl) (combined-swaps op_laws)
    all_slots world_two cut_two rest_two
