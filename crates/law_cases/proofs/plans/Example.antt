-- A plan that is sound and a cut of it at rest: so the definitions ask for nothing that can't be.
use Rattle.std.proofs.Common.{ℕ, zero, suc, false, ◌+◌, ◌%◌, ◌≡◌, ◌<◌, ◌≤◌, [], refl, length, arith, None, lit<, lit≤, ◌==◌}
use Rattle.std.proofs.lemmas.Bool.{ne_eqb}
use Rattle.ptl_types.specs.declared.headers.Lane.TheVariants.{Answer, Request}
use Rattle.ptl_types.specs.declared.headers.Lane.{Lane}
use Rattle.ptl_types.specs.Operations.{bytes_of}
use Rattle.plan_core.specs.Plan.{cell, in_links, link}
use Rattle.plan_core.specs.Sound.{AreApart, SoundLink, SoundPlan, put_bytes}
use Rattle.plan_core.specs.Values.{input_bytes}
use Rattle.plan_core.specs.declared.LinkKind.TheVariants.{Bump, Put}
use Rattle.cuts.specs.histories.History.{Legal, got}
use Rattle.ni_model.specs.Ready.{is_ready, fired}
use Rattle.cuts.proofs.rest.FromRest.{completes}
use Rattle.op_laws.proofs.Swaps.{combined-swaps}
use Rattle.op_laws.proofs.OpLaws.{op_laws}
use Rattle.law_cases.proofs.plans.Broadcast.{plan, inputs, slots, good}
use Rattle.ni_model.specs.Answers.{answered}
use Rattle.ni_model.specs.Arrive.{request}
use Rattle.ni_model.specs.Starts.{started}
use Rattle.ni_model.specs.State.{target}
use Rattle.cuts.specs.start.Start.{bring, cell_started}
use Rattle.cuts.specs.view.Calls.{call_made, prepare}
use Rattle.cuts.specs.histories.Plans.{start_of, system_of, IsComplete}
use Rattle.ni_model.specs.Append.{append}
use Rattle.op_laws.proofs.Starts.{combined-starts}
use Rattle.cuts.specs.histories.Cut.{IsAtRest, IsCut, IsPrefixOf, got_by}
use Rattle.cuts.specs.histories.System.{Histories, System, sent_by, state_at}
use Rattle.cuts.specs.view.Slots.{Slots}

below4 : (P : ℕ → Type 0) → P 0 → P 1 → P 2 → P 3 → (l : ℕ) → l < 4 → P l
below4 P a b c d zero h = a
below4 P a b c d (suc zero) h = b
below4 P a b c d (suc (suc zero)) h = c
below4 P a b c d (suc (suc (suc zero))) h = d
below4 P a b c d (suc (suc (suc (suc l)))) h = absurd (omega arith)

below1 : (P : ℕ → Type 0) → P 0 → (l : ℕ) → l < 1 → P l
below1 P a zero h = a
below1 P a (suc l) h = absurd (omega arith)

sound_link : (l : ℕ) → l < 4 → SoundLink plan l
sound_link = below4 (SoundLink plan)
    (record {
      rising = lit< tt;
      cells = lit< tt;
      within_source = lit≤ tt;
      within_target = lit≤ tt;
      bump_stays = λ e. refl;
      bump_empty =
          λ e. refl;
      atomic_here = λ o e. cc;
      atomic_whole = λ e. cc;
      no_atomic = λ e f. cc;
    })
    (record {
      rising = lit< tt;
      cells = lit< tt;
      within_source = lit≤ tt;
      within_target = lit≤ tt;
      bump_stays = λ e. refl;
      bump_empty =
          λ e. refl;
      atomic_here = λ o e. cc;
      atomic_whole = λ e. cc;
      no_atomic = λ e f. cc;
    })
    (record {
      rising = lit< tt;
      cells = lit< tt;
      within_source = lit≤ tt;
      within_target = lit≤ tt;
      bump_stays = λ e. refl;
      bump_empty =
          λ e. cc;
      atomic_here = λ o e. cc;
      atomic_whole = λ e. cc;
      no_atomic = λ e f. cc;
    })
    (record {
      rising = lit< tt;
      cells = lit< tt;
      within_source = lit≤ tt;
      within_target = lit≤ tt;
      bump_stays = λ e. refl;
      bump_empty =
          λ e. cc;
      atomic_here = λ o e. cc;
      atomic_whole = λ e. cc;
      no_atomic = λ e f. cc;
    })

apart1 : (l m : ℕ) → l < 4 → m < 4 → (l ≡ m → ⊥) → (link plan l).target ≡ (link plan m).target → (link plan l).kind ≡ Put →
    (link plan m).kind ≡ Put → AreApart plan l m
apart1 l m h i = below4 (λ l. (l ≡ m → ⊥) → (link plan l).target ≡ (link plan m).target → (link plan l).kind ≡ Put →
    (link plan m).kind ≡ Put → AreApart plan l m)
    (λ ne e f g. cc) (λ ne e f g. cc)
    (below4 (λ m. (2 ≡ m → ⊥) → (link plan 2).target ≡ (link plan m).target → (link plan 2).kind ≡ Put → (link plan m).kind ≡ Put →
    AreApart plan 2 m)
    (λ ne e f g. cc) (λ ne e f g. cc) (λ ne e f g. absurd (ne refl)) (λ ne e f g. absurd (omega arith)) m i)
    (below4 (λ m. (3 ≡ m → ⊥) → (link plan 3).target ≡ (link plan m).target → (link plan 3).kind ≡ Put → (link plan m).kind ≡ Put →
    AreApart plan 3 m)
    (λ ne e f g. cc) (λ ne e f g. cc) (λ ne e f g. absurd (omega arith)) (λ ne e f g. absurd (ne refl)) m i)
    l h

sound1 : SoundPlan plan 1
sound1 = record {
  some_rank = lit≤ tt;
  few_ranks = lit≤ tt;
  links_sound = sound_link;
  needs = below4 (λ c. 1 ≤ c → (cell plan c).needs ≡ length (in_links plan c)) (λ h. absurd (omega arith)) (λ h. refl) (λ h. refl)
      (λ h. refl);
  go_needs = below1 (λ r. ((cell plan r).needs ≡ 1) × (in_links plan r ≡ []) × ((cell plan r).rank ≡ r) × ((cell plan r).length ≡ 0))
      (refl, refl, refl, refl);
  apart = apart1;
  covered = below4 (λ c. 2 ≤ c → (cell plan c).op ≡ None → put_bytes plan c ≡ (cell plan c).length) (λ h e. absurd (omega arith))
      (λ h e. absurd (omega arith)) (λ h e. refl) (λ h e. refl);
  input_cells = below1 (λ i. (1 + i < 4) × ((cell plan (1 + i)).op ≡ None) × ((cell plan (1 + i)).rank ≡ i % 1)) (lit< tt, refl, refl);
  input_links = below4 (λ l. (link plan l).target < 2 → (link plan l).kind ≡ Bump) (λ h. refl) (λ h. refl) (λ h. absurd (omega arith))
      (λ h. absurd (omega arith));
  ranks_known = below4 (λ c. (cell plan c).rank < 1) (lit< tt) (lit< tt) (lit< tt) (lit< tt);
  whole = below4 (λ c. (cell plan c).length % bytes_of (cell plan c).ty ≡ 0) refl refl refl refl;
  all_go = lit≤ tt;
  few_cells = lit< tt;
  few_together = lit< tt;
  few_bytes = lit< tt;
}

abbrev all_slots : ℕ → Slots
all_slots r = slots

abbrev world1 : Histories
world1 r = good

abbrev system1 : System
system1 = system_of plan inputs all_slots

legal1 : (r : ℕ) → r < 1 → Legal (start_of plan slots r) false (prepare plan inputs slots r) (world1 r)
unfolding target request answered started fired call_made append cell_started bring
legal1 = below1 (λ r. Legal (start_of plan slots r) false (prepare plan inputs slots r) (world1 r)) (
  refl,
  (
    refl,
    (
      refl,
      (
        refl,
        (
          (refl, refl, refl, refl, tt),
          (
            (refl, refl, refl, refl, refl),
            (
              refl,
              (
                (refl, refl, refl, refl, tt),
                ((refl, refl, refl, refl, refl), (refl, (refl, (refl, (refl, tt))))),
              ),
            ),
          ),
        ),
      ),
    ),
  ),
)

known1 : (s : ℕ) (lane : Lane) → 1 ≤ s → got good s lane ≡ []
known1 zero lane h = absurd (omega arith)
known1 (suc s) lane h = let e : (0 == suc s) ≡ false = ne_eqb 0 (suc s) (λ i. absurd (omega arith)) in rw e refl

lanes1 : (lane : Lane) → IsPrefixOf (got_by world1 0 0 lane) (sent_by system1 world1 0 0 lane)
unfolding target request answered started fired call_made append cell_started bring
lanes1 Request = ([], refl)
lanes1 Answer = ([], refl)

pub cut1 : IsCut system1 world1
unfolding target request answered started fired call_made append cell_started bring
cut1 = record {
  legal = legal1;
  known = λ r s lane h k. known1 s lane k;
  lanes = λ s d lane h k. below1 (λ s. IsPrefixOf (got_by world1 d s lane) (sent_by system1 world1 s d lane))
      (below1 (λ d. IsPrefixOf (got_by world1 d 0 lane) (sent_by system1 world1 0 d lane)) (lanes1 lane) d k) s h;
}

empty1 : (lane : Lane) → got_by world1 0 0 lane ≡ sent_by system1 world1 0 0 lane
unfolding target request answered started fired call_made append cell_started bring
empty1 Request = refl
empty1 Answer = refl

pub rest1 : IsAtRest system1 world1
unfolding target request answered started fired call_made append cell_started bring
rest1 = record {
  started = λ r h. lit< tt;
  empty = λ s d lane h k. below1 (λ s. got_by world1 d s lane ≡ sent_by system1 world1 s d lane)
      (below1 (λ d. got_by world1 d 0 lane ≡ sent_by system1 world1 0 d lane) (empty1 lane) d k) s h;
  idle = λ r t h. below1 (λ r. is_ready (state_at system1 world1 r) t ≡ false) refl r h;
}

-- so the theorem says something of this world
pub complete1 : IsComplete plan inputs all_slots world1 0
complete1 = completes combined-starts plan inputs sound1 (λ i h. below1
    (λ i. length (input_bytes plan inputs i) ≡ (cell plan (1 + i)).length) refl i h) (combined-swaps op_laws) all_slots world1 cut1 rest1
    0 (lit< tt)
