-- Seats that were just installed, and lanes without a message, are a choice world of which nothing was done.
use Rattle.std.proofs.Common.{
  ℕ,
  ◌&&◌,
  ◌*◌,
  ◌<◌,
  ◌≤◌,
  ◌≡◌,
  ◌∙◌,
  List,
  [],
  get_or,
  length,
  nat_lt,
  map,
  replicate,
  if◌then◌else◌,
  refl,
  sym,
  ap,
  subst,
}
use Rattle.std.proofs.Common.{inl, inr, arith}
use Rattle.std.proofs.lemmas.Bool.{cases_lt}
use Rattle.std.proofs.lemmas.List.{get_or-map, get_or-replicate, get_or_past, length-map, length-replicate}
use Rattle.coll_lang.specs.declared.choices.ChoiceKind.{ChoiceKind}
use Rattle.ptl_types.specs.declared.headers.Lane.{Lane}
use Rattle.ptl_types.specs.declared.headers.Lane.TheVariants.{Answer, Request}
use Rattle.ptl_types.specs.Handles.{top}
use Rattle.pair_wires.specs.Lanes.{Plain}
use Rattle.cuts.specs.histories.History.{state}
use Rattle.cuts.specs.histories.System.{state_at}
use Rattle.cuts.specs.orders.Chosen.{Scene, first_scene}
use Rattle.cuts.specs.orders.Reached.{IsReached}
use Rattle.cuts.specs.orders.Reached.IsReached.{Begun}
use Rattle.cuts.specs.windows.Places.{lane_place}
use Rattle.rank_node.specs.Copies.{Diary}
use Rattle.worlds.specs.declared.parts.traffic.Traffic.{Traffic}
use Rattle.worlds.specs.parts.Layout.{held_in, lane_at}
use Rattle.worlds.specs.parts.Marks.{delivery_count, lane_has}
use Rattle.worlds.proofs.parts.Gated.{scene_by}
use Rattle.worlds.proofs.parts.Placed.{lane_in}
use Rattle.worlds.proofs.Opened.{none-held}
use Rattle.plan_choice.specs.texts.laws.Decided.{IsInRange}
use Rattle.plan_choice.specs.ranks.Seats.{IsInstalled, ChoiceRankState}
use Rattle.plan_choice.specs.Acts.{firing_count, no_seated, seat_at, start_count}
use Rattle.plan_choice.specs.Laying.{laid_lane}
use Rattle.plan_choice.specs.World.{AreFields, ChoiceState, HasGo, HasRoom, IsStanding, histories_in, nic_in, ranks_in, scene_in}

module _ (n : ℕ) (ks : List ChoiceKind) (some : 0 < n) (at_most : n ≤ 256) (few_steps : length ks ≤ 64) (seats : List ChoiceRankState)
    (size : length seats ≡ n) (installed : (r : ℕ) → r < n → IsInstalled n ks r (seat_at seats r)) (lanes : List Plain)
    (wide : length lanes ≡ 2 * (n * n))
    (laid : (s d : ℕ) (lane : Lane) → s < n → d < n → lane_at lanes (lane_place n s d lane) ≡ laid_lane (length ks) s d lane) where
  abbrev pub fresh : ChoiceState
  fresh = record { ranks = n; kinds = ks; seats = seats; lanes = lanes }

  -- at any rank, and on any lane
  nothing_done : (r : ℕ) → histories_in fresh r ≡ []
  nothing_done r = elim (cases_lt r n) [
    | inl lt ↦ ap (λ (d : Diary). d.locals) (installed r lt).diary
    | inr le ↦ ap (λ (s : ChoiceRankState). s.diary.locals) (get_or_past seats r no_seated (omega (arith, size, le)))
  ]

  empty : (s d : ℕ) (lane : Lane) → s < n → d < n → (lane_at lanes (lane_place n s d lane)).messages ≡ []
  empty s d lane hs hd = ap (λ (l : Plain). l.messages) (laid s d lane hs hd)

  pub is_first : scene_in fresh ≡ first_scene
  is_first = scene_by (histories_in fresh) (λ r. []) (held_in n lanes) (λ s d lane. []) nothing_done (none-held n lanes empty)

  in_range : IsInRange n ks
  in_range = record { some = some; few_ranks = at_most; few_steps = omega (arith, few_steps) }

  reached : IsReached (ranks_in fresh) (histories_in fresh) (scene_in fresh).held
  reached = subst (λ (z : Scene). IsReached (ranks_in fresh) z.world z.held) (sym is_first) Begun

  nic : (r : ℕ) → r < n → nic_in fresh r ≡ state_at (ranks_in fresh) (histories_in fresh) r
  nic r h = (installed r h).nic ∙ ap (state ((ranks_in fresh).go r) ((ranks_in fresh).first r)) (sym (nothing_done r))

  pub standing : IsStanding fresh
  standing = record { in_range = in_range; few_steps = few_steps; size = size; reached = reached; nic = nic }

  go : HasGo fresh
  go = record { some = λ r h. (installed r h).some; go = λ r h. (installed r h).go }

  room : HasRoom fresh
  room = record {
    steps = λ r h. let a = ap (λ (d : Diary). d.room) (installed r h).diary in omega (arith, a);
    receipts = λ r h. let a = ap (λ (d : Diary). d.receipts) (installed r h).diary in omega (arith, a);
    bytes = λ r h. let a = ap (λ (d : Diary). d.bytes) (installed r h).diary in omega (arith, a);
    wide = wide;
    lanes = λ s d lane hs hd. let a = ap (λ (l : Plain). l.capacity) (laid s d lane hs hd) in omega (arith, a);
  }

  -- no delivery is enabled
  none_come : (s d : ℕ) (lane : Lane) → s < n → d < n → delivery_count lanes n top s d lane ≡ 0
  none_come s d Request hs hd =
      ap (λ (l : Plain). if nat_lt 0 (length l.messages) && lane_has lanes n top d s Answer then 1 else 0) (laid s d Request hs hd)
  none_come s d Answer hs hd = ap (λ (l : Plain). if nat_lt 0 (length l.messages) then 1 else 0) (laid s d Answer hs hd)

  -- with such lanes and counts
  abbrev opened_traffic : List Plain → List ℕ → List ℕ → List ℕ → Traffic
  opened_traffic ls starts deliveries firings = record {
    setting = record { ranks = n; window = top; strays = 0; spare = 0 };
    lanes = ls;
    starts = starts;
    deliveries = deliveries;
    firings = firings;
  }

  pub opened_fields : (ls : List Plain) → ls ≡ lanes → (starts deliveries firings : List ℕ) → starts ≡ map start_count seats
      → deliveries ≡ replicate (2 * (n * n)) 0 → firings ≡ map firing_count seats
      → AreFields ks seats (opened_traffic ls starts deliveries firings)
  opened_fields ls table starts deliveries firings are_starts none are_firings =
      subst (λ t. AreFields ks seats (opened_traffic t starts deliveries firings)) (sym table) are
    where
      are : AreFields ks seats (opened_traffic lanes starts deliveries firings)
      are = record {
        window = refl;
        standing = standing;
        go = go;
        room = room;
        counted = record {
          wide_starts = ap length are_starts ∙ length-map seats start_count ∙ size;
          wide_deliveries = ap length none ∙ length-replicate (2 * (n * n)) 0;
          wide_firings = ap length are_firings ∙ length-map seats firing_count ∙ size;
          of_starts = λ r h.
              ap (λ xs. get_or xs r 0) are_starts ∙ get_or-map start_count seats r no_seated 0 (omega (arith, h, size));
          of_firings = λ r h.
              ap (λ xs. get_or xs r 0) are_firings ∙ get_or-map firing_count seats r no_seated 0 (omega (arith, h, size));
          of_deliveries = λ s d lane hs hd.
              ap (λ xs. get_or xs (lane_place n s d lane) 0) none
              ∙ get_or-replicate (2 * (n * n)) (lane_place n s d lane) 0 0 (lane_in n s d lane hs hd)
              ∙ sym (none_come s d lane hs hd);
        };
      }
