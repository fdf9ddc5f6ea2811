-- The counts, when the seats of two ranks and the lanes between them changed and their counts were made anew.
use Rattle.std.proofs.Common.{ℕ, ◌<◌, ◌≡◌, ◌∙◌, List, sym, ap, arith}
use Rattle.std.proofs.Math.ListN.{length-set}
use Rattle.ptl_types.specs.declared.headers.Lane.{Lane}
use Rattle.ptl_types.specs.Handles.{top}
use Rattle.pair_wires.specs.Lanes.{Plain}
use Rattle.cuts.specs.windows.Places.{lane_place}
use Rattle.worlds.specs.parts.Layout.{lane_at}
use Rattle.worlds.proofs.parts.Marked.{deliveries_marked, marked_size}
use Rattle.worlds.proofs.parts.Sets.{two_marks}
use Rattle.plan_choice.specs.ranks.Seats.{ChoiceRankState}
use Rattle.plan_choice.specs.Acts.{firing_count, firing_mark, lane_marks, seat_at, start_count, start_mark}
use Rattle.plan_choice.specs.World.{AreCounted, ChoiceState}

module _ (w : ChoiceState) (starts deliveries firings : List ℕ) (counted : AreCounted w starts deliveries firings)
    (news : List ChoiceRankState)
    (lanes_after : List Plain) (s d : ℕ) (hs : s < w.ranks) (hd : d < w.ranks)
    (others : (q : ℕ) → (q ≡ s → ⊥) → (q ≡ d → ⊥) → seat_at news q ≡ seat_at w.seats q)
    (apart : (a b : ℕ) (lane : Lane) → a < w.ranks → b < w.ranks → ((a ≡ s) × (b ≡ d) → ⊥) → ((a ≡ d) × (b ≡ s) → ⊥)
    → lane_at lanes_after (lane_place w.ranks a b lane) ≡ lane_at w.lanes (lane_place w.ranks a b lane)) where
  abbrev v : ChoiceState
  v = record { ranks = w.ranks; kinds = w.kinds; seats = news; lanes = lanes_after }

  pub counted_news : AreCounted v (start_mark news d (start_mark news s starts)) (lane_marks w.ranks top lanes_after s d deliveries)
      (firing_mark news d (firing_mark news s firings))
  counted_news = record {
    wide_starts =
        length-set (start_mark news s starts) d (start_count (seat_at news d))
        ∙ length-set starts s (start_count (seat_at news s)) ∙ counted.wide_starts;
    wide_deliveries = marked_size w.ranks lanes_after top s d deliveries ∙ counted.wide_deliveries;
    wide_firings =
        length-set (firing_mark news s firings) d (firing_count (seat_at news d))
        ∙ length-set firings s (firing_count (seat_at news s)) ∙ counted.wide_firings;
    of_starts = λ r h. let e = counted.wide_starts in
        two_marks (λ q. start_count (seat_at news q)) starts s d r (omega (arith, e, hs)) (omega (arith, e, hd))
        (λ x y. counted.of_starts r h ∙ ap start_count (sym (others r x y)));
    of_firings = λ r h. let e = counted.wide_firings in
        two_marks (λ q. firing_count (seat_at news q)) firings s d r (omega (arith, e, hs)) (omega (arith, e, hd))
        (λ x y. counted.of_firings r h ∙ ap firing_count (sym (others r x y)));
    of_deliveries = λ q u lane hq hu.
        deliveries_marked w.ranks w.lanes deliveries top lanes_after s d hs hd counted.wide_deliveries counted.of_deliveries apart q u
        lane hq
        hu;
  }
