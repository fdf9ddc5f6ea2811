-- The counts of deliveries after the first pairs of ranks.
use Rattle.std.proofs.Common.{ℕ, ◌+◌, ◌*◌, ◌/◌, ◌%◌, ◌<◌, ◌≡◌, ◌∙◌, List, length, arith}
use Rattle.std.proofs.Math.ListN.{length-set}
use Rattle.ptl_types.specs.declared.headers.Lane.TheVariants.{Request, Answer}
use Rattle.pair_wires.specs.Lanes.{Plain}
use Rattle.cuts.specs.windows.Places.{lane_place}
use Rattle.worlds.specs.parts.Marks.{delivery_count, delivery_mark}
use Rattle.worlds.proofs.opening.Laid.{IsLaid, pair-place, pair-set}

pub record AreFilled (n window : ℕ) (lanes : List Plain) (xs : List ℕ) (i : ℕ) : Type 0 where
  pub size : length xs ≡ 2 * (n * n)
  pub laid : (k : ℕ) → k < i → IsLaid (delivery_count lanes n window) n xs 0 k

pub filled_more : (n window : ℕ) (lanes : List Plain) (xs : List ℕ) (i : ℕ) → i < n * n → AreFilled n window lanes xs i
    → AreFilled n window lanes (delivery_mark lanes n window (i / n) (i % n) Answer
    (delivery_mark lanes n window (i / n) (i % n) Request xs)) (i + 1)
filled_more n window lanes xs i h before =
    let s = before.size in
    let places = pair-place n i in
    record {
      size =
          length-set (delivery_mark lanes n window (i / n) (i % n) Request xs) (lane_place n (i / n) (i % n) Answer)
          (delivery_count lanes n window (i / n) (i % n) Answer)
          ∙ length-set xs (lane_place n (i / n) (i % n) Request) (delivery_count lanes n window (i / n) (i % n) Request)
          ∙ before.size;
      laid = pair-set (delivery_count lanes n window) n xs 0 i (lane_place n (i / n) (i % n) Request) (lane_place n (i / n) (i % n) Answer)
          (omega (arith, h, s)) places.0 places.1 before.laid;
    }
