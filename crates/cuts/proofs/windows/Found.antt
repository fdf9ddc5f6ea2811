-- The possible step of a number, found by the counts of the places.
use Rattle.std.proofs.Common.{ℕ, zero, suc, Bool, true, false, ◌∷◌, [], ◌++◌, ◌+◌, ◌-◌, ◌*◌, ◌≡◌, ◌<◌, ◌∙◌, List, refl, ap, filter}
use Rattle.std.proofs.Common.{flat_map, take, get_or, length, sum, count_by, nat_lt, if◌then◌else◌, length-append, arith}
use Rattle.std.proofs.lemmas.List.{get_or_append_left, get_or-append_right}
use Rattle.ptl_types.specs.Messages.{Sent}
use Rattle.ptl_types.specs.declared.headers.Lane.{Lane}
use Rattle.plan_core.specs.Plan.{from_to}
use Rattle.cuts.specs.histories.History.{is_start}
use Rattle.cuts.specs.histories.System.{System}
use Rattle.cuts.specs.orders.Chosen.{Scene, first_of, start_at}
use Rattle.cuts.specs.declared.orders.Step.{Step}
use Rattle.cuts.specs.declared.orders.Step.TheVariants.{Start, Deliver}
use Rattle.cuts.specs.windows.Places.{counts, delivery_at, fires_at, destination_at, kind_at, source_at}
use Rattle.cuts.specs.windows.Possible.{is_possible, possible_steps}
use Rattle.cuts.proofs.windows.Counted.{count_at, length-all, listed}
use Rattle.cuts.proofs.windows.Places.{by-places}

-- the one thing that is there
only_start : (x d : Step) (b : Bool) (rest : ℕ) → rest < length (if b then [] else x ∷ []) → get_or (if b then [] else x ∷ []) rest d ≡ x
only_start x d false zero h = refl
only_start x d false (suc n) h = absurd (omega arith)
only_start x d true n h = absurd (omega arith)

only_one : (x d : Step) (b : Bool) (rest : ℕ) → rest < length (if b then x ∷ [] else []) → get_or (if b then x ∷ [] else []) rest d ≡ x
only_one x d true zero h = refl
only_one x d true (suc n) h = absurd (omega arith)
only_one x d false n h = absurd (omega arith)

only_delivery : (p : Step → Bool) (s e : ℕ) (lane : Lane) (ms : List Sent) (d : Step) (rest : ℕ) →
    rest < length (filter p (first_of s e lane ms)) → get_or (filter p (first_of s e lane ms)) rest d ≡ Deliver s e lane
only_delivery p s e lane [] d rest h = absurd (omega arith)
only_delivery p s e lane (m ∷ later) d rest h = only_one (Deliver s e lane) d (p (Deliver s e lane)) rest h

module _ (k : System) (window : ℕ) (z : Scene) where
  abbrev starts : List ℕ
  starts = counts (start_at z) k.count

  abbrev deliveries : List ℕ
  deliveries = counts (delivery_at k window z) (2 * (k.count * k.count))

  abbrev firings : List ℕ
  firings = counts (fires_at k window z) k.count

  abbrev all_starts : List Step
  all_starts = flat_map (start_at z) (from_to 0 k.count)

  abbrev all_deliveries : List Step
  all_deliveries = flat_map (delivery_at k window z) (from_to 0 (2 * (k.count * k.count)))

  abbrev all_firings : List Step
  all_firings = flat_map (fires_at k window z) (from_to 0 k.count)

  -- how many there are
  pub length-possible : length (possible_steps k window z) ≡ sum starts + (sum deliveries + sum firings)
  length-possible =
      let a = length-all (start_at z) k.count in
      let b = length-all (delivery_at k window z) (2 * (k.count * k.count)) in
      let c = length-all (fires_at k window z) k.count in
      ap length (by-places k window z) ∙ both all_starts (all_deliveries ++ all_firings)
      ∙ omega (arith, a, b, c, both all_deliveries all_firings)
    where
      both : (xs ys : List Step) → length (xs ++ ys) ≡ length xs + length ys
      both xs ys = length-append xs ys

  pub found_start : (place rest i : ℕ) (d : Step) → place < k.count → sum (take place starts) + rest ≡ i → rest < get_or starts place 0 →
      i < sum starts → get_or (possible_steps k window z) i d ≡ Start place
  found_start place rest i d h before within small =
      let a = length-all (start_at z) k.count in
      let c = count_at (start_at z) k.count place h in
      ap (λ xs. get_or xs i d) (by-places k window z)
      ∙ get_or_append_left all_starts (all_deliveries ++ all_firings) d i (omega arith)
      ∙ listed (start_at z) k.count place rest i d h before within
      ∙ only_start (Start place) d (nat_lt 0 (count_by is_start (z.world place))) rest (omega arith)

  pub found_delivery : (place rest i : ℕ) (d : Step) → place < 2 * (k.count * k.count) → sum (take place deliveries) + rest ≡ i →
      rest < get_or deliveries place 0 → i < sum deliveries
      → get_or (possible_steps k window z) (sum starts + i) d ≡ Deliver (source_at k.count place) (destination_at k.count place)
      (kind_at place)
  found_delivery place rest i d h before within small =
      let a = length-all (start_at z) k.count in
      let b = length-all (delivery_at k window z) (2 * (k.count * k.count)) in
      let c = count_at (delivery_at k window z) (2 * (k.count * k.count)) place h in
      let off : sum starts + i - sum starts ≡ i = omega arith in
      ap (λ xs. get_or xs (sum starts + i) d) (by-places k window z)
      ∙ get_or-append_right all_starts (all_deliveries ++ all_firings) (sum starts) (sum starts + i) d a (omega arith)
      ∙ ap (λ n. get_or (all_deliveries ++ all_firings) n d) off
      ∙ get_or_append_left all_deliveries all_firings d i (omega arith)
      ∙ listed (delivery_at k window z) (2 * (k.count * k.count)) place rest i d h before within
      ∙ only_delivery (is_possible k window z) (source_at k.count place) (destination_at k.count place) (kind_at place)
      (z.held (source_at k.count place) (destination_at k.count place) (kind_at place)) d rest (omega arith)

  pub found_firing : (place rest i : ℕ) (d : Step) → place < k.count → sum (take place firings) + rest ≡ i → rest < get_or firings place 0
      → get_or (possible_steps k window z) (sum starts + (sum deliveries + i)) d ≡ get_or (fires_at k window z place) rest d
  found_firing place rest i d h before within =
      let a = length-all (start_at z) k.count in
      let b = length-all (delivery_at k window z) (2 * (k.count * k.count)) in
      let off : sum starts + (sum deliveries + i) - sum starts ≡ sum deliveries + i = omega arith in
      let off2 : sum deliveries + i - sum deliveries ≡ i = omega arith in
      ap (λ xs. get_or xs (sum starts + (sum deliveries + i)) d) (by-places k window z)
      ∙ get_or-append_right all_starts (all_deliveries ++ all_firings) (sum starts) (sum starts + (sum deliveries + i)) d a (omega arith)
      ∙ ap (λ n. get_or (all_deliveries ++ all_firings) n d) off
      ∙ get_or-append_right all_deliveries all_firings (sum deliveries) (sum deliveries + i) d b (omega arith)
      ∙ ap (λ n. get_or all_firings n d) off2
      ∙ listed (fires_at k window z) k.count place rest i d h before within
