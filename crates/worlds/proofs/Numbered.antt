-- The possible step of a number, by the counts of the places: those of starts, of deliveries and of firings.
use Rattle.std.proofs.Common.{ℕ, ◌+◌, ◌*◌, ◌<◌, ◌≡◌, ◌∙◌, List, Some, sym, ap, ap₂, subst, arith, length, get_or, map, sum, take}
use Rattle.std.proofs.lemmas.Option.{slice_get-get_or, slice_get_within, unwrap_or-slice_get}
use Rattle.std.proofs.lemmas.List.{get_or-map}
use Rattle.std.specs.List.{slice_get}
use Rattle.std.specs.Option.{unwrap_or}
use Rattle.cuts.specs.histories.System.{System}
use Rattle.cuts.specs.orders.Chosen.{Scene, start_at}
use Rattle.cuts.specs.declared.orders.Step.{Step}
use Rattle.cuts.specs.declared.orders.Step.TheVariants.{Deliver, Fire, Start}
use Rattle.cuts.proofs.windows.Counted.{length-counts}
use Rattle.cuts.proofs.windows.Found.{found_delivery, found_firing, found_start, length-possible}
use Rattle.cuts.specs.windows.Places.{counts, delivery_at, fires_at, destination_at, kind_at, source_at}
use Rattle.cuts.specs.windows.Possible.{possible_steps}

module _ (ranks : System) (z : Scene) (window : ℕ) (starts deliveries firings : List ℕ)
    (starts_is : starts ≡ counts (start_at z) ranks.count)
    (deliveries_is : deliveries ≡ counts (delivery_at ranks window z) (2 * (ranks.count * ranks.count)))
    (firings_is : firings ≡ counts (fires_at ranks window z) ranks.count) where
  abbrev steps : List Step
  steps = possible_steps ranks window z

  pub total_of : sum starts + (sum deliveries + sum firings) ≡ length steps
  total_of =
      let a = ap sum starts_is in
      let b = ap sum deliveries_is in
      let c = ap sum firings_is in
      let d = length-possible ranks window z in
      omega (arith, a, b, c, d)

  -- a step that stands at a number, whatever else is said past the last
  stands_at : (i : ℕ) (x : Step) → i < length steps → get_or steps i x ≡ x → slice_get steps i ≡ Some x
  stands_at i x h e = slice_get-get_or steps i x h ∙ ap (λ y. Some y) e

  pub start_numbered : (r rest i : ℕ) → r < length starts → sum (take r starts) + rest ≡ i → rest < get_or starts r 0 → i < sum starts
      → slice_get steps i ≡ Some (Start r)
  start_numbered r rest i h before within small =
      let size = ap length starts_is ∙ length-counts (start_at z) ranks.count in
      let t = total_of in
      stands_at i (Start r) (omega (arith, t, small))
      (found_start ranks window z r rest i (Start r) (omega (arith, h, size))
      (subst (λ xs. sum (take r xs) + rest ≡ i) starts_is before) (subst (λ xs. rest < get_or xs r 0) starts_is within)
      (subst (λ xs. i < sum xs) starts_is small))

  pub delivery_numbered : (j rest i : ℕ) → j < length deliveries → sum (take j deliveries) + rest ≡ i → rest < get_or deliveries j 0
      → i < sum deliveries
      → slice_get steps (sum starts + i) ≡ Some (Deliver (source_at ranks.count j) (destination_at ranks.count j) (kind_at j))
  delivery_numbered j rest i h before within small =
      let size = ap length deliveries_is ∙ length-counts (delivery_at ranks window z) (2 * (ranks.count * ranks.count)) in
      let t = total_of in
      let x = Deliver (source_at ranks.count j) (destination_at ranks.count j) (kind_at j) in
      stands_at (sum starts + i) x (omega (arith, t, small))
      (ap (λ k. get_or steps (k + i) x) (ap sum starts_is)
      ∙ found_delivery ranks window z j rest i x (omega (arith, h, size))
      (subst (λ xs. sum (take j xs) + rest ≡ i) deliveries_is before) (subst (λ xs. rest < get_or xs j 0) deliveries_is within)
      (subst (λ xs. i < sum xs) deliveries_is small))

  -- where the firings of the rank have these numbers
  pub firing_numbered : (r rest i t : ℕ) (ready : List ℕ) → fires_at ranks window z r ≡ map (Fire r) ready → r < ranks.count
      → sum (take r firings) + rest ≡ i → rest < get_or firings r 0 → i < sum firings → slice_get ready rest ≡ Some t
      → slice_get steps (sum starts + (sum deliveries + i)) ≡ Some (Fire r t)
  firing_numbered r rest i t ready fires h before within small number =
      let long = slice_get_within ready rest t number in
      let tot = total_of in
      let there : get_or steps (sum starts + (sum deliveries + i)) (Fire r t) ≡ get_or (fires_at ranks window z r) rest (Fire r t) =
      ap₂ (λ k l. get_or steps (k + (l + i)) (Fire r t)) (ap sum starts_is) (ap sum deliveries_is)
      ∙ found_firing ranks window z r rest i (Fire r t) h
      (subst (λ xs. sum (take r xs) + rest ≡ i) firings_is before) (subst (λ xs. rest < get_or xs r 0) firings_is within) in
      stands_at (sum starts + (sum deliveries + i)) (Fire r t) (omega (arith, tot, small))
      (there
      ∙ ap (λ xs. get_or xs rest (Fire r t)) fires
      ∙ get_or-map (Fire r) ready rest t (Fire r t) long
      ∙ ap (Fire r) (at ready rest t number))
    where
      at : (xs : List ℕ) (i t : ℕ) → slice_get xs i ≡ Some t → get_or xs i t ≡ t
      at xs i t e = sym (unwrap_or-slice_get xs i t) ∙ ap (λ o. unwrap_or o t) e
