-- Each step that a rank may make is listed, among the enabled ones and under a window.
use Rattle.std.proofs.Common.{eqb-true, ℕ, Bool, true, ◌≡◌, ◌<◌, nat_lt, List, [], ◌∷◌, ◌++◌, Option, Some, None, refl, length, map, filter}
use Rattle.std.proofs.Common.{flat_map, if◌then◌else◌, ap₂, sym, subst, inl, arith, lt-ltb, zero-le}
use Rattle.ptl_types.specs.Messages.{Sent}
use Rattle.ptl_types.specs.declared.headers.Lane.{Lane}
use Rattle.ptl_types.specs.declared.headers.Lane.TheVariants.{Request, Answer}
use Rattle.ni_model.specs.Ready.{fired, is_number, is_ready, is_ready_op, posted_at, ready_numbers}
use Rattle.ni_model.specs.State.{Posted, State}
use Rattle.plan_core.specs.Members.{In}
use Rattle.plan_core.specs.Plan.{from_to}
use Rattle.plan_core.proofs.Links.{In-from_to}
use Rattle.plan_core.proofs.Lists.{In-append_left, In-append_right, In-filter, In-map}
use Rattle.cuts.proofs.view.Tables.{find-In}
use Rattle.cuts.specs.histories.History.{Local}
use Rattle.cuts.specs.histories.History.Local.{Start as Started, Receive as Received, Fire as Fired}
use Rattle.cuts.specs.histories.System.{System, state_at}
use Rattle.cuts.specs.histories.Moment.{HasWindow, IsEnabled, IsPossible}
use Rattle.cuts.specs.declared.orders.Step.{Step}
use Rattle.cuts.specs.declared.orders.Step.TheVariants.{Start, Deliver, Fire}
use Rattle.cuts.specs.orders.Chosen.{Scene, deliveries_between, enabled_steps, firings_at, first_of, start_at}
use Rattle.cuts.proofs.orders.Choosing.{In-flat}
use Rattle.cuts.specs.windows.Named.{named}
use Rattle.cuts.specs.windows.Possible.{finds_room, is_possible, possible_steps}

-- ---- lists
above : (n r : ℕ) → r < n → In r (from_to 0 n)
above n r h = In-from_to 0 n r zero-le (omega arith)

-- ---- among the enabled ones
ready_listed : (s : State) (t : ℕ) → is_ready s t ≡ true → In t (ready_numbers s)
ready_listed s t e = at (posted_at t s.pending) refl e
  where
    at : (o : Option Posted) → posted_at t s.pending ≡ o → is_ready_op s.cts o ≡ true → In t (ready_numbers s)
    at None q e = cc
    at (Some x) q f =
        let g = find-In (is_number t) s.pending.waiting x q in
        let n : x.number ≡ t = eqb-true _ _ g.1 in
        In-filter (is_ready s) t (map (λ (p : Posted). p.number) s.pending.waiting)
        (subst (λ v. In v (map (λ (p : Posted). p.number) s.pending.waiting)) n
        (In-map (λ (p : Posted). p.number) x s.pending.waiting g.0)) e

module _ (k : System) (z : Scene) where
  abbrev starts : List Step
  starts = flat_map (start_at z) (from_to 0 k.count)

  abbrev deliveries : List Step
  deliveries = flat_map (λ s. flat_map (deliveries_between z s) (from_to 0 k.count)) (from_to 0 k.count)

  abbrev firings : List Step
  firings = flat_map (firings_at k z) (from_to 0 k.count)

  on_lane : (s d : ℕ) (lane : Lane) → In (Deliver s d lane) (first_of s d lane (z.held s d lane)) →
      In (Deliver s d lane) (deliveries_between z s d)
  on_lane s d Request i = In-append_left (Deliver s d Request) (first_of s d Request (z.held s d Request))
      (first_of s d Answer (z.held s d Answer)) i
  on_lane s d Answer i = In-append_right (Deliver s d Answer) (first_of s d Request (z.held s d Request))
      (first_of s d Answer (z.held s d Answer)) i

  pub enabled_listed : (r : ℕ) (e : Local) → r < k.count → IsEnabled k z.world z.held r e → In (named r e) (enabled_steps k z)
  enabled_listed r Started h e =
      In-append_left (Start r) starts (deliveries ++ firings) (In-flat (start_at z) (from_to 0 k.count) r (Start r) (above k.count r h)
      (subst (λ n. In (Start r) (if nat_lt 0 n then [] else Start r ∷ [])) (sym e) (inl refl)))
  enabled_listed r (Received s lane m) h e =
      In-append_right (Deliver s r lane) starts (deliveries ++ firings) (In-append_left (Deliver s r lane) deliveries firings
      (In-flat (λ a. flat_map (deliveries_between z a) (from_to 0 k.count)) (from_to 0 k.count) s (Deliver s r lane) (above k.count s e.0)
      (In-flat (deliveries_between z s) (from_to 0 k.count) r (Deliver s r lane) (above k.count r h)
      (on_lane s r lane (subst (λ ms. In (Deliver s r lane) (first_of s r lane ms)) (sym e.1.1) (inl refl))))))
  enabled_listed r (Fired t) h e =
      In-append_right (Fire r t) starts (deliveries ++ firings) (In-append_right (Fire r t) deliveries firings
      (In-flat (firings_at k z) (from_to 0 k.count) r (Fire r t) (above k.count r h)
      (In-map (Fire r) t (ready_numbers (state_at k z.world r)) (ready_listed (state_at k z.world r) t e))))

  -- ---- under a window
  fits : (window r : ℕ) (o : Option Sent) → HasWindow z.held window r o → finds_room window z r o ≡ true
  fits window r None h = refl
  fits window r (Some m) h = lt-ltb _ _ h

  is_named : (window r : ℕ) (e : Local) → IsPossible k z.world z.held window r e → is_possible k window z (named r e) ≡ true
  is_named window r Started h = refl
  is_named window r (Fired t) h = fits window r (fired (state_at k z.world r) t).message h
  is_named window r (Received s Answer m) h = refl
  is_named window r (Received s Request m) h = lt-ltb _ _ h

  pub possible_listed : (window r : ℕ) (e : Local) → r < k.count → IsEnabled k z.world z.held r e →
      IsPossible k z.world z.held window r e → In (named r e) (possible_steps k window z)
  possible_listed window r e h on may = In-filter (is_possible k window z) (named r e) (enabled_steps k z) (enabled_listed r e h on)
      (is_named window r e may)

  -- ---- under a wide one all of them
  filter-all : (p : Step → Bool) (xs : List Step) → ((x : Step) → p x ≡ true) → filter p xs ≡ xs
  filter-all p [] e = refl
  filter-all p (x ∷ xs) e = ap₂ (λ b ys. if b then x ∷ ys else ys) (e x) (filter-all p xs e)

  pub wide : (window : ℕ) → ((s d : ℕ) (lane : Lane) → length (z.held s d lane) < window) → possible_steps k window z ≡ enabled_steps k z
  wide window at_most = filter-all (is_possible k window z) (enabled_steps k z) at
    where
      room : (r : ℕ) (o : Option Sent) → finds_room window z r o ≡ true
      room r None = refl
      room r (Some m) = lt-ltb _ _ (at_most r m.header.target Request)

      at : (x : Step) → is_possible k window z x ≡ true
      at (Start r) = refl
      at (Fire r t) = room r (fired (state_at k z.world r) t).message
      at (Deliver s d Answer) = refl
      at (Deliver s d Request) = lt-ltb _ _ (at_most d s Answer)
