-- An interface that is opened, or isn't, from what the handle held.
use Rattle.std.proofs.Common.{ℕ, ◌≡◌, ◌<◌, List, None, Option, Some, ap, subst, sym, ◌∙◌}
use Rattle.ptl_types.specs.declared.calls.Limits.{Limits}
use Rattle.ni_model.specs.State.{State, opened}
use Rattle.portals_ni.specs.Fit.{FitLimits}
use Rattle.guarded_ni.specs.declared.faults.CallFault.{CallFault}
use Rattle.guarded_ni.specs.Guarded.{NotOpened}
use Rattle.c_interface.specs.Calls.{Opens}
use Rattle.c_interface.specs.Calls.Opens.{Held_one, Lacking, Opened, Unopened}
use Rattle.c_interface.specs.Statuses.{fault_number}

module _ (rank ranks : ℕ) (l : Limits) (region : List ℕ) (before after : Option State) where
  -- both states of the handle, put in their places
  pub placed : (b a : Option State) (status : ℕ) → b ≡ before → after ≡ a → Opens rank ranks l region b a status
      → Opens rank ranks l region before after status
  placed b a status e f x =
      subst (λ (o : Option State). Opens rank ranks l region o after status) e
      (subst (λ (o : Option State). Opens rank ranks l region b o status) (sym f) x)

  -- it held one
  pub held_one : (s : State) → Some s ≡ before → after ≡ Some s → Opens rank ranks l region before after 33
  held_one s e f = placed (Some s) (Some s) 33 e f (Held_one s)

  -- there was no memory
  pub lacking : None ≡ before → after ≡ None → Opens rank ranks l region before after 6
  lacking e f = placed None None 6 e f Lacking

  -- it wasn't opened
  pub unopened : (k : Limits) (fault : CallFault) (status : ℕ) → k ≡ l → status ≡ fault_number fault → NotOpened rank ranks k fault
      → None ≡ before → after ≡ None → Opens rank ranks l region before after status
  unopened k fault status same number not e f =
      subst (λ (n : ℕ). Opens rank ranks l region before after n) (sym number)
      (placed None None (fault_number fault) e f
      (Unopened fault (subst (λ (x : Limits). NotOpened rank ranks x fault) same not)))

  -- it was
  pub newly : (k : Limits) (bytes : List ℕ) (s : State) → k ≡ l → bytes ≡ region → rank < ranks → FitLimits k
      → s ≡ opened rank ranks k bytes → None ≡ before → after ≡ Some s → Opens rank ranks l region before after 0
  newly k bytes s same copied among fit made e f =
      placed None (Some (opened rank ranks l region)) 0 e
      (f ∙ ap Some (made ∙ (ap (λ (x : Limits). opened rank ranks x bytes) same ∙ ap (opened rank ranks l) copied)))
      (Opened among (subst FitLimits same fit))
