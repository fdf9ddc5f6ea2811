-- A call over an interface that was taken out of its handle and put back, from what the interface answered.
use Rattle.std.proofs.Common.{ℕ, ◌≡◌, ◌∙◌, Bool, false, Option, Some, None, Result, ap, nat_lt, subst, sym}
use Rattle.ni_model.specs.State.{State}
use Rattle.c_interface.specs.Calls.{Roomy}
use Rattle.c_interface.specs.Over.{Called, Named, Over, Tells, writes}
use Rattle.c_interface.specs.Statuses.{status_by}

module _ {Out : Type 0} (made : State → State → Type 0) (old new : Out) (before after : Option State) (status : ℕ) where
  -- where there is one
  pub opened : (s t : State) → Some s ≡ before → after ≡ Some t → made s t → Over made old new before after status
  opened s t e f m =
      subst (λ (b : Option State). Over made old new b after status) e
      (subst (λ (a : Option State). Over made old new (Some s) a status) (sym f) m)

  -- where there is none
  pub closed : None ≡ before → after ≡ None → status ≡ 32 → new ≡ old → Over made old new before after status
  closed e f n w =
      subst (λ (b : Option State). Over made old new b after status) e
      (subst (λ (a : Option State). Over made old new None a status) (sym f) (n, w))

-- an answer that is written out
pub called : {A E Out : Type 0} (made : State → State → Result A E → Type 0) (number : E → ℕ) (told : A → Out → Out) (old new : Out)
    (before after : Option State) (status : ℕ) (s t : State) (answer : Result A E) → Some s ≡ before → after ≡ Some t → made s t answer
    → status ≡ status_by number answer → new ≡ writes told answer old → Called made number told old new before after status
called made number told old new before after status s t answer e f m n w =
    opened (λ (x y : State). Tells (made x y) number told old new status) old new before after status s t e f
    (record { answer = answer; made_so = m; numbered = n; written = w })

module _ {A Out : Type 0} (made : A → Type 0) (old new : Out) (before after : Option State) (status : ℕ) (o : Option A) where
  -- where the numbers name something
  pub is_named : (x : A) → o ≡ Some x → made x → Named made old new before after status o
  is_named x e m = subst (λ (p : Option A). Named made old new before after status p) (sym e) m

  -- where they name nothing
  pub is_nameless : o ≡ None → status ≡ 35 → new ≡ old → after ≡ before → Named made old new before after status o
  is_nameless e n w f = subst (λ (p : Option A). Named made old new before after status p) (sym e) (n, (w, f))

-- an answer that is written out, of a call that wants room for the longest message
pub roomy_called : {A E Out : Type 0} (long : ℕ) (made : State → State → Result A E → Type 0) (number : E → ℕ) (told : A → Out → Out)
    (old new : Out) (before after : Option State) (status : ℕ) (s r t : State) (answer : Result A E) → s ≡ r → Some r ≡ before
    → false ≡ nat_lt long r.limits.msg → after ≡ Some t → made s t answer → status ≡ status_by number answer
    → new ≡ writes told answer old
    → Over (λ x y. Roomy (nat_lt long x.limits.msg) old new x y status (Tells (made x y) number told old new status)) old new before after
    status
roomy_called long made number told old new before after status s r t answer e b room f m n w =
    opened (λ (x y : State). Roomy (nat_lt long x.limits.msg) old new x y status (Tells (made x y) number told old new status))
    old new before after status s t (ap Some e ∙ b) f
    (subst (λ (d : Bool). Roomy d old new s t status (Tells (made s t) number told old new status))
    (room ∙ ap (λ (x : State). nat_lt long x.limits.msg) (sym e))
    (record { answer = answer; made_so = m; numbered = n; written = w }))
