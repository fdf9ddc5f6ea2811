-- The message of a firing: for whom it is, and where there is none.
use Rattle.std.proofs.Common.{ℕ, ◌≡◌, ◌∙◌, Option, Some, None, refl, ap, sym}
use Rattle.ptl_types.specs.Messages.{Sent}
use Rattle.ptl_types.specs.declared.calls.TriggeredOp.{TriggeredOp}
use Rattle.ptl_types.specs.declared.calls.TriggeredOp.TheVariants.{Put, Get, Atomic, FetchAtomic, Swap, Inc, Set}
use Rattle.ni_model.specs.Ready.{done, fired, fired_op, message_target, posted_at, target_at, target_of, without_number}
use Rattle.ni_model.specs.Starts.{started}
use Rattle.ni_model.specs.State.{Posted, State}

-- the rank that a message is for, if there is one
abbrev pub rank_of : Option Sent → Option ℕ
rank_of None = None
rank_of (Some m) = Some m.header.target

-- the message of an action is for the rank that the action names
done-target : (s : State) (d : TriggeredOp) → rank_of (done s d).message ≡ message_target d
unfolding started
done-target s (Put a) = refl
done-target s (Get g) = refl
done-target s (Atomic a o ty) = refl
done-target s (FetchAtomic g a o ty) = refl
done-target s (Swap g a o ty x) = refl
done-target s (Inc ct by) = refl
done-target s (Set ct to) = refl

fired_op-target : (s : State) (o : Option Posted) → rank_of (fired_op s o).message ≡ target_of o
fired_op-target s None = refl
fired_op-target s (Some p) = done-target (record s { pending = without_number p.number s.pending }) p.action

pub fired-target : (s : State) (t : ℕ) → rank_of (fired s t).message ≡ target_at s t
unfolding fired
fired-target s t = fired_op-target s (posted_at t s.pending)

-- so there is none exactly where the operation that waits sends none
pub none-sent : (s : State) (t : ℕ) (o : Option Sent) → o ≡ (fired s t).message → o ≡ None → target_at s t ≡ None
none-sent s t o e n = sym (fired-target s t) ∙ ap rank_of (sym e ∙ n)

without : (o : Option Sent) → rank_of o ≡ None → o ≡ None
without None e = refl
without (Some m) e = cc

pub sends-none : (s : State) (t : ℕ) (o : Option Sent) → o ≡ (fired s t).message → target_at s t ≡ None → o ≡ None
sends-none s t o e n = e ∙ without (fired s t).message (fired-target s t ∙ n)
