-- What holds of a message that nothing keeps from being received.
use Rattle.std.proofs.Common.{ℕ, Bool, true, false, not, cond, ◌&&◌, ◌≡◌, ◌<◌, ◌≤◌, ◌==◌, nat_lt}
use Rattle.std.proofs.Common.{length, Option, Some, None, count_by, eqb-true, refl, subst, arith}
use Rattle.std.proofs.lemmas.Bool.{eqb-false, ltb-false}
use Rattle.ptl_types.specs.Kinds.{is_answer, lane_of}
use Rattle.ptl_types.specs.Messages.{Sent}
use Rattle.ni_model.specs.Answers.{is_awaited}
use Rattle.cuts.specs.histories.Cut.{is_stray}
use Rattle.cuts.specs.histories.History.{is_start}
use Rattle.rank_frames.specs.Due.{due_on}
use Rattle.rank_frames.specs.Frames.{nobody}
use Rattle.rank_frames.specs.Place.{PlaceState, fault_of, fault_of_head, is_new}
use Rattle.rank_frames.specs.declared.fault.FrameFault.{FrameFault}
use Rattle.rank_frames.specs.declared.fault.FrameFault.TheVariants.{Mark, OtherSource, OtherTarget, OtherJob, Lane as NoLane, NotAwaited}
use Rattle.rank_frames.specs.declared.fault.FrameFault.TheVariants.{TooMany}

pub record IsClear (p : PlaceState) (source : ℕ) (m : Sent) : Type 0 where
  pub own : is_stray m ≡ false
  pub due : 0 < due_on p.due source (lane_of m.header.kind)
  pub bytes : length m.bytes ≤ p.due.bytes

-- a test that finds nothing wrong
passed : (b : Bool) (fault : FrameFault) (others : Option FrameFault) → cond b (Some fault) others ≡ None → (b ≡ false) × (others ≡ None)
passed true fault others e = absurd cc
passed false fault others e = (refl, e)

pub clear : (p : PlaceState) (source : ℕ) (m : Sent) → fault_of p source m ≡ None → IsClear p source m
clear p source m none =
    let last : Option FrameFault = cond (nat_lt p.due.bytes (length m.bytes)) (Some TooMany) None in
    let answers : Option FrameFault = cond (is_answer m.header.kind && not (is_awaited p.node.nic.mds.live)) (Some NotAwaited) last in
    let lanes : Option FrameFault = cond (due_on p.due source (lane_of m.header.kind) == 0) (Some NoLane) answers in
    let jobs : Option FrameFault = cond (is_stray m) (Some OtherJob) lanes in
    let targets : Option FrameFault = cond (not (m.header.target == p.me)) (Some OtherTarget) jobs in
    let a = passed (not (m.header.source == source)) OtherSource targets none in
    let b = passed (not (m.header.target == p.me)) OtherTarget jobs a.1 in
    let c = passed (is_stray m) OtherJob lanes b.1 in
    let d = passed (due_on p.due source (lane_of m.header.kind) == 0) NoLane answers c.1 in
    let e = passed (is_answer m.header.kind && not (is_awaited p.node.nic.mds.live)) NotAwaited last d.1 in
    let f = passed (nat_lt p.due.bytes (length m.bytes)) TooMany None e.1 in
    let some : due_on p.due source (lane_of m.header.kind) ≡ 0 → ⊥ = eqb-false _ _ d.0 in
    record { own = c.0; due = omega (arith, some); bytes = ltb-false _ _ f.0 }

-- ---- heads
both-true : (a b : Bool) → (a && b) ≡ true → (a ≡ true) × (b ≡ true)
both-true true true e = (refl, refl)
both-true true false e = absurd cc
both-true false b e = absurd cc

mark-passes : (b : Bool) → cond b None (Some Mark) ≡ None → b ≡ true
mark-passes true e = refl
mark-passes false e = absurd cc

-- a mark that passes is that of a first start
pub marked : (p : PlaceState) (n : ℕ) → fault_of_head p nobody n ≡ None → (n ≡ 0) × (count_by is_start p.node.diary.locals ≡ 0)
marked p n none =
    let both = both-true (n == 0) (is_new p) (mark-passes ((n == 0) && is_new p) none) in
    (eqb-true n 0 both.0, eqb-true (count_by is_start p.node.diary.locals) 0 both.1)

pub marked-none : (p : PlaceState) (n : ℕ) → fault_of_head p nobody n ≡ None → fault_of_head p nobody 0 ≡ None
marked-none p n none = subst (λ k. fault_of_head p nobody k ≡ None) (marked p n none).0 none
