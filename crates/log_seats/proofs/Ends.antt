-- What is owed after a call, from what the call did.
use Rattle.std.proofs.Common.{◌≡◌, ◌==◌, ℕ, List, length, None, Some, Option, refl, sym, ap, ◌∙◌, subst}
use Rattle.std.specs.Prelude.{Bool, false, Result, Ok, Err, codes}
use Rattle.ptl_types.specs.declared.calls.Delivered.{Delivered}
use Rattle.ptl_types.specs.declared.handles.Handle.{Handle}
use Rattle.ptl_types.specs.declared.calls.NiFault.{NiFault}
use Rattle.ptl_types.specs.declared.calls.NiFault.TheVariants as faults
use Rattle.ptl_types.specs.declared.calls.TriggeredOp.{TriggeredOp}
use Rattle.ptl_types.specs.Messages.{Sent}
use Rattle.ni_model.specs.Calls as calls
use Rattle.ni_model.specs.Calls.{Done, Makes, MayLackMemory, ends}
use Rattle.ni_model.specs.Calls.MayLackMemory.{enough, lacking}
use Rattle.ni_model.specs.Ready.{Fires, fired, fires, is_ready}
use Rattle.ni_model.specs.State.{Delivers, State, target}
use Rattle.portals_ni.specs.Answers.{MakesIfMemory, as_started}
use Rattle.guarded_ni.specs.declared.faults.CallFault.{CallFault}
use Rattle.guarded_ni.specs.declared.faults.CallFault.TheVariants.{Refused}
use Rattle.guarded_ni.specs.declared.faults.Misuse.{Misuse}
use Rattle.guarded_ni.specs.Guarded.{Guards, Tests}
use Rattle.guarded_ni.specs.Guarded.Tests.{Answered, Misused_by}
use Rattle.guarded_ni.specs.Guarded.Guards.{Answers as Done_as, Misuses, Refuses}
use Rattle.guarded_ni.specs.Misuses.{start_misuse, unless}
use Rattle.guarded_ni.specs.declared.faults.Misuse.TheVariants.{Elsewhere, NotReady}
use Rattle.log_answers.specs.declared.owed.Owed.{Owed}
use Rattle.log_answers.specs.declared.owed.Sort.{Sort}
use Rattle.log_seats.specs.Answers.{After, Ends, IsRefused, IsStarted, after, fault_word, left, message_owed, misuse_word, says}
use Rattle.log_seats.specs.Answers.{arrived, arrives, delivers_as, fires_as, fires_at, frees, gone, ok, outside, posts, sent_by}
use Rattle.log_seats.specs.Answers.{starts, tells, told, unless_misused, with_posted, writes}
use Rattle.log_seats.specs.Seats.{with_nic}
use Rattle.log_seats.specs.declared.after.After.{After as Told}
use Rattle.log_seats.specs.declared.seats.Seat.{Seat}

module _ {A : Type 0} (f : A → Owed) (t : State) (r : Result A NiFault) (s : Seat) (a : Told) where
  pub tells_as : (d : Done (Result A NiFault)) → ends t r ≡ d → a ≡ record { owed = told f r; sent = None }
      → Ends (with_nic t s) a (tells f d s)
  tells_as d does e =
      rw e
      (subst (λ (d : Done (Result A NiFault)). record { seat = with_nic t s; owed = told f r; sent = None } ≡ tells f d s) does refl)

  -- of a thing that a word names
  pub tells_of : {H : Type 0} (call : H → Done (Result A NiFault)) (h k : H) → h ≡ k → ends t r ≡ call h
      → a ≡ record { owed = told f r; sent = None } → Ends (with_nic t s) a (tells f (call k) s)
  tells_of call h k is does e = tells_as (call k) (does ∙ ap call is) e

-- a call that had memory
had : {A : Type 0} (call end : Done (Result A NiFault)) (old q : State) (x : Result A NiFault) → MayLackMemory call old end → end ≡ ends q x
    → (x ≡ Err faults.NoMemory → ⊥) → ends q x ≡ call
had call end old q x enough e n = sym e
had {A} call end old q x (lacking ok) e n = absurd (n (sym (ap (λ (d : Done (Result A NiFault)). d.answer) e)))

-- a call whose condition is kept, and one whose condition is broken
known : {A : Type 0} (o : Option Misuse) (call : Done A) (s : Seat) (t : State) (r : A) (F : Done A → After) (x : After) → o ≡ None
    → ends t r ≡ call → x ≡ F (ends t r) → x ≡ unless_misused o s (F call)
known None call s t r F x none e is = is ∙ ap F e
known (Some m) call s t r F x none e is = absurd cc

misused : (o : Option Misuse) (m : Misuse) (s : Seat) (x y : After) → o ≡ Some m → x ≡ after s (says (misuse_word m))
    → x ≡ unless_misused o s y
misused None m s x y some is = absurd cc
misused (Some n) m s x y some is = cc

-- a refusal that is told is no want of memory
refused_as : (fault : NiFault) (w : Owed) → IsRefused (Refused fault) w → (fault ≡ faults.NoMemory → ⊥) × (w ≡ says (fault_word fault))
refused_as faults.Stale w is = ((λ e. cc), is)
refused_as faults.NoSpace w is = ((λ e. cc), is)
refused_as faults.OutOfRegion w is = ((λ e. cc), is)
refused_as faults.InUse w is = ((λ e. cc), is)
refused_as faults.CountFull w is = ((λ e. cc), is)
refused_as faults.NoMemory w is = absurd is

is_no_lack : {A : Type 0} (fault : NiFault) (r : Result A NiFault) → (fault ≡ faults.NoMemory → ⊥) → r ≡ Err fault
    → r ≡ Err faults.NoMemory → ⊥
is_no_lack fault r n is e = n cc

module _ {A : Type 0} (o : Option Misuse) (s : Seat) (t : State) (F : Done (Result A NiFault) → After) where
  -- where a refusal leaves everything as it stands
  abbrev Tells : Type 0
  Tells = (r : NiFault) → F (ends t (Err r)) ≡ record { seat = with_nic t s; owed = says (fault_word r); sent = None }

  abbrev refusal : Owed → After
  refusal w = record { seat = with_nic t s; owed = w; sent = None }

  -- a call that makes a thing
  pub guarded_ok : (taken : ℕ → Bool) (call : ℕ → Done (Result A NiFault)) (x : A)
      → Guards o s.nic t (λ r. MakesIfMemory taken call s.nic (ends t r)) (Ok x)
      → Makes taken (λ slot. unless_misused o s (F (call slot))) (F (ends t (Ok x)))
  guarded_ok taken call x (Done_as _ none made) = record {
    slot = made.slot;
    free = made.free;
    ended =
        known o (call made.slot) s t (Ok x) F (F (ends t (Ok x))) none
        (had (call made.slot) (ends t (Ok x)) s.nic t (Ok x) made.ended refl (λ e. cc)) refl;
  }

  pub guarded_err : (taken : ℕ → Bool) (call : ℕ → Done (Result A NiFault)) (fault : CallFault) (w : Owed)
      → Guards o s.nic t (λ r. MakesIfMemory taken call s.nic (ends t r)) (Err fault) → IsRefused fault w → Tells
      → (some : ℕ) → taken some ≡ false → Makes taken (λ slot. unless_misused o s (F (call slot))) (refusal w)
  guarded_err taken call fault w (Refuses f none made) is tells some free =
      let n = refused_as f w is in
      record {
        slot = made.slot;
        free = made.free;
        ended =
            known o (call made.slot) s t (Err f) F (refusal w) none
            (had (call made.slot) (ends t (Err f)) s.nic t (Err f) made.ended refl (is_no_lack f (Err f) n.0 refl))
            (rw n.1 (sym (tells f)));
      }
  guarded_err taken call fault w (Misuses m broken stays) is tells some free =
      record { slot = some; free = free; ended = misused o m s (refusal w) (F (call some)) broken (rw (stays, is) refl) }

  -- a call that may lack memory
  pub may_ok : (call : Done (Result A NiFault)) (x : A) → Guards o s.nic t (λ r. MayLackMemory call s.nic (ends t r)) (Ok x)
      → F (ends t (Ok x)) ≡ unless_misused o s (F call)
  may_ok call x (Done_as _ none made) =
      known o call s t (Ok x) F (F (ends t (Ok x))) none (had call (ends t (Ok x)) s.nic t (Ok x) made refl (λ e. cc)) refl

  pub may_err : (call : Done (Result A NiFault)) (fault : CallFault) (w : Owed)
      → Guards o s.nic t (λ r. MayLackMemory call s.nic (ends t r)) (Err fault) → IsRefused fault w → Tells
      → refusal w ≡ unless_misused o s (F call)
  may_err call fault w (Refuses f none made) is tells =
      let n = refused_as f w is in
      known o call s t (Err f) F (refusal w) none (had call (ends t (Err f)) s.nic t (Err f) made refl (is_no_lack f (Err f) n.0 refl))
      (rw n.1 (sym (tells f)))
  may_err call fault w (Misuses m some stays) is tells = misused o m s (refusal w) (F call) some (rw (stays, is) refl)

-- an operation is started
pub starts_as : (d : TriggeredOp) (s : Seat) (t : State) (res : Result Sent CallFault) (a : Told)
    → Guards (start_misuse d s.nic.ranks s.nic.limits) s.nic t (λ r. MayLackMemory (calls.start d s.nic) s.nic (ends t (as_started r))) res
    → IsStarted res a → Ends (with_nic t s) a (starts d s)
starts_as d s t res a (Done_as m none made) is =
    known (start_misuse d s.nic.ranks s.nic.limits) (calls.start d s.nic) s t (Ok (Some m)) begun (left (with_nic t s) a) none
    (had (calls.start d s.nic) (ends t (Ok (Some m))) s.nic t (Ok (Some m)) made refl (λ e. cc)) (rw is refl)
  where
    begun : Done (Result (Option Sent) NiFault) → After
    begun r = record (tells message_owed r s) { sent = sent_by r.answer }
starts_as d s t res a (Refuses f none made) is =
    let n = refused_as f a.owed is.0 in
    known (start_misuse d s.nic.ranks s.nic.limits) (calls.start d s.nic) s t (Err f) begun (left (with_nic t s) a) none
    (had (calls.start d s.nic) (ends t (Err f)) s.nic t (Err f) made refl (is_no_lack f (Err f) n.0 refl)) (rw (n.1, is.1) refl)
  where
    begun : Done (Result (Option Sent) NiFault) → After
    begun r = record (tells message_owed r s) { sent = sent_by r.answer }
starts_as d s t res a (Misuses m some stays) is =
    misused (start_misuse d s.nic.ranks s.nic.limits) m s (left (with_nic t s) a) _ some (rw (stays, is.0, is.1) refl)

-- a thing is freed
pub frees_as : (sort : Sort) (call : Handle → Done (Result (Unit {0}) NiFault)) (h k : Handle) (t : State) (r : Result (Unit {0}) NiFault)
    (s x : Seat) (a : Told) → h ≡ k → ends t r ≡ call h → Ends x a (after (gone sort h r (with_nic t s)) (told ok r))
    → Ends x a (frees sort k (call k) s)
frees_as sort call h k t r s x a is does e =
    e
    ∙ subst (λ (d : Done (Result (Unit {0}) NiFault)).
    after (gone sort h r (with_nic t s)) (told ok r) ≡ after (gone sort h d.answer (with_nic d.state s)) (told ok d.answer)) does refl
    ∙ ap (λ (k : Handle). frees sort k (call k) s) is

-- a call whose condition is tested
known_as : (o : Option Misuse) (s : Seat) (x y : After) → o ≡ None → x ≡ y → x ≡ unless_misused o s y
known_as None s x y none e = e
known_as (Some m) s x y none e = absurd cc

pub tested_ok : {A : Type 0} (o : Option Misuse) (s : Seat) (t : State) (made : A → Type 0) (x : A) (y z : After)
    → Tests o s.nic t made (Ok x) → (made x → y ≡ z) → y ≡ unless_misused o s z
tested_ok o s t made x y z (Answered _ none m) f = known_as o s y z none (f m)

pub tested_err : {A : Type 0} (o : Option Misuse) (s : Seat) (t : State) (made : A → Type 0) (m : Misuse) (w : Owed) (z : After)
    → Tests o s.nic t made (Err m) → w ≡ says (misuse_word m)
    → record { seat = with_nic t s; owed = w; sent = None } ≡ unless_misused o s z
tested_err o s t made m w z (Misused_by _ some stays) is = misused o m s _ z some (rw (stays, is) refl)

-- an operation is posted
module _ (word : List ℕ) (d : TriggeredOp) (ct : Handle) (threshold : ℕ) (s : Seat) (t : State) where
  abbrev Posting : Result ℕ CallFault → Type 0
  Posting res =
      Guards (start_misuse d s.nic.ranks s.nic.limits) s.nic t
      (λ r. MayLackMemory (calls.triggered d ct threshold s.nic) s.nic (ends t r)) res

  abbrev posting : Done (Result ℕ NiFault) → After
  posting r = after (with_posted word ct r.answer (with_nic r.state s)) (told (λ (n : ℕ). says (codes "ok")) r.answer)

  pub posts_ok : (n : ℕ) → Posting (Ok n) → after (with_posted word ct (Ok n) (with_nic t s)) (says (codes "ok"))
      ≡ posts word d ct threshold s
  posts_ok n g = may_ok (start_misuse d s.nic.ranks s.nic.limits) s t posting (calls.triggered d ct threshold s.nic) n g

  pub posts_err : (fault : CallFault) (w : Owed) → Posting (Err fault) → IsRefused fault w
      → after (with_nic t s) w ≡ posts word d ct threshold s
  posts_err fault w g is =
      may_err (start_misuse d s.nic.ranks s.nic.limits) s t posting (calls.triggered d ct threshold s.nic) fault w g is (λ r. refl)

-- bytes are written
module _ (start : ℕ) (bytes : List ℕ) (s : Seat) (t : State) where
  abbrev Writing : Result (Unit {0}) Misuse → Type 0
  Writing = Tests (outside s.nic start (length bytes)) s.nic t (λ (u : Unit {0}). t ≡ calls.write_memory start bytes s.nic)

  pub writes_ok : Writing (Ok tt) → after (with_nic t s) (ok tt) ≡ writes start bytes s
  writes_ok tests =
      tested_ok (outside s.nic start (length bytes)) s t (λ (u : Unit {0}). t ≡ calls.write_memory start bytes s.nic) tt
      (after (with_nic t s) (ok tt)) (after (with_nic (calls.write_memory start bytes s.nic) s) (ok tt)) tests
      (λ is. ap (λ (n : State). after (with_nic n s) (ok tt)) is)

  pub writes_err : (m : Misuse) → Writing (Err m) → after (with_nic t s) (says (misuse_word m)) ≡ writes start bytes s
  writes_err m tests =
      tested_err (outside s.nic start (length bytes)) s t (λ (u : Unit {0}). t ≡ calls.write_memory start bytes s.nic) m
      (says (misuse_word m)) (after (with_nic (calls.write_memory start bytes s.nic) s) (ok tt)) tests refl

-- a message arrives
module _ (m : Sent) (s : Seat) (t : State) where
  abbrev Arriving : Result Delivered Misuse → Type 0
  Arriving = Tests (unless (m.header.target == s.nic.rank) Elsewhere) s.nic t
      (λ (d : Delivered). record { state = t; delivered = d } ≡ target s.nic m)

  pub arrives_ok : (d : Delivered) → Arriving (Ok d) → delivers_as (record { state = t; delivered = d }) s ≡ arrived m s
  arrives_ok d tests =
      tested_ok (unless (m.header.target == s.nic.rank) Elsewhere) s t (λ (d : Delivered). record { state = t; delivered = d }
      ≡ target s.nic m) d
      (delivers_as (record { state = t; delivered = d }) s) (arrives m s) tests (λ is. ap (λ (e : Delivers). delivers_as e s) is)

  pub arrives_err : (q : Misuse) → Arriving (Err q) → after (with_nic t s) (says (misuse_word q)) ≡ arrived m s
  arrives_err q tests =
      tested_err (unless (m.header.target == s.nic.rank) Elsewhere) s t (λ (d : Delivered). record { state = t; delivered = d }
      ≡ target s.nic m) q
      (says (misuse_word q)) (arrives m s) tests refl

-- an operation fires
module _ (n : ℕ) (s : Seat) (t : State) where
  abbrev Firing : Result (Option Sent) Misuse → Type 0
  Firing = Tests (unless (is_ready s.nic n) NotReady) s.nic t (λ (made : Option Sent). fires t made ≡ fired s.nic n)

  pub fires_ok : (made : Option Sent) → Firing (Ok made) → fires_as n (fires t made) s ≡ fires_at (Some n) s
  fires_ok made tests =
      tested_ok (unless (is_ready s.nic n) NotReady) s t (λ (made : Option Sent). fires t made
      ≡ fired s.nic n) made (fires_as n (fires t made) s)
      (fires_as n (fired s.nic n) s) tests (λ is. ap (λ (f : Fires). fires_as n f s) is)

  pub fires_err : (q : Misuse) → Firing (Err q) → after (with_nic t s) (says (misuse_word q)) ≡ fires_at (Some n) s
  fires_err q tests =
      tested_err (unless (is_ready s.nic n) NotReady) s t (λ (made : Option Sent). fires t made ≡ fired s.nic n) q (says (misuse_word q))
      (fires_as n (fired s.nic n) s) tests refl
