-- What a check finds and writes, and what then holds for the bytes of the source.
use Rattle.std.proofs.Common.{◌≡◌, ◌≢◌, ℕ, ◌≤◌, List, length, Option, Some, None, Result, Ok, Err, refl, sym, subst}
use Rattle.port_io.specs.Counts.{Rose}
use Rattle.port_io.specs.Ends.{Inflow, Outflow}
use Rattle.ptl_types.specs.declared.steps.LocalStep.{LocalStep}
use Rattle.coll_shape.specs.Outline.{Outline}
use Rattle.coll_shape.specs.Meaning.{Lists}
use Rattle.coll_lang.specs.declared.fault.Refusal.{Refusal}
use Rattle.coll_lang.specs.Program.{Program}
use Rattle.order_lines.specs.Check.{read_check}
use Rattle.order_lines.specs.declared.checking.TheConstants.{LONGEST_CHECK}
use Rattle.cuts.specs.declared.orders.Verdict.{Verdict}
use Rattle.cuts.specs.declared.orders.Verdict.TheVariants.{Holds, Fails}
use Rattle.schedule_compiler.specs.shapes.Footprint.{Refused as Excessive, refusal}
use Rattle.run_text.specs.Putting.{Ends, FailsWithin}
use Rattle.worlds.specs.World.{WorldState}
use Rattle.run_text.specs.declared.status.Status.{Status}
use Rattle.run_text.specs.declared.status.Status.TheVariants.{Done, Usage, Refused, ReadFault, WriteFault, NoMemory}
use Rattle.portals_top.specs.declared.words.Command.{Command}
use Rattle.run_text.specs.Ending.{IsTold, MayAnswer, Stands, Written}
use Rattle.portals_top.specs.Checked.{Checked, FindsFor, FindsIn, Found, IsVerdictOn, Judges, due_checked, due_judged, due_verdict}
use Rattle.portals_top.specs.Due.{due_compiled}
use Rattle.portals_top.specs.Left.{nothing_ran}
use Rattle.run_text.proofs.Ended.{leaves}
use Rattle.run_text.proofs.Told.{Told, short-text, told-any}
use Rattle.portals_top.proofs.Alike.{check-long, same-check}

-- ---- a verdict
pub verdict-written : (v : Verdict) (status : Status) (sink sink' : Outflow) → status ≡ (due_verdict (Some v)).status
    → Ends sink sink' (due_verdict (Some v)).text → Written (due_verdict (Some v)) sink sink' status
verdict-written Holds status sink sink' is ends =
    subst (λ s. Written (due_verdict (Some Holds)) sink sink' s) (sym is)
    (record { allowed = refl; no_read = λ e. absurd (cc); text = ends })
verdict-written (Fails r place cause) status sink sink' is ends =
    subst (λ s. Written (due_verdict (Some (Fails r place cause))) sink sink' s) (sym is)
    (record { allowed = refl; no_read = λ e. absurd (cc); text = ends })

pub verdict-failed : (v : Verdict) (sink sink' : Outflow) → FailsWithin sink sink' (due_verdict (Some v)).text
    → Written (due_verdict (Some v)) sink sink' WriteFault
verdict-failed v sink sink' fails = record { allowed = tt; no_read = λ e. absurd (cc); text = fails }

-- no usage line is owed
verdict-owed : (found : Option Verdict) → (due_verdict found).status ≢ Usage
verdict-owed None = λ is. absurd (cc)
verdict-owed (Some Holds) = λ is. absurd (cc)
verdict-owed (Some (Fails r place cause)) = λ is. absurd (cc)

pub verdict-no_memory : (v : Verdict) (sink : Outflow) → Written (due_verdict (Some v)) sink sink NoMemory
verdict-no_memory v sink = record { allowed = verdict-owed (Some v); no_read = λ e. absurd (cc); text = refl }

-- the verdict was found, where it or a beginning of its text was written
pub judged-verdict : (o : Outline) (inputs : Lists) (orders : List (List LocalStep)) (v : Verdict) (sink sink' : Outflow) (status : Status)
    → IsVerdictOn o inputs orders v → Written (due_verdict (Some v)) sink sink' status
    → Judges (λ found. due_verdict found) (λ found. FindsFor o inputs orders None found) sink sink' status
judged-verdict o inputs orders v sink sink' Done on written = (Some v, written, on)
judged-verdict o inputs orders v sink sink' Usage on written = absurd (verdict-owed (Some v) written.allowed)
judged-verdict o inputs orders v sink sink' Refused on written = (Some v, written, on)
judged-verdict o inputs orders v sink sink' ReadFault on written = absurd (written.no_read refl)
judged-verdict o inputs orders v sink sink' WriteFault on written = (Some v, written, on)
judged-verdict o inputs orders v sink sink' NoMemory on written =
    (None, record { allowed = λ e. absurd (cc); no_read = λ e. absurd (cc); text = written.text }, refl)

pub judged-no_memory : (o : Outline) (inputs : Lists) (orders : List (List LocalStep)) (sink : Outflow)
    → Judges (λ found. due_verdict found) (λ found. FindsFor o inputs orders None found) sink sink NoMemory
judged-no_memory o inputs orders sink = (None, record { allowed = λ e. absurd (cc); no_read = λ e. absurd (cc); text = refl }, refl)

-- ---- nothing was found
found-none : (finds : Option Verdict → Type 0) (status : Status) → finds None → Found status finds None
found-none finds Done none = none
found-none finds Usage none = refl
found-none finds Refused none = none
found-none finds ReadFault none = refl
found-none finds WriteFault none = none
found-none finds NoMemory none = refl

-- ---- a shape that was compiled, and one that wasn't
pub judged-compiled : (o : Outline) (inputs : Lists) (orders : List (List LocalStep)) (r : Option Excessive) (sink sink' : Outflow)
    (status : Status) → r ≡ None
    → Judges (λ found. due_verdict found) (λ found. FindsFor o inputs orders None found) sink sink' status
    → Judges (λ found. due_judged o found r) (λ found. FindsFor o inputs orders r found) sink sink' status
judged-compiled o inputs orders r sink sink' status none j =
    subst (λ x. Judges (λ found. due_judged o found x) (λ found. FindsFor o inputs orders x found) sink sink' status) (sym none) j

pub judged-refused : (o : Outline) (inputs : Lists) (orders : List (List LocalStep)) (r : Option Excessive) (command : Command)
    (given : Lists)
    (ran : Option WorldState) (sink sink' : Outflow) (status : Status) → Written (due_compiled command o given ran r) sink sink' status
    → (r ≡ None → status ≡ NoMemory)
    → Judges (λ found. due_judged o found r) (λ found. FindsFor o inputs orders r found) sink sink' status
judged-refused o inputs orders None command given ran sink sink' status written memory =
    let is = memory refl in
    let kept = subst (λ s. Stands s sink sink' (due_compiled command o given ran None).text) is written.text in
    subst (λ s. Judges (λ found. due_judged o found None) (λ found. FindsFor o inputs orders None found) sink sink' s) (sym is)
    (None, record { allowed = λ e. absurd (cc); no_read = λ e. absurd (cc); text = kept }, refl)
judged-refused o inputs orders (Some r) command given ran sink sink' status written memory =
    (None, written, found-none (λ found. FindsFor o inputs orders (Some r) found) status refl)

-- ---- a text
pub judged-text : (text : List ℕ) (d : Program) (orders : List (List LocalStep)) (sink sink' : Outflow) (status : Status)
    → read_check text ≡ Ok (d, orders)
    → Judges (λ found. due_judged d.shape found (refusal d.shape)) (λ found. FindsFor d.shape d.inputs orders (refusal d.shape) found)
    sink sink' status
    → Judges (λ found. due_checked found (read_check text)) (λ found. FindsIn (read_check text) found) sink sink' status
judged-text text d orders sink sink' status is j =
    subst (λ r. Judges (λ found. due_checked found r) (λ found. FindsIn r found) sink sink' status) (sym is) j

pub refused-text : (text : List ℕ) (refusal : ℕ × Refusal) (sink sink' : Outflow) (status : Status) → read_check text ≡ Err refusal
    → Written (due_checked None (Err refusal)) sink sink' status
    → Judges (λ found. due_checked found (read_check text)) (λ found. FindsIn (read_check text) found) sink sink' status
refused-text text refusal sink sink' status is written =
    subst (λ r. Judges (λ found. due_checked found r) (λ found. FindsIn r found) sink sink' status) (sym is)
    (None, written, found-none (λ found. FindsIn (Err refusal) found) status refl)

judged-owed : (o : Outline) (found : Option Verdict) (r : Option Excessive) → (due_judged o found r).status ≢ Usage
judged-owed o found None = verdict-owed found
judged-owed o found (Some r) = λ is. absurd (cc)

checked-owed : (found : Option Verdict) (r : Result (Program × List (List LocalStep)) (ℕ × Refusal)) → (due_checked found r).status ≢ Usage
checked-owed found (Ok both) = judged-owed both.0.shape found (refusal both.0.shape)
checked-owed found (Err refusal) = λ is. absurd (cc)

pub text-no_memory : (text : List ℕ) (sink : Outflow)
    → Judges (λ found. due_checked found (read_check text)) (λ found. FindsIn (read_check text) found) sink sink NoMemory
text-no_memory text sink =
    (None, record { allowed = checked-owed None (read_check text); no_read = λ e. absurd (cc); text = refl }, refl)

-- ---- the bytes of the source
check-short : (found : Option Verdict) (text : List ℕ) → (due_checked found (read_check text)).status ≡ Done → length text ≤ LONGEST_CHECK
check-short found text done =
    short-text LONGEST_CHECK text (λ long. let refused : Refused ≡ Done = subst (λ r. (due_checked found r).status ≡ Done)
    (check-long text long) done in absurd (cc))

pub checked-read : (text : List ℕ) (source source' : Inflow) (sink sink' : Outflow) (status : Status)
    (told : Told LONGEST_CHECK source.left source'.left text)
    → Judges (λ found. due_checked found (read_check text)) (λ found. FindsIn (read_check text) found) sink sink' status
    → Checked told.bytes source source' sink sink' nothing_ran status
checked-read text source source' sink sink' status told j =
    let same = sym (same-check told.bytes text told.alike) in
    record {
      verdict = j.0;
      found = subst (λ r. Found status (λ found. FindsIn r found) j.0) same j.2;
      allowed = subst (λ r. MayAnswer status (due_checked j.0 r).status) same j.1.allowed;
      read_fault = λ is. absurd (j.1.no_read is);
      write_fault = λ is. (subst (λ s. Stands s sink sink' (due_checked j.0 (read_check text)).text) is j.1.text).rose;
      text = subst (λ r. Stands status sink sink' (due_checked j.0 r).text) same j.1.text;
      rest = leaves LONGEST_CHECK (due_checked j.0 (read_check text)).status status text source source' told (check-short j.0 text)
          j.1.allowed;
      world = refl;
    }

pub checked-failed : (source source' : Inflow) (sink : Outflow) → Rose source.faults source'.faults
    → (bytes : List ℕ) × IsTold source.left bytes × Checked bytes source source' sink sink nothing_ran ReadFault
checked-failed source source' sink rose =
    let any = told-any source.left in (
      any.0,
      any.1,
      record {
        verdict = None;
        found = refl;
        allowed = checked-owed None (read_check any.0);
        read_fault = λ is. rose;
        write_fault = λ is. absurd (cc);
        text = refl;
        rest = tt;
        world = refl;
      },
    )

pub checked-no_memory : (source source' : Inflow) (sink : Outflow)
    → (bytes : List ℕ) × IsTold source.left bytes × Checked bytes source source' sink sink nothing_ran NoMemory
checked-no_memory source source' sink =
    let any = told-any source.left in (
      any.0,
      any.1,
      record {
        verdict = None;
        found = refl;
        allowed = checked-owed None (read_check any.0);
        read_fault = λ is. absurd (cc);
        write_fault = λ is. absurd (cc);
        text = refl;
        rest = tt;
        world = refl;
      },
    )
