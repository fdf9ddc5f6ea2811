-- The verdict on a text that is read line by line.
use Rattle.std.proofs.Common.{◌≡◌, ℕ, ◌+◌, ◌<◌, ◌≤◌, Bool, List, [], ◌∷◌, ◌++◌, length, Option, Some, None, refl, sym, ap, ◌∙◌}
use Rattle.std.proofs.Common.{append_assoc, arith, false, subst}
use Rattle.std.proofs.lemmas.List.{append-nil}
use Rattle.coll_text.specs.Text.{lines}
use Rattle.port_io.specs.Counts.{Rose}
use Rattle.port_io.specs.Ends.{Inflow, Outflow}
use Rattle.run_text.proofs.Fronts.{GivesFront-nothing, GivesFront-then}
use Rattle.run_text.proofs.Told.{told-any}
use Rattle.run_text.specs.Ending.{IsTold, Written}
use Rattle.run_text.specs.declared.status.Status.{Status}
use Rattle.run_text.specs.declared.status.Status.TheVariants.{NoMemory, ReadFault}
use Rattle.log_lines.specs.declared.lines.TheConstants.{LONGEST_LINE}
use Rattle.log_verdict.specs.Judging.{IsNew, IsVerdict, LineJudged, LineTook, Passes, Verdicts, end_verdict, next_line, took}
use Rattle.log_verdict.specs.Judging.Passes.{Judged as Passed, Written as Answered}
use Rattle.log_verdict.specs.Judging.Verdicts.{EndsAt, GoesOn, Stands}
use Rattle.log_verdict.specs.declared.judge.Judge.{Judge}
use Rattle.log_verdict.specs.declared.judge.Taken.TheVariants as takes
use Rattle.log_verdict.specs.declared.judge.Verdict.{Verdict}
use Rattle.log_verdict.proofs.Longs.{LongTook, long_took}
use Rattle.log_verdict.proofs.Pieces.{not_empty}
use Rattle.log_top.specs.Answered.{JudgeAnswers, Leaves}
use Rattle.log_top.specs.Answered.JudgeAnswers.{Judged, Lacking, Unread}
use Rattle.log_top.specs.Reading.{Reader, Reads}
use Rattle.log_words.specs.declared.faults.Flaw.{Flaw}
use Rattle.log_top.specs.Ending.{alone}
use Rattle.log_top.specs.Telling.{flaw_of, owed_verdict}
use Rattle.log_top.specs.declared.ending.Ended.{Ended}
use Rattle.log_top.specs.Turns.{JudgeTurn, JudgedFrom, JudgedRead, JudgedSoFar}
use Rattle.log_top.specs.declared.reading.Read.{Read}
use Rattle.log_top.specs.declared.reading.Read.TheVariants.{Line, Long, Last}
use Rattle.log_top.proofs.Lines.{Begins, after_line, begins_after, last_line, tells_end, tells_rest}

pub so_far_new : (any_order : Bool) (source : Inflow) (r : Reader) (j : Judge) → r.held ≡ [] → IsNew false any_order j
    → JudgedSoFar any_order source source r j
so_far_new any_order source r j none new = record {
  past = [];
  front = GivesFront-nothing source.left;
  faults = omega arith;
  goes = λ rest v h. record {
    judge = j;
    is_new = new;
    stands = subst (λ (x : List ℕ). Verdicts v j (lines (x ++ rest))) none h;
  };
}

-- a line that is too long ends the log
never_long : (j k : Judge) (line : List ℕ) → LONGEST_LINE < length line → Passes j line k → ⊥
never_long j k line long (Passed h) = let t = long_took (next_line j) k line [] takes.Goes long h in absurd (let e = t.is in cc)
never_long j k line long (Answered text h) =
    let t = long_took (next_line j) k line [] (takes.Owes text) long h in absurd (let e = t.is in cc)

module _ (any_order : Bool) (source now : Inflow) (r : Reader) (j : Judge) (so : JudgedSoFar any_order source now r j)
    (k : Judge) (q : Reader) (later : Inflow) where
  -- the log goes on
  pub so_far_on : (o : Option Verdict) → JudgeTurn j r now k q later o → ((x : Verdict) → (o ≡ Some x → ⊥))
      → JudgedSoFar any_order source later q k
  so_far_on (Some v) t none = absurd (none v refl)
  so_far_on None t none = at t.read t.reads t.judged
    where
      at : (read : Read) → Reads r now q later read → JudgedRead j q.line read k None → JudgedSoFar any_order source later q k
      at Line l h = record {
        past = so.past ++ l.bytes;
        front = GivesFront-then source.left now.left later.left so.past l.bytes so.front l.front;
        faults = let a = so.faults in let b = l.faults in omega (arith, a, b);
        goes = λ rest v stands.
            subst (λ (x : List ℕ). IsVerdict any_order x v) (sym (append_assoc so.past l.bytes rest))
            (so.goes (l.bytes ++ rest) v
            (subst (λ (ps : List (List ℕ)). Verdicts v j ps) (sym (after_line r.held l.bytes rest q.line q.held l.no_break l.parts))
            (GoesOn j k q.line (lines (q.held ++ rest)) h stands)));
      }
      at Long l h = absurd (let n = l.parts.1 in never_long j k q.line (omega (arith, n)) h)
      at Last l h = absurd cc

  -- or there is a verdict; so the bytes up to here and any further ones have it
  module _ (v : Verdict) where
    from_here : (read : Read) (l : Reads r now q later read) → ((rest : List ℕ) → Verdicts v j (lines (r.held ++ (l.bytes ++ rest))))
        → JudgedFrom any_order source later v
    from_here read l stands =
        let past = so.past ++ l.bytes in
        let front = GivesFront-then source.left now.left later.left so.past l.bytes so.front l.front in
        let told = tells_rest source.left later.left past front in
        record {
          bytes = past ++ told.rest;
          told = told.all;
          is = subst (λ (x : List ℕ). IsVerdict any_order x v) (sym (append_assoc so.past l.bytes told.rest))
              (so.goes (l.bytes ++ told.rest) v (stands told.rest));
          leaves = record { read = past; rest = told.rest; parts = refl; told = told.left };
        }

    long_stands : (line : List ℕ) (text : List ℕ) → Begins line text → LONGEST_LINE < length line
        → LineTook (next_line j) line (took k (takes.Ends v)) → Verdicts v j (lines text)
    long_stands line text b long h = at b.pieces b.are
      where
        t : LongTook (next_line j) k (line ++ b.more) (takes.Ends v)
        t = long_took (next_line j) k line b.more (takes.Ends v) long h

        same : t.v ≡ v
        same = let e = t.is in cc

        at : (pieces : List (List ℕ)) → lines text ≡ (line ++ b.more) ∷ pieces → Verdicts v j (lines text)
        at [] are =
            subst (λ (ps : List (List ℕ)). Verdicts v j ps) (sym are) (Stands j (line ++ b.more) (sym (t.ends ∙ same)))
        at (p ∷ ps) are =
            subst (λ (ps : List (List ℕ)). Verdicts v j ps) (sym are)
            (EndsAt j k (line ++ b.more) (p ∷ ps) (λ e. absurd cc)
            (subst (λ (w : Verdict). LineTook (next_line j) (line ++ b.more) (took k (takes.Ends w))) same t.took))

    judged_at : (read : Read) → Reads r now q later read → JudgedRead j q.line read k (Some v) → JudgedFrom any_order source later v
    judged_at Line l h =
        from_here Line l
        (λ rest.
        subst (λ (ps : List (List ℕ)). Verdicts v j ps) (sym (after_line r.held l.bytes rest q.line q.held l.no_break l.parts))
        (EndsAt j k q.line (lines (q.held ++ rest)) (not_empty 10 (q.held ++ rest)) h))
    judged_at Long l h =
        from_here Long l
        (λ rest.
        long_stands q.line (r.held ++ (l.bytes ++ rest)) (begins_after r.held l.bytes rest q.line q.held l.no_break l.parts.0)
        (let n = l.parts.1 in omega (arith, n)) h)
    judged_at Last l h =
        let past = so.past ++ l.bytes in
        let told = tells_end source.left later.left past
        (GivesFront-then source.left now.left later.left so.past l.bytes so.front l.front) (l.over refl) in
        let is : v ≡ end_verdict (next_line j) q.line = cc (h) in
        let all : lines (r.held ++ (l.bytes ++ [])) ≡ q.line ∷ [] =
        ap (λ (x : List ℕ). lines (r.held ++ x)) (append-nil l.bytes) ∙ ap lines l.parts.0 ∙ last_line q.line l.no_break in
        record {
          bytes = past ++ [];
          told = told.0;
          is = subst (λ (x : List ℕ). IsVerdict any_order x v) (sym (append_assoc so.past l.bytes []))
              (so.goes (l.bytes ++ []) v (subst (λ (ps : List (List ℕ)). Verdicts v j ps) (sym all) (Stands j q.line is)));
          leaves = record { read = past; rest = []; parts = refl; told = told.1 };
        }

    pub judged_now : (o : Option Verdict) → JudgeTurn j r now k q later o → o ≡ Some v → JudgedFrom any_order source later v
    judged_now o t is = judged_at t.read t.reads (subst (λ (p : Option Verdict). JudgedRead j q.line t.read k p) is t.judged)

-- ---- what was read of a source

pub judged_answers : (any_order : Bool) (source source' : Inflow) (sink sink' : Outflow) (v : Verdict) (status : Status)
    (flaw : Option Flaw) → JudgedFrom any_order source source' v → Written (owed_verdict v) sink sink' status → flaw ≡ flaw_of v
    → (bytes : List ℕ) × IsTold source.left bytes
    × JudgeAnswers any_order bytes source source' sink sink' (record { status = status; flaw = flaw })
judged_answers any_order source source' sink sink' v status flaw f w e = (f.bytes, f.told, Judged v f.is w e f.leaves)

pub unread_answers : (any_order : Bool) (source source' : Inflow) (sink : Outflow) (e : Ended) → e ≡ alone ReadFault
    → Rose source.faults source'.faults
    → (bytes : List ℕ) × IsTold source.left bytes × JudgeAnswers any_order bytes source source' sink sink e
unread_answers any_order source source' sink e is rose =
    let t = told-any source.left in (t.0, t.1, Unread (ap (λ (x : Ended). x.status) is) rose refl)

pub lacking_answers : (any_order : Bool) (source source' : Inflow) (sink : Outflow) (e : Ended) → e ≡ alone NoMemory
    → (bytes : List ℕ) × IsTold source.left bytes × JudgeAnswers any_order bytes source source' sink sink e
lacking_answers any_order source source' sink e is =
    let t = told-any source.left in (t.0, t.1, Lacking (ap (λ (x : Ended). x.status) is) refl)
