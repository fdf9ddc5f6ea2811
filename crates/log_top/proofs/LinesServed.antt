-- A text that is answered line by line.
use Rattle.std.proofs.Common.{◌≡◌, ℕ, ◌+◌, ◌<◌, ◌≤◌, Bool, true, List, [], ◌∷◌, ◌++◌, length, Option, Some, None, refl, sym, ap, ◌∙◌}
use Rattle.std.proofs.Common.{append_assoc, arith, false, subst}
use Rattle.std.proofs.lemmas.List.{append-nil}
use Rattle.std.proofs.lemmas.List.Elements.{All-append}
use Rattle.std.specs.Prelude.{◌==◌}
use Rattle.coll_text.specs.Text.{lines}
use Rattle.port_io.specs.Counts.{Rose}
use Rattle.port_io.specs.Ends.{Inflow, Outflow}
use Rattle.run_text.proofs.Fronts.{GivesFront-nothing, GivesFront-then}
use Rattle.run_text.proofs.Told.{told-any}
use Rattle.run_text.proofs.Taking.{Rose-later}
use Rattle.run_text.specs.Ending.{IsTold}
use Rattle.run_text.specs.Putting.{Ends, FailsWithin}
use Rattle.run_text.specs.declared.status.Status.{Status}
use Rattle.run_text.specs.declared.status.Status.TheVariants.{Done, NoMemory, ReadFault, Refused, Usage, WriteFault}
use Rattle.log_lines.specs.declared.lines.TheConstants.{LONGEST_LINE}
use Rattle.log_verdict.specs.Judging.{IsNew, LineTook, Unchanged, next_line, took}
use Rattle.log_verdict.specs.declared.judge.Judge.{Judge}
use Rattle.log_verdict.specs.declared.judge.Taken.{Taken}
use Rattle.log_verdict.proofs.Longs.{long_took}
use Rattle.log_top.specs.Answered.{IsServed, ServeAnswers, Serves}
use Rattle.log_top.specs.Answered.Serves.{Fails, GoesOn, Lacking, Over, Unread}
use Rattle.log_top.specs.Reading.{Reader, Reads, Skips}
use Rattle.log_top.specs.Telling.{served}
use Rattle.log_top.specs.Turns.{AnsweredAs, ServeTurn, ServedOne, ServedSoFar}
use Rattle.log_top.specs.Turns.ServedOne.{AtEnd, NoRoom, NotRead, Turned}
use Rattle.log_top.specs.declared.reading.Read.TheVariants.{Line, Long, Last}
use Rattle.log_top.proofs.Lines.{after_line, last_line, tells_end, tells_rest}

-- ---- one line

module _ (j : Judge) (r : Reader) (source : Inflow) (q : Reader) (later : Inflow) where
  pub serves_line : (k : Judge) (t : Taken) → Reads r source q later Line → LineTook (next_line j) q.line (took k t) → Unchanged j t k
      → ServeTurn j r source k q later (Some t)
  serves_line k t l h same = record {
    bytes = l.bytes;
    line = q.line;
    front = l.front;
    faults = l.faults;
    no_break = l.no_break;
    served = (l.parts, h, same);
    over = λ e. absurd cc;
  }

  pub serves_none : (k : Judge) → Reads r source q later Last → ServeTurn j r source k q later None
  serves_none k l = record {
    bytes = l.bytes;
    line = q.line;
    front = l.front;
    faults = l.faults;
    no_break = l.no_break;
    served = (l.parts.0, l.parts.1);
    over = λ e. l.over refl;
  }

  -- one that is too long, of which the rest is passed over
  module _ (l : Reads r source q later Long) (p : Reader) (last : Inflow) where
    parts_on : (ended : Bool) (s : Skips q later p last ended) → r.held ++ (l.bytes ++ s.bytes) ≡ q.line ++ (q.held ++ s.bytes)
    parts_on ended s =
        sym (append_assoc r.held l.bytes s.bytes) ∙ ap (λ x. x ++ s.bytes) l.parts.0 ∙ append_assoc q.line q.held s.bytes

    pub serves_long : (k : Judge) (t : Taken) → Skips q later p last true → LineTook (next_line j) q.line (took k t) → Unchanged j t k
        → ServeTurn j r source k p last (Some t)
    serves_long k t s h same =
        let long = long_took (next_line j) k q.line s.passed t (let n = l.parts.1 in omega (arith, n)) h in
        record {
          bytes = l.bytes ++ s.bytes;
          line = q.line ++ s.passed;
          front = GivesFront-then source.left later.left last.left l.bytes s.bytes l.front s.front;
          faults = let a = l.faults in let b = s.faults in omega (arith, a, b);
          no_break = All-append (λ b. b == 10 ≡ false) q.line s.passed l.no_break s.no_break;
          served = (
            parts_on true s ∙ ap (λ x. q.line ++ x) s.parts ∙ sym (append_assoc q.line s.passed (10 ∷ p.held)),
            subst (λ (u : Taken). LineTook (next_line j) (q.line ++ s.passed) (took k u)) (sym long.is) long.took,
            same,
          );
          over = λ e. absurd cc;
        }

    pub serves_rest : (k : Judge) → Skips q later p last false → ServeTurn j r source k p last None
    serves_rest k s = record {
      bytes = l.bytes ++ s.bytes;
      line = q.line ++ s.passed;
      front = GivesFront-then source.left later.left last.left l.bytes s.bytes l.front s.front;
      faults = let a = l.faults in let b = s.faults in omega (arith, a, b);
      no_break = All-append (λ b. b == 10 ≡ false) q.line s.passed l.no_break s.no_break;
      served = (parts_on false s ∙ ap (λ x. q.line ++ x) s.parts.0, s.parts.1);
      over = λ e. s.over refl;
    }

-- ---- all lines

pub so_far_new : (any_order : Bool) (source : Inflow) (r : Reader) (j : Judge) (sink : Outflow) → r.held ≡ [] → IsNew true any_order j
    → ServedSoFar any_order source source r j sink sink
so_far_new any_order source r j sink none new = record {
  past = [];
  front = GivesFront-nothing source.left;
  faults = omega arith;
  goes = λ rest sink' status h. record {
    judge = j;
    is_new = new;
    serves = subst (λ (x : List ℕ). Serves status j (lines (x ++ rest)) sink sink') none h;
  };
}

module _ (any_order : Bool) (source now : Inflow) (r : Reader) (j : Judge) (sink sink_now : Outflow)
    (so : ServedSoFar any_order source now r j sink sink_now) where
  abbrev Served : Inflow → Outflow → Status → Type 0
  Served later sink' status =
      (bytes : List ℕ) × IsTold source.left bytes × ServeAnswers any_order bytes source later sink sink' status

  module _ (k : Judge) (q : Reader) (later : Inflow) where
    -- a line more
    pub so_far_on : (t : Taken) (sink_later : Outflow) → ServeTurn j r now k q later (Some t) → Ends sink_now sink_later (served t)
        → ServedSoFar any_order source later q k sink sink_later
    so_far_on t sink_later l ends = record {
      past = so.past ++ l.bytes;
      front = GivesFront-then source.left now.left later.left so.past l.bytes so.front l.front;
      faults = let a = so.faults in let b = l.faults in omega (arith, a, b);
      goes = λ rest sink' status h.
          subst (λ (x : List ℕ). IsServed any_order x sink sink' status) (sym (append_assoc so.past l.bytes rest))
          (so.goes (l.bytes ++ rest) sink' status
          (subst (λ (ps : List (List ℕ)). Serves status j ps sink_now sink')
          (sym (after_line r.held l.bytes rest l.line q.held l.no_break l.served.0))
          (GoesOn j k l.line (lines (q.held ++ rest)) t sink_now sink_later sink' l.served.1 l.served.2 ends h)));
    }

    -- or the sink fails
    pub broken : (t : Taken) (sink_later : Outflow) → ServeTurn j r now k q later (Some t) → FailsWithin sink_now sink_later (served t)
        → Served later sink_later WriteFault
    broken t sink_later l fails =
        let past = so.past ++ l.bytes in
        let told = tells_rest source.left later.left past
        (GivesFront-then source.left now.left later.left so.past l.bytes so.front l.front) in (
          past ++ told.rest,
          told.all,
          record {
            served = subst (λ (x : List ℕ). IsServed any_order x sink sink_later WriteFault) (sym (append_assoc so.past l.bytes told.rest))
                (so.goes (l.bytes ++ told.rest) sink_later WriteFault
                (subst (λ (ps : List (List ℕ)). Serves WriteFault j ps sink_now sink_later)
                (sym (after_line r.held l.bytes told.rest l.line q.held l.no_break l.served.0))
                (Fails j k l.line (lines (q.held ++ told.rest)) t sink_now sink_later refl l.served.1 fails)));
            read_fault = λ e. absurd cc;
            over = λ e. absurd cc;
            leaves = λ e. record { read = past; rest = told.rest; parts = refl; told = told.left };
          },
        )

    -- or the text is over
    pub all_served : ServeTurn j r now k q later None → Served later sink_now Done
    all_served l =
        let past = so.past ++ l.bytes in
        let told = tells_end source.left later.left past
        (GivesFront-then source.left now.left later.left so.past l.bytes so.front l.front) (l.over refl) in
        let all : lines (r.held ++ (l.bytes ++ [])) ≡ l.line ∷ [] =
        ap (λ (x : List ℕ). lines (r.held ++ x)) (append-nil l.bytes) ∙ ap lines l.served.0 ∙ last_line l.line l.no_break in (
          past ++ [],
          told.0,
          record {
            served = subst (λ (x : List ℕ). IsServed any_order x sink sink_now Done) (sym (append_assoc so.past l.bytes []))
                (so.goes (l.bytes ++ []) sink_now Done
                (subst (λ (ps : List (List ℕ)). Serves Done j ps sink_now sink_now) (sym all) (Over j l.line sink_now refl)));
            read_fault = λ e. absurd cc;
            over = λ e. told.1;
            leaves = λ e. absurd cc;
          },
        )

  pub unread_served : (later : Inflow) → Rose now.faults later.faults → Served later sink_now ReadFault
  unread_served later rose =
      let told = tells_rest source.left now.left so.past so.front in (
        so.past ++ told.rest,
        told.all,
        record {
          served = so.goes told.rest sink_now ReadFault (Unread j (lines (r.held ++ told.rest)) sink_now refl);
          read_fault = λ e. Rose-later source.faults now.faults later.faults so.faults rose;
          over = λ e. absurd cc;
          leaves = λ e. absurd cc;
        },
      )

  pub lacking_served : (later : Inflow) → Served later sink_now NoMemory
  lacking_served later =
      let told = tells_rest source.left now.left so.past so.front in (
        so.past ++ told.rest,
        told.all,
        record {
          served = so.goes told.rest sink_now NoMemory (Lacking j (lines (r.held ++ told.rest)) sink_now refl);
          read_fault = λ e. absurd cc;
          over = λ e. absurd cc;
          leaves = λ e. absurd cc;
        },
      )

  -- ---- one turn

  module _ (k : Judge) (q : Reader) (later : Inflow) (sink_later : Outflow) where
    answered_end : (t : Taken) (status : Status) → ServeTurn j r now k q later (Some t)
        → AnsweredAs sink_now sink_later (served t) (Some status) → Served later sink_later status
    answered_end t WriteFault turn h = broken k q later t sink_later turn h
    answered_end t NoMemory turn h = subst (λ (x : Outflow). Served later x NoMemory) (sym h) (lacking_served later)
    answered_end t Done turn h = absurd h
    answered_end t Usage turn h = absurd h
    answered_end t Refused turn h = absurd h
    answered_end t ReadFault turn h = absurd h

    pub served_end : (status : Status) → ServedOne j r now sink_now k q later sink_later (Some status) → Served later sink_later status
    served_end status (Turned t turn h) = answered_end t status turn h
    served_end status (AtEnd is turn same) =
        let e : Done ≡ status = cc in
        subst (λ (x : Status). Served later sink_later x) e
        (subst (λ (x : Outflow). Served later x Done) (sym same) (all_served k q later turn))
    served_end status (NotRead is rose same) =
        let e : ReadFault ≡ status = cc in
        subst (λ (x : Status). Served later sink_later x) e
        (subst (λ (x : Outflow). Served later x ReadFault) (sym same) (unread_served later rose))
    served_end status (NoRoom is same) =
        let e : NoMemory ≡ status = cc in
        subst (λ (x : Status). Served later sink_later x) e
        (subst (λ (x : Outflow). Served later x NoMemory) (sym same) (lacking_served later))

    pub served_on : ServedOne j r now sink_now k q later sink_later None → ServedSoFar any_order source later q k sink sink_later
    served_on (Turned t turn h) = so_far_on k q later t sink_later turn h
    served_on (AtEnd is turn same) = absurd cc
    served_on (NotRead is rose same) = absurd cc
    served_on (NoRoom is same) = absurd cc

pub never_served : (any_order : Bool) (source : Inflow) (j : Judge) (sink : Outflow) → IsNew true any_order j
    → (bytes : List ℕ) × IsTold source.left bytes × ServeAnswers any_order bytes source source sink sink NoMemory
never_served any_order source j sink new =
    let t = told-any source.left in (
      t.0,
      t.1,
      record {
        served = record { judge = j; is_new = new; serves = Lacking j (lines t.0) sink refl };
        read_fault = λ e. absurd cc;
        over = λ e. absurd cc;
        leaves = λ e. absurd cc;
      },
    )
