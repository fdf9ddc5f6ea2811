-- A text that is filled in line by line.
use Rattle.std.proofs.Common.{◌≡◌, ℕ, ◌+◌, ◌<◌, ◌≤◌, Bool, true, List, [], ◌∷◌, ◌++◌, length, Ok, None, Some, refl, sym, ap, ◌∙◌}
use Rattle.std.proofs.Common.{append_assoc, arith, subst}
use Rattle.std.proofs.lemmas.List.{append-nil}
use Rattle.coll_text.specs.Text.{lines}
use Rattle.port_io.specs.Counts.{Rose}
use Rattle.port_io.specs.Ends.{GivesFront, Inflow, Outflow}
use Rattle.run_text.proofs.Fronts.{GivesFront-nothing, GivesFront-then}
use Rattle.run_text.proofs.Told.{told-any}
use Rattle.run_text.proofs.Taking.{EndsWith-then, Fails-more, Fails-then, Rose-later, Takes-more, Takes-none, Takes-then}
use Rattle.run_text.specs.Ending.{IsTold}
use Rattle.run_text.specs.Putting.{Ends, FailsWithin, Takes}
use Rattle.run_text.specs.declared.status.Status.{Status}
use Rattle.run_text.specs.declared.status.Status.TheVariants.{Done, NoMemory, ReadFault, Refused, WriteFault}
use Rattle.log_lines.specs.declared.lines.TheConstants.{LONGEST_LINE}
use Rattle.log_verdict.specs.Filling.{Extent, FillEnds, FillGoes, Fills, IsFilled, IsNewFiller, fill_end}
use Rattle.log_verdict.specs.Filling.Extent.{Begun, Stopped, Whole}
use Rattle.log_verdict.specs.Filling.Fills.{EndsAt, GoesOn, Here, Over, Stays}
use Rattle.log_verdict.specs.declared.filler.Filler.{Filler}
use Rattle.log_verdict.specs.declared.judge.Verdict.{Verdict}
use Rattle.log_verdict.specs.declared.judge.Verdict.TheVariants.{Conforms}
use Rattle.log_verdict.proofs.Conforming.{whole_conforms}
use Rattle.log_verdict.proofs.LongFills.{LongEnds, long_ends, never_long}
use Rattle.log_verdict.proofs.Pieces.{not_empty}
use Rattle.log_top.specs.Answered.{FillAnswers, Leaves, behind}
use Rattle.log_top.specs.Answered.FillAnswers.{Fails, Filled, Lacking, Stops, Unread}
use Rattle.log_top.specs.Reading.{Reader, Reads}
use Rattle.log_top.specs.Ending.{alone}
use Rattle.log_top.specs.Telling.{flaw_of, verdict_lines}
use Rattle.log_top.specs.declared.ending.Ended.{Ended}
use Rattle.log_top.specs.Turns.{Closes, FillTurn, FilledOne, FilledRead, FilledSoFar, StoppedRead, TurnWritten}
use Rattle.log_top.specs.Turns.FilledOne.{NoRoom, NotRead, Turned}
use Rattle.log_top.specs.Turns.Closes.{Broke, Closed, Lacked}
use Rattle.log_top.specs.declared.filling.Turn.{Turn}
use Rattle.log_top.specs.declared.filling.Turn.TheVariants as turns
use Rattle.log_top.specs.declared.reading.Read.{Read}
use Rattle.log_top.specs.declared.reading.Read.TheVariants.{Line, Long, Last}
use Rattle.log_top.proofs.Lines.{Begins, after_line, begins_after, last_line, tells_end, tells_rest}

-- what was filled in of the bytes of a source, and what it leaves
pub record FilledFrom (any_order : Bool) (source source' : Inflow) (sink sink' : Outflow) (held : List ℕ) (extent : Extent) : Type 0 where
  pub bytes : List ℕ
  pub out : List ℕ
  pub told : IsTold source.left bytes
  pub is : IsFilled any_order bytes out extent
  pub takes : Takes sink sink' out held
  pub leaves : Leaves bytes source'

pub so_far_new : (any_order : Bool) (source : Inflow) (r : Reader) (f : Filler) (sink : Outflow) (held : List ℕ) → r.held ≡ []
    → held ≡ [] → IsNewFiller any_order f → FilledSoFar any_order source source r f sink sink held
so_far_new any_order source r f sink held none empty new = record {
  past = [];
  front = GivesFront-nothing source.left;
  faults = omega arith;
  out = [];
  takes = subst (λ (x : List ℕ). Takes sink sink x held) empty (Takes-none sink held);
  goes = λ rest later extent h. record {
    filler = f;
    is_new = new;
    fills = subst (λ (x : List ℕ). Fills f (lines (x ++ rest)) later extent) none h;
  };
}

module _ (any_order : Bool) (source now : Inflow) (r : Reader) (f : Filler) (sink sink_now : Outflow) (held : List ℕ)
    (so : FilledSoFar any_order source now r f sink sink_now held) where
  -- it has begun
  pub begun_from : FilledFrom any_order source now sink sink_now held Begun
  begun_from =
      let told = tells_rest source.left now.left so.past so.front in
      record {
        bytes = so.past ++ told.rest;
        out = so.out;
        told = told.all;
        is = subst (λ (x : List ℕ). IsFilled any_order (so.past ++ told.rest) x Begun) (append-nil so.out)
            (so.goes told.rest [] Begun (Here f (lines (r.held ++ told.rest))));
        takes = so.takes;
        leaves = record { read = so.past; rest = told.rest; parts = refl; told = told.left };
      }

  module _ (g : Filler) (q : Reader) (later : Inflow) where
    -- ---- a line more

    module _ (text : List ℕ) (sink_later : Outflow) (held' : List ℕ) where
      longer : (ys : List ℕ) → (so.out ++ (text ++ 10 ∷ [])) ++ ys ≡ so.out ++ (text ++ 10 ∷ ys)
      longer ys =
          append_assoc so.out (text ++ 10 ∷ []) ys ∙ ap (λ x. so.out ++ x) (append_assoc text (10 ∷ []) ys)

      written_at : (read : Read) → Reads r now q later read → FilledRead f q.line read g (turns.Line text)
          → Takes sink_now sink_later (held ++ (text ++ 10 ∷ [])) held' → FilledSoFar any_order source later q g sink sink_later held'
      written_at Line l h put = record {
        past = so.past ++ l.bytes;
        front = GivesFront-then source.left now.left later.left so.past l.bytes so.front l.front;
        faults = let a = so.faults in let b = l.faults in omega (arith, a, b);
        out = so.out ++ (text ++ 10 ∷ []);
        takes = Takes-then sink sink_now sink_later (so.out ++ (text ++ 10 ∷ [])) (held ++ (text ++ 10 ∷ [])) held'
            (Takes-more sink sink_now so.out held (text ++ 10 ∷ []) so.takes) put;
        goes = λ rest ys extent fills.
            subst (λ (x : List ℕ). IsFilled any_order x ((so.out ++ (text ++ 10 ∷ [])) ++ ys) extent)
            (sym (append_assoc so.past l.bytes rest))
            (subst (λ (x : List ℕ). IsFilled any_order (so.past ++ (l.bytes ++ rest)) x extent) (sym (longer ys))
            (so.goes (l.bytes ++ rest) (text ++ 10 ∷ ys) extent
            (subst (λ (ps : List (List ℕ)). Fills f ps (text ++ 10 ∷ ys) extent)
            (sym (after_line r.held l.bytes rest q.line q.held l.no_break l.parts))
            (GoesOn f g q.line (lines (q.held ++ rest)) text ys extent h.1 fills))));
      }
      written_at Long l h put = absurd (let n = l.parts.1 in never_long f g q.line text (omega (arith, n)) h.1)
      written_at Last l h put = absurd h.0

      pub so_far_on : FillTurn f r now g q later (turns.Line text) → Takes sink_now sink_later (held ++ (text ++ 10 ∷ [])) held'
          → FilledSoFar any_order source later q g sink sink_later held'
      so_far_on t put = written_at t.read t.reads t.filled put

      -- or the sink fails
      broken_at : (e : Ended) → e.status ≡ WriteFault → (read : Read) → Reads r now q later read
          → FilledRead f q.line read g (turns.Line text) → FailsWithin sink_now sink_later (held ++ (text ++ 10 ∷ []))
          → (bytes : List ℕ) × IsTold source.left bytes × FillAnswers any_order bytes source later sink sink_later e
      broken_at e so_ended Line l h put =
          let past = so.past ++ l.bytes in
          let told = tells_rest source.left later.left past
          (GivesFront-then source.left now.left later.left so.past l.bytes so.front l.front) in
          let out = so.out ++ (text ++ 10 ∷ []) in
          let fills = Here g (lines (q.held ++ told.rest)) in
          let is : IsFilled any_order (past ++ told.rest) out Begun =
          subst (λ (x : List ℕ). IsFilled any_order x out Begun) (sym (append_assoc so.past l.bytes told.rest))
          (so.goes (l.bytes ++ told.rest) (text ++ 10 ∷ []) Begun
          (subst (λ (ps : List (List ℕ)). Fills f ps (text ++ 10 ∷ []) Begun)
          (sym (after_line r.held l.bytes told.rest q.line q.held l.no_break l.parts))
          (GoesOn f g q.line (lines (q.held ++ told.rest)) text [] Begun h.1 fills))) in
          let fails = Fails-then sink sink_now sink_later out (held ++ (text ++ 10 ∷ []))
          (Takes-more sink sink_now so.out held (text ++ 10 ∷ []) so.takes) put in (
            past ++ told.rest,
            told.all,
            Fails out Begun so_ended is (subst (FailsWithin sink sink_later) (sym (append-nil out)) fails)
                (record { read = past; rest = told.rest; parts = refl; told = told.left }),
          )
      broken_at e so_ended Long l h put = absurd (let n = l.parts.1 in never_long f g q.line text (omega (arith, n)) h.1)
      broken_at e so_ended Last l h put = absurd h.0

      pub broken_on : (e : Ended) → e ≡ alone WriteFault → FillTurn f r now g q later (turns.Line text)
          → FailsWithin sink_now sink_later (held ++ (text ++ 10 ∷ []))
          → (bytes : List ℕ) × IsTold source.left bytes × FillAnswers any_order bytes source later sink sink_later e
      broken_on e is t put = broken_at e (ap (λ (x : Ended). x.status) is) t.read t.reads t.filled put

    -- ---- the end

    over_at : (read : Read) (calls : ℕ) → read ≡ Last → (l : Reads r now q later read) → fill_end f q.line ≡ Conforms calls
        → FilledFrom any_order source later sink sink_now held (Whole calls)
    over_at Line calls e l h = absurd cc
    over_at Long calls e l h = absurd cc
    over_at Last calls e l h =
        let past = so.past ++ l.bytes in
        let told = tells_end source.left later.left past
        (GivesFront-then source.left now.left later.left so.past l.bytes so.front l.front) (l.over refl) in
        let all : lines (r.held ++ (l.bytes ++ [])) ≡ q.line ∷ [] =
        ap (λ (x : List ℕ). lines (r.held ++ x)) (append-nil l.bytes) ∙ ap lines l.parts.0 ∙ last_line q.line l.no_break in
        record {
          bytes = past ++ [];
          out = so.out ++ [];
          told = told.0;
          is = subst (λ (x : List ℕ). IsFilled any_order x (so.out ++ []) (Whole calls)) (sym (append_assoc so.past l.bytes []))
              (so.goes (l.bytes ++ []) [] (Whole calls)
              (subst (λ (ps : List (List ℕ)). Fills f ps [] (Whole calls)) (sym all) (Over f q.line calls h)));
          takes = subst (λ (x : List ℕ). Takes sink sink_now x held) (sym (append-nil so.out)) so.takes;
          leaves = record { read = past; rest = []; parts = refl; told = told.1 };
        }

    over_left : (read : Read) → read ≡ Last → Reads r now q later read → IsTold later.left []
    over_left read e l =
        (tells_end source.left later.left (so.past ++ l.bytes)
        (GivesFront-then source.left now.left later.left so.past l.bytes so.front l.front) (l.over e)).1

    stopped_by : (v : Verdict) (read : Read) (l : Reads r now q later read)
        → ((rest : List ℕ) → Fills f (lines (r.held ++ (l.bytes ++ rest))) [] (Stopped v))
        → FilledFrom any_order source later sink sink_now held (Stopped v)
    stopped_by v read l fills =
        let past = so.past ++ l.bytes in
        let told = tells_rest source.left later.left past
        (GivesFront-then source.left now.left later.left so.past l.bytes so.front l.front) in
        record {
          bytes = past ++ told.rest;
          out = so.out ++ [];
          told = told.all;
          is = subst (λ (x : List ℕ). IsFilled any_order x (so.out ++ []) (Stopped v)) (sym (append_assoc so.past l.bytes told.rest))
              (so.goes (l.bytes ++ told.rest) [] (Stopped v) (fills told.rest));
          takes = subst (λ (x : List ℕ). Takes sink sink_now x held) (sym (append-nil so.out)) so.takes;
          leaves = record { read = past; rest = told.rest; parts = refl; told = told.left };
        }

    long_stops : (v : Verdict) (line text : List ℕ) → Begins line text → LONGEST_LINE < length line → FillEnds f line g v
        → Fills f (lines text) [] (Stopped v)
    long_stops v line text b long h = at b.pieces b.are
      where
        e : LongEnds f (line ++ b.more) g v
        e = long_ends f g line b.more v long h

        at : (pieces : List (List ℕ)) → lines text ≡ (line ++ b.more) ∷ pieces → Fills f (lines text) [] (Stopped v)
        at [] are = subst (λ (ps : List (List ℕ)). Fills f ps [] (Stopped v)) (sym are) (Stays f (line ++ b.more) v e.ends)
        at (p ∷ ps) are =
            subst (λ (ps : List (List ℕ)). Fills f ps [] (Stopped v)) (sym are)
            (EndsAt f g (line ++ b.more) (p ∷ ps) v (λ e. absurd cc) e.fill_ends)

    stopped_at : (v : Verdict) (read : Read) → Reads r now q later read → StoppedRead read f q.line g v
        → FilledFrom any_order source later sink sink_now held (Stopped v)
    stopped_at v Line l h =
        stopped_by v Line l
        (λ rest.
        subst (λ (ps : List (List ℕ)). Fills f ps [] (Stopped v)) (sym (after_line r.held l.bytes rest q.line q.held l.no_break l.parts))
        (EndsAt f g q.line (lines (q.held ++ rest)) v (not_empty 10 (q.held ++ rest)) h))
    stopped_at v Long l h =
        stopped_by v Long l
        (λ rest.
        long_stops v q.line (r.held ++ (l.bytes ++ rest)) (begins_after r.held l.bytes rest q.line q.held l.no_break l.parts.0)
        (let n = l.parts.1 in omega (arith, n)) h)
    stopped_at v Last l h =
        let past = so.past ++ l.bytes in
        let told = tells_end source.left later.left past
        (GivesFront-then source.left now.left later.left so.past l.bytes so.front l.front) (l.over refl) in
        let all : lines (r.held ++ (l.bytes ++ [])) ≡ q.line ∷ [] =
        ap (λ (x : List ℕ). lines (r.held ++ x)) (append-nil l.bytes) ∙ ap lines l.parts.0 ∙ last_line q.line l.no_break in
        record {
          bytes = past ++ [];
          out = so.out ++ [];
          told = told.0;
          is = subst (λ (x : List ℕ). IsFilled any_order x (so.out ++ []) (Stopped v)) (sym (append_assoc so.past l.bytes []))
              (so.goes (l.bytes ++ []) [] (Stopped v)
              (subst (λ (ps : List (List ℕ)). Fills f ps [] (Stopped v)) (sym all) (Stays f q.line v h)));
          takes = subst (λ (x : List ℕ). Takes sink sink_now x held) (sym (append-nil so.out)) so.takes;
          leaves = record { read = past; rest = []; parts = refl; told = told.1 };
        }

    -- ---- what is answered then

    module _ (sink_later : Outflow) (status : Status) (ended : Ended) (same : ended.status ≡ status) where
      abbrev FillsSo : Type 0
      FillsSo = (bytes : List ℕ) × IsTold source.left bytes × FillAnswers any_order bytes source later sink sink_later ended

      lacks : status ≡ NoMemory → sink_later ≡ sink_now → FillsSo
      lacks is stays =
          let b = begun_from in
          (b.bytes, b.told, Lacking b.out held (same ∙ is) b.is (subst (λ (x : Outflow). Takes sink x b.out held) (sym stays) b.takes))

      pub whole_answers : (calls : ℕ) → FillTurn f r now g q later (turns.Whole calls)
          → Closes Done sink_now sink_later held status → FillsSo
      whole_answers calls t (Closed is ends) =
          let w = over_at t.read calls t.filled.0 t.reads t.filled.1 in (
            w.bytes,
            w.told,
            Filled w.out calls (same ∙ is) w.is (whole_conforms any_order w.bytes w.out calls w.is)
                (EndsWith-then sink sink_now sink_later w.out held (Ok tt) w.takes ends) (over_left t.read t.filled.0 t.reads),
          )
      whole_answers calls t (Broke is fails) =
          let w = over_at t.read calls t.filled.0 t.reads t.filled.1 in (
            w.bytes,
            w.told,
            Fails w.out (Whole calls) (same ∙ is) w.is
                (subst (FailsWithin sink sink_later) (sym (append-nil w.out))
                (Fails-then sink sink_now sink_later w.out held w.takes fails))
                w.leaves,
          )
      whole_answers calls t (Lacked is stays) = lacks is stays

      pub stopped_answers : (v : Verdict) → ended.flaw ≡ flaw_of v → FillTurn f r now g q later (turns.Stopped v)
          → Closes Refused sink_now sink_later (held ++ verdict_lines v) status → FillsSo
      stopped_answers v flaw t (Closed is ends) =
          let w = stopped_at v t.read t.reads t.filled in (
            w.bytes,
            w.told,
            Stops w.out v (same ∙ is) flaw w.is
                (EndsWith-then sink sink_now sink_later (w.out ++ verdict_lines v) (held ++ verdict_lines v) (Ok tt)
                (Takes-more sink sink_now w.out held (verdict_lines v) w.takes) ends) w.leaves,
          )
      stopped_answers v flaw t (Broke is fails) =
          let w = stopped_at v t.read t.reads t.filled in (
            w.bytes,
            w.told,
            Fails w.out (Stopped v) (same ∙ is) w.is
                (Fails-then sink sink_now sink_later (w.out ++ verdict_lines v) (held ++ verdict_lines v)
                (Takes-more sink sink_now w.out held (verdict_lines v) w.takes) fails) w.leaves,
          )
      stopped_answers v flaw t (Lacked is stays) = lacks is stays

  -- ---- nothing more was read

  pub unread_answers : (later : Inflow) (e : Ended) → e ≡ alone ReadFault → Rose now.faults later.faults
      → (bytes : List ℕ) × IsTold source.left bytes × FillAnswers any_order bytes source later sink sink_now e
  unread_answers later e is rose =
      let b = begun_from in
      let rose_all = Rose-later source.faults now.faults later.faults so.faults rose in
      (b.bytes, b.told, Unread b.out held (ap (λ (x : Ended). x.status) is) rose_all b.is b.takes)

  pub lacking_answers : (later : Inflow) (e : Ended) → e ≡ alone NoMemory
      → (bytes : List ℕ) × IsTold source.left bytes × FillAnswers any_order bytes source later sink sink_now e
  lacking_answers later e is =
      let b = begun_from in (b.bytes, b.told, Lacking b.out held (ap (λ (x : Ended). x.status) is) b.is b.takes)

  -- ---- one turn

  module _ (g : Filler) (q : Reader) (later : Inflow) (sink_later : Outflow) (held' : List ℕ) where
    abbrev EndsSo : Outflow → Ended → Type 0
    EndsSo x e = (bytes : List ℕ) × IsTold source.left bytes × FillAnswers any_order bytes source later sink x e

    turned_end : (t : Turn) (e : Ended) → FillTurn f r now g q later t → TurnWritten sink_now sink_later held held' t (Some e)
        → EndsSo sink_later e
    turned_end (turns.Line text) e turn h = broken_on g q later text sink_later held' e h.1 turn h.0
    turned_end (turns.Whole calls) e turn h = whole_answers g q later sink_later e.status e refl calls turn h
    turned_end (turns.Stopped v) e turn h = stopped_answers g q later sink_later e.status e refl v h.1 turn h.0

    pub filled_end : (e : Ended) → FilledOne f r now sink_now held g q later sink_later held' (Some e) → EndsSo sink_later e
    filled_end e (Turned t turn h) = turned_end t e turn h
    filled_end e (NotRead is rose same) =
        let so_ended : e ≡ alone ReadFault = cc in
        subst (λ (x : Outflow). EndsSo x e) (sym same) (unread_answers later e so_ended rose)
    filled_end e (NoRoom is same) =
        let so_ended : e ≡ alone NoMemory = cc in subst (λ (x : Outflow). EndsSo x e) (sym same) (lacking_answers later e so_ended)

    goes_on : (t : Turn) → FillTurn f r now g q later t → TurnWritten sink_now sink_later held held' t None
        → FilledSoFar any_order source later q g sink sink_later held'
    goes_on (turns.Line text) turn h = so_far_on g q later text sink_later held' turn h
    goes_on (turns.Whole calls) turn h = absurd h
    goes_on (turns.Stopped v) turn h = absurd h

    pub filled_on : FilledOne f r now sink_now held g q later sink_later held' None
        → FilledSoFar any_order source later q g sink sink_later held'
    filled_on (Turned t turn h) = goes_on t turn h
    filled_on (NotRead is rose same) = absurd cc
    filled_on (NoRoom is same) = absurd cc

-- there was no memory to begin with
pub never_begun : (any_order : Bool) (source : Inflow) (f : Filler) (sink : Outflow) (e : Ended) → e ≡ alone NoMemory
    → IsNewFiller any_order f
    → (bytes : List ℕ) × IsTold source.left bytes × FillAnswers any_order bytes source source sink sink e
never_begun any_order source f sink e is new =
    let t = told-any source.left in (
      t.0,
      t.1,
      Lacking [] [] (ap (λ (x : Ended). x.status) is) (record { filler = f; is_new = new; fills = Here f (lines t.0) })
          (Takes-none sink []),
    )
