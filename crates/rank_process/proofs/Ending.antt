-- How the run of a rank ends.
use Rattle.std.proofs.Common.{ℕ, ◌+◌, ◌≡◌, ◌<◌, ◌≤◌, ◌++◌, List, [], ◌∷◌, refl}
use Rattle.std.proofs.Common.{sym, ap, ap₂, ◌∙◌, subst, arith, length}
use Rattle.std.proofs.Common.{get_or, count_by, map, sum, suc, inl, inr, Ok}
use Rattle.std.proofs.lemmas.Bool.{cases_lt}
use Rattle.std.proofs.lemmas.List.{get_or_past}
use Rattle.std.proofs.lemmas.List.Sums.{get_or-le-sum_by, sum_by-cons}
use Rattle.ptl_types.specs.declared.headers.Lane.{Lane}
use Rattle.ptl_types.specs.declared.headers.Lane.TheVariants.{Request, Answer}
use Rattle.ptl_types.specs.declared.steps.LocalStep.{LocalStep}
use Rattle.ptl_types.specs.Messages.{Sent}
use Rattle.ni_model.specs.Ready.{is_ready}
use Rattle.ni_model.specs.State.{State}
use Rattle.plan_core.specs.Plan.{Plan}
use Rattle.port_io.specs.Ends.{GivesFront, Inflow, Outflow}
use Rattle.run_text.specs.Orders.{order_line}
use Rattle.run_text.specs.Putting.{Ends, FailsWithin, Takes}
use Rattle.run_text.proofs.Taking.{EndsWith-then, Fails-then, Takes-more}
use Rattle.cuts.specs.histories.History.{Local, and_then, is_start}
use Rattle.cuts.specs.histories.History.Local.{Start, Receive, Fire}
use Rattle.cuts.specs.orders.Taking.{listed}
use Rattle.rank_node.specs.Copies.{listed as noted}
use Rattle.rank_node.specs.Handles.{slots_of}
use Rattle.rank_node.specs.Node.{IsNode}
use Rattle.rank_frames.specs.Due.{Dues, due_on, messages_due}
use Rattle.rank_frames.specs.Frames.{IsPart, RunsDry, frames_of, mark}
use Rattle.rank_frames.specs.Going.{GoesBy, HasGone, HasStarted, IsIdle, IsOver, StopsBy}
use Rattle.rank_frames.specs.Place.{PlaceState}
use Rattle.rank_frames.specs.declared.fault.FrameFault.{FrameFault}
use Rattle.rank_frames.specs.declared.fault.Stop.{Stop}
use Rattle.rank_frames.specs.declared.fault.Stop.TheVariants as stops
use Rattle.rank_process.specs.lines.Lines.{PrintsOf, own_lines, placed_lines}
use Rattle.rank_process.specs.lines.Rank.{Work, made_by_rank, state_after}
use Rattle.rank_process.specs.Opening.{IsOpened}
use Rattle.rank_process.specs.Owed.{Closes, owed}
use Rattle.rank_process.specs.Runs.{HasEndedAlone, IsIdleAlone, RefusesFrame, RunsAs, StarvesRank, Told, end_text, frames_made}
use Rattle.rank_process.specs.Status.{status_of}
use Rattle.rank_process.specs.declared.opening.Opened.{Opened}
use Rattle.rank_process.specs.declared.status.Status.{Status}
use Rattle.rank_process.specs.declared.status.Status.TheVariants.{Ended, Usage, WrongRank, Answered, ReadFault, WriteFault, NoMemory, Frame}
use Rattle.rank_process.proofs.lines.Lists.{own-lines}
use Rattle.rank_process.proofs.Ran.{lane-got, locals, made-is, nic-is, past-lane, stands, told}

same-listed : (es : List Local) → map listed es ≡ map noted es
same-listed [] = refl
same-listed (Start ∷ es) = ap (λ (l : List LocalStep). noted Start ∷ l) (same-listed es)
same-listed (Receive s lane m ∷ es) = ap (λ (l : List LocalStep). noted (Receive s lane m) ∷ l) (same-listed es)
same-listed (Fire t ∷ es) = ap (λ (l : List LocalStep). noted (Fire t) ∷ l) (same-listed es)

no-sum : (xs : List ℕ) (i : ℕ) → sum xs ≡ 0 → get_or xs i 0 ≡ 0
no-sum xs i e = elim (cases_lt i (length xs)) [
  | inl l ↦ (let h : get_or xs i 0 ≤ sum xs = get_or-le-sum_by (λ (n : ℕ). n) xs i 0 l in omega (arith, h, e))
  | inr l ↦ get_or_past xs i 0 l
]

none-on : (d : Dues) → messages_due d ≡ 0 → (s : ℕ) (lane : Lane) → due_on d s lane ≡ 0
none-on d e s Request = no-sum d.requests s (omega (arith, e))
none-on d e s Answer = no-sum d.answers s (omega (arith, e))

all-none : (xs : List ℕ) → ((i : ℕ) → get_or xs i 0 ≡ 0) → sum xs ≡ 0
all-none [] none = refl
all-none (x ∷ xs) none =
    let first : x ≡ 0 = none 0 in
    sum_by-cons (λ (n : ℕ). n) x xs ∙ ap₂ (λ (a b : ℕ). a + b) first (all-none xs (λ i. none (suc i)))

module _ (w : Work) (r : ℕ) (x : Opened) (o : IsOpened w r x) (q : PlaceState) (is : IsNode q.node) where
  abbrev plan : Plan
  plan = w.schedule.plan

  abbrev p : PlaceState
  p = x.place

  -- with what it made
  module _ (es : List Local) (ms : List Sent) (gone : HasGone p q es ms) where
    abbrev so : Told w r
    so = told w r o.rank p o.place q es ms gone is

    made : made_by_rank plan w.inputs r (slots_of q.node.kept) es ≡ ms
    made = made-is plan w.inputs r o.rank p o.place q es ms gone is

    nic : q.node.nic ≡ state_after plan w.inputs r (slots_of q.node.kept) es
    nic = nic-is plan w.inputs r o.rank p o.place q es ms gone is

    at-all : q.node.diary.locals ≡ es
    at-all = locals plan w.inputs r o.rank p o.place q es ms gone is

    wrote : (a b : Outflow) (rest : List ℕ) → Takes a b (frames_of ms) rest → Takes a b (frames_made so) rest
    wrote a b rest text = subst (λ (l : List Sent). Takes a b (frames_of l) rest) (sym made) text

    idle : IsIdle q → IsIdleAlone so
    idle none t = ap (λ (s : State). is_ready s t) (sym nic) ∙ none t

    started : 0 < count_by is_start es → HasStarted q
    started some = subst (λ (l : List Local). 0 < count_by is_start l) (sym at-all) some

    ended : IsOver q → HasEndedAlone so
    ended over = record {
      started = subst (λ (l : List Local). 0 < count_by is_start l) at-all over.started;
      idle = idle over.idle;
      all = λ s lane h.
          let lane-all = lane-got plan w.inputs r o.rank p o.place q es ms gone is s lane h in
          let none = none-on q.due over.none_due s lane in
          let own = ap (λ (l : List Sent). length l) (gone.clean s lane) in
          omega (arith, lane-all, none, own);
    }

    -- what has ended by what it sees of itself is over
    over : HasEndedAlone so → IsOver q
    over all-come =
        let none : (s : ℕ) (lane : Lane) → due_on q.due s lane ≡ 0 = λ s lane. elim (cases_lt s plan.ranks) [
          | inl h ↦
              let lane-all = lane-got plan w.inputs r o.rank p o.place q es ms gone is s lane h in
              let come = all-come.all s lane h in
              let own = ap (λ (l : List Sent). length l) (gone.clean s lane) in
              omega (arith, lane-all, come, own)
          | inr h ↦ past-lane plan w.inputs r o.rank p o.place q es ms gone is s lane h
        ] in
        let a = all-none q.due.requests (λ i. none i Request) in
        let b = all-none q.due.answers (λ i. none i Answer) in
        record {
          started = started all-come.started;
          idle = λ t. ap (λ (s : State). is_ready s t) nic ∙ all-come.idle t;
          none_due = omega (arith, a, b);
        }

    steps-are : map noted q.node.diary.locals ≡ q.node.diary.steps → map listed es ≡ q.node.diary.steps
    steps-are kept = same-listed es ∙ ap (map noted) (sym at-all) ∙ kept

    -- what the rank keeps is what it owes
    owes : map noted q.node.diary.locals ≡ q.node.diary.steps → owed (record x { place = q }) ≡ end_text so
    owes kept =
        let printed = own-lines w.shape w.schedule r q.node.nic.memory o.formed o.buffers in
        let memory = ap (λ (s : State). s.memory) nic in
        ap (λ (v : PrintsOf). mark ++ (placed_lines v q.node.nic.memory ++ order_line v.rank q.node.diary.steps)) o.prints
        ∙ ap₂ (λ (l m : List ℕ). mark ++ (l ++ m)) (printed ∙ ap (λ (m : List ℕ). own_lines w.shape w.schedule r m) memory)
        (ap (λ (l : List LocalStep). order_line r l) (sym (steps-are kept)))

  halts : (fault : FrameFault) (u v : Inflow) (a b : Outflow) → StopsBy (stops.Frame fault) p q u v a b
      → RefusesFrame w r fault u v a b
  halts fault u v a b h = record {
    told = so h.on.steps h.on.messages h.on.gone;
    place = q;
    stands = stands plan w.inputs r o.rank p o.place q h.on.steps h.on.messages h.on.gone is;
    frame = h.frame;
    is = h.is;
    front = subst (λ (l : List ℕ). GivesFront u.left v.left (l ++ h.frame)) (sym h.on.fed) h.front;
    wrote = wrote h.on.steps h.on.messages h.on.gone a b [] h.on.text;
  }

  starves : (u v : Inflow) (a b : Outflow) → StopsBy stops.Read p q u v a b → StarvesRank w r u v a b
  starves u v a b h =
      let t = so h.on.steps h.on.messages h.on.gone in
      record {
        told = t;
        waits = λ e. h.waits (over h.on.steps h.on.messages h.on.gone e);
        idle = λ some. idle h.on.steps h.on.messages h.on.gone (h.idle (started h.on.steps h.on.messages h.on.gone some));
        dry = subst (λ (bytes : List ℕ). RunsDry u v (λ given. (part : List ℕ) × (given ≡ bytes ++ part) × IsPart part))
            (sym h.on.fed) h.dry;
        wrote = wrote h.on.steps h.on.messages h.on.gone a b [] h.on.text;
      }

  -- it stopped on its way
  pub stops-as : (e : Stop) (u v : Inflow) (a b : Outflow) → StopsBy e p q u v a b → RunsAs w r (status_of e) u v a b
  stops-as stops.Read u v a b h = starves u v a b h
  stops-as stops.Write u v a b h =
      let on = h.fails.on in
      inl (record {
        told = so on.steps on.messages on.gone;
        front = subst (λ (l : List ℕ). GivesFront u.left v.left l) (sym on.fed) h.front;
        wrote = record {
          rest = h.fails.rest;
          begun = wrote on.steps on.messages on.gone a b h.fails.rest on.text;
          rose = h.fails.rose;
        };
      })
  stops-as stops.NoMemory u v a b h =
      let on = h.wants.on in
      inr (record {
        told = so on.steps on.messages on.gone;
        part = h.part;
        front = subst (λ (l : List ℕ). GivesFront u.left v.left (l ++ h.part)) (sym on.fed) h.front;
        unsent = h.wants.unsent;
        wrote = wrote on.steps on.messages on.gone a b (frames_of (and_then h.wants.unsent [])) on.text;
      })
  stops-as (stops.Frame fault) u v a b h = halts fault u v a b h

  -- it came to its end, and of what it owes then it wrote all, or failed
  pub closes-as : (status : Status) (u v : Inflow) (a b c : Outflow) → map noted q.node.diary.locals ≡ q.node.diary.steps
      → GoesBy p q u v a b → IsOver q → Closes status b c (owed (record x { place = q })) → RunsAs w r status u v a c
  closes-as Ended u v a b c kept by end closed = record {
    told = so by.on.steps by.on.messages by.on.gone;
    front = subst (λ (l : List ℕ). GivesFront u.left v.left l) (sym by.on.fed) by.front;
    ended = ended by.on.steps by.on.messages by.on.gone end;
    wrote =
        let t = so by.on.steps by.on.messages by.on.gone in
        let whole = Takes-more a b (frames_made t) [] (end_text t) (wrote by.on.steps by.on.messages by.on.gone a b [] by.on.text) in
        EndsWith-then a b c (frames_made t ++ end_text t) (end_text t) (Ok tt) whole
        (subst (λ (l : List ℕ). Ends b c l) (owes by.on.steps by.on.messages by.on.gone kept) closed);
  }
  closes-as WriteFault u v a b c kept by end closed = inr (record {
    told = so by.on.steps by.on.messages by.on.gone;
    front = subst (λ (l : List ℕ). GivesFront u.left v.left l) (sym by.on.fed) by.front;
    ended = ended by.on.steps by.on.messages by.on.gone end;
    wrote =
        let t = so by.on.steps by.on.messages by.on.gone in
        let whole = Takes-more a b (frames_made t) [] (end_text t) (wrote by.on.steps by.on.messages by.on.gone a b [] by.on.text) in
        Fails-then a b c (frames_made t ++ end_text t) (end_text t) whole
        (subst (λ (l : List ℕ). FailsWithin b c l) (owes by.on.steps by.on.messages by.on.gone kept) closed);
  })
  closes-as Usage u v a b c kept by end closed = absurd closed
  closes-as WrongRank u v a b c kept by end closed = absurd closed
  closes-as (Answered answer) u v a b c kept by end closed = absurd closed
  closes-as ReadFault u v a b c kept by end closed = absurd closed
  closes-as NoMemory u v a b c kept by end closed = absurd closed
  closes-as (Frame fault) u v a b c kept by end closed = absurd closed
