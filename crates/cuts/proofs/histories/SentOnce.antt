-- In a legal history from an installed state no link's message is sent twice, whatever is received.
--
-- A request is what the firing of a link's operation sends, and its header carries the number of the link. In four steps:
--   1. What a firing sends is the message of the link whose operation fires, and that operation was pending (`fired_sends`).
--   2. No step makes an operation pending that was not (`pending_before`), and none but a firing makes a request (`request_sends`).
--   3. So each request of a history departs: its link's operation is pending where the history begins (`requests_depart`).
--   4. An operation that has fired is no longer pending, so the requests after it are those of other links (`not_again`), and the
--      requests for a rank have distinct links (`sent_once`).
use Rattle.std.proofs.Common.{ℕ, Bool, true, false, cond, not, ◌||◌, ◌==◌, ◌≡◌, List, [], ◌∷◌, refl, ap, ◌∙◌, sym, subst, inl, inr, map}
use Rattle.std.proofs.Common.{filter, Option, Some, None, eqb-true, eq-eqb}
use Rattle.std.proofs.lemmas.Bool.{and_parts, not-true}
use Rattle.ptl_types.specs.declared.headers.Header.{Header}
use Rattle.ptl_types.specs.Messages.{Sent}
use Rattle.ptl_types.specs.Kinds.{is_answer}
use Rattle.ptl_types.specs.declared.headers.Lane.TheVariants.{Request}
use Rattle.ptl_types.specs.declared.calls.TriggeredOp.TheVariants.{Inc as IncAction}
use Rattle.plan_core.specs.Members.{Distinct, In}
use Rattle.ni_model.specs.State.{Posted, State, Operations}
use Rattle.ni_model.specs.Counts.{successes}
use Rattle.ni_model.specs.Ready.{fired, done, fired_op, is_number, posted_at}
use Rattle.plan_core.specs.Plan.{Plan, cell, is_bump, link}
use Rattle.cuts.specs.view.Slots.{Slots, cell_ct}
use Rattle.cuts.specs.view.TriggeredOps.{action_of, link_header, operation, send_action}
use Rattle.plan_core.specs.calls.RankOps.{number_of, RankOp, rank_ops}
use Rattle.plan_core.specs.calls.RankOps.RankOp.{ForLink, ForDone}
use Rattle.cuts.specs.histories.History.{Beginning, Legal, May, Local, after, and_then, is_for, is_start, made, made_by, sent}
use Rattle.cuts.specs.histories.History.Local.{Fire, Receive, Start}
use Rattle.plan_core.proofs.Lists.{In-filter_cases, In-map_cases}
use Rattle.cuts.proofs.machine.RankOps.{rank_ops-along}
use Rattle.plan_core.proofs.Links.{out_links-In}
use Rattle.cuts.proofs.view.Tables.{find-In}
use Rattle.cuts.proofs.histories.Origin.{IsOf, after_of, answer_kind, done_stays, send_link, target_answers, target_stays, without}
use Rattle.cuts.proofs.histories.Once.{Gone, gone_now}
use Rattle.cuts.proofs.histories.Traffic.{number_in}

true_and_false : {b : Bool} → b ≡ true → b ≡ false → ⊥
true_and_false is_true is_false = cc

-- what goes to a rank on its lane of requests is no answer
asks_for : (destination : ℕ) (m : Sent) → is_for destination Request m ≡ true → is_answer m.header.kind ≡ false
asks_for destination m goes_there =
    let no_answer = (and_parts (m.header.target == destination) (not (is_answer m.header.kind)) goes_there).1 in
    not-true (is_answer m.header.kind) no_answer

-- an operation that is pending after a step was pending before it
pending_before : (beginning : Beginning) (state : State) (step : Local) (x : Posted)
    → In x (after beginning state step).pending.waiting → In x state.pending.waiting
unfolding fired
pending_before beginning state Start x waits = subst (λ (ops : Operations). In x ops.waiting) (beginning.pending state) waits
pending_before beginning state (Receive source lane m) x waits =
    subst (λ (ops : Operations). In x ops.waiting) (target_stays state m).pending waits
pending_before beginning state (Fire number) x waits = of_firing (posted_at number state.pending) waits
  where
    of_firing : (found : Option Posted) → In x (fired_op state found).state.pending.waiting → In x state.pending.waiting
    of_firing None waits = waits
    of_firing (Some y) waits =
        let action_stays = (done_stays (without y.number state) y.action).pending in
        let among_others = subst (λ (ops : Operations). In x ops.waiting) action_stays waits in
        (In-filter_cases (λ z. not (is_number y.number z)) x state.pending.waiting among_others).0

-- the numbers in a list stay distinct where a message is put in front that is left out, or whose number isn't in the list
distinct_behind : (keeps : Sent → Bool) (first : Option Sent) (ms : List Sent) → Distinct (map number_in (filter keeps ms))
    → ((x : Sent) → first ≡ Some x → keeps x ≡ true → In (number_in x) (map number_in (filter keeps ms)) → ⊥)
    → Distinct (map number_in (filter keeps (and_then first ms)))
distinct_behind keeps None ms distinct another = distinct
distinct_behind keeps (Some x) ms distinct another = by_kept (keeps x) refl
  where
    by_kept : (kept : Bool) → keeps x ≡ kept → Distinct (map number_in (cond kept (x ∷ filter keeps ms) (filter keeps ms)))
    by_kept true is_kept = (another x refl is_kept, distinct)
    by_kept false is_left_out = distinct

module _ (plan : Plan) (slots : Slots) (rank : ℕ) where
  -- the message is that of a link whose operation is pending in the state
  pub record Departs (state : State) (m : Sent) : Type 0 where
    pub on_link : ℕ
    pub header : m.header ≡ link_header plan slots on_link
    pub pending : In (operation plan slots rank (ForLink on_link)) state.pending.waiting

  -- the step fires that link's operation
  pub record Sends (state : State) (step : Local) (m : Sent) : Type 0 where
    pub departs : Departs state m
    pub fires : step ≡ Fire (number_of plan rank (ForLink departs.on_link))

  -- ---- 1. what a firing sends
  -- operation x is pending under a number, and its action makes the message
  record IsDoneBy (number : ℕ) (state : State) (m : Sent) (x : Posted) : Type 0 where
    waits : In x state.pending.waiting
    numbered : is_number number x ≡ true
    makes : (done (without x.number state) x.action).message ≡ Some m

  link_header_of : (l : ℕ) (state : State) (m : Sent) → state.rank ≡ rank → In (ForLink l) (rank_ops plan rank)
      → (done state (action_of plan slots (ForLink l))).message ≡ Some m → m.header ≡ link_header plan slots l
  link_header_of l state m of_rank listed makes = by_kind (is_bump (link plan l).kind) makes
    where
      leaves_it : state.rank ≡ (cell plan (link plan l).source).rank
      leaves_it = of_rank ∙ sym (out_links-In plan rank l (rank_ops-along plan rank l listed)).1

      -- a bump makes no message
      by_kind : (bumps : Bool)
          → (done state (cond bumps (IncAction (cell_ct plan slots (link plan l).target) (successes 1))
          (send_action plan slots l (cell plan (link plan l).target).op))).message ≡ Some m
          → m.header ≡ link_header plan slots l
      by_kind true makes = cc
      by_kind false makes = send_link plan slots rank l state m (cell plan (link plan l).target).op refl leaves_it makes

  -- a link's operation sends its message, and that of a cell counts and makes none
  operation_sends : (number : ℕ) (state : State) (m : Sent) → IsOf plan slots rank state → (w : RankOp) → In w (rank_ops plan rank)
      → IsDoneBy number state m (operation plan slots rank w) → Sends state (Fire number) m
  operation_sends number state m installed (ForDone c) listed is_done =
      let no_message : None ≡ Some m = is_done.makes in
      absurd cc
  operation_sends number state m installed (ForLink l) listed is_done = record {
    departs = record {
      on_link = l;
      header = link_header_of l (without (number_of plan rank (ForLink l)) state) m installed.rank listed is_done.makes;
      pending = is_done.waits;
    };
    fires = ap Fire (sym (eqb-true (number_of plan rank (ForLink l)) number is_done.numbered));
  }

  fired_sends : (number : ℕ) (state : State) (m : Sent) → IsOf plan slots rank state
      → (fired state number).message ≡ Some m → Sends state (Fire number) m
  unfolding fired
  fired_sends number state m installed makes = of_found (posted_at number state.pending) refl makes
    where
      of_found : (found : Option Posted) → posted_at number state.pending ≡ found
          → (fired_op state found).message ≡ Some m → Sends state (Fire number) m
      of_found None is makes = cc
      of_found (Some x) is makes =
          let (waits, numbered) = find-In (is_number number) state.pending.waiting x is in
          let is_done : IsDoneBy number state m x = record { waits = waits; numbered = numbered; makes = makes } in
          let (w, listed, is_x) = In-map_cases (operation plan slots rank) x (rank_ops plan rank) (installed.pending x waits) in
          operation_sends number state m installed w listed (subst (IsDoneBy number state m) (sym is_x) is_done)

  -- ---- 2. a step that makes a request
  request_sends : (state : State) (step : Local) (m : Sent) → IsOf plan slots rank state → made_by state step ≡ Some m
      → is_answer m.header.kind ≡ false → Sends state step m
  request_sends state Start m installed makes asks = cc
  request_sends state (Fire number) m installed makes asks = fired_sends number state m installed makes
  request_sends state (Receive source lane received) m installed makes asks =
      let reply = (target_answers state received m makes).1 in
      let answers = answer_kind reply.ok reply.length reply.bytes received.header m reply.is in
      absurd (true_and_false answers asks)

  module _ (beginning : Beginning) where
    -- ---- 3. the requests of a history
    departs_before : (state : State) (step : Local) (m : Sent) → Departs (after beginning state step) m → Departs state m
    departs_before state step m departs = record {
      on_link = departs.on_link;
      header = departs.header;
      pending = pending_before beginning state step (operation plan slots rank (ForLink departs.on_link)) departs.pending;
    }

    requests_depart : (steps : List Local) (state : State) (m : Sent) → IsOf plan slots rank state
        → In m (made beginning state steps) → is_answer m.header.kind ≡ false → Departs state m
    requests_depart [] state m installed among asks = absurd among
    requests_depart (step ∷ steps) state m installed among asks =
        let then_installed = after_of plan slots rank beginning state step installed in
        first_or_rest (made_by state step) refl among
        (λ among_rest. departs_before state step m
        (requests_depart steps (after beginning state step) m then_installed among_rest asks))
      where
        first_or_rest : (first : Option Sent) → made_by state step ≡ first
            → In m (and_then first (made beginning (after beginning state step) steps))
            → (In m (made beginning (after beginning state step) steps) → Departs state m) → Departs state m
        first_or_rest None is among departs = departs among
        first_or_rest (Some x) is (inl same) departs = (request_sends state step m installed (is ∙ ap Some same) asks).departs
        first_or_rest (Some x) is (inr among_rest) departs = departs among_rest

    -- ---- 4. no link's message twice
    -- what departs after a step that sends a message is of another link
    not_again : (began : Bool) (state : State) (step : Local) (first second : Sent) → May began state step
        → Sends state step first → Departs (after beginning state step) second → number_in second ≡ number_in first → ⊥
    not_again began state step first second may sends departs same_number =
        let header_link : Header → ℕ = λ h. h.hdr_data in
        let same_link = sym (ap header_link departs.header) ∙ same_number ∙ ap header_link sends.departs.header in
        let number : ℕ = number_of plan rank (ForLink sends.departs.on_link) in
        let again : Posted = operation plan slots rank (ForLink departs.on_link) in
        let ready : May began state (Fire number) = subst (May began state) sends.fires may in
        let gone : Gone number (after beginning state (Fire number)) = gone_now number state ready in
        let waits = subst (λ (e : Local). In again (after beginning state e).pending.waiting) sends.fires departs.pending in
        let numbered = eq-eqb again.number number (ap (λ l. number_of plan rank (ForLink l)) same_link) in
        true_and_false numbered (gone again waits)

    pub sent_once : (steps : List Local) (began : Bool) (state : State) → IsOf plan slots rank state
        → Legal beginning began state steps → (destination : ℕ)
        → Distinct (map number_in (sent beginning state steps destination Request))
    sent_once [] began state installed legal destination = tt
    sent_once (step ∷ steps) began state installed legal destination =
        distinct_behind (is_for destination Request) (made_by state step) (made beginning (after beginning state step) steps)
        (sent_once steps (began || is_start step) (after beginning state step) then_installed legal.1 destination) other_link
      where
        then_installed : IsOf plan slots rank (after beginning state step)
        then_installed = after_of plan slots rank beginning state step installed

        -- a request that the first step makes has another link than each of the later ones
        other_link : (x : Sent) → made_by state step ≡ Some x → is_for destination Request x ≡ true
            → In (number_in x) (map number_in (sent beginning (after beginning state step) steps destination Request)) → ⊥
        other_link x is goes_there again =
            let then_made = made beginning (after beginning state step) steps in
            let then_sent = sent beginning (after beginning state step) steps destination Request in
            let (y, among_sent, same_number) = In-map_cases number_in (number_in x) then_sent again in
            let (among_made, y_goes_there) = In-filter_cases (is_for destination Request) y then_made among_sent in
            let asks = asks_for destination y y_goes_there in
            let departs = requests_depart steps (after beginning state step) y then_installed among_made asks in
            let sends = request_sends state step x installed is (asks_for destination x goes_there) in
            not_again began state step x y legal.0 sends departs same_number
