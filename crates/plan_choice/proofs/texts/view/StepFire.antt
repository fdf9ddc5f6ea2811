-- A firing: which operation is ready, and what it does.
use Rattle.std.proofs.Common.{ℕ, Bool, true, false, cond, not, ◌&&◌, ◌==◌, ◌+◌, ◌≡◌, ◌≤◌, ◌⊎◌, nat_le, List, [], ◌∷◌, refl, map, filter, ap}
use Rattle.std.proofs.Common.{◌∙◌, sym, subst, inl, inr, arith, Option, Some, None, Ok, is_some, eqb-true, eq-eqb}
use Rattle.std.proofs.lemmas.Bool.{ne_eqb, leb-true, le-leb, not-true, cases_eq}
use Rattle.ptl_types.specs.declared.handles.Count.{Count}
use Rattle.ptl_types.specs.declared.elements.AtomicOp.{AtomicOp}
use Rattle.ptl_types.specs.declared.elements.SwapOp.{SwapOp}
use Rattle.ptl_types.specs.declared.elements.ElemType.{ElemType}
use Rattle.ptl_types.specs.declared.headers.Header.{Header}
use Rattle.ptl_types.specs.declared.headers.MessageKind.TheVariants.{FetchAtomic as FetchAtomicKind, Swap as SwapKind}
use Rattle.ptl_types.specs.declared.calls.PutArgs.{PutArgs}
use Rattle.ptl_types.specs.declared.calls.GetArgs.{GetArgs}
use Rattle.ptl_types.specs.declared.calls.TriggeredOp.TheVariants.{FetchAtomic as FetchAtomicAction, Get as GetAction, Swap as SwapAction}
use Rattle.ptl_types.specs.Messages.{message}
use Rattle.ni_model.specs.declared.Bound.{Bound}
use Rattle.ni_model.specs.State.{Posted, State}
use Rattle.ni_model.specs.Tables.{Table, changed, lookup}
use Rattle.ptl_types.specs.declared.calls.NiFault.TheVariants.{CountFull, Stale}
use Rattle.ni_model.specs.Append.{need}
use Rattle.ni_model.specs.Calls.{ct_inc, ends, ends_by}
use Rattle.ni_model.specs.Refusals.{inc_passes}
use Rattle.ni_model.specs.Counts.{counted, plus, successes}
use Rattle.ni_model.specs.Starts.{bytes_at, fetch_header, get_header, one_awaited, send_counter, send_told, started}
use Rattle.ni_model.specs.Ready.{done, fires, is_number, is_reached, is_ready, is_ready_op, posted_at}
use Rattle.plan_core.specs.Members.{In}
use Rattle.plan_core.proofs.Lists.{In-filter, In-filter_cases, In-map_cases}
use Rattle.cuts.proofs.view.Tables.{find-In, find-one}
use Rattle.coll_lang.specs.declared.choices.ChoiceKind.{ChoiceKind}
use Rattle.coll_lang.specs.declared.choices.ChoiceKind.TheVariants.{Elect}
use Rattle.plan_choice.specs.texts.machine.Machine.{Phase}
use Rattle.plan_choice.specs.texts.machine.Machine.Phase.{Answered, Asked, Idle, Learned, Read, Reading, Served, Told}
use Rattle.plan_choice.specs.texts.view.Install.{Counter, Part, ChoiceRank, Slots, RankOp, count_of, counters, ct_of, ct_stamp, has_first}
use Rattle.plan_choice.specs.texts.view.Install.{has_result}
use Rattle.plan_choice.specs.texts.view.Install.{is_told, md_of, md_stamp, none_or_one, number_of, operation, parts, view, was_fired}
use Rattle.plan_choice.specs.texts.view.Install.{was_read}
use Rattle.plan_choice.specs.texts.view.Install.{was_sent, work_counter, rank_ops}
use Rattle.plan_choice.specs.texts.view.Install.Counter.{Done, First, Go, Second}
use Rattle.plan_choice.proofs.texts.view.Named.{changed_named, lookup_named}
use Rattle.plan_choice.proofs.texts.view.Stamps.{IsWork, In-go, In-work_counter, In-rank_ops, counters-In, ct_one, md_one, number_one}
use Rattle.plan_choice.proofs.texts.view.Stamps.{parts-In}
use Rattle.plan_choice.proofs.texts.view.Stamps.{rank_ops-In}
use Rattle.plan_choice.proofs.texts.view.StepStart.{bound_for}

-- ---- which operation is ready
module _ (k : Slots) (ranks : ℕ) (ks : List ChoiceKind) (r : ℕ) (seat : ChoiceRank) where
  pub lookup_ct : (c : Counter) → In c (counters ks)
      → lookup (ct_of k ks c) (view k ranks ks r seat).cts.live ≡ Some (successes (count_of ks seat c))
  lookup_ct c h = lookup_named k.ct (ct_stamp ks) (λ d. successes (count_of ks seat d)) (counters ks) c h
      (λ d i e. ct_one ks d c (counters-In ks d i) (counters-In ks c h) e)

  pub lookup_md : (x : Part) → In x (parts ks) → lookup (md_of k ks x) (view k ranks ks r seat).mds.live ≡ Some (bound_for k ks seat x)
  lookup_md x h = lookup_named k.md (md_stamp ks) (bound_for k ks seat) (parts ks) x h
      (λ y i e. md_one ks y x (parts-In ks y i) (parts-In ks x h) e)

  pub find_work : (w : RankOp) → IsWork ks w → was_fired seat w ≡ false
      → posted_at (number_of ks w) (view k ranks ks r seat).pending ≡ Some (operation k ks w)
  find_work w h e =
      find-one (is_number (number_of ks w)) (operation k ks) (filter (λ v. not (was_fired seat v)) (rank_ops ks)) w
      (In-filter (λ v. not (was_fired seat v)) w (rank_ops ks) (In-rank_ops ks w h) (ap not e))
      (eq-eqb (number_of ks w) (number_of ks w) refl)
      (λ v i f. number_one ks v w (rank_ops-In ks v (In-filter_cases (λ v. not (was_fired seat v)) v (rank_ops ks) i).0) h (eqb-true _ _ f))

  -- the operation that a number names, where it is ready
  pub record IsReadyWork (t : ℕ) (w : RankOp) : Type 0 where
    pub ours : IsWork ks w
    pub waits : was_fired seat w ≡ false
    pub found : posted_at t (view k ranks ks r seat).pending ≡ Some (operation k ks w)
    pub reached : 1 ≤ count_of ks seat (work_counter ks w)

  reached_one : (n : ℕ) (o : Option Count) → o ≡ Some (successes n) → is_reached o 1 ≡ true → 1 ≤ n
  reached_one n o e h =
      let q : nat_le 1 (n + 0) ≡ true = subst (λ (v : Option Count). is_reached v 1 ≡ true) e h in
      let l : 1 ≤ n + 0 = leb-true _ _ q in
      omega arith

  pub ready_work : (t : ℕ) → is_ready (view k ranks ks r seat) t ≡ true → (w : RankOp) × IsReadyWork t w
  ready_work t h = go (posted_at t (view k ranks ks r seat).pending) refl h
    where
      go : (o : Option Posted) → posted_at t (view k ranks ks r seat).pending ≡ o → is_ready_op (view k ranks ks r seat).cts o ≡ true
          → (w : RankOp) × IsReadyWork t w
      go None e h = cc
      go (Some q) e h =
          let i = find-In (is_number t) (view k ranks ks r seat).pending.waiting q e in
          let m = In-map_cases (operation k ks) q (filter (λ w. not (was_fired seat w)) (rank_ops ks)) i.0 in
          let f = In-filter_cases (λ w. not (was_fired seat w)) m.0 (rank_ops ks) m.1 in
          let w = rank_ops-In ks m.0 f.0 in (
            m.0,
            record {
              ours = w;
              waits = not-true _ f.1;
              found = e ∙ ap Some (sym m.2);
              reached = reached_one (count_of ks seat (work_counter ks m.0))
                  (lookup (ct_of k ks (work_counter ks m.0)) (view k ranks ks r seat).cts.live)
                  (lookup_ct (work_counter ks m.0) (In-work_counter ks m.0 w))
                  (subst (λ (x : Posted). is_reached (lookup x.ct (view k ranks ks r seat).cts.live) x.threshold ≡ true) (sym m.2) h);
            },
          )

  -- and the other way round
  pub work_ready : (w : RankOp) → IsWork ks w → was_fired seat w ≡ false → 1 ≤ count_of ks seat (work_counter ks w)
      → is_ready (view k ranks ks r seat) (number_of ks w) ≡ true
  work_ready w h e n =
      ap (is_ready_op (view k ranks ks r seat).cts) (find_work w h e)
      ∙ ap (λ (o : Option Count). is_reached o 1) (lookup_ct (work_counter ks w) (In-work_counter ks w h))
      ∙ le-leb _ _ (omega arith)

-- ---- the host's increment of the go counter is accepted, and is the start
pub increment_starts : (k : Slots) (ranks : ℕ) (ks : List ChoiceKind) (r : ℕ) (seat : ChoiceRank) → seat.started ≡ false
    → ct_inc (ct_of k ks Go) (successes 1) (view k ranks ks r seat) ≡ ends (view k ranks ks r (record seat { started = true })) (Ok tt)
increment_starts k ranks ks r seat e =
    ap (λ (o : Option Count). ends_by (need (is_some o) Stale (need (not (inc_passes o (successes 1))) CountFull None))
    (view k ranks ks r seat) (record (view k ranks ks r seat)
    { cts = changed (ct_of k ks Go) (plus (successes 1)) (view k ranks ks r seat).cts }) tt)
    (lookup_ct k ranks ks r seat Go (In-go ks) ∙ ap (λ b. Some (successes (none_or_one b))) e)
    ∙ ap (λ v. ends (record (view k ranks ks r seat) { cts = record (view k ranks ks r seat).cts { live = v } }) (Ok tt))
    (changed_named k.ct (ct_stamp ks) (plus (successes 1)) (λ c. successes (count_of ks seat c))
    (λ c. successes (count_of ks (record seat { started = true }) c)) (counters ks) Go
    (λ c i q. ct_one ks c Go (counters-In ks c i) tt q)
    (ap (λ b. plus (successes 1) (successes (none_or_one b))) (sym e))
    (λ c i n. others c n))
  where
    others : (c : Counter) → (c ≡ Go → ⊥) → successes (count_of ks (record seat { started = true }) c) ≡ successes (count_of ks seat c)
    others Go n = absurd (n refl)
    others Done n = refl
    others (First s) n = refl
    others (Second s) n = refl

-- ---- by phases
pub one_true : (b : Bool) → 1 ≤ none_or_one b → b ≡ true
one_true true h = refl
one_true false h = absurd (omega arith)

pub true_one : (b : Bool) → b ≡ true → 1 ≤ none_or_one b
true_one true e = omega arith
true_one false e = cc

pub sent_idle : (p : Phase) → was_sent p ≡ false → p ≡ Idle
sent_idle Idle e = refl
sent_idle Asked e = cc
sent_idle (Served old) e = cc
sent_idle (Answered old) e = cc
sent_idle (Reading old) e = cc
sent_idle (Read old value) e = cc
sent_idle (Learned old value) e = cc
sent_idle (Told old value) e = cc

-- a phase that this operation ends
pub record IsAnswered (p : Phase) : Type 0 where
  pub old : ℕ
  pub is : p ≡ Answered old

pub record IsLearned (p : Phase) : Type 0 where
  pub old : ℕ
  pub value : ℕ
  pub is : p ≡ Learned old value

pub read_answered : (p : Phase) → was_read p ≡ false → has_first Elect p ≡ true → IsAnswered p
read_answered (Answered old) e f = record { old = old; is = refl }
read_answered Idle e f = cc
read_answered Asked e f = cc
read_answered (Served old) e f = cc
read_answered (Reading old) e f = cc
read_answered (Read old value) e f = cc
read_answered (Learned old value) e f = cc
read_answered (Told old value) e f = cc

pub told_learned : (p : Phase) → is_told p ≡ false → has_result p ≡ true → IsLearned p
told_learned (Learned old value) e f = record { old = old; value = value; is = refl }
told_learned Idle e f = cc
told_learned Asked e f = cc
told_learned (Served old) e f = cc
told_learned (Answered old) e f = cc
told_learned (Reading old) e f = cc
told_learned (Read old value) e f = cc
told_learned (Told old value) e f = cc

-- ---- operations that are left
both_false : (x : Bool) → (x && false) ≡ false
both_false true = refl
both_false false = refl

both_true : (x : Bool) → (x && true) ≡ x
both_true true = refl
both_true false = refl

filter_left : {W Y : Type 0} (op : W → Y) (test : Y → Bool) (a b : W → Bool) (vs : List W)
    → ((v : W) → In v vs → b v ≡ (a v && not (test (op v)))) → filter (λ q. not (test q)) (map op (filter a vs)) ≡ map op (filter b vs)
filter_left op test a b [] h = refl
filter_left {W} op test a b (v ∷ vs) h = at (a v) (test (op v)) refl (h v (inl refl)) (filter_left op test a b vs (λ u i. h u (inr i)))
  where
    at : (x y : Bool) → test (op v) ≡ y → b v ≡ (x && not (test (op v)))
        → filter (λ q. not (test q)) (map op (filter a vs)) ≡ map op (filter b vs)
        → filter (λ q. not (test q)) (map op (cond x (v ∷ filter a vs) (filter a vs))) ≡ map op (cond (b v) (v ∷ filter b vs) (filter b vs))
    at false y f e rest = rest ∙ ap (λ t. map op (cond t (v ∷ filter b vs) (filter b vs))) (sym e)
    at true true f e rest =
        ap (λ t. cond (not t) (op v ∷ filter (λ q. not (test q)) (map op (filter a vs)))
        (filter (λ q. not (test q)) (map op (filter a vs)))) f
        ∙ rest ∙ ap (λ t. map op (cond t (v ∷ filter b vs) (filter b vs))) (sym (e ∙ ap not f))
    at true false f e rest =
        ap (λ t. cond (not t) (op v ∷ filter (λ q. not (test q)) (map op (filter a vs)))
        (filter (λ q. not (test q)) (map op (filter a vs)))) f
        ∙ ap (λ x. op v ∷ x) rest ∙ ap (λ t. map op (cond t (v ∷ filter b vs) (filter b vs))) (sym (e ∙ ap not f))

pub left_waiting : (k : Slots) (ks : List ChoiceKind) (seat next : ChoiceRank) (w : RankOp) → IsWork ks w → was_fired next w ≡ true
    → ((v : RankOp) → (v ≡ w → ⊥) → was_fired next v ≡ was_fired seat v)
    → filter (λ q. not (is_number (number_of ks w) q)) (map (operation k ks) (filter (λ v. not (was_fired seat v)) (rank_ops ks)))
    ≡ map (operation k ks) (filter (λ v. not (was_fired next v)) (rank_ops ks))
left_waiting k ks seat next w h e same =
    filter_left (operation k ks) (is_number (number_of ks w)) (λ v. not (was_fired seat v)) (λ v. not (was_fired next v)) (rank_ops ks)
    (λ v i. at v i (cases_eq (number_of ks v) (number_of ks w)))
  where
    at : (v : RankOp) → In v (rank_ops ks) → ((number_of ks v ≡ number_of ks w) ⊎ (number_of ks v ≡ number_of ks w → ⊥))
        → not (was_fired next v) ≡ (not (was_fired seat v) && not (number_of ks v == number_of ks w))
    at v i (inl f) =
        let q : v ≡ w = number_one ks v w (rank_ops-In ks v i) h f in
        ap (λ u. not (was_fired next u)) q ∙ ap not e ∙ sym (both_false (not (was_fired seat v)))
        ∙ ap (λ t. not (was_fired seat v) && not t) (sym (eq-eqb _ _ f))
    at v i (inr n) = ap not (same v (λ q. n (ap (number_of ks) q))) ∙ sym (both_true (not (was_fired seat v)))
        ∙ ap (λ t. not (was_fired seat v) && not t) (sym (ne_eqb _ _ n))

-- ---- what a start does, with the descriptor that it counts on
abbrev pub sent_state : State → Option Bound → Header → Table Bound → State
sent_state v b h mds = record v {
  cts = counted (send_counter b) (successes 1) v.cts;
  eqs = send_told b h v.eqs;
  mds = mds;
}

pub done_swap : (v : State) (g : GetArgs) (a : PutArgs) (sw : SwapOp) (ty : ElemType) (operand : ℕ)
    → done v (SwapAction g a sw ty operand)
    ≡ fires (sent_state v (lookup a.md v.mds.live) (fetch_header v.rank SwapKind g a None (Some sw) ty operand)
    (changed g.md one_awaited v.mds))
    (Some (message (fetch_header v.rank SwapKind g a None (Some sw) ty operand)
    (bytes_at (lookup a.md v.mds.live) a.local_offset a.length v.memory)))
unfolding started
done_swap v g a sw ty operand = refl

pub done_fetch : (v : State) (g : GetArgs) (a : PutArgs) (op : AtomicOp) (ty : ElemType)
    → done v (FetchAtomicAction g a op ty)
    ≡ fires (sent_state v (lookup a.md v.mds.live) (fetch_header v.rank FetchAtomicKind g a (Some op) None ty 0)
    (changed g.md one_awaited v.mds))
    (Some (message (fetch_header v.rank FetchAtomicKind g a (Some op) None ty 0)
    (bytes_at (lookup a.md v.mds.live) a.local_offset a.length v.memory)))
unfolding started
done_fetch v g a op ty = refl

pub done_get : (v : State) (g : GetArgs)
    → done v (GetAction g) ≡ fires (sent_state v (lookup g.md v.mds.live) (get_header v.rank g) (changed g.md one_awaited v.mds))
    (Some (message (get_header v.rank g) []))
unfolding started
done_get v g = refl
