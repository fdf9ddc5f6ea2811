-- The closed form of an installed interface is the state after the calls.
use Rattle.std.proofs.Common.{ℕ, zero, suc, Bool, true, false, cond, not, ◌==◌, ◌+◌, ◌≡◌, List, [], ◌∷◌, ◌++◌, refl, length, map, filter}
use Rattle.std.proofs.Common.{flat_map, ap, ap₂, ◌∙◌, sym, subst, arith, append_assoc, append-nil, add-zero, None, Some, length-append}
use Rattle.std.proofs.Common.{if◌then◌else◌}
use Rattle.std.proofs.lemmas.List.{map-append}
use Rattle.ni_model.specs.declared.Bound.{Bound}
use Rattle.ni_model.specs.declared.Linked.{Linked}
use Rattle.ptl_types.specs.declared.handles.Count.{Count}
use Rattle.ni_model.specs.Append.{append}
use Rattle.ni_model.specs.Calls.{with_bound, with_counter, with_operation}
use Rattle.ni_model.specs.Counts.{successes}
use Rattle.ni_model.specs.Headers.{unexpected_list}
use Rattle.ni_model.specs.State.{Posted, State}
use Rattle.ni_model.specs.Tables.{Live, handle}
use Rattle.plan_core.specs.Plan.{from_to}
use Rattle.coll_lang.specs.declared.choices.ChoiceKind.{ChoiceKind}
use Rattle.plan_choice.specs.texts.machine.Choices.{choice_at}
use Rattle.coll_lang.specs.declared.choices.ChoiceKind.TheVariants.{Elect, Tickets}
use Rattle.plan_choice.specs.texts.machine.Machine.Phase.{Idle}
use Rattle.plan_choice.proofs.texts.machine.Places.{count_none}
use Rattle.plan_choice.proofs.texts.machine.Words.{length-from_to}
use Rattle.plan_choice.specs.texts.view.Install.{Counter, Part, Slots, RankOp, awaits_of, awaits_result, before, count_of, counters}
use Rattle.plan_choice.specs.texts.view.Install.{counters_in}
use Rattle.plan_choice.specs.texts.view.Install.{counters_of, ct_of, ct_stamp, action_of, descriptor_of, entries_of, entry_of, has_first}
use Rattle.plan_choice.specs.texts.view.Install.{last_in}
use Rattle.plan_choice.specs.texts.view.Install.{live_counter, live_part, md_of, md_stamp, none_or_one, number_of, operation, parts}
use Rattle.plan_choice.specs.texts.view.Install.{parts_of}
use Rattle.plan_choice.specs.texts.view.Install.{steps}
use Rattle.plan_choice.specs.texts.view.Install.{things_in, view, was_fired, word_entry, work_counter, rank_ops, works_of}
use Rattle.plan_choice.specs.texts.view.Install.Counter.{Done, First, Go, Second}
use Rattle.plan_choice.specs.texts.view.Install.Part.{Given, Old, Result}
use Rattle.plan_choice.specs.texts.view.Install.RankOp.{Look, Send, ForDone}
use Rattle.plan_choice.specs.texts.view.Calls.{no_seat}
use Rattle.plan_choice.proofs.texts.view.Folds.{counters_all, entries_all, fresh, made_all, made_in_order, operations_all, parts_all}

-- ---- names whose stamps follow one another
abbrev pub Runs : {X : Type 0} → (X → ℕ) → ℕ → List X → Type 0
Runs stamp n [] = Unit {0}
Runs stamp n (x ∷ xs) = (stamp x ≡ n) × Runs stamp (n + 1) xs

Runs-append : {X : Type 0} (stamp : X → ℕ) (n m : ℕ) (xs ys : List X) → n + length xs ≡ m → Runs stamp n xs → Runs stamp m ys
    → Runs stamp n (xs ++ ys)
Runs-append stamp n m [] ys e h i = let q : m ≡ n = omega (arith, e) in subst (λ v. Runs stamp v ys) q i
Runs-append stamp n m (x ∷ xs) ys e h i = (h.0, Runs-append stamp (n + 1) m xs ys (omega (arith, e)) h.1 i)

pub Runs-left : {X : Type 0} (stamp : X → ℕ) (n : ℕ) (xs ys : List X) → Runs stamp n (xs ++ ys) → Runs stamp n xs
Runs-left stamp n [] ys h = tt
Runs-left stamp n (x ∷ xs) ys h = (h.0, Runs-left stamp (n + 1) xs ys h.1)

Runs-right : {X : Type 0} (stamp : X → ℕ) (n : ℕ) (xs ys : List X) → Runs stamp n (xs ++ ys) → Runs stamp (n + length xs) ys
Runs-right stamp n [] ys h = subst (λ v. Runs stamp v ys) (sym (add-zero n)) h
Runs-right stamp n (x ∷ xs) ys h = let q : n + 1 + length xs ≡ n + suc (length xs) = omega arith in
    subst (λ v. Runs stamp v ys) q (Runs-right stamp (n + 1) xs ys h.1)

-- those of the steps do
module _ (ks : List ChoiceKind) where
  pub counters_run : (c : ChoiceKind) (t : ℕ) → choice_at ks t ≡ c → Runs (ct_stamp ks) (2 + before counters_in ks t) (counters_of c t)
  counters_run Elect t e = (omega arith, (omega arith, tt))
  counters_run Tickets t e = (omega arith, tt)

  pub counters_long : (c : ChoiceKind) (t : ℕ) → length (counters_of c t) ≡ counters_in c
  counters_long Elect t = refl
  counters_long Tickets t = refl

  pub all_counters_run : (t n : ℕ)
      → Runs (ct_stamp ks) (2 + before counters_in ks t) (flat_map (λ s. counters_of (choice_at ks s) s) (from_to t n))
  all_counters_run t zero = tt
  all_counters_run t (suc n) =
      Runs-append (ct_stamp ks) (2 + before counters_in ks t) (2 + before counters_in ks (suc t)) (counters_of (choice_at ks t) t)
      (flat_map (λ s. counters_of (choice_at ks s) s) (from_to (suc t) n))
      (let l = counters_long (choice_at ks t) t in omega (arith, l)) (counters_run (choice_at ks t) t refl) (all_counters_run (suc t) n)

  pub parts_run : (c : ChoiceKind) (t : ℕ) → choice_at ks t ≡ c → Runs (md_stamp ks) (before things_in ks t) (parts_of c t)
  parts_run Elect t e = (omega arith, (omega arith, (let l = ap last_in e in omega (arith, l), tt)))
  parts_run Tickets t e = (omega arith, (let l = ap last_in e in omega (arith, l), tt))

  pub parts_long : (c : ChoiceKind) (t : ℕ) → length (parts_of c t) ≡ things_in c
  parts_long Elect t = refl
  parts_long Tickets t = refl

  pub all_parts_run : (t n : ℕ) → Runs (md_stamp ks) (before things_in ks t) (flat_map (λ s. parts_of (choice_at ks s) s) (from_to t n))
  all_parts_run t zero = tt
  all_parts_run t (suc n) =
      Runs-append (md_stamp ks) (before things_in ks t) (before things_in ks (suc t)) (parts_of (choice_at ks t) t)
      (flat_map (λ s. parts_of (choice_at ks s) s) (from_to (suc t) n))
      (let l = parts_long (choice_at ks t) t in omega (arith, l)) (parts_run (choice_at ks t) t refl) (all_parts_run (suc t) n)

  works_run : (c : ChoiceKind) (t : ℕ) → choice_at ks t ≡ c → Runs (number_of ks) (before things_in ks t) (works_of c t)
  works_run Elect t e = (omega arith, (omega arith, (let l = ap last_in e in omega (arith, l), tt)))
  works_run Tickets t e = (omega arith, (let l = ap last_in e in omega (arith, l), tt))

  pub works_long : (c : ChoiceKind) (t : ℕ) → length (works_of c t) ≡ things_in c
  works_long Elect t = refl
  works_long Tickets t = refl

  pub all_works_run : (t n : ℕ) → Runs (number_of ks) (before things_in ks t) (flat_map (λ s. works_of (choice_at ks s) s) (from_to t n))
  all_works_run t zero = tt
  all_works_run t (suc n) =
      Runs-append (number_of ks) (before things_in ks t) (before things_in ks (suc t)) (works_of (choice_at ks t) t)
      (flat_map (λ s. works_of (choice_at ks s) s) (from_to (suc t) n))
      (let l = works_long (choice_at ks t) t in omega (arith, l)) (works_run (choice_at ks t) t refl) (all_works_run (suc t) n)

abbrev pub same_number : ℕ → ℕ
same_number t = t

pub steps_run : (t n : ℕ) → Runs same_number t (from_to t n)
steps_run t zero = tt
steps_run t (suc n) = (
  refl,
  let q : suc t ≡ t + 1 = omega arith in
      subst (λ v. Runs same_number v (from_to (suc t) n)) q (steps_run (suc t) n),
)

-- ---- what each round of calls does
abbrev pub new_counter : Slots → List ChoiceKind → Counter → Live Count
new_counter k ks c = record { handle = ct_of k ks c; value = successes 0 }

abbrev pub new_part : Slots → List ChoiceKind → Part → Live Bound
new_part k ks x = record { handle = md_of k ks x; value = record { md = descriptor_of k ks x; awaits = 0 } }

-- a thing more, and then the others
pub one_more_of : {Y : Type 0} (ys : List Y) (y : Y) (zs : List Y) → (ys ++ y ∷ []) ++ zs ≡ ys ++ y ∷ zs
one_more_of ys y zs = append_assoc ys (y ∷ []) zs

pub sum_step : (i n : ℕ) → i + 1 + n ≡ i + suc n
sum_step i n = omega arith

abbrev pub cts_with : State → List (Live Count) → ℕ → State
cts_with s xs n = record s { cts = record s.cts { live = xs; given = n } }

pub after_counters : (k : Slots) (ks : List ChoiceKind) (cs : List Counter) (s : State) → Runs (ct_stamp ks) s.cts.given cs
    → counters_all k cs s ≡ cts_with s (s.cts.live ++ map (new_counter k ks) cs) (s.cts.given + length cs)
after_counters k ks [] s h = ap₂ (cts_with s) (sym (append-nil s.cts.live)) (sym (add-zero s.cts.given))
after_counters k ks (c ∷ cs) s h =
    after_counters k ks cs (with_counter (k.ct s.cts.given) s) h.1
    ∙ ap₂ (cts_with s)
    (one_more_of s.cts.live (record { handle = handle (k.ct s.cts.given) s.cts.given; value = successes 0 }) (map (new_counter k ks) cs)
    ∙ ap (λ n. s.cts.live ++ record { handle = handle (k.ct n) n; value = successes 0 } ∷ map (new_counter k ks) cs) (sym h.0))
    (sum_step s.cts.given (length cs))

abbrev pub mds_with : State → List (Live Bound) → ℕ → State
mds_with s xs n = record s { mds = record s.mds { live = xs; given = n } }

pub after_parts : (k : Slots) (ks : List ChoiceKind) (xs : List Part) (s : State) → Runs (md_stamp ks) s.mds.given xs
    → parts_all k ks xs s ≡ mds_with s (s.mds.live ++ map (new_part k ks) xs) (s.mds.given + length xs)
after_parts k ks [] s h = ap₂ (mds_with s) (sym (append-nil s.mds.live)) (sym (add-zero s.mds.given))
after_parts k ks (x ∷ xs) s h =
    after_parts k ks xs (with_bound (k.md s.mds.given) (descriptor_of k ks x) s) h.1
    ∙ ap₂ (mds_with s)
    (one_more_of s.mds.live (record {
      handle = handle (k.md s.mds.given) s.mds.given;
      value =
          record { md = descriptor_of k ks x; awaits = 0 };
    }) (map (new_part k ks) xs)
    ∙ ap (λ n. s.mds.live ++ record { handle = handle (k.md n) n; value = record { md = descriptor_of k ks x; awaits = 0 } } ∷ map
    (new_part k ks) xs) (sym h.0))
    (sum_step s.mds.given (length xs))

abbrev pub operations_with : State → List Posted → ℕ → State
operations_with s xs n = record s { pending = record s.pending { waiting = xs; given = n } }

pub after_operations : (k : Slots) (ks : List ChoiceKind) (ws : List RankOp) (s : State) → Runs (number_of ks) s.pending.given ws
    → operations_all k ks ws s ≡ operations_with s (s.pending.waiting ++ map (operation k ks) ws) (s.pending.given + length ws)
after_operations k ks [] s h = ap₂ (operations_with s) (sym (append-nil s.pending.waiting)) (sym (add-zero s.pending.given))
after_operations k ks (w ∷ ws) s h =
    after_operations k ks ws (with_operation (action_of k ks w) (ct_of k ks (work_counter ks w)) 1 s) h.1
    ∙ ap₂ (operations_with s)
    (one_more_of s.pending.waiting
    (record { number = s.pending.given; action = action_of k ks w; ct = ct_of k ks (work_counter ks w); threshold = 1 })
    (map (operation k ks) ws)
    ∙ ap (λ n. s.pending.waiting ++ record { number = n; action = action_of k ks w; ct = ct_of k ks (work_counter ks w); threshold = 1 }
    ∷ map
    (operation k ks) ws) (sym h.0))
    (sum_step s.pending.given (length ws))

-- an interface with these entries, all in the priority list of index 0, and no header
abbrev pub entries_with : State → List Linked → ℕ → State
entries_with s xs n = record s {
  indices = Some (record { eq = None; priority = xs; overflow = [] }) ∷ [];
  entries_given = n;
  headers =
      unexpected_list [] 0;
}

pub after_entries : (k : Slots) (ts : List ℕ) (s : State) (xs : List Linked) (n : ℕ) → Runs same_number n ts
    → entries_all k ts (entries_with s xs n) ≡ entries_with s (xs ++ map (entry_of k) ts) (n + length ts)
unfolding append
after_entries k [] s xs n h = ap₂ (entries_with s) (sym (append-nil xs)) (sym (add-zero n))
after_entries k (t ∷ ts) s xs n h =
    after_entries k ts s (xs ++ record { handle = handle (k.me n) n; running = 0; entry = word_entry t } ∷ []) (n + 1) h.1
    ∙ ap₂ (entries_with s)
    (one_more_of xs (record { handle = handle (k.me n) n; running = 0; entry = word_entry t }) (map (entry_of k) ts)
    ∙ ap (λ m. xs ++ record { handle = handle (k.me m) m; running = 0; entry = word_entry t } ∷ map (entry_of k) ts) (sym h.0))
    (sum_step n (length ts))

-- counters and descriptors, step by step
abbrev pub tables_with : State → List (Live Count) → ℕ → List (Live Bound) → ℕ → State
tables_with s cs n ms m = record s { cts = record s.cts { live = cs; given = n }; mds = record s.mds { live = ms; given = m } }

pub after_made : (k : Slots) (ks : List ChoiceKind) (ts : List ℕ) (s : State)
    → Runs (ct_stamp ks) s.cts.given (flat_map (λ t. counters_of (choice_at ks t) t) ts)
    → Runs (md_stamp ks) s.mds.given (flat_map (λ t. parts_of (choice_at ks t) t) ts)
    → made_all k ks ts s ≡ tables_with s (s.cts.live ++ map (new_counter k ks) (flat_map (λ t. counters_of (choice_at ks t) t) ts))
    (s.cts.given + length (flat_map (λ t. counters_of (choice_at ks t) t) ts))
    (s.mds.live ++ map (new_part k ks) (flat_map (λ t. parts_of (choice_at ks t) t) ts))
    (s.mds.given + length (flat_map (λ t. parts_of (choice_at ks t) t) ts))
after_made k ks [] s h i = λ d. tables_with s (sym (append-nil s.cts.live) d) (sym (add-zero s.cts.given) d) (sym (append-nil s.mds.live) d)
    (sym (add-zero s.mds.given) d)
after_made k ks (t ∷ ts) s h i =
    let cs = counters_of (choice_at ks t) t in
    let xs = parts_of (choice_at ks t) t in
    let cs' = flat_map (λ t. counters_of (choice_at ks t) t) ts in
    let xs' = flat_map (λ t. parts_of (choice_at ks t) t) ts in
    ap (λ v. made_all k ks ts (parts_all k ks xs v)) (after_counters k ks cs s (Runs-left (ct_stamp ks) s.cts.given cs cs' h))
    ∙ ap (made_all k ks ts) (after_parts k ks xs (cts_with s (s.cts.live ++ map (new_counter k ks) cs) (s.cts.given + length cs))
    (Runs-left (md_stamp ks) s.mds.given xs xs' i))
    ∙ after_made k ks ts (tables_with s (s.cts.live ++ map (new_counter k ks) cs) (s.cts.given + length cs)
    (s.mds.live ++ map (new_part k ks) xs) (s.mds.given + length xs))
    (Runs-right (ct_stamp ks) s.cts.given cs cs' h) (Runs-right (md_stamp ks) s.mds.given xs xs' i)
    ∙ (λ d. tables_with s (joined s.cts.live (new_counter k ks) cs cs' d) (summed s.cts.given cs cs' d)
    (joined s.mds.live (new_part k ks) xs xs' d) (summed s.mds.given xs xs' d))
  where
    joined : {X Y : Type 0} (ys : List Y) (f : X → Y) (xs zs : List X) → (ys ++ map f xs) ++ map f zs ≡ ys ++ map f (xs ++ zs)
    joined ys f xs zs = append_assoc ys (map f xs) (map f zs) ∙ ap (λ v. ys ++ v) (sym (map-append f xs zs))

    summed : {X : Type 0} (n : ℕ) (xs zs : List X) → n + length xs + length zs ≡ n + length (xs ++ zs)
    summed n xs zs = let l = length-append xs zs in omega (arith, l)

-- ---- the lists of the closed form
module _ (k : Slots) (ks : List ChoiceKind) (r : ℕ) where
  first_none : (c : ChoiceKind) → none_or_one (has_first c Idle) ≡ 0
  first_none Elect = refl
  first_none Tickets = refl

  result_none : (c : ChoiceKind) → none_or_one (awaits_result c Idle) ≡ 0
  result_none Elect = refl
  result_none Tickets = refl

  pub count_zero : (c : Counter) → count_of ks (no_seat ks r) c ≡ 0
  count_zero Go = refl
  count_zero Done = let z = count_none (λ s. false) (steps ks) (λ x i. refl) in omega (arith, z)
  count_zero (First s) = first_none (choice_at ks s)
  count_zero (Second s) = refl

  pub awaits_zero : (x : Part) → awaits_of ks (no_seat ks r) x ≡ 0
  awaits_zero (Given s) = refl
  awaits_zero (Old s) = refl
  awaits_zero (Result s) = result_none (choice_at ks s)

  pub counters_are : (cs : List Counter) → map (new_counter k ks) cs ≡ map (live_counter k ks (no_seat ks r)) cs
  counters_are [] = refl
  counters_are (c ∷ cs) = ap₂ (λ n rest. record { handle = ct_of k ks c; value = successes n } ∷ rest) (sym (count_zero c))
      (counters_are cs)

  pub parts_are : (xs : List Part) → map (new_part k ks) xs ≡ map (live_part k ks (no_seat ks r)) xs
  parts_are [] = refl
  parts_are (x ∷ xs) = ap₂ (λ n rest. record { handle = md_of k ks x; value = record { md = descriptor_of k ks x; awaits = n } } ∷ rest)
      (sym (awaits_zero x)) (parts_are xs)

  none_fired : (w : RankOp) → was_fired (no_seat ks r) w ≡ false
  none_fired (Send s) = refl
  none_fired (Look s) = refl
  none_fired (ForDone s) = refl

  pub works_are : (ws : List RankOp) → ws ≡ filter (λ w. not (was_fired (no_seat ks r) w)) ws
  works_are [] = refl
  works_are (w ∷ ws) = ap₂ (λ b rest. cond (not b) (w ∷ rest) rest) (sym (none_fired w)) (works_are ws)

-- ---- the interface before its operations
module _ (k : Slots) (ranks : ℕ) (ks : List ChoiceKind) (r : ℕ) where
  -- all but the operations, with these entries
  abbrev pub bare : List Linked → ℕ → State
  bare xs n = record (view k ranks ks r (no_seat ks r)) {
    indices = Some (record { eq = None; priority = xs; overflow = [] }) ∷ [];
    entries_given = n;
    pending =
        record (view k ranks ks r (no_seat ks r)).pending { waiting = []; given = 0 };
  }

  zero_more : (n : ℕ) → 0 + n ≡ n
  zero_more n = omega arith

  two_more : (n : ℕ) → 2 + n ≡ suc (suc n)
  two_more n = omega arith

  pub made_is : made_all k ks (steps ks) (fresh k ranks ks r) ≡ bare [] 0
  made_is =
      after_made k ks (steps ks) (fresh k ranks ks r) (all_counters_run ks 0 (length ks)) (all_parts_run ks 0 (length ks))
      ∙ (λ d. record (bare [] 0) {
        cts = record (bare [] 0).cts {
          live = counters_are k ks r (counters ks) d;
          given =
              two_more (length (flat_map (λ t. counters_of (choice_at ks t) t) (steps ks))) d;
        };
        mds = record (bare [] 0).mds { live = parts_are k ks r (parts ks) d; given = zero_more (length (parts ks)) d };
      })

  pub entries_are : (b : Bool) → (if b then entries_all k (steps ks) (bare [] 0) else bare [] 0)
      ≡ bare (if b then map (entry_of k) (steps ks) else []) (if b then length ks else 0)
  entries_are false = refl
  entries_are true =
      after_entries k (steps ks) (bare [] 0) [] 0 (steps_run 0 (length ks))
      ∙ ap (bare (map (entry_of k) (steps ks))) (zero_more (length (steps ks)) ∙ length-from_to 0 (length ks))

  pub entered_is : (if r == 0 then entries_all k (steps ks) (made_all k ks (steps ks) (fresh k ranks ks r)) else made_all k ks (steps ks)
      (fresh k ranks ks r)) ≡ bare (entries_of k ks r) (if r == 0 then length ks else 0)
  entered_is = ap (λ s. if r == 0 then entries_all k (steps ks) s else s) made_is ∙ entries_are (r == 0)

  -- ---- the law
  pub made_so : made_in_order k ranks ks r ≡ view k ranks ks r (no_seat ks r)
  made_so =
      ap (operations_all k ks (rank_ops ks)) entered_is
      ∙ after_operations k ks (rank_ops ks) (bare (entries_of k ks r) (if r == 0 then length ks else 0)) (all_works_run ks 0 (length ks))
      ∙ (λ d. record (bare (entries_of k ks r) (if r == 0 then length ks else 0)) {
        pending = record (view k ranks ks r (no_seat ks r)).pending
            { waiting = map (operation k ks) (works_are k ks r (rank_ops ks) d); given = zero_more (length (rank_ops ks)) d };
      })
