-- A start, and a request that rank 0 took: what the rank's interface shows.
use Rattle.std.proofs.Common.{ℕ, Bool, true, false, cond, not, ◌≡◌, List, [], ◌∷◌, refl, length, map, filter, ap, ap₂, sym, inl, inr}
use Rattle.std.proofs.Common.{flat_map, min}
use Rattle.ptl_types.specs.declared.handles.Count.{Count}
use Rattle.ptl_types.specs.Handles.{top}
use Rattle.ni_model.specs.declared.Bound.{Bound}
use Rattle.ni_model.specs.Counts.{bump, successes}
use Rattle.ni_model.specs.Tables.{Live}
use Rattle.ni_model.specs.State.{Posted, State}
use Rattle.plan_core.specs.Members.{In}
use Rattle.plan_core.proofs.Flat.{flat-same}
use Rattle.cuts.specs.view.View.{raise_go}
use Rattle.coll_lang.specs.declared.choices.ChoiceKind.{ChoiceKind}
use Rattle.plan_choice.specs.texts.machine.Choices.{choice_at}
use Rattle.coll_lang.specs.declared.choices.ChoiceKind.TheVariants.{Elect, Tickets}
use Rattle.plan_choice.specs.texts.machine.Machine.{Phase, put, served, value_of}
use Rattle.plan_choice.specs.texts.machine.Machine.Phase.{Asked, Read, Reading, Served}
use Rattle.plan_choice.proofs.texts.machine.Places.{count_as}
use Rattle.plan_choice.proofs.texts.machine.Words.{put_as}
use Rattle.plan_choice.specs.texts.view.Install.{Counter, Part, ChoiceRank, Slots, RankOp, awaits_of, awaits_result, count_of, counters}
use Rattle.plan_choice.specs.texts.view.Install.{ct_of}
use Rattle.plan_choice.specs.texts.view.Install.{ct_stamp, descriptor_of, four_words, given_word, has_first, has_result, is_out, is_reading}
use Rattle.plan_choice.specs.texts.view.Install.{is_told}
use Rattle.plan_choice.specs.texts.view.Install.{none_or_one, live_counter, live_part, md_stamp, old_of, operation, parts, step_bytes}
use Rattle.plan_choice.specs.texts.view.Install.{steps}
use Rattle.plan_choice.specs.texts.view.Install.{view}
use Rattle.plan_choice.specs.texts.view.Install.{was_fired, was_read, was_sent, rank_ops}
use Rattle.plan_choice.specs.texts.view.Install.Counter.{Done, First, Go, Second}
use Rattle.plan_choice.specs.texts.view.Install.Part.{Given, Old, Result}
use Rattle.plan_choice.specs.texts.view.Install.RankOp.{Look, Send, ForDone}
use Rattle.plan_choice.specs.texts.view.Steps.{with_phase}
use Rattle.plan_choice.proofs.texts.view.Looks.{look_served}
use Rattle.plan_choice.proofs.texts.view.Named.{changed_named, same_lives}
use Rattle.plan_choice.proofs.texts.view.Stamps.{counters-In, ct_one}

pub length-step : (ks : List ChoiceKind) (r : ℕ) (seat : ChoiceRank) (s : ℕ) → length (step_bytes ks r seat s) ≡ 32
length-step ks r seat s = refl

-- ---- the parts of an interface, each by what it shows
pub memory_as : (ks : List ChoiceKind) (r : ℕ) (a b : ChoiceRank) → ((s : ℕ) → b.word s ≡ a.word s)
    → ((s : ℕ) → old_of (b.phase s) ≡ old_of (a.phase s)) → ((s : ℕ) → value_of (b.phase s) ≡ value_of (a.phase s))
    → flat_map (step_bytes ks r a) (steps ks) ≡ flat_map (step_bytes ks r b) (steps ks)
memory_as ks r a b words olds values = flat-same (step_bytes ks r a) (step_bytes ks r b) (steps ks) (λ s i. sym (same s))
  where
    same : (s : ℕ) → step_bytes ks r b s ≡ step_bytes ks r a s
    same s = λ d. four_words (words s d) (given_word (choice_at ks s) r) (olds s d) (values s d)

pub counts_as : (k : Slots) (ks : List ChoiceKind) (a b : ChoiceRank) →
    ((c : Counter) → In c (counters ks) → count_of ks b c ≡ count_of ks a c)
    → map (live_counter k ks a) (counters ks) ≡ map (live_counter k ks b) (counters ks)
counts_as k ks a b h = same_lives k.ct (ct_stamp ks) (λ c. successes (count_of ks a c)) (λ c. successes (count_of ks b c)) (counters ks)
    (λ c i. ap successes (h c i))

-- a descriptor that awaits so many, and as it does at a moment
abbrev pub bound_with : Slots → List ChoiceKind → Part → ℕ → Bound
bound_with k ks x n = record { md = descriptor_of k ks x; awaits = n }

-- at a moment
abbrev pub bound_for : Slots → List ChoiceKind → ChoiceRank → Part → Bound
bound_for k ks seat x = bound_with k ks x (awaits_of ks seat x)

pub parts_as : (k : Slots) (ks : List ChoiceKind) (a b : ChoiceRank) → ((x : Part) → In x (parts ks) → awaits_of ks b x ≡ awaits_of ks a x)
    → map (live_part k ks a) (parts ks) ≡ map (live_part k ks b) (parts ks)
parts_as k ks a b h = same_lives k.md (md_stamp ks) (bound_for k ks a) (bound_for k ks b) (parts ks) (λ x i. ap (bound_with k ks x) (h x i))

filter_as : {W : Type 0} (a b : W → Bool) (ws : List W) → ((w : W) → In w ws → b w ≡ a w)
    → filter (λ w. not (a w)) ws ≡ filter (λ w. not (b w)) ws
filter_as a b [] h = refl
filter_as a b (w ∷ ws) h = ap₂ (λ t rest. cond (not t) (w ∷ rest) rest) (sym (h w (inl refl))) (filter_as a b ws (λ v i. h v (inr i)))

pub pending_as : (k : Slots) (ks : List ChoiceKind) (a b : ChoiceRank) → ((w : RankOp) → In w (rank_ops ks) → was_fired b w ≡ was_fired a w)
    → map (operation k ks) (filter (λ w. not (was_fired a w)) (rank_ops ks))
    ≡ map (operation k ks) (filter (λ w. not (was_fired b w)) (rank_ops ks))
pending_as k ks a b h = ap (map (operation k ks)) (filter_as (was_fired a) (was_fired b) (rank_ops ks) h)

-- an interface with these
abbrev pub view_with : Slots → ℕ → List ChoiceKind → ℕ → ChoiceRank → List ℕ → List (Live Count) → List (Live Bound) → List Posted → State
view_with k ranks ks r seat memory cts mds waiting = record (view k ranks ks r seat) {
  memory = memory;
  cts = record (view k ranks ks r seat).cts { live = cts };
  mds = record (view k ranks ks r seat).mds { live = mds };
  pending = record (view k ranks ks r seat).pending { waiting = waiting };
}

-- ---- a start
pub started_view : (k : Slots) (ranks : ℕ) (ks : List ChoiceKind) (r : ℕ) (seat : ChoiceRank) → seat.started ≡ false
    → raise_go (ct_of k ks Go) (view k ranks ks r seat) ≡ view k ranks ks r (record seat { started = true })
started_view k ranks ks r seat e =
    ap (λ v. record (view k ranks ks r seat) { cts = record (view k ranks ks r seat).cts { live = v } })
    (changed_named k.ct (ct_stamp ks) (bump (successes 1)) (λ c. successes (count_of ks seat c))
    (λ c. successes (count_of ks (record seat { started = true }) c)) (counters ks) Go
    (λ c i q. ct_one ks c Go (counters-In ks c i) tt q)
    (ap (λ b. bump (successes 1) (successes (cond b 1 0))) (sym e))
    (λ c i n. others c n))
  where
    others : (c : Counter) → (c ≡ Go → ⊥) → successes (count_of ks (record seat { started = true }) c) ≡ successes (count_of ks seat c)
    others Go n = absurd (n refl)
    others Done n = refl
    others (First s) n = refl
    others (Second s) n = refl

-- ---- a request of the rank that rank 0 took
first_served : (k : ChoiceKind) (w : ℕ) (p : Phase) → has_first k (served w p) ≡ has_first k p
first_served Elect w p = look_served (has_first Elect) (λ w. refl) (λ old w. refl) w p
first_served Tickets w p = look_served (has_first Tickets) (λ w. refl) (λ old w. refl) w p

awaits_served : (k : ChoiceKind) (w : ℕ) (p : Phase) → awaits_result k (served w p) ≡ awaits_result k p
awaits_served Elect w p = look_served is_reading (λ w. refl) (λ old w. refl) w p
awaits_served Tickets w p = look_served is_out (λ w. refl) (λ old w. refl) w p

pub served_view : (k : Slots) (ranks : ℕ) (ks : List ChoiceKind) (r : ℕ) (seat : ChoiceRank) (s w : ℕ)
    → view k ranks ks r (with_phase s (served w (seat.phase s)) seat) ≡ view k ranks ks r seat
served_view k ranks ks r seat s w = λ d. view_with k ranks ks r seat
    (memory_as ks r next seat (λ t. refl) (λ t. sym (here old_of (λ w. refl) (λ old w. refl) t))
    (λ t. sym (here value_of (λ w. refl) (λ old w. refl) t)) d)
    (counts_as k ks next seat (λ c i. sym (count c)) d)
    (parts_as k ks next seat (λ x i. sym (await x)) d)
    (pending_as k ks next seat (λ v i. sym (fire v)) d)
  where
    next : ChoiceRank
    next = with_phase s (served w (seat.phase s)) seat

    here : {X : Type 0} (look : Phase → X) → ((w : ℕ) → look (Served w) ≡ look Asked)
        → ((old w : ℕ) → look (Read old w) ≡ look (Reading old)) → (t : ℕ)
        → look (put s (served w (seat.phase s)) seat.phase t) ≡ look (seat.phase t)
    here look a b t = put_as look s (served w (seat.phase s)) seat.phase (look_served look a b w (seat.phase s)) t

    count : (c : Counter) → count_of ks next c ≡ count_of ks seat c
    count Go = refl
    count Done = ap (λ n. min n top) (count_as (λ t. is_told (seat.phase t)) (λ t. is_told (next.phase t)) (steps ks)
        (λ t i. here is_told (λ w. refl) (λ old w. refl) t))
    count (First t) = ap (λ b. none_or_one b) (put_as (has_first (choice_at ks t)) s (served w (seat.phase s)) seat.phase
        (first_served (choice_at ks t) w (seat.phase s)) t)
    count (Second t) = ap (λ b. none_or_one b) (here has_result (λ w. refl) (λ old w. refl) t)

    await : (x : Part) → awaits_of ks next x ≡ awaits_of ks seat x
    await (Given t) = refl
    await (Old t) = ap (λ b. none_or_one b) (here is_out (λ w. refl) (λ old w. refl) t)
    await (Result t) = ap (λ b. none_or_one b) (put_as (awaits_result (choice_at ks t)) s (served w (seat.phase s)) seat.phase
        (awaits_served (choice_at ks t) w (seat.phase s)) t)

    fire : (v : RankOp) → was_fired next v ≡ was_fired seat v
    fire (Send t) = here was_sent (λ w. refl) (λ old w. refl) t
    fire (Look t) = here was_read (λ w. refl) (λ old w. refl) t
    fire (ForDone t) = here is_told (λ w. refl) (λ old w. refl) t
