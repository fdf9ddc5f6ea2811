-- A row of lists grows by one, and how many things the calls of the first steps make.
use Rattle.std.proofs.Common.{ℕ, zero, suc, ◌+◌, ◌≡◌, ◌∙◌, List, [], ◌∷◌, ◌++◌, ap, ap₂, append-nil, arith, flat_map, map, refl}
use Rattle.std.specs.Prelude.{sum_by}
use Rattle.std.proofs.lemmas.List.Concat.{flat_map-append}
use Rattle.std.proofs.lemmas.List.Sums.{sum_by-append, sum_by_push}
use Rattle.coll_lang.specs.declared.choices.ChoiceKind.{ChoiceKind}
use Rattle.coll_lang.specs.declared.choices.ChoiceKind.TheVariants.{Elect, Tickets}
use Rattle.plan_core.specs.Plan.{from_to}
use Rattle.plan_core.proofs.Drawing.{from_to-more}
use Rattle.plan_choice.specs.texts.machine.Choices.{choice_at}
use Rattle.plan_choice.specs.texts.view.Calls.{Call, step_calls}
use Rattle.plan_choice.specs.texts.view.Calls.Call.{CtAlloc, MdBind}
use Rattle.plan_choice.specs.texts.view.Install.{before, counters_in, counters_of, parts_of, things_in}
use Rattle.plan_choice.specs.ranks.Given.{counters_by, descriptors_by, entries_by}

pub flat-more : {X : Type 0} (f : ℕ → List X) (n : ℕ) → flat_map f (from_to 0 (n + 1)) ≡ flat_map f (from_to 0 n) ++ f n
flat-more f n =
    ap (λ m. flat_map f (from_to 0 m)) (let e : n + 1 ≡ suc n = omega arith in e)
    ∙ ap (flat_map f) (from_to-more 0 n)
    ∙ flat_map-append f (from_to 0 n) ((0 + n) ∷ [])
    ∙ ap (λ v. flat_map f (from_to 0 n) ++ v) (append-nil (f (0 + n)))
    ∙ ap (λ m. flat_map f (from_to 0 n) ++ f m) (let e : 0 + n ≡ n = omega arith in e)

pub sum-more : (f : ℕ → ℕ) (n : ℕ) → sum_by f (from_to 0 (n + 1)) ≡ sum_by f (from_to 0 n) + f n
sum-more f n =
    ap (λ m. sum_by f (from_to 0 m)) (let e : n + 1 ≡ suc n = omega arith in e)
    ∙ ap (sum_by f) (from_to-more 0 n)
    ∙ sum_by_push f (from_to 0 n) (0 + n)
    ∙ ap (λ m. sum_by f (from_to 0 n) + f m) (let e : 0 + n ≡ n = omega arith in e)

-- ---- what the calls of the first n steps make
-- the calls of one step
abbrev calls_of : ChoiceKind → ℕ → List Call
calls_of k s = map CtAlloc (counters_of k s) ++ map MdBind (parts_of k s)

made_by : (f : Call → ℕ) (many : ChoiceKind → ℕ) (ks : List ChoiceKind)
    → ((k : ChoiceKind) (s : ℕ) → sum_by f (calls_of k s) ≡ many k)
    → (n : ℕ) → sum_by f (flat_map (step_calls ks) (from_to 0 n)) ≡ before many ks n
made_by f many ks each zero = refl
made_by f many ks each (suc n) =
    ap (λ m. sum_by f (flat_map (step_calls ks) (from_to 0 m))) (let e : suc n ≡ n + 1 = omega arith in e)
    ∙ ap (sum_by f) (flat-more (step_calls ks) n)
    ∙ sum_by-append f (flat_map (step_calls ks) (from_to 0 n)) (step_calls ks n)
    ∙ ap₂ (λ x y. x + y) (made_by f many ks each n) (each (choice_at ks n) n)

counters_each : (k : ChoiceKind) (s : ℕ) → sum_by counters_by (calls_of k s) ≡ counters_in k
counters_each Elect s = refl
counters_each Tickets s = refl

descriptors_each : (k : ChoiceKind) (s : ℕ) → sum_by descriptors_by (calls_of k s) ≡ things_in k
descriptors_each Elect s = refl
descriptors_each Tickets s = refl

entries_each : (k : ChoiceKind) (s : ℕ) → sum_by entries_by (calls_of k s) ≡ 0
entries_each Elect s = refl
entries_each Tickets s = refl

none_before : (ks : List ChoiceKind) (n : ℕ) → before (λ k. 0) ks n ≡ 0
none_before ks zero = refl
none_before ks (suc n) = ap (λ m. m + 0) (none_before ks n)

pub counters_made : (ks : List ChoiceKind) (n : ℕ) → sum_by counters_by (flat_map (step_calls ks) (from_to 0 n)) ≡ before counters_in ks n
counters_made ks n = made_by counters_by counters_in ks counters_each n

pub descriptors_made : (ks : List ChoiceKind) (n : ℕ)
    → sum_by descriptors_by (flat_map (step_calls ks) (from_to 0 n)) ≡ before things_in ks n
descriptors_made ks n = made_by descriptors_by things_in ks descriptors_each n

pub entries_made : (ks : List ChoiceKind) (n : ℕ) → sum_by entries_by (flat_map (step_calls ks) (from_to 0 n)) ≡ 0
entries_made ks n = made_by entries_by (λ k. 0) ks entries_each n ∙ none_before ks n
