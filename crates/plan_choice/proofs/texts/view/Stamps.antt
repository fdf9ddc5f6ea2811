-- The counters, descriptors and operations of a choice text: which there are, and that stamps and numbers tell them apart.
use Rattle.std.proofs.Common.{ℕ, zero, suc, ◌+◌, ◌≡◌, ◌≤◌, ◌<◌, ◌⊎◌, List, refl, length, ap, sym, subst, inl, inr, arith}
use Rattle.std.proofs.lemmas.Bool.{cases_eq, cases_lt}
use Rattle.plan_core.specs.Members.{In}
use Rattle.plan_core.proofs.Links.{In-from_to, from_to-In}
use Rattle.coll_lang.specs.declared.choices.ChoiceKind.{ChoiceKind}
use Rattle.plan_choice.specs.texts.machine.Choices.{choice_at}
use Rattle.coll_lang.specs.declared.choices.ChoiceKind.TheVariants.{Elect, Tickets}
use Rattle.plan_choice.specs.texts.view.Install.{Counter, Part, RankOp, before, counters, counters_in, counters_of, ct_stamp, last_in}
use Rattle.plan_choice.specs.texts.view.Install.{md_stamp}
use Rattle.plan_choice.specs.texts.view.Install.{number_of, parts, parts_of, result_counter, steps, things_in, work_counter, rank_ops}
use Rattle.plan_choice.specs.texts.view.Install.{works_of}
use Rattle.plan_choice.specs.texts.view.Install.Counter.{Done, First, Go, Second}
use Rattle.plan_choice.specs.texts.view.Install.Part.{Given, Old, Result}
use Rattle.plan_choice.specs.texts.view.Install.RankOp.{Look, Send, ForDone}
use Rattle.plan_choice.proofs.texts.view.Named.{In-flat, flat-In}

pub In-steps : (ks : List ChoiceKind) (s : ℕ) → s < length ks → In s (steps ks)
In-steps ks s h = In-from_to 0 (length ks) s (omega arith) (omega arith)

pub steps-In : (ks : List ChoiceKind) (s : ℕ) → In s (steps ks) → s < length ks
steps-In ks s h = let k = from_to-In 0 (length ks) s h in omega arith

-- ---- places in steps
pub before-le : (many : ChoiceKind → ℕ) (ks : List ChoiceKind) (s t : ℕ) → s < t
    → before many ks s + many (choice_at ks s) ≤ before many ks t
before-le many ks s zero h = absurd (omega arith)
before-le many ks s (suc t) h = at (cases_eq s t) (before-le many ks s t)
  where
    at : ((s ≡ t) ⊎ (s ≡ t → ⊥)) → (s < t → before many ks s + many (choice_at ks s) ≤ before many ks t)
        → before many ks s + many (choice_at ks s) ≤ before many ks t + many (choice_at ks t)
    at (inl e) rest = subst (λ v. before many ks s + many (choice_at ks s) ≤ before many ks v + many (choice_at ks v)) e (omega arith)
    at (inr n) rest = let k = rest (omega arith) in omega (arith, k)

place_one : (many : ChoiceKind → ℕ) (ks : List ChoiceKind) (s t p q : ℕ) → p < many (choice_at ks s) → q < many (choice_at ks t)
    → before many ks s + p ≡ before many ks t + q → (s ≡ t) × (p ≡ q)
place_one many ks s t p q i j e = at (cases_eq s t)
  where
    at : ((s ≡ t) ⊎ (s ≡ t → ⊥)) → (s ≡ t) × (p ≡ q)
    at (inl k) = (k, let l = ap (before many ks) k in omega (arith, l, e))
    at (inr n) = elim (cases_lt s t) [
      | inl k ↦ (let l = before-le many ks s t k in absurd (omega (arith, l, e, i)))
      | inr k ↦ (let l = before-le many ks t s (omega arith) in absurd (omega (arith, l, e, j)))
    ]

counters_in-pos : (k : ChoiceKind) → 0 < counters_in k
counters_in-pos Elect = omega arith
counters_in-pos Tickets = omega arith

last_in-pos : (k : ChoiceKind) → 0 < last_in k
last_in-pos Elect = omega arith
last_in-pos Tickets = omega arith

-- ---- counters
abbrev pub IsCounter : List ChoiceKind → Counter → Type 0
IsCounter ks (Second s) = choice_at ks s ≡ Elect
IsCounter ks _ = Unit {0}

second_in : (k : ChoiceKind) → k ≡ Elect → 1 < counters_in k
second_in Elect e = omega arith
second_in Tickets e = cc

pub ct_one : (ks : List ChoiceKind) (c d : Counter) → IsCounter ks c → IsCounter ks d → ct_stamp ks c ≡ ct_stamp ks d → c ≡ d
ct_one ks Go Go i j e = refl
ct_one ks Done Done i j e = refl
ct_one ks Go Done i j e = absurd (omega (arith, e))
ct_one ks Go (First t) i j e = absurd (omega (arith, e))
ct_one ks Go (Second t) i j e = absurd (omega (arith, e))
ct_one ks Done Go i j e = absurd (omega (arith, e))
ct_one ks Done (First t) i j e = absurd (omega (arith, e))
ct_one ks Done (Second t) i j e = absurd (omega (arith, e))
ct_one ks (First s) Go i j e = absurd (omega (arith, e))
ct_one ks (First s) Done i j e = absurd (omega (arith, e))
ct_one ks (Second s) Go i j e = absurd (omega (arith, e))
ct_one ks (Second s) Done i j e = absurd (omega (arith, e))
ct_one ks (First s) (First t) i j e =
    ap First (place_one counters_in ks s t 0 0 (counters_in-pos (choice_at ks s)) (counters_in-pos (choice_at ks t)) (omega (arith, e))).0
ct_one ks (First s) (Second t) i j e = let k =
    place_one counters_in ks s t 0 1 (counters_in-pos (choice_at ks s)) (second_in (choice_at ks t) j) (omega (arith, e)) in let l = k.1 in
    absurd (omega (arith, l))
ct_one ks (Second s) (First t) i j e = let k =
    place_one counters_in ks s t 1 0 (second_in (choice_at ks s) i) (counters_in-pos (choice_at ks t)) (omega (arith, e)) in let l = k.1 in
    absurd (omega (arith, l))
ct_one ks (Second s) (Second t) i j e =
    ap Second (place_one counters_in ks s t 1 1 (second_in (choice_at ks s) i) (second_in (choice_at ks t) j) (omega (arith, e))).0

pub In-go : (ks : List ChoiceKind) → In Go (counters ks)
In-go ks = inl refl

pub In-done : (ks : List ChoiceKind) → In Done (counters ks)
In-done ks = inr (inl refl)

pub In-first : (ks : List ChoiceKind) (s : ℕ) → s < length ks → In (First s) (counters ks)
In-first ks s h = inr (inr (In-flat (λ t. counters_of (choice_at ks t) t) s (First s) (steps ks) (In-steps ks s h) (here (choice_at ks s))))
  where
    here : (k : ChoiceKind) → In (First s) (counters_of k s)
    here Elect = inl refl
    here Tickets = inl refl

pub In-second : (ks : List ChoiceKind) (s : ℕ) → s < length ks → choice_at ks s ≡ Elect → In (Second s) (counters ks)
In-second ks s h e = inr (inr (In-flat (λ t. counters_of (choice_at ks t) t) s (Second s) (steps ks) (In-steps ks s h)
    (subst (λ k. In (Second s) (counters_of k s)) (sym e) (inr (inl refl)))))

pub counters-In : (ks : List ChoiceKind) (c : Counter) → In c (counters ks) → IsCounter ks c
counters-In ks c (inl e) = subst (IsCounter ks) e tt
counters-In ks c (inr (inl e)) = subst (IsCounter ks) e tt
counters-In ks c (inr (inr h)) = let k = flat-In (λ t. counters_of (choice_at ks t) t) c (steps ks) h in
    here (choice_at ks k.0) k.0 refl k.2
  where
    here : (k : ChoiceKind) (s : ℕ) → choice_at ks s ≡ k → In c (counters_of k s) → IsCounter ks c
    here Elect s e (inl i) = subst (IsCounter ks) i tt
    here Elect s e (inr (inl i)) = subst (IsCounter ks) i e
    here Elect s e (inr (inr i)) = absurd i
    here Tickets s e (inl i) = subst (IsCounter ks) i tt
    here Tickets s e (inr i) = absurd i

-- the counter of a result
pub In-result_counter : (ks : List ChoiceKind) (s : ℕ) → s < length ks → In (result_counter (choice_at ks s) s) (counters ks)
In-result_counter ks s h = at (choice_at ks s) refl
  where
    at : (k : ChoiceKind) → choice_at ks s ≡ k → In (result_counter k s) (counters ks)
    at Elect e = In-second ks s h e
    at Tickets e = In-first ks s h

-- ---- descriptors
abbrev pub IsPart : List ChoiceKind → Part → Type 0
IsPart ks (Old s) = choice_at ks s ≡ Elect
IsPart ks _ = Unit {0}

last_elect : (k : ChoiceKind) → k ≡ Elect → last_in k ≡ 2
last_elect Elect e = refl
last_elect Tickets e = cc

-- places of a step: none of the first, the middle and the last are the same
module _ (ks : List ChoiceKind) (s t : ℕ) where
  first_first : before things_in ks s + 0 ≡ before things_in ks t + 0 → s ≡ t
  first_first e = (place_one things_in ks s t 0 0 (omega arith) (omega arith) e).0

  first_middle : choice_at ks t ≡ Elect → before things_in ks s + 0 ≡ before things_in ks t + 1 → ⊥
  first_middle i e = let l = last_elect (choice_at ks t) i in let k =
      (place_one things_in ks s t 0 1 (omega arith) (omega (arith, l)) e).1 in omega (arith, k)

  first_last : before things_in ks s + 0 ≡ before things_in ks t + last_in (choice_at ks t) → ⊥
  first_last e = let l = last_in-pos (choice_at ks t) in let k =
      (place_one things_in ks s t 0 (last_in (choice_at ks t)) (omega arith) (omega arith) e).1 in omega (arith, k, l)

  middle_middle : choice_at ks s ≡ Elect → choice_at ks t ≡ Elect → before things_in ks s + 1 ≡ before things_in ks t + 1 → s ≡ t
  middle_middle i j e = let l = last_elect (choice_at ks s) i in let m = last_elect (choice_at ks t) j in
      (place_one things_in ks s t 1 1 (omega (arith, l)) (omega (arith, m)) e).0

  middle_last : choice_at ks s ≡ Elect → before things_in ks s + 1 ≡ before things_in ks t + last_in (choice_at ks t) → ⊥
  middle_last i e =
      let l = last_elect (choice_at ks s) i in
      let k = place_one things_in ks s t 1 (last_in (choice_at ks t)) (omega (arith, l)) (omega arith) e in
      let m = ap (λ v. last_in (choice_at ks v)) k.0 in
      let n = k.1 in
      omega (arith, l, m, n)

  last_last : before things_in ks s + last_in (choice_at ks s) ≡ before things_in ks t + last_in (choice_at ks t) → s ≡ t
  last_last e = (place_one things_in ks s t (last_in (choice_at ks s)) (last_in (choice_at ks t)) (omega arith) (omega arith) e).0

pub md_one : (ks : List ChoiceKind) (x y : Part) → IsPart ks x → IsPart ks y → md_stamp ks x ≡ md_stamp ks y → x ≡ y
md_one ks (Given s) (Given t) i j e = ap Given (first_first ks s t e)
md_one ks (Given s) (Old t) i j e = absurd (first_middle ks s t j e)
md_one ks (Given s) (Result t) i j e = absurd (first_last ks s t e)
md_one ks (Old s) (Given t) i j e = absurd (first_middle ks t s i (sym e))
md_one ks (Old s) (Old t) i j e = ap Old (middle_middle ks s t i j e)
md_one ks (Old s) (Result t) i j e = absurd (middle_last ks s t i e)
md_one ks (Result s) (Given t) i j e = absurd (first_last ks t s (sym e))
md_one ks (Result s) (Old t) i j e = absurd (middle_last ks t s j (sym e))
md_one ks (Result s) (Result t) i j e = ap Result (last_last ks s t e)

pub In-part : (ks : List ChoiceKind) (s : ℕ) (x : Part) → s < length ks → In x (parts_of (choice_at ks s) s) → In x (parts ks)
In-part ks s x h i = In-flat (λ t. parts_of (choice_at ks t) t) s x (steps ks) (In-steps ks s h) i

pub In-given : (ks : List ChoiceKind) (s : ℕ) → s < length ks → In (Given s) (parts ks)
In-given ks s h = In-part ks s (Given s) h (here (choice_at ks s))
  where
    here : (k : ChoiceKind) → In (Given s) (parts_of k s)
    here Elect = inl refl
    here Tickets = inl refl

pub In-old : (ks : List ChoiceKind) (s : ℕ) → s < length ks → choice_at ks s ≡ Elect → In (Old s) (parts ks)
In-old ks s h e = In-part ks s (Old s) h (subst (λ k. In (Old s) (parts_of k s)) (sym e) (inr (inl refl)))

pub In-result : (ks : List ChoiceKind) (s : ℕ) → s < length ks → In (Result s) (parts ks)
In-result ks s h = In-part ks s (Result s) h (here (choice_at ks s))
  where
    here : (k : ChoiceKind) → In (Result s) (parts_of k s)
    here Elect = inr (inr (inl refl))
    here Tickets = inr (inl refl)

pub parts-In : (ks : List ChoiceKind) (x : Part) → In x (parts ks) → IsPart ks x
parts-In ks x h = let k = flat-In (λ t. parts_of (choice_at ks t) t) x (steps ks) h in here (choice_at ks k.0) k.0 refl k.2
  where
    here : (k : ChoiceKind) (s : ℕ) → choice_at ks s ≡ k → In x (parts_of k s) → IsPart ks x
    here Elect s e (inl i) = subst (IsPart ks) i tt
    here Elect s e (inr (inl i)) = subst (IsPart ks) i e
    here Elect s e (inr (inr (inl i))) = subst (IsPart ks) i tt
    here Elect s e (inr (inr (inr i))) = absurd i
    here Tickets s e (inl i) = subst (IsPart ks) i tt
    here Tickets s e (inr (inl i)) = subst (IsPart ks) i tt
    here Tickets s e (inr (inr i)) = absurd i

-- ---- operations
-- an operation of a step that there is
abbrev pub IsWork : List ChoiceKind → RankOp → Type 0
IsWork ks (Send s) = s < length ks
IsWork ks (Look s) = (s < length ks) × (choice_at ks s ≡ Elect)
IsWork ks (ForDone s) = s < length ks

pub number_one : (ks : List ChoiceKind) (v w : RankOp) → IsWork ks v → IsWork ks w → number_of ks v ≡ number_of ks w → v ≡ w
number_one ks (Send s) (Send t) i j e = ap Send (first_first ks s t e)
number_one ks (Send s) (Look t) i j e = absurd (first_middle ks s t j.1 e)
number_one ks (Send s) (ForDone t) i j e = absurd (first_last ks s t e)
number_one ks (Look s) (Send t) i j e = absurd (first_middle ks t s i.1 (sym e))
number_one ks (Look s) (Look t) i j e = ap Look (middle_middle ks s t i.1 j.1 e)
number_one ks (Look s) (ForDone t) i j e = absurd (middle_last ks s t i.1 e)
number_one ks (ForDone s) (Send t) i j e = absurd (first_last ks t s (sym e))
number_one ks (ForDone s) (Look t) i j e = absurd (middle_last ks t s j.1 (sym e))
number_one ks (ForDone s) (ForDone t) i j e = ap ForDone (last_last ks s t e)

pub rank_ops-In : (ks : List ChoiceKind) (w : RankOp) → In w (rank_ops ks) → IsWork ks w
rank_ops-In ks w h = let k = flat-In (λ t. works_of (choice_at ks t) t) w (steps ks) h in
    here (choice_at ks k.0) k.0 (steps-In ks k.0 k.1) refl k.2
  where
    here : (k : ChoiceKind) (s : ℕ) → s < length ks → choice_at ks s ≡ k → In w (works_of k s) → IsWork ks w
    here Elect s l e (inl i) = subst (IsWork ks) i l
    here Elect s l e (inr (inl i)) = subst (IsWork ks) i (l, e)
    here Elect s l e (inr (inr (inl i))) = subst (IsWork ks) i l
    here Elect s l e (inr (inr (inr i))) = absurd i
    here Tickets s l e (inl i) = subst (IsWork ks) i l
    here Tickets s l e (inr (inl i)) = subst (IsWork ks) i l
    here Tickets s l e (inr (inr i)) = absurd i

pub In-rank_ops : (ks : List ChoiceKind) (w : RankOp) → IsWork ks w → In w (rank_ops ks)
In-rank_ops ks (Send s) h = In-flat (λ t. works_of (choice_at ks t) t) s (Send s) (steps ks) (In-steps ks s h) (here (choice_at ks s))
  where
    here : (k : ChoiceKind) → In (Send s) (works_of k s)
    here Elect = inl refl
    here Tickets = inl refl
In-rank_ops ks (Look s) h = In-flat (λ t. works_of (choice_at ks t) t) s (Look s) (steps ks) (In-steps ks s h.0)
    (subst (λ k. In (Look s) (works_of k s)) (sym h.1) (inr (inl refl)))
In-rank_ops ks (ForDone s) h = In-flat (λ t. works_of (choice_at ks t) t) s (ForDone s) (steps ks) (In-steps ks s h) (here (choice_at ks s))
  where
    here : (k : ChoiceKind) → In (ForDone s) (works_of k s)
    here Elect = inr (inr (inl refl))
    here Tickets = inr (inl refl)

-- the counter that an operation waits on
pub In-work_counter : (ks : List ChoiceKind) (w : RankOp) → IsWork ks w → In (work_counter ks w) (counters ks)
In-work_counter ks (Send s) h = In-go ks
In-work_counter ks (Look s) h = In-first ks s h.0
In-work_counter ks (ForDone s) h = In-result_counter ks s h
