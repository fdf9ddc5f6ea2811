-- The word of rank 0 in one step, after each move.
use Rattle.std.proofs.Common.{ℕ, zero, suc, Bool, true, false, cond, ◌+◌, ◌%◌, ◌^◌, ◌≡◌, ◌≤◌, ◌<◌, ◌⊎◌, ◌==◌, Option, Some, refl, length}
use Rattle.std.proofs.Common.{ap, ◌∙◌, sym, subst, inl, inr, arith, eqb-true, is_some}
use Rattle.std.proofs.lemmas.Bool.{cases_eq, eqb-false}
use Rattle.ptl_types.specs.Handles.{top}
use Rattle.plan_core.specs.Plan.{from_to}
use Rattle.plan_core.proofs.Links.{Distinct-from_to, In-from_to, from_to-In}
use Rattle.coll_lang.specs.declared.choices.ChoiceKind.{ChoiceKind}
use Rattle.coll_lang.specs.declared.choices.ChoiceKind.TheVariants.{Elect, Tickets}
use Rattle.plan_choice.specs.texts.machine.Machine.{Ask, Phase, advanced, at_home, first_word, put, served, word_after}
use Rattle.plan_choice.specs.texts.machine.Machine.Phase.{Answered, Asked, Idle, Learned, Read, Reading, Served, Told}
use Rattle.plan_choice.specs.texts.machine.Lawful.{ElectHolds, Holds, IsAsk, TicketsHold, has_ticket, is_past, is_plain, read_by, ticket_of}
use Rattle.plan_choice.proofs.texts.machine.Places.{count-le, count_as, count_none, count_put, put-other, put-same}

-- ---- phases that look the same in this respect
elect_same : (ranks w : ℕ) (f g : ℕ → Phase) → ((q : ℕ) → is_past (g q) ≡ is_past (f q)) → ((q : ℕ) → read_by (g q) ≡ read_by (f q))
    → ElectHolds ranks f w → ElectHolds ranks g w
elect_same ranks w f g past read h = record {
  known = h.known;
  settled = λ r i e. h.settled r i (sym (past r) ∙ e);
  values = λ r v i e. h.values r v i (sym (read r) ∙ e);
}

tickets_same : (ranks w : ℕ) (f g : ℕ → Phase) → ((q : ℕ) → is_plain (f q) ≡ true → is_plain (g q) ≡ true)
    → ((q : ℕ) → is_plain (f q) ≡ true → ticket_of (g q) ≡ ticket_of (f q)) → TicketsHold ranks f w → TicketsHold ranks g w
tickets_same ranks w f g plain ticket h =
    let same : (q : ℕ) → q < ranks → ticket_of (g q) ≡ ticket_of (f q) = λ q i. ticket q (h.plain q i) in record {
      plain = λ r i. plain r (h.plain r i);
      below = λ r v i e. h.below r v i (sym (same r i) ∙ e);
      apart = λ q r v i j e k. h.apart q r v i j (sym (same q i) ∙ e) (sym (same r j) ∙ k);
      count = count_as (λ r. has_ticket (f r)) (λ r. has_ticket (g r)) (from_to 0 ranks)
          (λ r i. ap (λ (o : Option ℕ). is_some o) (same r (let k = from_to-In 0 ranks r i in omega arith))) ∙ h.count;
    }

-- a phase that was put at one rank
pub put_as : {X : Type 0} (look : Phase → X) (r : ℕ) (p : Phase) (f : ℕ → Phase) → look p ≡ look (f r) → (q : ℕ)
    → look (put r p f q) ≡ look (f q)
put_as look r p f e q = elim (cases_eq q r) [
  | inl same ↦ ap (λ v. look (put r p f v)) same ∙ ap look (put-same r p f) ∙ e ∙ ap (λ v. look (f v)) (sym same)
  | inr other ↦ ap look (put-other r p f q other)
]

-- ---- a firing
past-advanced : (p : Phase) → is_past (advanced p) ≡ is_past p
past-advanced Idle = refl
past-advanced Asked = refl
past-advanced (Served old) = refl
past-advanced (Answered old) = refl
past-advanced (Reading old) = refl
past-advanced (Read old value) = refl
past-advanced (Learned old value) = refl
past-advanced (Told old value) = refl

read-advanced : (p : Phase) → read_by (advanced p) ≡ read_by p
read-advanced Idle = refl
read-advanced Asked = refl
read-advanced (Served old) = refl
read-advanced (Answered old) = refl
read-advanced (Reading old) = refl
read-advanced (Read old value) = refl
read-advanced (Learned old value) = refl
read-advanced (Told old value) = refl

plain-advanced : (p : Phase) → is_plain (advanced p) ≡ is_plain p
plain-advanced Idle = refl
plain-advanced Asked = refl
plain-advanced (Served old) = refl
plain-advanced (Answered old) = refl
plain-advanced (Reading old) = refl
plain-advanced (Read old value) = refl
plain-advanced (Learned old value) = refl
plain-advanced (Told old value) = refl

ticket-advanced : (p : Phase) → ticket_of (advanced p) ≡ ticket_of p
ticket-advanced Idle = refl
ticket-advanced Asked = refl
ticket-advanced (Served old) = refl
ticket-advanced (Answered old) = refl
ticket-advanced (Reading old) = refl
ticket-advanced (Read old value) = refl
ticket-advanced (Learned old value) = refl
ticket-advanced (Told old value) = refl

pub fired_holds : (k : ChoiceKind) (ranks w r : ℕ) (f : ℕ → Phase) → Holds k ranks f w → Holds k ranks (put r (advanced (f r)) f) w
fired_holds Elect ranks w r f h =
    elect_same ranks w f _ (put_as is_past r (advanced (f r)) f (past-advanced (f r)))
    (put_as read_by r (advanced (f r)) f (read-advanced (f r))) h
fired_holds Tickets ranks w r f h =
    tickets_same ranks w f _ (λ q e. put_as is_plain r (advanced (f r)) f (plain-advanced (f r)) q ∙ e)
    (λ q e. put_as ticket_of r (advanced (f r)) f (ticket-advanced (f r)) q) h

-- ---- an answer at home
past-home : (p : Phase) → is_past (at_home Elect p) ≡ is_past p
past-home Idle = refl
past-home Asked = refl
past-home (Served old) = refl
past-home (Answered old) = refl
past-home (Reading old) = refl
past-home (Read old value) = refl
past-home (Learned old value) = refl
past-home (Told old value) = refl

read-home : (p : Phase) → read_by (at_home Elect p) ≡ read_by p
read-home Idle = refl
read-home Asked = refl
read-home (Served old) = refl
read-home (Answered old) = refl
read-home (Reading old) = refl
read-home (Read old value) = refl
read-home (Learned old value) = refl
read-home (Told old value) = refl

-- of tickets
plain-home : (p : Phase) → is_plain p ≡ true → is_plain (at_home Tickets p) ≡ true
plain-home Idle e = refl
plain-home Asked e = refl
plain-home (Served old) e = refl
plain-home (Answered old) e = e
plain-home (Reading old) e = e
plain-home (Read old value) e = refl
plain-home (Learned old value) e = refl
plain-home (Told old value) e = refl

ticket-home : (p : Phase) → is_plain p ≡ true → ticket_of (at_home Tickets p) ≡ ticket_of p
ticket-home Idle e = refl
ticket-home Asked e = refl
ticket-home (Served old) e = refl
ticket-home (Answered old) e = refl
ticket-home (Reading old) e = refl
ticket-home (Read old value) e = cc
ticket-home (Learned old value) e = refl
ticket-home (Told old value) e = refl

pub returned_holds : (k : ChoiceKind) (ranks w r : ℕ) (f : ℕ → Phase) → Holds k ranks f w → Holds k ranks (put r (at_home k (f r)) f) w
returned_holds Elect ranks w r f h =
    elect_same ranks w f _ (put_as is_past r (at_home Elect (f r)) f (past-home (f r)))
    (put_as read_by r (at_home Elect (f r)) f (read-home (f r))) h
returned_holds Tickets ranks w r f h = tickets_same ranks w f _ (λ q e. plain q e (cases_eq q r)) (λ q e. ticket q e (cases_eq q r)) h
  where
    plain : (q : ℕ) → is_plain (f q) ≡ true → ((q ≡ r) ⊎ (q ≡ r → ⊥)) → is_plain (put r (at_home Tickets (f r)) f q) ≡ true
    plain q e (inl same) = ap (λ v. is_plain (put r (at_home Tickets (f r)) f v)) same ∙ ap is_plain (put-same r (at_home Tickets (f r)) f)
        ∙ plain-home (f r) (subst (λ v. is_plain (f v) ≡ true) same e)
    plain q e (inr other) = ap is_plain (put-other r (at_home Tickets (f r)) f q other) ∙ e

    ticket : (q : ℕ) → is_plain (f q) ≡ true → ((q ≡ r) ⊎ (q ≡ r → ⊥)) → ticket_of (put r (at_home Tickets (f r)) f q) ≡ ticket_of (f q)
    ticket q e (inl same) = ap (λ v. ticket_of (put r (at_home Tickets (f r)) f v)) same
        ∙ ap ticket_of (put-same r (at_home Tickets (f r)) f) ∙ ticket-home (f r) (subst (λ v. is_plain (f v) ≡ true) same e)
        ∙ ap (λ v. ticket_of (f v)) (sym same)
    ticket q e (inr other) = ap ticket_of (put-other r (at_home Tickets (f r)) f q other)

-- ---- a request at rank 0

-- the first request of an elect: the word is the rank, where it wasn't one before
elect_takes : (ranks w r : ℕ) (f : ℕ → Phase) → ranks ≤ 256 → r < ranks → f r ≡ Asked → ElectHolds ranks f w
    → ElectHolds ranks (put r (Served w) f) (word_after Elect false r w)
elect_takes ranks w r f at_most in_range e h = at (w == top) refl
  where
    same_read : (q : ℕ) → read_by (put r (Served w) f q) ≡ read_by (f q)
    same_read = put_as read_by r (Served w) f (ap read_by (sym e))

    at : (b : Bool) → (w == top) ≡ b → ElectHolds ranks (put r (Served w) f) (cond b r w)
    at true i = record {
      known = inr in_range;
      settled = λ q j k. in_range;
      values = λ q v j k. absurd (none q v j (sym (same_read q) ∙ k));
    }
      where
        past : (p : Phase) (v : ℕ) → read_by p ≡ Some v → is_past p ≡ true
        past Idle v k = cc
        past Asked v k = cc
        past (Served old) v k = refl
        past (Answered old) v k = refl
        past (Reading old) v k = refl
        past (Read old value) v k = refl
        past (Learned old value) v k = refl
        past (Told old value) v k = refl

        none : (q v : ℕ) → q < ranks → read_by (f q) ≡ Some v → ⊥
        none q v j k = let a = h.settled q j (past (f q) v k) in let b : w ≡ top = eqb-true w top i in omega (arith, a, b, at_most)
    at false i =
        let small : w < ranks = elim h.known [ inl k ↦ absurd (eqb-false w top i k) | inr k ↦ k ] in record {
          known = inr small;
          settled = λ q j k. small;
          values = λ q v j k. h.values q v j (sym (same_read q) ∙ k);
        }

-- a get reads the word
elect_reads : (ranks w r old : ℕ) (f : ℕ → Phase) → r < ranks → f r ≡ Reading old → ElectHolds ranks f w
    → ElectHolds ranks (put r (Read old w) f) w
elect_reads ranks w r old f in_range e h = record {
  known = h.known;
  settled = λ q j k. h.settled q j (sym (put_as is_past r (Read old w) f (ap is_past (sym e)) q) ∙ k);
  values = λ q v j k. value q v j k (cases_eq q r);
}
  where
    some_one : (a b : ℕ) → Some a ≡ Some b → b ≡ a
    some_one a b e = cc

    value : (q v : ℕ) → q < ranks → read_by (put r (Read old w) f q) ≡ Some v → ((q ≡ r) ⊎ (q ≡ r → ⊥)) → v ≡ w
    value q v j k (inl same) = some_one w v (sym (ap (λ n. read_by (put r (Read old w) f n)) same ∙ ap read_by (put-same r (Read old w) f))
        ∙ k)
    value q v j k (inr other) = h.values q v j (sym (ap read_by (put-other r (Read old w) f q other)) ∙ k)

pub length-from_to : (k n : ℕ) → length (from_to k n) ≡ n
length-from_to k zero = refl
length-from_to k (suc n) = ap suc (length-from_to (suc k) n)

pub word_le : (ranks w : ℕ) (f : ℕ → Phase) → TicketsHold ranks f w → w ≤ ranks
word_le ranks w f h =
    let a = count-le (λ r. has_ticket (f r)) (from_to 0 ranks) in
    let b = h.count in
    let c = length-from_to 0 ranks in
    omega (arith, a, b, c)

-- the first request of tickets: the rank is given the word, which rises
tickets_take : (ranks w r : ℕ) (f : ℕ → Phase) → ranks ≤ 256 → r < ranks → f r ≡ Asked → TicketsHold ranks f w
    → TicketsHold ranks (put r (Served w) f) (word_after Tickets false r w)
tickets_take ranks w r f at_most in_range e h =
    subst (λ v. TicketsHold ranks (put r (Served w) f) v) rises
    record {
      plain = λ q j. put_as is_plain r (Served w) f (ap is_plain (sym e)) q ∙ h.plain q j;
      below = λ q v j k. below q v j k (cases_eq q r);
      apart = λ p q v i j k l. apart p q v i j k l (cases_eq p r) (cases_eq q r);
      count = count_put (λ q. has_ticket (f q)) (λ q. has_ticket (put r (Served w) f q)) r (from_to 0 ranks) (Distinct-from_to 0 ranks)
          (In-from_to 0 ranks r (omega arith) (omega arith)) (ap has_ticket e) (ap has_ticket (put-same r (Served w) f))
          (λ q other. ap has_ticket (put-other r (Served w) f q other))
          ∙ ap suc h.count;
    }
  where
    rises : suc w ≡ (w + 1) % 2 ^ 64
    rises = let a = word_le ranks w f h in omega (arith, a, at_most)

    some_one : (a b : ℕ) → Some a ≡ Some b → a ≡ b
    some_one a b e = cc

    here : (q v : ℕ) → q ≡ r → ticket_of (put r (Served w) f q) ≡ Some v → w ≡ v
    here q v same k = some_one w v (sym (ap (λ n. ticket_of (put r (Served w) f n)) same ∙ ap ticket_of (put-same r (Served w) f)) ∙ k)

    there : (q v : ℕ) → (q ≡ r → ⊥) → ticket_of (put r (Served w) f q) ≡ Some v → ticket_of (f q) ≡ Some v
    there q v other k = sym (ap ticket_of (put-other r (Served w) f q other)) ∙ k

    below : (q v : ℕ) → q < ranks → ticket_of (put r (Served w) f q) ≡ Some v → ((q ≡ r) ⊎ (q ≡ r → ⊥)) → v < suc w
    below q v j k (inl same) = let a = here q v same k in omega (arith, a)
    below q v j k (inr other) = let a = h.below q v j (there q v other k) in omega (arith, a)

    apart : (p q v : ℕ) → p < ranks → q < ranks → ticket_of (put r (Served w) f p) ≡ Some v → ticket_of (put r (Served w) f q) ≡ Some v
        → ((p ≡ r) ⊎ (p ≡ r → ⊥)) → ((q ≡ r) ⊎ (q ≡ r → ⊥)) → p ≡ q
    apart p q v i j k l (inl a) (inl b) = a ∙ sym b
    apart p q v i j k l (inl a) (inr b) = let x = here p v a k in let y = h.below q v j (there q v b l) in absurd (omega (arith, x, y))
    apart p q v i j k l (inr a) (inl b) = let x = here q v b l in let y = h.below p v i (there p v a k) in absurd (omega (arith, x, y))
    apart p q v i j k l (inr a) (inr b) = h.apart p q v i j (there p v a k) (there q v b l)

pub taken_holds : (k : ChoiceKind) (ranks w r : ℕ) (f : ℕ → Phase) (a : Ask) → ranks ≤ 256 → r < ranks → IsAsk (f r) a → Holds k ranks f w
    → Holds k ranks (put r (served w (f r)) f) (word_after k a.reads r w)
taken_holds k ranks w r f a at_most in_range fit h = at k (f r) refl a.reads fit h
  where
    at : (k : ChoiceKind) (p : Phase) → f r ≡ p → (reads : Bool) → IsAsk p (record { step = a.step; reads = reads }) → Holds k ranks f w
        → Holds k ranks (put r (served w p) f) (word_after k reads r w)
    at Elect Asked e false i h = elect_takes ranks w r f at_most in_range e h
    at Tickets Asked e false i h = tickets_take ranks w r f at_most in_range e h
    at k Asked e true i h = cc
    at Elect (Reading old) e true i h = elect_reads ranks w r old f in_range e h
    at Tickets (Reading old) e true i h = let q = h.plain r in_range in absurd (no_plain (sym (ap is_plain e) ∙ q))
      where
        no_plain : false ≡ true → ⊥
        no_plain e = cc
    at k (Reading old) e false i h = cc
    at k Idle e reads i h = absurd i
    at k (Served old) e reads i h = absurd i
    at k (Answered old) e reads i h = absurd i
    at k (Read old value) e reads i h = absurd i
    at k (Learned old value) e reads i h = absurd i
    at k (Told old value) e reads i h = absurd i

-- ---- the first moment
pub opened_holds : (k : ChoiceKind) (ranks : ℕ) → Holds k ranks (λ r. Idle) (first_word k)
opened_holds Elect ranks = record { known = inl refl; settled = λ r i e. cc; values = λ r v i e. cc }
opened_holds Tickets ranks = record {
  plain = λ r i. refl;
  below = λ r v i e. cc;
  apart = λ q r v i j e f. cc;
  count =
      count_none (λ r. false) (from_to 0 ranks) (λ x i. refl);
}
