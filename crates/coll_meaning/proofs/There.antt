-- What is needed is there, step by step.
use Rattle.std.proofs.Common.{◌≡◌, ℕ, zero, suc, ◌+◌, ◌-◌, ◌^◌, ◌<◌, ◌≤◌, Bool, true, false, List, [], ◌∷◌, ◌++◌, Option, Some, None}
use Rattle.std.proofs.Common.{length, drop, refl, ap, sym, subst, ◌∙◌, arith, inl, inr, lit<}
use Rattle.std.specs.Prelude.{◌||◌}
use Rattle.std.specs.List.{list_any}
use Rattle.std.proofs.Math.Seq.{drop-cons}
use Rattle.std.proofs.lemmas.Bool.{cases_lt}
use Rattle.std.proofs.lemmas.List.{length-append, get_or_append_left, get_or_default, same_lists}
use Rattle.number_lists.specs.Numbers.{from_to}
use Rattle.coll_shape.specs.declared.types.CollStep.TheVariants.{Barrier}
use Rattle.coll_shape.specs.Outline.{Outline, group_at, step_at}
use Rattle.coll_shape.specs.Collectives.{asks_of, is_in, result_of, source_of}
use Rattle.coll_shape.specs.WellFormed.{IsWellFormed, and_one, made_upto}
use Rattle.coll_shape.specs.Meaning.{AreInputs, Lists, lists_of, made_lists, meant_upto, meaning_of, taken, type_read, with_step}
use Rattle.coll_meaning.specs.Lengths.{AreAsked, AreLong}
use Rattle.coll_meaning.specs.Needed.{is_needed, is_number}
use Rattle.coll_meaning.specs.Steps.{FindsAsked, IsMade, IsThere, later}
use Rattle.coll_meaning.proofs.PlaceAt.{agrees}
use Rattle.coll_meaning.proofs.Holding.{or_second}
use Rattle.coll_meaning.proofs.Longs.{BothOrNone, both_or_none}
use Rattle.coll_meaning.proofs.Measures.{finds_asked, get_at_end, in_numbers, long_upto}

-- what a step does, from what its parts do
pub is_made : (o : Outline) (kept : List ℕ) (k a : ℕ) (old mid new : Lists) (made : List (List ℕ)) → source_of (step_at o k) ≡ Some a →
    length mid ≡ length old
    → ((b : ℕ) → is_needed kept (later o k) b ≡ true → lists_of mid b ≡ lists_of old b) → new ≡ mid ++ made ∷ []
    → (is_needed kept (later o k) (length old) ≡ true → made ≡ made_lists o.ranks (group_at o k) (type_read o (step_at o k)) (step_at o k)
    (lists_of old a))
    → IsMade o kept k old new
is_made o kept k a old mid new made e many others push lists = record {
  many = ap length push ∙ length-append mid (made ∷ []) ∙ counted (result_of (step_at o k)) (both_or_none (step_at o k));
  others = λ b l need. ap (λ v. lists_of v b) push ∙ get_or_append_left mid (made ∷ []) [] b (omega (arith, l, many)) ∙ others b need;
  made = λ a' e' need. ap (λ v. lists_of v (length old)) push ∙ get_at_end mid made [] (length old) (sym many) ∙ lists need
      ∙ ap (λ v. made_lists o.ranks (group_at o k) (type_read o (step_at o k)) (step_at o k) (lists_of old v))
      (same_some a a' (sym e ∙ e'));
}
  where
    same_some : (x y : ℕ) → Some x ≡ Some y → x ≡ y
    same_some x y e = cc

    counted : (r : Option ℕ) → BothOrNone (source_of (step_at o k)) r → length mid + 1 ≡ and_one r (length old)
    counted None t = absurd (subst (λ s. BothOrNone s None) e t)
    counted (Some b) t = omega (arith, many)

-- ---- what is needed

or_both : (a b c : Bool) → (a || c) ≡ true → (a || (b || c)) ≡ true
or_both true b c e = refl
or_both false b c e = or_second b c e

steps_from : (o : Outline) (k : ℕ) → k < length o.steps → drop k o.steps ≡ step_at o k ∷ later o k
steps_from o k l = drop-cons o.steps k Barrier l

needed_before : (o : Outline) (kept : List ℕ) (k b : ℕ) → k < length o.steps → is_needed kept (later o k) b ≡ true →
    is_needed kept (drop k o.steps) b ≡ true
needed_before o kept k b l h =
    ap (λ v. is_needed kept v b) (steps_from o k l)
    ∙ or_both (is_in b kept) (is_number b (source_of (step_at o k))) (list_any (λ step. is_number b (source_of step)) (later o k)) h

read_now : (o : Outline) (kept : List ℕ) (k a : ℕ) → k < length o.steps → source_of (step_at o k) ≡ Some a →
    is_needed kept (drop k o.steps) a ≡ true
read_now o kept k a l e =
    ap (λ v. is_needed kept v a) (steps_from o k l)
    ∙ or_second (is_in a kept) (is_number a (source_of (step_at o k)) || list_any (λ step. is_number a (source_of step)) (later o k))
    (ap (λ v. is_number a v || list_any (λ step. is_number a (source_of step)) (later o k)) e
    ∙ ap (λ v. v || list_any (λ step. is_number a (source_of step)) (later o k)) (agrees a a refl))

-- ---- one step

module _ (o : Outline) (kept : List ℕ) (inputs : Lists) (k : ℕ) (wf : IsWellFormed o) (ins : AreInputs o inputs) (l : k < length o.steps)
    (held : Lists) (h : IsThere o kept inputs k held) where
  source_there : (a : ℕ) → source_of (step_at o k) ≡ Some a → lists_of held a ≡ lists_of (meant_upto o inputs k) a
  source_there a e = let f = wf.fits k l in h.same a (f.source a e) (read_now o kept k a l e)

  pub asked_there : FindsAsked o k held
  asked_there a e =
      subst (λ v. AreAsked (asks_of (step_at o k)) (type_read o (step_at o k)) (taken (group_at o k) v)) (sym (source_there a e))
      (finds_asked o k (wf.fits k l) (meant_upto o inputs k) (long_upto o inputs wf ins k (omega (arith, l))) a e)

  pub there_next : (new : Lists) → IsMade o kept k held new → IsThere o kept inputs (suc k) new
  unfolding meant_upto
  there_next new m = record {
    many = m.many ∙ ap (and_one (result_of (step_at o k))) h.many;
    same = of (source_of (step_at o k)) (result_of (step_at o k)) refl refl (both_or_none (step_at o k));
  }
    where
      old_there : (c : ℕ) → c < made_upto o k → is_needed kept (later o k) c ≡ true → lists_of new c ≡ lists_of (meant_upto o inputs k) c
      old_there c lc need = m.others c (let w = h.many in omega (arith, w, lc)) need ∙ h.same c lc (needed_before o kept k c l need)

      of : (s r : Option ℕ) → source_of (step_at o k) ≡ s → result_of (step_at o k) ≡ r → BothOrNone s r → (c : ℕ) →
          c < and_one r (made_upto o k) → is_needed kept (later o k) c ≡ true
          → lists_of new c ≡ lists_of (with_step o.ranks (group_at o k) (type_read o (step_at o k)) (step_at o k) (meant_upto o inputs k)
          s) c
      of None None e f t c lc need = old_there c lc need
      of None (Some b) e f t c lc need = absurd t
      of (Some a) None e f t c lc need = absurd t
      of (Some a) (Some b) e f t c lc need =
          let many : length (meant_upto o inputs k) ≡ made_upto o k = many_meant in
          elim (cases_lt c (made_upto o k)) [
            | inl s ↦ old_there c s need ∙ sym (get_or_append_left (meant_upto o inputs k)
                (made_lists o.ranks (group_at o k) (type_read o (step_at o k)) (step_at o k) (lists_of (meant_upto o inputs k) a) ∷ []) []
                c (omega (arith, many, s)))
            | inr s ↦
                let at : c ≡ length held = let w = h.many in omega (arith, w, s, lc) in
                ap (lists_of new) at
                ∙ m.made a e (subst (λ v. is_needed kept (later o k) v ≡ true) at need)
                ∙ ap (made_lists o.ranks (group_at o k) (type_read o (step_at o k)) (step_at o k)) (source_there a e)
                ∙ sym (get_at_end (meant_upto o inputs k) (made_lists o.ranks (group_at o k) (type_read o (step_at o k)) (step_at o k)
                (lists_of (meant_upto o inputs k) a)) [] c (omega (arith, many, s, lc)))
          ]
        where
          many_meant : length (meant_upto o inputs k) ≡ made_upto o k
          many_meant = let q = long_upto o inputs wf ins k (omega (arith, l)) in q.many

-- ---- the end

pub there_first : (o : Outline) (kept : List ℕ) (inputs : Lists) → AreInputs o inputs → IsThere o kept inputs 0 inputs
unfolding meant_upto
there_first o kept inputs ins = record { many = ins.many; same = λ b l need. refl }

none_later : (o : Outline) (kept : List ℕ) (b : ℕ) → is_in b kept ≡ true → is_needed kept (drop (length o.steps) o.steps) b ≡ true
none_later o kept b h = ap (λ v. v || list_any (λ step. is_number b (source_of step)) (drop (length o.steps) o.steps)) h

pub kept_there : (o : Outline) (kept : List ℕ) (inputs held : Lists) → IsWellFormed o → IsThere o kept inputs (length o.steps) held →
    (b : ℕ) → b < length o.buffers → is_in b kept ≡ true
    → lists_of held b ≡ lists_of (meaning_of o inputs) b
unfolding meaning_of
kept_there o kept inputs held wf h b l k = h.same b (let a = wf.all in omega (arith, a, l)) (none_later o kept b k)

pub all_there : (o : Outline) (inputs held : Lists) → IsWellFormed o → AreInputs o inputs →
    IsThere o (from_to 0 (length o.buffers)) inputs (length o.steps) held → held ≡ meaning_of o inputs
unfolding meaning_of
all_there o inputs held wf ins h =
    same_lists held (meant_upto o inputs (length o.steps))
    (let m = long_upto o inputs wf ins (length o.steps) (omega arith) in h.many ∙ sym m.many)
    (λ b d l.
    let lb : b < length o.buffers = let a = wf.all in let w = h.many in omega (arith, a, w, l) in
    let m = long_upto o inputs wf ins (length o.steps) (omega arith) in
    let lm : b < length (meant_upto o inputs (length o.steps)) = let w = h.many in let v = m.many in omega (arith, v, w, l) in
    get_or_default held b d [] l
    ∙ h.same b (let w = h.many in omega (arith, w, l)) (none_later o (from_to 0 (length o.buffers)) b
    (in_numbers 0 (length o.buffers) b (omega arith) (omega (arith, lb))))
    ∙ get_or_default (meant_upto o inputs (length o.steps)) b [] d lm)

-- there are never more buffers than at the end
made_more : (o : Outline) (k j : ℕ) → made_upto o k ≤ made_upto o (k + j)
made_more o k zero = let e : k + 0 ≡ k = omega arith in subst (λ v. made_upto o k ≤ made_upto o v) (sym e) (omega arith)
made_more o k (suc j) =
    let e : k + suc j ≡ suc (k + j) = omega arith in
    subst (λ v. made_upto o k ≤ made_upto o v) (sym e) (let a = made_more o k j in let b =
    one_more (result_of (step_at o (k + j)))
    (made_upto o (k + j)) in omega (arith, a, b))
  where
    one_more : (r : Option ℕ) (m : ℕ) → m ≤ and_one r m
    one_more None m = omega arith
    one_more (Some b) m = omega arith

pub few_there : (o : Outline) (kept : List ℕ) (inputs : Lists) (k : ℕ) (held : Lists) → IsWellFormed o → k < length o.steps →
    IsThere o kept inputs k held → length held < 2 ^ 32
few_there o kept inputs k held wf l h =
    let a = made_more o k (length o.steps - k) in
    let e : k + (length o.steps - k) ≡ length o.steps = omega arith in
    let b = subst (λ v. made_upto o k ≤ made_upto o v) e a in
    let s = wf.shape in
    let at_most = s.few_buffers in
    let all = wf.all in
    let many = h.many in
    let big : 128 < 2 ^ 32 = lit< tt in
    omega (arith, b, at_most, all, many, big)

pub all_long : (o : Outline) (inputs : Lists) → IsWellFormed o → AreInputs o inputs → AreLong o (length o.buffers) (meaning_of o inputs)
unfolding meaning_of
all_long o inputs wf ins = subst (λ v. AreLong o v (meant_upto o inputs (length o.steps))) wf.all
    (long_upto o inputs wf ins (length o.steps) (omega arith))
