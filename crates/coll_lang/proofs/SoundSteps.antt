-- A step, a print and the last line keep what the lines say well formed and written.
use Rattle.std.proofs.Common.{◌≡◌, ℕ, zero, suc, ◌+◌, ◌<◌, ◌≤◌, ◌^◌, List, [], ◌∷◌, ◌++◌, length, map, take, get_or, Option, Some, None}
use Rattle.std.proofs.Common.{Result, Ok, Bool, true, false, cond, ◌&&◌, ◌||◌, not, refl, sym, ap, ◌∙◌, arith, codes, subst, append_assoc}
use Rattle.std.specs.Prelude.{nat_lt, nat_le, is_some, option_map}
use Rattle.std.specs.List.{slice_get, sum_by}
use Rattle.std.specs.Str.{bytes_eq}
use Rattle.std.proofs.lemmas.Bool.Decides.{nat_tests}
use Rattle.std.proofs.lemmas.List.{append-nil, take-append-le}
use Rattle.std.proofs.lemmas.List.Quantifiers.{position-Some}
use Rattle.std.proofs.lemmas.List.Sums.{sum_by-append, sum_by-cons}
use Rattle.std.proofs.lemmas.Option.{get_or_from_slice_get}
use Rattle.std.proofs.lemmas.Grind.{flat_map-append}
use Rattle.coll_text.specs.Text.{line, is_name}
use Rattle.coll_text.proofs.Spelled.{mapped, then, same}
use Rattle.number_lists.specs.Members.{In, Distinct}
use Rattle.number_lists.specs.Numbers.{from_to}
use Rattle.coll_shape.specs.declared.types.Version.{Version}
use Rattle.coll_shape.specs.declared.types.Version.TheVariants.{One, Two}
use Rattle.coll_shape.specs.declared.types.Buffer.{Buffer}
use Rattle.coll_shape.specs.declared.types.Group.{Group}
use Rattle.coll_shape.specs.declared.types.CollStep.{CollStep}
use Rattle.coll_shape.specs.declared.types.CollStep.TheVariants.{Barrier}
use Rattle.coll_shape.specs.Outline.{Outline, no_buffer, no_group, buffer_at, read_buffer}
use Rattle.coll_shape.specs.Collectives.{kind_since, step_of, takes_buffers, takes_root}
use Rattle.coll_shape.specs.Collectives.{buffer_after, IsPlace, Reads, can_read, made_length, named, result_of, source_of}
use Rattle.coll_shape.specs.WellFormed.{StandsIn, AreMembers, IsGroup, and_one, StepFits, elements_of, printed_elements}
use Rattle.coll_shape.proofs.Asking.{reads-can}
use Rattle.coll_shape.proofs.ByCollective.{OfKind, made_after, of_kind}
use Rattle.coll_shape.specs.declared.limits.TheConstants.{MOST_RANKS, MOST_BUFFERS, MOST_STEPS, MOST_PRINTS, MOST_ELEMENTS}
use Rattle.coll_lang.specs.Forms.{StepWords, step, print}
use Rattle.coll_lang.specs.Language.{Past, form_since, or_refuse, stands_in, holds_of, is_taken, group_number, buffer_number, buffer_named}
use Rattle.coll_lang.specs.Language.{root_number, source_named, group_named, members_in, new_buffer, with_made, step_on, rooted_line}
use Rattle.coll_lang.specs.Language.{step_line, print_line}
use Rattle.coll_lang.specs.Spelling.{head_text, remote_text, groups_text, inputs_text, if_there, name_at, step_words, on_words, steps_text}
use Rattle.coll_lang.specs.Spelling.{choices_text, prints_text}
use Rattle.coll_lang.specs.declared.stage.Stage.TheVariants.{Steps, Prints}
use Rattle.coll_lang.specs.declared.fault.Refusal.{Refusal}
use Rattle.coll_lang.specs.declared.fault.Refusal.TheVariants.{BadNumber, NameTaken, UnknownBuffer, BadRoot, WrongShape, TooMany, TooLarge}
use Rattle.coll_lang.specs.declared.fault.Refusal.TheVariants.{BadGroup}
use Rattle.coll_lang.proofs.FormSaid.{SecondNamed, Takes, form_words, on_there}
use Rattle.coll_lang.proofs.InputLists.{Filled}
use Rattle.coll_lang.proofs.Facts.{Facts, made_most}
use Rattle.coll_lang.proofs.Growing.{longer, each_more, old_at, new_at, read_stays}
use Rattle.coll_lang.proofs.Lines.{IsStep, grown, step_facts, spelled_more, distinct_more, with_print, print_facts}
use Rattle.coll_lang.proofs.StepRows.{words_of_step}
use Rattle.coll_lang.proofs.Sound.{outline, tail, body, AtSteps, AtPrints, ok_of, some_of, passed, ok_is, room, not_above, not_not}
use Rattle.coll_lang.proofs.Sound.{new_name, behind_tail}
use Rattle.coll_lang.proofs.SoundEarly.{Goes}

-- ---- the buffer that a name finds
pub record Found (bs : List Buffer) (name : List ℕ) (f : ℕ × Buffer) : Type 0 where
  pub there : f.0 < length bs
  pub at : get_or bs f.0 no_buffer ≡ f.1
  pub named : name_at bs f.0 ≡ name

pub found : (bs : List Buffer) (name : List ℕ) (f : ℕ × Buffer) → buffer_named bs name ≡ Some f → Found bs name f
unfolding buffer_named
found bs name f h =
    let a = then (λ i. option_map (λ (b : Buffer). (i, b)) (slice_get bs i)) (buffer_number bs name) f h in
    let m = mapped (λ (b : Buffer). (a.0, b)) (slice_get bs a.0) f a.2 in
    let p = position-Some (λ (b : Buffer). bytes_eq b.name name) bs a.0 no_buffer a.1 in
    let at : get_or bs a.0 no_buffer ≡ m.0 = get_or_from_slice_get bs a.0 m.0 no_buffer m.1 in
    subst (λ f. Found bs name f) m.2 (record { there = p.0; at = at; named = same (name_at bs a.0) name p.1 })

-- ---- the text of the steps
name_stays : (bs : List Buffer) (c : List Buffer) (r : Option ℕ) → ((a : ℕ) → r ≡ Some a → a < length bs)
    → if_there (name_at (bs ++ c)) r ≡ if_there (name_at bs) r
name_stays bs c None h = refl
name_stays bs c (Some a) h = ap (λ (x : Buffer). x.name ∷ []) (old_at bs c no_buffer a (h a refl))

-- a step's buffers are there
pub record Stands (bs : List Buffer) (s : CollStep) : Type 0 where
  pub source : (a : ℕ) → source_of s ≡ Some a → a < length bs
  pub result : (b : ℕ) → result_of s ≡ Some b → b < length bs

words_stay : (bs : List Buffer) (c : List Buffer) (s : CollStep) → Stands bs s → step_words (bs ++ c) s ≡ step_words bs s
unfolding step_words
words_stay bs c s h = rw (name_stays bs c (source_of s) h.source, name_stays bs c (result_of s) h.result) refl

pub steps_stay : (gs : List Group) (bs : List Buffer) (c : List Buffer) (ss : List CollStep) (ons : List (Option ℕ))
    → ((k : ℕ) → k < length ss → Stands bs (get_or ss k Barrier)) → steps_text gs (bs ++ c) ss ons ≡ steps_text gs bs ss ons
steps_stay gs bs c [] ons h = refl
steps_stay gs bs c (s ∷ ss) [] h = refl
steps_stay gs bs c (s ∷ ss) (on ∷ ons) h =
    ap (λ (x : List (List ℕ)). line (on_words gs on ++ x) ++ steps_text gs (bs ++ c) ss ons) (words_stay bs c s (h 0 (omega arith)))
    ∙ ap (λ (x : List ℕ). line (on_words gs on ++ step_words bs s) ++ x) (steps_stay gs bs c ss ons (λ k l. h (suc k) (omega (arith, l))))

pub steps_more : (gs : List Group) (bs : List Buffer) (ss : List CollStep) (ons : List (Option ℕ)) (s : CollStep) (on : Option ℕ)
    → length ons ≡ length ss
    → steps_text gs bs (ss ++ s ∷ []) (ons ++ on ∷ []) ≡ steps_text gs bs ss ons ++ line (on_words gs on ++ step_words bs s)
steps_more gs bs [] [] s on e = append-nil (line (on_words gs on ++ step_words bs s))
steps_more gs bs [] (o ∷ ons) s on e = absurd (omega (arith, e))
steps_more gs bs (t ∷ ss) [] s on e = absurd (omega (arith, e))
steps_more gs bs (t ∷ ss) (o ∷ ons) s on e =
    ap (λ (x : List ℕ). line (on_words gs o ++ step_words bs t) ++ x) (steps_more gs bs ss ons s on (omega (arith, e)))
    ∙ sym (append_assoc (line (on_words gs o ++ step_words bs t)) (steps_text gs bs ss ons) (line (on_words gs on ++ step_words bs s)))

-- ---- tests of what was found
held_not : {A : Type 0} (p : A → Bool) (x : A) (b : Bool) → holds_of p (Some x) ≡ b → p x ≡ b
held_not p x b h = h

past_no : (m n : ℕ) → nat_le m n ≡ false → n < m
past_no m n h = grind (arith, nat_tests)

split_or : (a b : Bool) → (a || b) ≡ false → (a ≡ false) × (b ≡ false)
split_or true b h = cc
split_or false b h = (refl, h)

-- the group that was found
pub record GroupFound (past : Past) (on : Option (List ℕ)) (i : Option ℕ) : Type 0 where
  pub is : IsGroup (outline past) i
  pub words_are : on_words past.groups i ≡ on_there on

pub group_found : (past : Past) (on : Option (List ℕ)) (i : Option ℕ) → group_named past.groups on ≡ Some i → GroupFound past on i
group_found past None i h = subst (λ v. GroupFound past None v) (some_is None i h) (record { is = tt; words_are = refl })
  where
    some_is : (a b : Option ℕ) → Some a ≡ Some b → a ≡ b
    some_is a b e = cc
group_found past (Some name) i h =
    let m = mapped (λ i. Some i) (group_number past.groups name) i h in
    let p = position-Some (λ (g : Group). bytes_eq g.name name) past.groups m.0 no_group m.1 in
    subst (λ v. GroupFound past (Some name) v) m.2
    (record { is = p.0; words_are = ap (λ (x : List ℕ). codes "on" ∷ x ∷ []) (same (get_or past.groups m.0 no_group).name name p.1) })

-- everyone
pub from_to-long : (k n : ℕ) → length (from_to k n) ≡ n
from_to-long k zero = refl
from_to-long k (suc n) = ap (λ v. suc v) (from_to-long (suc k) n)

from_to-at : (k n i : ℕ) → i < n → get_or (from_to k n) i 0 ≡ k + i
from_to-at k zero i l = absurd (omega arith)
from_to-at k (suc n) zero l = omega arith
from_to-at k (suc n) (suc i) l = from_to-at (suc k) n i (omega arith) ∙ (let e : suc k + i ≡ k + suc i = omega arith in e)

pub everyone_are : (n : ℕ) → 1 ≤ n → n ≤ MOST_RANKS → AreMembers n (from_to 0 n)
everyone_are n some at_most =
    let l = from_to-long 0 n in
    record {
      some = omega (arith, l, some);
      at_most = omega (arith, l, at_most);
      ranks = λ i k. let a = from_to-at 0 n i (omega (arith, l, k)) in omega (arith, a, l, k);
      rising = λ i j lt k. let a = from_to-at 0 n i (omega (arith, l, k, lt)) in let b = from_to-at 0 n j (omega (arith, l, k)) in
          omega (arith, a, b, lt);
    }

pub members_there : (past : Past) (i : Option ℕ) → past.ranks ≤ MOST_RANKS → Facts (outline past) → IsGroup (outline past) i
    → AreMembers past.ranks (members_in past i)
members_there past None at_most f g = everyone_are past.ranks f.some_rank at_most
members_there past (Some i) at_most f g = f.named_members i g

stands_since : (v w : Version) → stands_in v w ≡ true → StandsIn v w
stands_since One w h = tt
stands_since Two One h = cc
stands_since Two Two h = tt

-- ---- a step
place_is : (due : Bool) (r : ℕ) (m : ℕ) → r < m → IsPlace m (cond due (Some r) None)
place_is true r m l = l
place_is false r m l = tt

-- the buffer that is read, as its number says it
pub record SourceIs (bs : List Buffer) (due : Bool) (from : ℕ × Buffer) : Type 0 where
  pub below : due ≡ true → from.0 < length bs
  pub is : due ≡ true → get_or bs from.0 no_buffer ≡ from.1
  pub none : due ≡ false → from.1 ≡ no_buffer

read_from_is : (o : Outline) (due : Bool) (from : ℕ × Buffer) → SourceIs o.buffers due from
    → read_buffer o (cond due (Some from.0) None) ≡ from.1
read_from_is o true from h = h.is refl
read_from_is o false from h = sym (h.none refl)

held_at : {A : Type 0} (p : A → Bool) (o : Option A) (x : A) → o ≡ Some x → holds_of p o ≡ false → p x ≡ false
held_at p o x e h = sym (ap (holds_of p) e) ∙ h

-- B, where one is made
abbrev pub made_list : List ℕ → CollStep → Buffer → Option (List ℕ × List ℕ) → List Buffer
made_list g s x None = []
made_list g s x (Some n) = new_buffer g s x n.1 ∷ []

with_made_is : (bs : List Buffer) (g : List ℕ) (s : CollStep) (x : Buffer) (names : Option (List ℕ × List ℕ))
    → with_made bs g s x names ≡ bs ++ made_list g s x names
with_made_is bs g s x None = sym (append-nil bs)
with_made_is bs g s x (Some n) = refl

some_there : {A : Type 0} (due : Bool) (x y : A) → cond due (Some x) None ≡ Some y → (due ≡ true) × (x ≡ y)
some_there true x y h = let e : x ≡ y = cc in (refl, e)
some_there false x y h = cc

-- what A is by the line
pub record SourceSaid (past : Past) (names : Option (List ℕ × List ℕ)) (from : ℕ × Buffer) : Type 0 where
  pub source : SourceIs past.buffers (is_some names) from
  pub named : (n : List ℕ × List ℕ) → names ≡ Some n → name_at past.buffers from.0 ≡ n.0
  pub fresh : (n : List ℕ × List ℕ) → names ≡ Some n → is_taken past n.1 ≡ false

source_said : (past : Past) (names : Option (List ℕ × List ℕ)) (from : ℕ × Buffer) → source_named past names ≡ Ok from
    → SourceSaid past names from
unfolding source_named
source_said past None from h =
    subst (λ f. SourceSaid past None f) (ok_there (0, no_buffer) from h)
    (record {
      source = record { below = λ e. absurd (clash e); is = λ e. absurd (clash e); none = λ e. refl };
      named = λ n e. absurd (none n e);
      fresh = λ n e. absurd (none n e);
    })
  where
    ok_there : (x y : ℕ × Buffer) → (let z : Result (ℕ × Buffer) Refusal = Ok y in Ok x ≡ z) → x ≡ y
    ok_there x y h = cc

    clash : false ≡ true → ⊥
    clash e = cc

    none : (n : List ℕ × List ℕ) → None ≡ Some n → ⊥
    none n e = cc
source_said past (Some n) from h =
    let t = passed (is_taken past n.1) NameTaken _ from h in
    let f = found past.buffers n.0 from (or_there UnknownBuffer (buffer_named past.buffers n.0) from t.1) in
    record {
      source = record { below = λ e. f.there; is = λ e. f.at; none = λ e. absurd (clash e) };
      named = λ m e. f.named ∙ ap (λ (x : List ℕ × List ℕ). x.0) (some_is n m e);
      fresh = λ m e. subst (λ (x : List ℕ × List ℕ). is_taken past x.1 ≡ false) (some_is n m e) t.0;
    }
  where
    clash : true ≡ false → ⊥
    clash e = cc

    some_is : (a b : List ℕ × List ℕ) → Some a ≡ Some b → a ≡ b
    some_is a b e = cc

    or_there : (name : Refusal) (o : Option (ℕ × Buffer)) (y : ℕ × Buffer) → or_refuse name o ≡ Ok y → o ≡ Some y
    or_there name None y h = cc
    or_there name (Some x) y h = let e : x ≡ y = cc in ap (λ v. Some v) e

-- what a step of the line fits
pub record IsTaken (past : Past) (w : StepWords) (r : ℕ) (from : ℕ × Buffer) (i : Option ℕ) : Type 0 where
  pub at_most : past.ranks ≤ MOST_RANKS
  pub facts : Facts (outline past)
  pub group : IsGroup (outline past) i
  pub takes : Takes w
  pub source : SourceSaid past w.names from
  pub root : r < length (members_in past i)
  pub reads : can_read (members_in past i) (step_of w.kind r w.op from.0 (length past.buffers)) from.1 ≡ true

abbrev new_step : Past → StepWords → ℕ → ℕ → CollStep
new_step past w r a = step_of w.kind r w.op a (length past.buffers)

abbrev pub after_step : Past → StepWords → ℕ → ℕ × Buffer → Option ℕ → Outline
after_step past w r from i =
    grown (outline past) (new_step past w r from.0) i (made_list (members_in past i) (new_step past w r from.0) from.1 w.names)

-- B is new_buffer where one is made
made_there : (past : Past) (w : StepWords) (r : ℕ) (from : ℕ × Buffer) (i : Option ℕ) (names : Option (List ℕ × List ℕ))
    → is_some names ≡ true
    → (n : List ℕ × List ℕ)
    × (get_or (past.buffers ++ made_list (members_in past i) (new_step past w r from.0) from.1 names) (length past.buffers) no_buffer
    ≡ new_buffer (members_in past i) (new_step past w r from.0) from.1 n.1)
made_there past w r from i None e = cc
made_there past w r from i (Some n) e =
    (n, new_at past.buffers (new_buffer (members_in past i) (new_step past w r from.0) from.1 n.1) no_buffer)

longer_by : (bs : List Buffer) (g : List ℕ) (s : CollStep) (x : Buffer) (names : Option (List ℕ × List ℕ))
    → length (bs ++ made_list g s x names) ≡ cond (is_some names) (suc (length bs)) (length bs)
longer_by bs g s x None = ap length (append-nil bs)
longer_by bs g s x (Some n) = longer bs (new_buffer g s x n.1) ∙ (let e : length bs + 1 ≡ suc (length bs) = omega arith in e)

new_fits : (past : Past) (w : StepWords) (r : ℕ) (from : ℕ × Buffer) (i : Option ℕ) → IsTaken past w r from i
    → StepFits (after_step past w r from i) (length past.buffers) (members_in past i) (new_step past w r from.0)
new_fits past w r from i h = record {
  members = members_there past i h.at_most h.facts h.group;
  root = subst (IsPlace (length (members_in past i))) (sym k.root) (place_is (takes_root w.kind) r (length (members_in past i)) h.root);
  source = λ a e. let t = some_there (takes_buffers w.kind) from.0 a (sym k.source ∙ e) in
      subst (λ v. v < length past.buffers) t.1 (h.source.source.below (h.takes.names ∙ t.0));
  reads = subst (Reads (members_in past i) s) (sym read_is) (reads-can (members_in past i) s from.1 h.reads);
  next = λ b e. let t = some_there (takes_buffers w.kind) (length past.buffers) b (sym k.result ∙ e) in sym t.1;
  result = λ b e.
      let t = some_there (takes_buffers w.kind) (length past.buffers) b (sym k.result ∙ e) in
      let l = longer_by past.buffers (members_in past i) s from.1 w.names
      ∙ ap (λ v. cond v (suc (length past.buffers)) (length past.buffers)) (h.takes.names ∙ t.0) in
      let q = t.1 in
      omega (arith, l, q);
  makes = λ b e.
      let t = some_there (takes_buffers w.kind) (length past.buffers) b (sym k.result ∙ e) in
      let m = made_there past w r from i w.names (h.takes.names ∙ t.0) in
      let at_b : buffer_at p b ≡ new_buffer (members_in past i) s from.1 m.0.1 = ap (buffer_at p) (sym t.1) ∙ m.1 in
      at_b
      ∙ ap (λ (x : Buffer). named m.0.1 x) (sym (made_after (members_in past i) s from.1 b e))
      ∙ ap (λ (x : Buffer). named x.name (buffer_after (members_in past i) s from.1)) (sym at_b)
      ∙ ap (λ (x : Buffer). named (buffer_at p b).name (buffer_after (members_in past i) s x)) (sym read_is);
}
  where
    s : CollStep
    s = new_step past w r from.0

    p : Outline
    p = after_step past w r from i

    k : OfKind w.kind r w.op from.0 (length past.buffers)
    k = of_kind w.kind r w.op from.0 (length past.buffers)

    read_is : read_buffer p (source_of s) ≡ from.1
    read_is =
        read_stays (outline past) p (made_list (members_in past i) s from.1 w.names) (source_of s) (length past.buffers) refl (omega arith)
        (λ a e. let t = some_there (takes_buffers w.kind) from.0 a (sym k.source ∙ e) in
        subst (λ v. v < length past.buffers) t.1 (h.source.source.below (h.takes.names ∙ t.0)))
        ∙ ap (read_buffer (outline past)) k.source
        ∙ read_from_is (outline past) (takes_buffers w.kind) from (subst (λ v. SourceIs past.buffers v from) h.takes.names h.source.source)

-- ---- the names and lengths with B
pub record Kept (past : Past) (c : List Buffer) : Type 0 where
  pub short : (b : ℕ) → b < length (past.buffers ++ c) → (get_or (past.buffers ++ c) b no_buffer).spread.length ≤ MOST_ELEMENTS
  pub spelled : (x : List ℕ) → In x (map (λ (g : Group). g.name) past.groups ++ map (λ (b : Buffer). b.name) (past.buffers ++ c))
      → is_name x ≡ true
  pub distinct : Distinct (map (λ (g : Group). g.name) past.groups ++ map (λ (b : Buffer). b.name) (past.buffers ++ c))

kept_with : (past : Past) (g : List ℕ) (s : CollStep) (x : Buffer) (names : Option (List ℕ × List ℕ)) → Facts (outline past)
    → SecondNamed names
    → ((n : List ℕ × List ℕ) → names ≡ Some n → is_taken past n.1 ≡ false) → made_length g s x ≤ MOST_ELEMENTS
    → Kept past (made_list g s x names)
kept_with past g s x None f named fresh small =
    let same : past.buffers ≡ past.buffers ++ [] = sym (append-nil past.buffers) in
    record {
      short = subst (λ (bs : List Buffer). (b : ℕ) → b < length bs → (get_or bs b no_buffer).spread.length ≤ MOST_ELEMENTS) same f.short;
      spelled = subst (λ (bs : List Buffer). (x : List ℕ)
          → In x (map (λ (g : Group). g.name) past.groups ++ map (λ (b : Buffer). b.name) bs) → is_name x ≡ true) same f.spelled;
      distinct = subst (λ (bs : List Buffer). Distinct (map (λ (g : Group). g.name) past.groups ++ map (λ (b : Buffer). b.name) bs)) same
          f.distinct;
    }
kept_with past g s x (Some n) f named fresh small =
    let b = new_buffer g s x n.1 in
    record {
      short = each_more (λ (b : Buffer). b.spread.length ≤ MOST_ELEMENTS) past.buffers b no_buffer f.short small;
      spelled = spelled_more (outline past) b f named;
      distinct = distinct_more (outline past) b f (new_name past n.1 (fresh n refl));
    }

few_with : (past : Past) (g : List ℕ) (s : CollStep) (x : Buffer) (names : Option (List ℕ × List ℕ)) → length past.buffers ≤ MOST_BUFFERS
    → (is_some names && nat_le MOST_BUFFERS (length past.buffers)) ≡ false → length (past.buffers ++ made_list g s x names) ≤ MOST_BUFFERS
few_with past g s x None at_most h = let e = longer_by past.buffers g s x None in omega (arith, e, at_most)
few_with past g s x (Some n) at_most h =
    let e = longer_by past.buffers g s x (Some n) in let l = room MOST_BUFFERS (length past.buffers) h in omega (arith, e, l)

counts_with : (due : Bool) (r : Option ℕ) (n m : ℕ) → r ≡ cond due (Some n) None → m ≡ cond due (suc n) n → and_one r n ≡ m
counts_with true r n m e f = ap (λ v. and_one v n) e ∙ sym f
counts_with false r n m e f = ap (λ v. and_one v n) e ∙ sym f

pub is_step : (past : Past) (w : StepWords) (r : ℕ) (from : ℕ × Buffer) (i : Option ℕ) → IsTaken past w r from i → past.prints ≡ []
    → length past.steps < MOST_STEPS → (is_some w.names && nat_le MOST_BUFFERS (length past.buffers)) ≡ false
    → made_length (members_in past i) (new_step past w r from.0) from.1 ≤ MOST_ELEMENTS → StandsIn (kind_since w.kind) past.version
    → IsStep (outline past) (new_step past w r from.0) i (made_list (members_in past i) (new_step past w r from.0) from.1 w.names)
is_step past w r from i h none at_most full small stands =
    let g = members_in past i in
    let s = new_step past w r from.0 in
    let k = of_kind w.kind r w.op from.0 (length past.buffers) in
    let kept = kept_with past g s from.1 w.names h.facts h.takes.named h.source.fresh small in
    record {
      few_buffers = few_with past g s from.1 w.names h.facts.few_buffers full;
      few_steps = at_most;
      no_prints = none;
      group = h.group;
      stands = subst (λ v. StandsIn v past.version) (sym k.since) stands;
      short = kept.short;
      fits = new_fits past w r from i h;
      counts = counts_with (takes_buffers w.kind) (result_of s) (length past.buffers)
          (length (past.buffers ++ made_list g s from.1 w.names)) k.result
          (longer_by past.buffers g s from.1 w.names ∙ ap (λ v. cond v (suc (length past.buffers)) (length past.buffers)) h.takes.names);
      spelled = kept.spelled;
      distinct = kept.distinct;
    }

-- ---- what is written of it
behind_steps : (h m g i t x u v : List ℕ) → u ≡ [] → v ≡ []
    → h ++ (m ++ (g ++ (i ++ ((t ++ x) ++ u)))) ≡ (h ++ (m ++ (g ++ (i ++ (t ++ v))))) ++ x
behind_steps h m g i t x u v eu ev = rw (eu, ev) (simp (append_assoc, append-nil) refl)

no_more : (choices : List ℕ) (name : ℕ → List ℕ) (prints : List ℕ) → choices ≡ [] → prints ≡ [] → choices ++ prints_text name prints ≡ []
no_more choices name prints ec ep = rw (ec, ep) refl

each_stands : (past : Past) → Facts (outline past) → (k : ℕ) → k < length past.steps → Stands past.buffers (get_or past.steps k Barrier)
each_stands past f k l =
    let t = f.fits k l in
    let m = made_most (outline past) k (length past.steps) (let z : k ≤ length past.steps = omega (arith, l) in z) in
    let e = f.all in
    record { source = λ a q. let s = t.source a q in omega (arith, s, m, e); result = t.result }

pub with_step : Past → CollStep → Option ℕ → List Buffer → Past
with_step past s i c = record past { stage = Steps; buffers = past.buffers ++ c; steps = past.steps ++ s ∷ []; on = past.on ++ i ∷ [] }

step_written : (past : Past) (s : CollStep) (i : Option ℕ) (c : List Buffer) → AtSteps past
    → body (with_step past s i c) ≡ body past ++ line (on_words past.groups i ++ step_words (past.buffers ++ c) s)
unfolding with_step
step_written past s i c a =
    let f = a.facts in
    let bs = past.buffers ++ c in
    let inputs_few = subst (λ n. past.inputs ≤ n) f.all (made_most (outline past) 0 (length past.steps) (omega arith)) in
    let text : List ℕ = choices_text past.choices ++ prints_text (name_at bs) past.prints in
    ap (λ (x : List Buffer). head_text past.version past.ranks
    ++ (remote_text past.remote
    ++ (groups_text past.groups
    ++ (inputs_text past.ranks x past.given ++ (steps_text past.groups bs (past.steps ++ s ∷ []) (past.on ++ i ∷ []) ++ text)))))
    (take-append-le past.inputs past.buffers c inputs_few)
    ∙ ap (λ (x : List ℕ). head_text past.version past.ranks
    ++ (remote_text past.remote
    ++ (groups_text past.groups ++ (inputs_text past.ranks (take past.inputs past.buffers) past.given ++ (x ++ text)))))
    (steps_more past.groups bs past.steps past.on s i f.on_groups
    ∙ ap (λ (x : List ℕ). x ++ line (on_words past.groups i ++ step_words bs s))
    (steps_stay past.groups past.buffers c past.steps past.on (each_stands past f)))
    ∙ behind_steps (head_text past.version past.ranks) (remote_text past.remote) (groups_text past.groups)
    (inputs_text past.ranks (take past.inputs past.buffers) past.given) (steps_text past.groups past.buffers past.steps past.on)
    (line (on_words past.groups i ++ step_words bs s)) text (choices_text past.choices ++ prints_text (name_at past.buffers) past.prints)
    (no_more (choices_text past.choices) (name_at bs) past.prints (ap choices_text a.no_choices) a.no_prints)
    (no_more (choices_text past.choices) (name_at past.buffers) past.prints (ap choices_text a.no_choices) a.no_prints)

-- a step that stands here
kind_stands : (past : Past) (on : Option (List ℕ)) (w : StepWords) → stands_in (form_since (step on w)) past.version ≡ true
    → StandsIn (kind_since w.kind) past.version
kind_stands past None w h = stands_since (kind_since w.kind) past.version h
kind_stands past (Some name) w h = later past.version (kind_since w.kind) h
  where
    later : (v k : Version) → stands_in Two v ≡ true → StandsIn k v
    later One k h = cc
    later Two One h = tt
    later Two Two h = tt

-- what the tests of a step come to
pub record StepTaken (past next : Past) (on : Option (List ℕ)) (w : StepWords) : Type 0 where
  pub r : ℕ
  pub from : ℕ × Buffer
  pub i : Option ℕ
  pub number : root_number w.root ≡ Some r
  pub source : source_named past w.names ≡ Ok from
  pub group : group_named past.groups on ≡ Some i
  pub root : r < length (members_in past i)
  pub reads : can_read (members_in past i) (new_step past w r from.0) from.1 ≡ true
  pub at_most : length past.steps < MOST_STEPS
  pub full : (is_some w.names && nat_le MOST_BUFFERS (length past.buffers)) ≡ false
  pub small : made_length (members_in past i) (new_step past w r from.0) from.1 ≤ MOST_ELEMENTS
  pub next_is : record past {
    stage = Steps;
    buffers = with_made past.buffers (members_in past i) (new_step past w r from.0) from.1 w.names;
    steps = past.steps ++ new_step past w r from.0 ∷ [];
    on = past.on ++ i ∷ [];
  } ≡ next

step_taken : (past next : Past) (on : Option (List ℕ)) (w : StepWords) → step_line past on w ≡ Ok next → StepTaken past next on w
unfolding step_line rooted_line step_on
step_taken past next on w h =
    let r = some_of BadNumber (root_number w.root) _ next h in
    let from = ok_of (source_named past w.names) _ next r.2 in
    let found = group_named past.groups on in
    let s = new_step past w r.0 from.0.0 in
    let bad_root = passed (holds_of (λ on. nat_le (length (members_in past on)) r.0) found) BadRoot _ next from.2 in
    let shape = passed (holds_of (λ on. not (can_read (members_in past on) s from.0.1)) found) WrongShape _ next bad_root.1 in
    let full = passed (nat_le MOST_STEPS (length past.steps) || (is_some w.names && nat_le MOST_BUFFERS (length past.buffers)))
    TooMany _ next shape.1 in
    let large = passed (holds_of (λ on. nat_lt MOST_ELEMENTS (made_length (members_in past on) s from.0.1)) found) TooLarge _ next full.1 in
    let i = some_of BadGroup found _ next large.1 in
    let two = split_or (nat_le MOST_STEPS (length past.steps)) (is_some w.names && nat_le MOST_BUFFERS (length past.buffers)) full.0 in
    record {
      r = r.0;
      from = from.0;
      i = i.0;
      number = r.1;
      source = from.1;
      group = i.1;
      root = past_no (length (members_in past i.0)) r.0 (held_at (λ on. nat_le (length (members_in past on)) r.0) found i.0 i.1 bad_root.0);
      reads = not_not (can_read (members_in past i.0) s from.0.1)
          (held_at (λ on. not (can_read (members_in past on) s from.0.1)) found i.0 i.1 shape.0);
      at_most = room MOST_STEPS (length past.steps) two.0;
      full = two.1;
      small = not_above MOST_ELEMENTS (made_length (members_in past i.0) s from.0.1)
          (held_at (λ on. nat_lt MOST_ELEMENTS (made_length (members_in past on) s from.0.1)) found i.0 i.1 large.0);
      next_is = ok_is (record
          past {
            stage = Steps;
            buffers = with_made past.buffers (members_in past i.0) s from.0.1 w.names;
            steps = past.steps ++ s ∷ [];
            on = past.on ++ i.0 ∷ [];
          }) next i.2;
    }

-- the names of the line
line_names : (past : Past) (g : List ℕ) (s : CollStep) (from : ℕ × Buffer) (names : Option (List ℕ × List ℕ)) → SourceSaid past names from
    → (n : List ℕ × List ℕ) → names ≡ Some n
    → (name_at (past.buffers ++ made_list g s from.1 names) from.0 ≡ n.0)
    × (name_at (past.buffers ++ made_list g s from.1 names) (length past.buffers) ≡ n.1)
line_names past g s from None said n e = cc
line_names past g s from (Some m) said n e =
    let b = new_buffer g s from.1 m.1 in (
      ap (λ (x : Buffer). x.name) (old_at past.buffers (b ∷ []) no_buffer from.0 (said.source.below refl))
          ∙ said.named n e,
      ap (λ (x : Buffer). x.name) (new_at past.buffers b no_buffer) ∙ ap (λ (x : List ℕ × List ℕ). x.1) (some_is m n e),
    )
  where
    some_is : (a b : List ℕ × List ℕ) → Some a ≡ Some b → a ≡ b
    some_is a b e = cc

-- a step keeps what is said and written
pub step_goes : (past next : Past) (on : Option (List ℕ)) (w : StepWords) → past.ranks ≤ MOST_RANKS → AtSteps past → Takes w
    → stands_in (form_since (step on w)) past.version ≡ true
    → step_line past on w ≡ Ok next → Goes (λ p. AtSteps p × (p.stage ≡ Steps)) (body past) next (line (form_words (step on w)))
unfolding with_step
step_goes past next on w few_ranks a takes stands h =
    let t = step_taken past next on w h in
    let g = members_in past t.i in
    let s = new_step past w t.r t.from.0 in
    let c = made_list g s t.from.1 w.names in
    let gf = group_found past on t.i t.group in
    let said = source_said past w.names t.from t.source in
    let are = members_there past t.i few_ranks a.facts gf.is in
    let taken : IsTaken past w t.r t.from t.i =
    record { at_most = few_ranks; facts = a.facts; group = gf.is; takes = takes; source = said; root = t.root; reads = t.reads } in
    let is = is_step past w t.r t.from t.i taken a.no_prints t.at_most t.full t.small (kind_stands past on w stands) in
    let inputs_few = subst (λ n. past.inputs ≤ n) a.facts.all (made_most (outline past) 0 (length past.steps) (omega arith)) in
    let small : t.r < 2 ^ 64 = small_root t.r (length g) t.root are.at_most in
    let after : Past = with_step past s t.i c in
    let same : after ≡ next =
    ap (λ (bs : List Buffer). record past { stage = Steps; buffers = bs; steps = past.steps ++ s ∷ []; on = past.on ++ t.i ∷ [] }) (sym
    (with_made_is past.buffers g s t.from.1 w.names)) ∙ t.next_is in
    subst (λ p. Goes (λ p. AtSteps p × (p.stage ≡ Steps)) (body past) p (line (form_words (step on w)))) same (record {
      holds = (
        record {
          facts = step_facts (outline past) s t.i c a.facts is;
          filled = subst (λ (bs : List Buffer). Filled past.ranks bs past.given)
              (sym (take-append-le past.inputs past.buffers c inputs_few)) a.filled;
          no_prints = a.no_prints;
          no_choices = a.no_choices;
          none_printed = a.none_printed;
        },
        refl,
      );
      written_is = step_written past s t.i c a
          ∙ ap (λ (x : List (List ℕ)). body past ++ line (x ++ step_words (past.buffers ++ c) s)) gf.words_are
          ∙ ap (λ (x : List (List ℕ)). body past ++ line (on_there on ++ x))
          (words_of_step (past.buffers ++ c) w t.r t.from.0 (length past.buffers) takes small t.number
          (line_names past g s t.from w.names said));
    })
  where
    small_root : (r m : ℕ) → r < m → m ≤ MOST_RANKS → r < 2 ^ 64
    small_root r m l at_most = omega (arith, l, at_most)

-- a print
push_sum : (f : ℕ → ℕ) (xs : List ℕ) (x : ℕ) → sum_by f (xs ++ x ∷ []) ≡ sum_by f xs + f x
push_sum f xs x = sum_by-append f xs (x ∷ []) ∙ ap (λ n. sum_by f xs + n) (sum_by-cons f x [] ∙ (let e : f x + 0 ≡ f x = omega arith in e))

pub print_goes : (past next : Past) (name : List ℕ) → AtPrints past → print_line past name ≡ Ok next
    → Goes (λ p. AtPrints p × (p.stage ≡ Prints)) (body past) next (line (form_words (print name)))
unfolding print_line
print_goes past next name a h =
    let from = some_of UnknownBuffer (buffer_named past.buffers name) _ next h in
    let full = passed (nat_le MOST_PRINTS (length past.prints)) TooMany _ next from.2 in
    let large = passed (nat_lt MOST_ELEMENTS (past.printed + elements_of from.0.1)) TooLarge _ next full.1 in
    let is = found past.buffers name from.0 from.1 in
    let i = from.0.0 in
    let after : Past = record past { stage = Prints; prints = past.prints ++ i ∷ []; printed = past.printed + elements_of from.0.1 } in
    let sum : past.printed + elements_of from.0.1 ≡ printed_elements (with_print (outline past) i) =
    ap (λ n. n + elements_of from.0.1) a.counted ∙ ap (λ (x : Buffer). printed_elements (outline past) + elements_of x) (sym is.at)
    ∙ sym (push_sum (λ b. elements_of (get_or past.buffers b no_buffer)) past.prints i) in
    subst (λ p. Goes (λ p. AtPrints p × (p.stage ≡ Prints)) (body past) p (line (form_words (print name)))) (ok_is after next large.1)
    (record {
      holds = (
        record {
          facts = print_facts (outline past) i a.facts is.there (room MOST_PRINTS (length past.prints) full.0)
              (subst (λ n. n ≤ MOST_ELEMENTS) sum (not_above MOST_ELEMENTS (past.printed + elements_of from.0.1) large.0));
          filled = a.filled;
          no_choices = a.no_choices;
          counted = sum;
        },
        refl,
      );
      written_is =
          ap (λ (x : List ℕ). head_text past.version past.ranks
          ++ (remote_text past.remote
          ++ (groups_text past.groups ++ (inputs_text past.ranks (take past.inputs past.buffers) past.given ++ x))))
          (ap (λ (x : List ℕ). steps_text past.groups past.buffers past.steps past.on ++ (choices_text past.choices ++ x))
          (flat_map-append (λ i. line (codes "print" ∷ name_at past.buffers i ∷ [])) past.prints (i ∷ [])
          ∙ ap (λ (x : List ℕ). prints_text (name_at past.buffers) past.prints ++ x)
          (append-nil (line (codes "print" ∷ name_at past.buffers i ∷ []))))
          ∙ behind (steps_text past.groups past.buffers past.steps past.on) (choices_text past.choices)
          (prints_text (name_at past.buffers) past.prints) (line (codes "print" ∷ name_at past.buffers i ∷ [])))
          ∙ behind_tail (head_text past.version past.ranks) (remote_text past.remote) (groups_text past.groups)
          (inputs_text past.ranks (take past.inputs past.buffers) past.given) (tail past)
          (line (codes "print" ∷ name_at past.buffers i ∷ []))
          ∙ ap (λ (x : List ℕ). body past ++ line (codes "print" ∷ x ∷ [])) is.named;
    })
  where
    behind : (s c p x : List ℕ) → s ++ (c ++ (p ++ x)) ≡ (s ++ (c ++ p)) ++ x
    behind s c p x = simp append_assoc
