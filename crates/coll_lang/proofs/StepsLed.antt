-- All steps of a text, one after the other, are read as what they were written of.
use Rattle.std.proofs.Common.{◌≡◌, ℕ, suc, ◌+◌, ◌<◌, ◌≤◌, List, [], ◌∷◌, ◌++◌, length, get_or, Option, Some, None, sym, ap, ◌∙◌, arith}
use Rattle.std.proofs.Common.{subst, append_assoc, length-append, inl, inr, ◌⊎◌}
use Rattle.std.proofs.lemmas.List.{append-nil, nil_from_length}
use Rattle.std.proofs.Math.Seq.{get_or-append_seam}
use Rattle.coll_text.specs.Text.{line}
use Rattle.coll_shape.specs.declared.types.Buffer.{Buffer}
use Rattle.coll_shape.specs.declared.types.CollStep.{CollStep}
use Rattle.coll_shape.specs.declared.types.CollStep.TheVariants.{Barrier}
use Rattle.coll_shape.specs.Outline.{group_at, step_at}
use Rattle.coll_shape.proofs.ByCollective.{has_both}
use Rattle.coll_shape.specs.Collectives.{result_of, since, source_of}
use Rattle.coll_shape.specs.WellFormed.{FitsVersion, IsGroup, IsWellFormed, StandsIn, StepFits, and_one, made_upto}
use Rattle.coll_shape.specs.declared.limits.TheConstants.{MOST_STEPS, MOST_ELEMENTS}
use Rattle.coll_lang.specs.Language.{Past, members_in}
use Rattle.coll_lang.specs.Spelling.{on_words, step_words, steps_text}
use Rattle.coll_lang.specs.declared.stage.Stage.{Stage}
use Rattle.coll_lang.specs.declared.stage.Stage.TheVariants.{Steps}
use Rattle.coll_lang.proofs.Growing.{longer}
use Rattle.coll_lang.proofs.InputsBack as inputs
use Rattle.coll_lang.proofs.InputsBack.{Parts, comes_next, next_parts}
use Rattle.coll_lang.proofs.Leaders.{Led, at, led_none}
use Rattle.coll_lang.proofs.Leading.{Leads, Wider, then}
use Rattle.coll_lang.proofs.NamesBack.{AreNames}
use Rattle.coll_lang.proofs.Sound.{outline}
use Rattle.coll_lang.proofs.StepLeads.{IsOn, makes_leads, meets_leads}

-- before the prints
abbrev pub unprinted : Past → Past
unprinted base = record base { prints = []; printed = 0 }

-- with so many buffers and steps
abbrev pub said : Past → Stage → List Buffer → List CollStep → List (Option ℕ) → Past
said base st done steps ons = record base { stage = st; buffers = done; steps = steps; on = ons; prints = []; printed = 0 }

refit : (base : Past) (m : ℕ) (g : List ℕ) (s : CollStep) → StepFits (outline base) m g s → StepFits (outline (unprinted base)) m g s
refit base m g s f = record {
  members = f.members;
  root = f.root;
  source = f.source;
  reads = f.reads;
  next = f.next;
  result = f.result;
  makes = f.makes;
}

is_on : (base : Past) → FitsVersion (outline base) → AreNames base.groups base.buffers → (c : Option ℕ) → IsGroup (outline base) c
    → IsOn base.groups base.version c
is_on base v n None h = tt
is_on base v n (Some i) h = (h, v.groups i h, n.groups_spelled i h)

-- what holds of the step that comes next
record Next (base : Past) (before : List CollStep) (done : List Buffer) (s : CollStep) (k : Option ℕ) : Type 0 where
  fits : StepFits (outline base) (length done) (members_in base k) s
  on : IsOn base.groups base.version k
  since : StandsIn (since s) base.version
  room : length before < MOST_STEPS
  count : made_upto (outline base) (length (before ++ s ∷ [])) ≡ and_one (result_of s) (length done)

one_more : (n m : ℕ) → m ≡ n + 1 → m ≡ suc n
one_more n m e = omega (arith, e)

next_of : (base : Past) → IsWellFormed (outline base) → AreNames base.groups base.buffers → (done : List Buffer) (before ss : List CollStep)
    (ons_before ons : List (Option ℕ)) (s : CollStep) (k : Option ℕ) → base.steps ≡ before ++ s ∷ ss → base.on ≡ ons_before ++ k ∷ ons
    → length ons_before ≡ length before → made_upto (outline base) (length before) ≡ length done → Next base before done s k
next_of base f n done before ss ons_before ons s k es eo el count =
    let o = outline base in
    let i = length before in
    let here : step_at o i ≡ s = ap (λ (l : List CollStep). get_or l i Barrier) es ∙ get_or-append_seam before s ss Barrier in
    let on_is : get_or base.on i None ≡ k =
    ap (λ (l : List (Option ℕ)). get_or l i None) eo
    ∙ (ap (λ j. get_or (ons_before ++ k ∷ ons) j None) (sym el) ∙ get_or-append_seam ons_before k ons None) in
    let all = ap length es ∙ length-append before (s ∷ ss) in
    let lt : i < length base.steps = omega (arith, all) in
    let at_most = f.shape.few_steps in
    record {
      fits = subst (λ m. StepFits o m (members_in base k) s) count
          (subst (λ (c : Option ℕ). StepFits o (made_upto o i) (members_in base c) s) on_is
          (subst (λ (t : CollStep). StepFits o (made_upto o i) (group_at o i) t) here (f.fits i lt)));
      on = subst (IsOn base.groups base.version) on_is (is_on base f.version n (get_or base.on i None) (f.shape.on_group i lt));
      since = subst (λ (t : CollStep). StandsIn (since t) base.version) here (f.version.steps i lt);
      room = omega (arith, lt, at_most);
      count = ap (made_upto o) (one_more i (length (before ++ s ∷ [])) (longer before s))
          ∙ (ap (λ (t : CollStep). and_one (result_of t) (made_upto o i)) here ∙ ap (and_one (result_of s)) count);
    }

-- a step's line leads on to what comes then
record Goes (base : Past) (st : Stage) (done : List Buffer) (before : List CollStep) (ons_before : List (Option ℕ)) (s : CollStep)
    (k : Option ℕ) : Type 0 where
  more : List Buffer
  left : List Buffer
  parts : Parts base.groups base.buffers more left
  count : made_upto (outline base) (length (before ++ s ∷ [])) ≡ length more
  leads : Leads (said base st done before ons_before) (said base Steps more (before ++ s ∷ []) (ons_before ++ k ∷ []))
      (line (on_words base.groups k ++ step_words base.buffers s))

meets : (base : Past) → AreNames base.groups base.buffers → (st : Stage) (done rest : List Buffer) (before : List CollStep)
    (ons_before : List (Option ℕ)) (s : CollStep) (k : Option ℕ) → Wider st Steps → Parts base.groups base.buffers done rest
    → Next base before done s k → s ≡ Barrier → Goes base st done before ons_before s k
meets base n st done rest before ons_before s k wider p h e = record {
  more = done;
  left = rest;
  parts = p;
  count = h.count ∙ ap (λ (t : CollStep). and_one (result_of t) (length done)) e;
  leads = subst (λ (t : CollStep). Leads (said base st done before ons_before)
      (said base Steps done (before ++ t ∷ []) (ons_before ++ k ∷ []))
      (line (on_words base.groups k ++ step_words base.buffers t))) (sym e)
      (meets_leads (unprinted base) st done before ons_before k wider h.fits.members.some h.room n.groups_apart h.on);
}

makes : (base : Past) → IsWellFormed (outline base) → AreNames base.groups base.buffers → (st : Stage) (done rest : List Buffer)
    (before : List CollStep) (ons_before : List (Option ℕ)) (s : CollStep) (k : Option ℕ) (a b : ℕ) → Wider st Steps
    → Parts base.groups base.buffers done rest → Next base before done s k → source_of s ≡ Some a → result_of s ≡ Some b
    → Goes base st done before ons_before s k
makes base f n st done [] before ons_before s k a b wider p h ea eb =
    let l = inputs.longer base.buffers done [] p.are in
    let next : b ≡ length done = h.fits.next b eb in
    let there : b < length base.buffers = h.fits.result b eb in
    absurd (omega (arith, l, next, there))
makes base f n st done (c ∷ rest) before ons_before s k a b wider p h ea eb =
    let l = inputs.longer base.buffers done (c ∷ rest) p.are in
    let small : c.spread.length ≤ MOST_ELEMENTS =
    subst (λ (x : Buffer). x.spread.length ≤ MOST_ELEMENTS) (comes_next base.buffers done rest c p.are)
    (f.shape.short (length done) (omega (arith, l))) in
    record {
      more = done ++ c ∷ [];
      left = rest;
      parts = next_parts base.groups base.buffers done rest c p;
      count = h.count ∙ (ap (λ r. and_one r (length done)) eb ∙ sym (one_more (length done) (length (done ++ c ∷ [])) (longer done c)));
      leads = makes_leads (unprinted base) st done rest c before ons_before s k a b wider p
          (refit base (length done) (members_in base k) s h.fits) ea eb
          f.shape.few_ranks f.shape.few_buffers h.room small n.spelled n.groups_apart h.on h.since;
    }

goes : (base : Past) → IsWellFormed (outline base) → AreNames base.groups base.buffers → (st : Stage) (done rest : List Buffer)
    (before : List CollStep) (ons_before : List (Option ℕ)) (s : CollStep) (k : Option ℕ) → Wider st Steps
    → Parts base.groups base.buffers done rest → Next base before done s k → Goes base st done before ons_before s k
goes base f n st done rest before ons_before s k wider p h = cases (has_both s)
  where
    cases : (s ≡ Barrier) ⊎ ((a : ℕ) × (b : ℕ) × (source_of s ≡ Some a) × (result_of s ≡ Some b)) → Goes base st done before ons_before s k
    cases (inl e) = meets base n st done rest before ons_before s k wider p h e
    cases (inr e) = makes base f n st done rest before ons_before s k e.0 e.1 wider p h e.2 e.3

-- at the end all buffers are there
all_made : (base : Past) → IsWellFormed (outline base) → (done rest : List Buffer) (before : List CollStep) → before ≡ base.steps
    → Parts base.groups base.buffers done rest → made_upto (outline base) (length before) ≡ length done → done ≡ base.buffers
all_made base f done rest before es p count =
    let l = inputs.longer base.buffers done rest p.are in
    let whole = f.all in
    let same = ap (λ (ss : List CollStep). made_upto (outline base) (length ss)) es in
    let none : length rest ≡ 0 = omega (arith, l, whole, same, count) in
    sym (p.are ∙ (ap (λ (r : List Buffer). done ++ r) (nil_from_length rest none) ∙ append-nil done))

pub steps_led : (base : Past) → IsWellFormed (outline base) → AreNames base.groups base.buffers → (st : Stage) (done rest : List Buffer)
    (before ss : List CollStep) (ons_before ons : List (Option ℕ)) → Wider st Steps → base.steps ≡ before ++ ss
    → base.on ≡ ons_before ++ ons
    → length ons_before ≡ length before → length ons ≡ length ss → Parts base.groups base.buffers done rest
    → made_upto (outline base) (length before) ≡ length done
    → Led (said base st done before ons_before) (steps_text base.groups base.buffers ss ons) (unprinted base) Steps
steps_led base f n st done rest before [] ons_before ons wider es eo el em p count =
    let steps_are : before ≡ base.steps = sym (es ∙ append-nil before) in
    let ons_are : ons_before ≡ base.on =
    sym (eo ∙ (ap (λ (l : List (Option ℕ)). ons_before ++ l) (nil_from_length ons em) ∙ append-nil ons_before)) in
    let done_is : done ≡ base.buffers = all_made base f done rest before steps_are p count in
    subst (λ (x : Past). Led (said base st done before ons_before) [] x Steps)
    (ap (λ (bs : List Buffer). said base base.stage bs before ons_before) done_is
    ∙ (ap (λ (l : List CollStep). said base base.stage base.buffers l ons_before) steps_are
    ∙ ap (λ (l : List (Option ℕ)). said base base.stage base.buffers base.steps l) ons_are))
    (led_none st (said base base.stage done before ons_before) Steps wider)
steps_led base f n st done rest before (s ∷ ss) ons_before [] wider es eo el em p count = absurd (omega (arith, em))
steps_led base f n st done rest before (s ∷ ss) ons_before (k ∷ ons) wider es eo el em p count =
    let g = goes base f n st done rest before ons_before s k wider p (next_of base f n done before ss ons_before ons s k es eo el count) in
    let la = longer before s in
    let lb = longer ons_before k in
    let more = steps_led base f n Steps g.more g.left (before ++ s ∷ []) ss (ons_before ++ k ∷ []) ons (λ form h. h)
    (es ∙ sym (append_assoc before (s ∷ []) ss)) (eo ∙ sym (append_assoc ons_before (k ∷ []) ons)) (omega (arith, la, lb, el))
    (omega (arith, em)) g.parts g.count in
    record {
      stage = more.stage;
      wider = more.wider;
      leads = then (said base st done before ons_before) (said base Steps g.more (before ++ s ∷ []) (ons_before ++ k ∷ []))
          (at more.stage (unprinted base))
          (line (on_words base.groups k ++ step_words base.buffers s)) (steps_text base.groups base.buffers ss ons) g.leads more.leads;
    }
