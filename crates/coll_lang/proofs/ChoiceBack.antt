-- The text of a choice text is read as it.
use Rattle.std.proofs.Common.{◌≡◌, ℕ, suc, ◌+◌, ◌*◌, ◌<◌, ◌≤◌, List, [], ◌∷◌, ◌++◌, length, map, take, drop, get_or, Option, Some, Ok, Bool}
use Rattle.std.proofs.Common.{true, false, refl, sym, ap, ◌∙◌, arith, subst, append_assoc}
use Rattle.std.specs.Prelude.{All}
use Rattle.std.specs.List.{AllByRecursion}
use Rattle.std.proofs.lemmas.List.{append-nil, get_or-map, get_or_default, length-take-le, nil_from_length, take-append-drop, take_all}
use Rattle.std.proofs.lemmas.List.Elements.{recursion_from_All}
use Rattle.std.proofs.lemmas.List.Sums.{sum_by-le}
use Rattle.std.proofs.Math.Seq.{drop-cons}
use Rattle.number_lists.specs.Numbers.{from_to}
use Rattle.coll_text.specs.Text.{is_name, line}
use Rattle.coll_shape.specs.declared.types.Version.{Version}
use Rattle.coll_shape.specs.declared.types.Version.TheVariants.{One, Two}
use Rattle.coll_shape.specs.declared.types.Buffer.{Buffer}
use Rattle.coll_shape.specs.declared.types.Group.{Group}
use Rattle.coll_shape.specs.declared.types.CollStep.{CollStep}
use Rattle.coll_shape.specs.Outline.{Outline, no_buffer}
use Rattle.coll_shape.specs.WellFormed.{elements_of, most_ranks}
use Rattle.coll_shape.specs.declared.limits.TheConstants.{MOST_RANKS, MOST_PRINTS, MOST_ELEMENTS}
use Rattle.coll_lang.specs.Program.{Chosen, Program}
use Rattle.coll_lang.specs.Language.{Past, chosen, nothing, read, stands_in}
use Rattle.coll_lang.specs.Spelling.{choice_words, choices_text, head_text, name_at, no_choice, prints_text, text}
use Rattle.coll_lang.specs.Readable.{AreChoices, IsBare, chosen_name, is_two}
use Rattle.coll_lang.specs.declared.choices.ChoiceStep.{ChoiceStep}
use Rattle.coll_lang.specs.declared.stage.Stage.{Stage}
use Rattle.coll_lang.specs.declared.stage.Stage.TheVariants.{Choosing, Finished, Options, Prints}
use Rattle.coll_lang.proofs.AllLines.{choice_made, long_map}
use Rattle.coll_lang.proofs.Coming.{described_chosen, name_made, prints_alike}
use Rattle.coll_lang.proofs.EarlyBack.{head_leads, start}
use Rattle.coll_lang.proofs.InputsBack.{Parts, fresh}
use Rattle.coll_lang.proofs.Leaders.{Led, at, each_leads, lead_then, take-next, texts, texts-list}
use Rattle.coll_lang.proofs.Leading.{Leads, Wider, choosing_wider, options_choosing, then}
use Rattle.coll_lang.proofs.SoundSteps.{from_to-long}
use Rattle.coll_lang.proofs.PrintsBack.{choice_leads, in_all, prints_led}
use Rattle.coll_lang.proofs.TextBack.{last_on, last_text, none_more, whole_read}
use Rattle.coll_lang.specs.declared.whole.TheConstants.{LONGEST_TEXT}

-- what the steps make
abbrev made : ℕ → Chosen → List Buffer
made n c = map (choice_made n) c.steps

-- what is said after the first i steps
abbrev chosen_upto : Version → ℕ → Chosen → ℕ → Past
chosen_upto v n c i = record (start v n) { buffers = take i (made n c); choices = take i c.steps }

-- what all lines say
abbrev all_said : Version → ℕ → Chosen → Past
all_said v n c = record (start v n) {
  stage = Finished;
  buffers = made n c;
  choices = c.steps;
  prints = c.prints;
  printed = 0 + in_all (made n c) c.prints;
}

count_made : (n : ℕ) (c : Chosen) → length (made n c) ≡ length c.steps
count_made n c = long_map (choice_made n) c.steps

named_made : (n : ℕ) (c : Chosen) (i : ℕ) → i < length (made n c) → name_at (made n c) i ≡ chosen_name c i
named_made n c i l = name_made n c.steps i (let e = count_made n c in omega (arith, e, l))

parts : (n : ℕ) (c : Chosen) → AreChoices c → (done rest : List Buffer) → made n c ≡ done ++ rest → Parts [] (made n c) done rest
parts n c a done rest e = record { are = e; distinct = distinct; apart = λ i j li lj e. absurd (none i li) }
  where
    below : (i : ℕ) → i < length (made n c) → i < length c.steps
    below i l = let e = count_made n c in omega (arith, e, l)

    distinct : (i j : ℕ) → i < length (made n c) → j < length (made n c) → name_at (made n c) i ≡ name_at (made n c) j → i ≡ j
    distinct i j li lj e = a.distinct i j (below i li) (below j lj) (sym (named_made n c i li) ∙ (e ∙ named_made n c j lj))

    none : (i : ℕ) → (let gs : List Group = [] in i < length gs) → ⊥
    none i l = omega (arith, l)

-- ---- the steps
made_at : (n : ℕ) (c : Chosen) (i : ℕ) → i < length c.steps → get_or (made n c) i no_buffer ≡ choice_made n (get_or c.steps i no_choice)
made_at n c i l = get_or-map (choice_made n) c.steps i no_choice no_buffer l

cut_at : (n : ℕ) (c : Chosen) (i : ℕ) → i < length c.steps
    → made n c ≡ take i (made n c) ++ choice_made n (get_or c.steps i no_choice) ∷ drop (suc i) (made n c)
cut_at n c i l =
    let lt : i < length (made n c) = (let e = count_made n c in omega (arith, e, l)) in
    sym (take-append-drop i (made n c))
    ∙ ap (λ (bs : List Buffer). take i (made n c) ++ bs)
    (drop-cons (made n c) i no_buffer lt ∙ ap (λ (b : Buffer). b ∷ drop (suc i) (made n c)) (made_at n c i l))

one_choice : (v : Version) (n : ℕ) (c : Chosen) → stands_in Two v ≡ true → AreChoices c → (i : ℕ) → i < length c.steps → (s : Stage)
    → Wider s Choosing
    → Leads (at s (chosen_upto v n c i)) (at Choosing (chosen_upto v n c (suc i))) (line (choice_words (get_or c.steps i no_choice)))
one_choice v n c two a i l s w =
    let own = get_or c.steps i no_choice in
    let bs = made n c in
    let past = at s (chosen_upto v n c i) in
    let count = count_made n c in
    let at_most = a.at_most in
    let lt : i < length bs = omega (arith, count, l) in
    let done = length-take-le i c.steps (let z : i ≤ length c.steps = omega (arith, l) in z) in
    let done_too = length-take-le i bs (let z : i ≤ length bs = omega (arith, lt) in z) in
    let new = fresh [] bs (take i bs) (drop (suc i) bs) (choice_made n own)
    (parts n c a (take i bs) (choice_made n own ∷ drop (suc i) bs) (cut_at n c i l)) in
    let buffers_are : take i bs ++ choice_made n own ∷ [] ≡ take (suc i) bs =
    ap (λ (b : Buffer). take i bs ++ b ∷ []) (sym (made_at n c i l)) ∙ sym (take-next bs i no_buffer lt) in
    let steps_are : take i c.steps ++ own ∷ [] ≡ take (suc i) c.steps = sym (take-next c.steps i no_choice l) in
    let next : List Buffer → List ChoiceStep → Past =
    λ buffers choices. record (start v n) { stage = Choosing; buffers = buffers; choices = choices } in
    subst (λ (x : Past). Leads past x (line (choice_words own)))
    (ap (λ (x : List Buffer). next x (take i c.steps ++ own ∷ [])) buffers_are
    ∙ ap (λ (x : List ChoiceStep). next (take (suc i) bs) x) steps_are)
    (choice_leads past own two w (a.spelled i l) new (omega (arith, done, l, at_most)) (omega (arith, done_too, l, at_most)))

choices_led : (v : Version) (n : ℕ) (c : Chosen) → stands_in Two v ≡ true → AreChoices c
    → Led (start v n) (choices_text c.steps) (record (start v n) { buffers = made n c; choices = c.steps }) Choosing
choices_led v n c two a =
    let item : ℕ → List ℕ = λ i. line (choice_words (get_or c.steps i no_choice)) in
    let count = count_made n c in
    subst (λ (x : List ℕ). Led (start v n) x (record (start v n) { buffers = made n c; choices = c.steps }) Choosing)
    (sym (texts-list (λ s. line (choice_words s)) c.steps no_choice))
    (subst (λ (bs : List Buffer). Led (start v n) (texts item 0 (length c.steps)) (record (start v n) { buffers = bs; choices = c.steps })
    Choosing) (take_all (length c.steps) (made n c) (omega (arith, count)))
    (subst (λ (cs : List ChoiceStep). Led (start v n) (texts item 0 (length c.steps))
    (record (start v n) { buffers = take (length c.steps) (made n c); choices = cs }) Choosing)
    (take_all (length c.steps) c.steps (omega arith))
    (each_leads (chosen_upto v n c) item Choosing (length c.steps) (one_choice v n c two a) 0 (length c.steps) (omega arith) Options
    options_choosing)))

-- ---- the prints
one_each : (n : ℕ) (c : Chosen) (i : ℕ) → n ≤ MOST_RANKS → i < length c.steps → elements_of (get_or (made n c) i no_buffer) ≤ MOST_RANKS
one_each n c i at_most l =
    let e = from_to-long 0 n in
    subst (λ (b : Buffer). elements_of b ≤ MOST_RANKS) (sym (made_at n c i l)) (small (length (from_to 0 n)) (omega (arith, e, at_most)))
  where
    small : (m : ℕ) → m ≤ MOST_RANKS → 1 * m ≤ MOST_RANKS
    small m h = omega (arith, h)

few_elements : (n : ℕ) (c : Chosen) → n ≤ MOST_RANKS → AreChoices c → in_all (made n c) c.prints ≤ MOST_ELEMENTS
few_elements n c at_most a =
    let each : All (λ i. elements_of (get_or (made n c) i no_buffer) ≤ MOST_RANKS) c.prints =
    λ i d l. one_each n c (get_or c.prints i d) at_most (subst (λ k. k < length c.steps) (get_or_default c.prints i 0 d l)
    (a.printed i l)) in
    let all = sum_by-le (λ i. elements_of (get_or (made n c) i no_buffer)) MOST_RANKS c.prints each in
    let most = a.few_prints in
    omega (arith, all, most)

prints_on : (v : Version) (n : ℕ) (c : Chosen) → n ≤ MOST_RANKS → AreChoices c → (s : Stage) → Wider s Choosing
    → Leads (at s (record (start v n) { buffers = made n c; choices = c.steps })) (all_said v n c)
    (prints_text (name_at (made n c)) c.prints ++ last_text)
prints_on v n c at_most a s w =
    let all = all_said v n c in
    let count = count_made n c in
    lead_then (at s (record (start v n) { buffers = made n c; choices = c.steps })) (prints_text (name_at (made n c)) c.prints) last_text
    all all Prints
    (prints_led all (parts n c a (made n c) [] (sym (append-nil (made n c)))) named s [] c.prints 0
    (λ form h. w form (choosing_wider form h)) there
    (none_more 0 (length c.prints) MOST_PRINTS refl a.few_prints)
    (none_more 0 (in_all (made n c) c.prints) MOST_ELEMENTS refl (few_elements n c at_most a)))
    (λ s w. last_on all s w)
  where
    named : (i : ℕ) → i < length (made n c) → is_name (name_at (made n c) i) ≡ true
    named i l = ap is_name (named_made n c i l) ∙ a.spelled i (let e = count_made n c in omega (arith, e, l))

    there : AllByRecursion (λ i. i < length (made n c)) c.prints
    there = recursion_from_All (λ i. i < length (made n c)) c.prints
        (λ i d l. subst (λ k. k < length (made n c)) (get_or_default c.prints i 0 d l)
        (let e = count_made n c in let p = a.printed i l in omega (arith, e, p)))

-- ---- the whole text
apart_end : (h c p e : List ℕ) → h ++ (c ++ (p ++ e)) ≡ h ++ ((c ++ p) ++ e)
apart_end h c p e = ap (λ (x : List ℕ). h ++ x) (sym (append_assoc c p e))

text_of : (v : Version) (n : ℕ) (c : Chosen) → AreChoices c
    → head_text v n ++ (choices_text c.steps ++ (prints_text (name_at (made n c)) c.prints ++ last_text)) ≡ text (chosen v n c)
unfolding text
text_of v n c a =
    apart_end (head_text v n) (choices_text c.steps) (prints_text (name_at (made n c)) c.prints) last_text
    ∙ ap (λ (x : List ℕ). head_text v n ++ ((choices_text c.steps ++ x) ++ last_text))
    (prints_alike (name_at (made n c)) (chosen_name c) c.prints
    (λ i l. named_made n c (get_or c.prints i 0) (let e = count_made n c in let p = a.printed i l in omega (arith, e, p))))

chosen_back : (v : Version) (n : ℕ) (c : Chosen) → stands_in Two v ≡ true → AreChoices c → 1 ≤ n → n ≤ most_ranks v → n ≤ MOST_RANKS
    → length (text (chosen v n c)) ≤ LONGEST_TEXT → read (text (chosen v n c)) ≡ Ok (chosen v n c)
chosen_back v n c two a some most at_most short =
    let all = all_said v n c in
    let later = choices_text c.steps ++ (prints_text (name_at (made n c)) c.prints ++ last_text) in
    whole_read (text (chosen v n c)) all (chosen v n c) refl
    (subst (λ (x : List ℕ). Leads nothing all x) (text_of v n c a)
    (then nothing (start v n) all (head_text v n) later (head_leads v n some most)
    (lead_then (start v n) (choices_text c.steps) (prints_text (name_at (made n c)) c.prints ++ last_text)
    (record (start v n) { buffers = made n c; choices = c.steps }) all Choosing
    (choices_led v n c two a) (λ s w. prints_on v n c at_most a s w))))
    short (described_chosen all a.some)

-- a shape that is bare says its version and ranks alone
bare_is : (o : Outline) (c : Chosen) → IsBare o → (chosen o.version o.ranks c).shape ≡ o
bare_is o c b =
    let make : Bool → List Group → List Buffer → ℕ → List CollStep → List (Option ℕ) → List ℕ → Outline =
    λ remote groups buffers inputs steps on prints. record {
      version = o.version;
      ranks = o.ranks;
      remote = remote;
      groups = groups;
      buffers = buffers;
      inputs = inputs;
      steps = steps;
      on = on;
      prints = prints;
    } in
    sym (ap (λ (x : Bool). make x o.groups o.buffers o.inputs o.steps o.on o.prints) b.remote
    ∙ (ap (λ (x : List Group). make false x o.buffers o.inputs o.steps o.on o.prints) (nil_from_length o.groups b.groups)
    ∙ (ap (λ (x : List Buffer). make false [] x o.inputs o.steps o.on o.prints) (nil_from_length o.buffers b.buffers)
    ∙ (ap (λ (x : ℕ). make false [] [] x o.steps o.on o.prints) b.inputs
    ∙ (ap (λ (x : List CollStep). make false [] [] 0 x o.on o.prints) (nil_from_length o.steps b.steps)
    ∙ (ap (λ (x : List (Option ℕ)). make false [] [] 0 [] x o.prints) (nil_from_length o.on b.on)
    ∙ ap (λ (x : List ℕ). make false [] [] 0 [] [] x) (nil_from_length o.prints b.prints)))))))

two_stands : (v : Version) → is_two v ≡ true → stands_in Two v ≡ true
two_stands One h = h
two_stands Two h = refl

pub choices_back : (o : Outline) (lists : List (List (List ℕ))) (c : Chosen) → AreChoices c → IsBare o → length lists ≡ o.inputs
    → 1 ≤ o.ranks → o.ranks ≤ most_ranks o.version → o.ranks ≤ MOST_RANKS
    → (d : Program) → d ≡ record { shape = o; inputs = lists; choices = Some c } → length (text d) ≤ LONGEST_TEXT → read (text d) ≡ Ok d
choices_back o lists c a b many some most at_most d e short =
    let is : chosen o.version o.ranks c ≡ d =
    ap (λ (x : Outline). record { shape = x; inputs = []; choices = Some c }) (bare_is o c b)
    ∙ (ap (λ (x : List (List (List ℕ))). record { shape = o; inputs = x; choices = Some c }) (sym (nil_from_length lists (many ∙ b.inputs)))
    ∙ sym e) in
    subst (λ (x : Program). read (text x) ≡ Ok x) is
    (chosen_back o.version o.ranks c (two_stands o.version b.version) a some most at_most
    (subst (λ (x : Program). length (text x) ≤ LONGEST_TEXT) (sym is) short))
