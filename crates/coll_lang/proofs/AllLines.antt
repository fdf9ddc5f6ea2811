-- A text that is read is what is written of its description, and what it says is well formed.
use Rattle.std.proofs.Common.{◌≡◌, ℕ, zero, suc, ◌+◌, ◌<◌, ◌≤◌, List, [], ◌∷◌, ◌++◌, length, map, take, get_or, Option, Ok, Bool, true}
use Rattle.std.proofs.Common.{false, ◌||◌, refl, sym, ap, ◌∙◌, arith, codes, subst, append_assoc, inl, inr, ◌⊎◌}
use Rattle.std.specs.Prelude.{nat_lt, nat_le, is_some}
use Rattle.std.proofs.lemmas.List.{append-nil}
use Rattle.std.proofs.lemmas.Grind.{flat_map-append}
use Rattle.ptl_types.specs.declared.elements.ElemType.{ElemType}
use Rattle.coll_text.specs.Text.{line, is_name}
use Rattle.coll_text.proofs.Spelled.{chosen}
use Rattle.number_lists.specs.Members.{In, Distinct}
use Rattle.coll_shape.specs.declared.types.Version.{Version}
use Rattle.coll_shape.specs.declared.types.Version.TheVariants.{One, Two}
use Rattle.coll_shape.specs.declared.types.Buffer.{Buffer}
use Rattle.coll_shape.specs.Outline.{no_buffer}
use Rattle.coll_shape.specs.WellFormed.{StandsIn, elements_of, printed_elements}
use Rattle.coll_shape.specs.declared.limits.TheConstants.{MOST_RANKS, MOST_BUFFERS, MOST_STEPS, MOST_PRINTS, MOST_ELEMENTS}
use Rattle.coll_lang.specs.Words.{version_word}
use Rattle.coll_lang.specs.Forms.{Form, StepWords, complete, group, input, step, choice, print, last}
use Rattle.coll_lang.specs.Language.{Past, stands_in, stands_at, form_since, form_line, nothing, choice_buffer, choice_step, choice_line}
use Rattle.coll_lang.specs.Language.{print_line, data_due, is_taken, buffer_named, buffer_number, group_number}
use Rattle.coll_lang.specs.Spelling.{head_text, remote_text, groups_text, inputs_text, steps_text, choices_text, choice_words, choice_name}
use Rattle.coll_lang.specs.Spelling.{prints_text, name_at}
use Rattle.coll_lang.specs.declared.choices.ChoiceKind.{ChoiceKind}
use Rattle.coll_lang.specs.declared.choices.ChoiceKind.TheVariants as kinds
use Rattle.coll_lang.specs.declared.choices.ChoiceStep.{ChoiceStep}
use Rattle.coll_lang.specs.declared.stage.Stage.{Stage}
use Rattle.coll_lang.specs.declared.stage.Stage.TheVariants.{Header, Ranks, Options, Groups, Inputs, Data, Steps, Choosing, Prints}
use Rattle.coll_lang.specs.declared.stage.Stage.TheVariants.{Finished}
use Rattle.coll_lang.specs.declared.fault.Refusal.TheVariants.{NameTaken, UnknownBuffer, TooMany, TooLarge}
use Rattle.coll_lang.proofs.FormSaid.{Fits, Takes, form_words}
use Rattle.coll_lang.proofs.InputLists.{Filled}
use Rattle.coll_lang.proofs.Facts.{few_of, in_either, apart_too}
use Rattle.coll_lang.proofs.Growing.{longer, each_more, not_there, untaken, none_there}
use Rattle.coll_lang.proofs.Lines.{map_more}
use Rattle.coll_lang.proofs.Sound.{outline, body, AtInputs, AtData, AtSteps, AtPrints, some_of, passed, ok_is, room, all_taken}
use Rattle.coll_lang.proofs.SoundEarly.{AtGroups, Goes, Given, group_goes, input_goes}
use Rattle.coll_lang.proofs.SoundSteps.{found, step_goes, print_goes}

-- ---- choice texts
abbrev pub choice_made : ℕ → ChoiceStep → Buffer
choice_made ranks c = choice_buffer ranks (choice_name c)

pub record AtChoices (past : Past) : Type 0 where
  pub version : past.version ≡ Two
  pub some_ranks : 1 ≤ past.ranks
  pub few_ranks : past.ranks ≤ MOST_RANKS
  pub no_remote : past.remote ≡ false
  pub no_groups : past.groups ≡ []
  pub no_inputs : past.inputs ≡ 0
  pub no_given : past.given ≡ []
  pub no_steps : past.steps ≡ []
  pub no_on : past.on ≡ []
  pub at_most : length past.choices ≤ MOST_STEPS
  pub made : past.buffers ≡ map (choice_made past.ranks) past.choices
  pub spelled : (x : List ℕ) → In x (map choice_name past.choices) → is_name x ≡ true
  pub distinct : Distinct (map choice_name past.choices)
  pub few_prints : length past.prints ≤ MOST_PRINTS
  pub printed : (i : ℕ) → i < length past.prints → get_or past.prints i 0 < length past.choices

-- with a step at least
pub record AtChosen (past : Past) : Type 0 where
  pub some : 1 ≤ length past.choices
  pub choices : AtChoices past

pub long_map : {X Y : Type 0} (f : X → Y) (xs : List X) → length (map f xs) ≡ length xs
long_map f [] = refl
long_map f (x ∷ xs) = ap (λ v. suc v) (long_map f xs)

names_made : (ranks : ℕ) (cs : List ChoiceStep) → map (λ (b : Buffer). b.name) (map (choice_made ranks) cs) ≡ map choice_name cs
names_made ranks [] = refl
names_made ranks (c ∷ cs) = ap (λ v. choice_name c ∷ v) (names_made ranks cs)

choice_named : (kind : ChoiceKind) (name : List ℕ) → choice_name (choice_step kind name) ≡ name
choice_named kinds.Elect name = refl
choice_named kinds.Tickets name = refl

choice_written : (kind : ChoiceKind) (name : List ℕ) → choice_words (choice_step kind name) ≡ form_words (choice kind name)
choice_written kinds.Elect name = refl
choice_written kinds.Tickets name = refl

some_split : (a b : Bool) → (a || b) ≡ false → (a ≡ false) × (b ≡ false)
some_split true b h = cc
some_split false b h = (refl, h)

behind_choices : (h m g i s c x p q : List ℕ) → p ≡ [] → q ≡ []
    → h ++ (m ++ (g ++ (i ++ (s ++ ((c ++ x) ++ q))))) ≡ (h ++ (m ++ (g ++ (i ++ (s ++ (c ++ p)))))) ++ x
behind_choices h m g i s c x p q ep eq = rw (ep, eq) (simp (append_assoc, append-nil) refl)

no_prints_text : (name : ℕ → List ℕ) (ps : List ℕ) → ps ≡ [] → prints_text name ps ≡ []
no_prints_text name ps e = rw e refl

-- the text of a choice text so far
steps_none : (past : Past) (bs cs : List Buffer) → past.steps ≡ []
    → steps_text past.groups bs past.steps past.on ≡ steps_text past.groups cs past.steps past.on
steps_none past bs cs e = rw e refl

inputs_none : (past : Past) (bs cs : List Buffer) → past.inputs ≡ 0
    → inputs_text past.ranks (take past.inputs bs) past.given ≡ inputs_text past.ranks (take past.inputs cs) past.given
inputs_none past bs cs e = rw e refl

choice_body : (past : Past) → AtChoices past → past.prints ≡ [] → (kind : ChoiceKind) (name : List ℕ)
    → let after : Past = record past {
      stage = Choosing;
      buffers = past.buffers ++ choice_buffer past.ranks name ∷ [];
      choices = past.choices ++ choice_step kind name ∷ [];
    } in body after ≡ body past ++ line (form_words (choice kind name))
choice_body past a none kind name =
    let bs = past.buffers ++ choice_buffer past.ranks name ∷ [] in
    let q = prints_text (name_at bs) past.prints in
    let all : List ℕ = choices_text (past.choices ++ choice_step kind name ∷ []) ++ q in
    ap (λ (x : List ℕ). head_text past.version past.ranks
    ++ (remote_text past.remote ++ (groups_text past.groups ++ (x ++ (steps_text past.groups bs past.steps past.on ++ all)))))
    (inputs_none past bs past.buffers a.no_inputs)
    ∙ ap (λ (x : List ℕ). head_text past.version past.ranks
    ++ (remote_text past.remote
    ++ (groups_text past.groups ++ (inputs_text past.ranks (take past.inputs past.buffers) past.given ++ (x ++ all)))))
    (steps_none past bs past.buffers a.no_steps)
    ∙ ap (λ (x : List ℕ). head_text past.version past.ranks
    ++ (remote_text past.remote
    ++ (groups_text past.groups
    ++ (inputs_text past.ranks (take past.inputs past.buffers) past.given
    ++ (steps_text past.groups past.buffers past.steps past.on ++ (x ++ q))))))
    (flat_map-append (λ c. line (choice_words c)) past.choices (choice_step kind name ∷ [])
    ∙ ap (λ (x : List ℕ). choices_text past.choices ++ x)
    (append-nil (line (choice_words (choice_step kind name))) ∙ ap line (choice_written kind name)))
    ∙ behind_choices (head_text past.version past.ranks) (remote_text past.remote) (groups_text past.groups)
    (inputs_text past.ranks (take past.inputs past.buffers) past.given) (steps_text past.groups past.buffers past.steps past.on)
    (choices_text past.choices) (line (form_words (choice kind name)))
    (prints_text (name_at past.buffers) past.prints) q (no_prints_text (name_at past.buffers) past.prints none)
    (no_prints_text (name_at bs) past.prints none)

-- a further choice step
pub choice_goes : (past next : Past) (kind : ChoiceKind) (name : List ℕ) → AtChoices past → past.prints ≡ [] → is_name name ≡ true
    → choice_line past kind name ≡ Ok next
    → Goes (λ p. (AtChosen p × (p.prints ≡ [])) × (p.stage ≡ Choosing)) (body past) next (line (form_words (choice kind name)))
unfolding choice_line
choice_goes past next kind name a none named h =
    let t = passed (is_taken past name) NameTaken _ next h in
    let full = passed (nat_le MOST_STEPS (length past.choices) || nat_le MOST_BUFFERS (length past.buffers)) TooMany _ next t.1 in
    let two = some_split (nat_le MOST_STEPS (length past.choices)) (nat_le MOST_BUFFERS (length past.buffers)) full.0 in
    let c = choice_step kind name in
    let after : Past = record past {
      stage = Choosing;
      buffers = past.buffers ++ choice_buffer past.ranks name ∷ [];
      choices = past.choices ++ c ∷ [];
    } in
    let l = longer past.choices c in
    let room_left = room MOST_STEPS (length past.choices) two.0 in
    let names_more : map choice_name (past.choices ++ c ∷ []) ≡ map choice_name past.choices ++ name ∷ [] =
    map_more choice_name past.choices c ∙ ap (λ (x : List ℕ). map choice_name past.choices ++ x ∷ []) (choice_named kind name) in
    let new : In name (map choice_name past.choices) → ⊥ =
    λ k. not_there (λ (b : Buffer). b.name) past.buffers no_buffer name
    (untaken (is_some (group_number past.groups name)) (is_some (buffer_number past.buffers name)) t.0).1
    (subst (In name) (sym (ap (map (λ (b : Buffer). b.name)) a.made ∙ names_made past.ranks past.choices)) k) in
    subst (λ p. Goes (λ p. (AtChosen p × (p.prints ≡ [])) × (p.stage ≡ Choosing)) (body past) p (line (form_words (choice kind name))))
    (ok_is after next full.1) (record {
      holds = (
        (
          record {
            some = omega (arith, l);
            choices = record {
              version = a.version;
              some_ranks = a.some_ranks;
              few_ranks = a.few_ranks;
              no_remote = a.no_remote;
              no_groups = a.no_groups;
              no_inputs = a.no_inputs;
              no_given = a.no_given;
              no_steps = a.no_steps;
              no_on = a.no_on;
              at_most = omega (arith, l, room_left);
              made = ap (λ (bs : List Buffer). bs ++ choice_buffer past.ranks name ∷ []) a.made
                  ∙ ap (λ (n : List ℕ). map (choice_made past.ranks) past.choices ++ choice_buffer past.ranks n ∷ [])
                  (sym (choice_named kind name))
                  ∙ sym (map_more (choice_made past.ranks) past.choices c);
              spelled = λ x i. spelled_too (map choice_name past.choices) x a.spelled (subst (In x) names_more i);
              distinct = subst Distinct (sym names_more)
                  (apart_too name (map choice_name past.choices) []
                  (subst Distinct (sym (append-nil (map choice_name past.choices))) a.distinct)
                  (λ k. new (subst (In name) (append-nil (map choice_name past.choices)) k)));
              few_prints = a.few_prints;
              printed = λ i k. none_there past.prints none i k;
            };
          },
          none,
        ),
        refl,
      );
      written_is = choice_body past a none kind name;
    })
  where
    spelled_too : (xs : List (List ℕ)) (x : List ℕ) → ((x : List ℕ) → In x xs → is_name x ≡ true) → In x (xs ++ name ∷ [])
        → is_name x ≡ true
    spelled_too xs x h i = go (in_either x xs (name ∷ []) i)
      where
        go : In x xs ⊎ In x (name ∷ []) → is_name x ≡ true
        go (inl k) = h x k
        go (inr (inl e)) = subst (λ v. is_name v ≡ true) e named
        go (inr (inr k)) = absurd k

-- a print of a choice text
behind_end : (h m g i s c p x : List ℕ)
    → h ++ (m ++ (g ++ (i ++ (s ++ (c ++ (p ++ x)))))) ≡ (h ++ (m ++ (g ++ (i ++ (s ++ (c ++ p)))))) ++ x
behind_end h m g i s c p x = simp append_assoc

choice_print_goes : (past next : Past) (name : List ℕ) → AtChosen past → print_line past name ≡ Ok next
    → Goes (λ p. AtChosen p × (p.stage ≡ Prints)) (body past) next (line (form_words (print name)))
unfolding print_line
choice_print_goes past next name chosen h =
    let a = chosen.choices in
    let from = some_of UnknownBuffer (buffer_named past.buffers name) _ next h in
    let full = passed (nat_le MOST_PRINTS (length past.prints)) TooMany _ next from.2 in
    let large = passed (nat_lt MOST_ELEMENTS (past.printed + elements_of from.0.1)) TooLarge _ next full.1 in
    let is = found past.buffers name from.0 from.1 in
    let i = from.0.0 in
    let l = longer past.prints i in
    let room_left = room MOST_PRINTS (length past.prints) full.0 in
    let there = is.there in
    let many = ap length a.made ∙ long_map (choice_made past.ranks) past.choices in
    let after : Past = record past { stage = Prints; prints = past.prints ++ i ∷ []; printed = past.printed + elements_of from.0.1 } in
    subst (λ p. Goes (λ p. AtChosen p × (p.stage ≡ Prints)) (body past) p (line (form_words (print name)))) (ok_is after next large.1)
    (record {
      holds = (
        record {
          some = chosen.some;
          choices = record {
            version = a.version;
            some_ranks = a.some_ranks;
            few_ranks = a.few_ranks;
            no_remote = a.no_remote;
            no_groups = a.no_groups;
            no_inputs = a.no_inputs;
            no_given = a.no_given;
            no_steps = a.no_steps;
            no_on = a.no_on;
            at_most = a.at_most;
            made = a.made;
            spelled = a.spelled;
            distinct = a.distinct;
            few_prints = omega (arith, l, room_left);
            printed = each_more (λ b. b < length past.choices) past.prints i 0 a.printed (omega (arith, there, many));
          };
        },
        refl,
      );
      written_is =
          ap (λ (x : List ℕ). head_text past.version past.ranks
          ++ (remote_text past.remote
          ++ (groups_text past.groups
          ++ (inputs_text past.ranks (take past.inputs past.buffers) past.given
          ++ (steps_text past.groups past.buffers past.steps past.on ++ (choices_text past.choices ++ x))))))
          (flat_map-append (λ i. line (codes "print" ∷ name_at past.buffers i ∷ [])) past.prints (i ∷ [])
          ∙ ap (λ (x : List ℕ). prints_text (name_at past.buffers) past.prints ++ x)
          (append-nil (line (codes "print" ∷ name_at past.buffers i ∷ []))))
          ∙ behind_end (head_text past.version past.ranks) (remote_text past.remote) (groups_text past.groups)
          (inputs_text past.ranks (take past.inputs past.buffers) past.given) (steps_text past.groups past.buffers past.steps past.on)
          (choices_text past.choices) (prints_text (name_at past.buffers) past.prints) (line (codes "print" ∷ name_at past.buffers i ∷ []))
          ∙ ap (λ (x : List ℕ). body past ++ line (codes "print" ∷ x ∷ [])) is.named;
    })

-- ---- what holds by the stage that the lines lead to
abbrev pub AtEnd : Past → Type 0
AtEnd past = AtPrints past ⊎ AtChosen past

pub record AtOptions (past : Past) : Type 0 where
  pub groups : AtGroups past
  pub no_groups : past.groups ≡ []
  pub plain : past.remote ≡ false

pub record AtHeader (stage : Stage) (past : Past) : Type 0 where
  pub is : past ≡ record nothing { stage = stage; version = past.version }

abbrev pub Sound : Stage → Past → Type 0
Sound Header past = AtHeader Header past
Sound Ranks past = AtHeader Ranks past
Sound Options past = AtOptions past
Sound Groups past = AtGroups past
Sound Inputs past = AtInputs past
Sound (Data left ty count) past = AtData past left ty count
Sound Steps past = AtSteps past
Sound Choosing past = AtChosen past × (past.prints ≡ [])
Sound Prints past = AtEnd past
Sound Finished past = AtEnd past

abbrev pub written : Stage → Past → List ℕ
written Header past = []
written Ranks past = line (codes "coll" ∷ version_word past.version ∷ [])
written Options past = body past
written Groups past = body past
written Inputs past = body past
written (Data left ty count) past = body past
written Steps past = body past
written Choosing past = body past
written Prints past = body past
written Finished past = body past ++ line (codes "end" ∷ [])

-- a line more
pub record Leads (before : List ℕ) (next : Past) (x : List ℕ) : Type 0 where
  pub sound : Sound next.stage next
  pub written_is : written next.stage next ≡ before ++ x

-- to a stage where all is written
pub leads_to : (At : Past → Type 0) (stage : Stage) (before : List ℕ) (next : Past) (x : List ℕ) → ((p : Past) → At p → Sound stage p)
    → ((p : Past) → written stage p ≡ body p) → next.stage ≡ stage
    → Goes At before next x → Leads before next x
leads_to At stage before next x sound whole is g = record {
  sound = subst (λ s. Sound s next) (sym is) (sound next g.holds);
  written_is = subst (λ s. written s next ≡ before ++ x) (sym is) (whole next ∙ g.written_is);
}

-- the stage after an input line or a data line
pub at_due : (left : ℕ) (ty : ElemType) (count : ℕ) (p : Past) → Given left ty count p → Sound (data_due left ty count) p
at_due zero ty count p g = g.done refl
at_due (suc left) ty count p g = g.more (omega arith)

pub due_written : (left : ℕ) (ty : ElemType) (count : ℕ) (p : Past) → written (data_due left ty count) p ≡ body p
due_written zero ty count p = refl
due_written (suc left) ty count p = refl

-- ---- lines by where they stand
never : {A : Type 0} → false ≡ true → A
never e = absurd (clash e)
  where
    clash : false ≡ true → ⊥
    clash e = cc

end_goes : (past next : Past) → AtEnd past → form_line past last ≡ Ok next → Leads (body past) next (line (form_words last))
unfolding form_line
end_goes past next a h =
    subst (λ p. Leads (body past) p (line (form_words last))) (ok_is (record past { stage = Finished }) next h)
    (record { sound = finished a; written_is = refl })
  where
    finished : AtEnd past → AtEnd (record past { stage = Finished })
    finished (inl p) = inl (record { facts = p.facts; filled = p.filled; no_choices = p.no_choices; counted = p.counted })
    finished (inr d) = let c = d.choices in
        inr (record {
          some = d.some;
          choices = record {
            version = c.version;
            some_ranks = c.some_ranks;
            few_ranks = c.few_ranks;
            no_remote = c.no_remote;
            no_groups = c.no_groups;
            no_inputs = c.no_inputs;
            no_given = c.no_given;
            no_steps = c.no_steps;
            no_on = c.no_on;
            at_most = c.at_most;
            made = c.made;
            spelled = c.spelled;
            distinct = c.distinct;
            few_prints = c.few_prints;
            printed = c.printed;
          };
        })

printed_line : (past next : Past) (name : List ℕ) → AtEnd past → form_line past (print name) ≡ Ok next
    → Leads (body past) next (line (form_words (print name)))
unfolding form_line
printed_line past next name (inl a) h =
    let g = print_goes past next name a h in
    leads_to (λ p. AtPrints p × (p.stage ≡ Prints)) Prints (body past) next (line (form_words (print name))) (λ p q. inl q.0) (λ p. refl)
    g.holds.1 g
printed_line past next name (inr a) h =
    let g = choice_print_goes past next name a h in
    leads_to (λ p. AtChosen p × (p.stage ≡ Prints)) Prints (body past) next (line (form_words (print name))) (λ p q. inr q.0) (λ p. refl)
    g.holds.1 g

-- where prints may stand
pub prints_go : (past next : Past) (form : Form) → AtEnd past → stands_at Prints form ≡ true → form_line past form ≡ Ok next
    → Leads (body past) next (line (form_words form))
prints_go past next complete a m h = never m
prints_go past next (group name members) a m h = never m
prints_go past next (input name ty count) a m h = never m
prints_go past next (step on w) a m h = never m
prints_go past next (choice kind name) a m h = never m
prints_go past next (print name) a m h = printed_line past next name a h
prints_go past next last a m h = end_goes past next a h

-- where choice steps may stand
pub chosen_go : (past next : Past) (kind : ChoiceKind) (name : List ℕ) → AtChoices past → past.prints ≡ [] → is_name name ≡ true
    → form_line past (choice kind name) ≡ Ok next → Leads (body past) next (line (form_words (choice kind name)))
unfolding form_line
chosen_go past next kind name a none named h =
    let g = choice_goes past next kind name a none named h in
    leads_to (λ p. (AtChosen p × (p.prints ≡ [])) × (p.stage ≡ Choosing)) Choosing (body past) next (line (form_words (choice kind name)))
    (λ p q. q.0) (λ p. refl) g.holds.1 g

pub choosing_go : (past next : Past) (form : Form) → AtChosen past → past.prints ≡ [] → Fits form → stands_at Choosing form ≡ true
    → form_line past form ≡ Ok next → Leads (body past) next (line (form_words form))
choosing_go past next complete a none fits m h = never m
choosing_go past next (group name members) a none fits m h = never m
choosing_go past next (input name ty count) a none fits m h = never m
choosing_go past next (step on w) a none fits m h = never m
choosing_go past next (choice kind name) a none fits m h = chosen_go past next kind name a.choices none fits h
choosing_go past next (print name) a none fits m h = printed_line past next name (inr a) h
choosing_go past next last a none fits m h = end_goes past next (inr a) h

-- where steps may stand
at_prints : (past : Past) → AtSteps past → AtPrints past
at_prints past a = record {
  facts = a.facts;
  filled = a.filled;
  no_choices = a.no_choices;
  counted = a.none_printed
      ∙ sym (ap (λ (ps : List ℕ). printed_elements (record (outline past) { prints = ps })) a.no_prints);
}

stepped : (past next : Past) (on : Option (List ℕ)) (w : StepWords) → AtSteps past → Takes w
    → stands_in (form_since (step on w)) past.version ≡ true → form_line past (step on w) ≡ Ok next
    → Leads (body past) next (line (form_words (step on w)))
unfolding form_line
stepped past next on w a fits v h =
    let g = step_goes past next on w (few_of past.version past.ranks a.facts.few_ranks) a fits v h in
    leads_to (λ p. AtSteps p × (p.stage ≡ Steps)) Steps (body past) next (line (form_words (step on w))) (λ p q. q.0) (λ p. refl) g.holds.1
    g

pub steps_go : (past next : Past) (form : Form) → AtSteps past → Fits form → stands_in (form_since form) past.version ≡ true
    → stands_at Steps form ≡ true → form_line past form ≡ Ok next → Leads (body past) next (line (form_words form))
steps_go past next complete a fits v m h = never m
steps_go past next (group name members) a fits v m h = never m
steps_go past next (input name ty count) a fits v m h = never m
steps_go past next (step on w) a fits v m h = stepped past next on w a fits v h
steps_go past next (choice kind name) a fits v m h = never m
steps_go past next (print name) a fits v m h = printed_line past next name (inl (at_prints past a)) h
steps_go past next last a fits v m h = end_goes past next (inl (at_prints past a)) h

-- where inputs may stand
at_steps : (past : Past) → AtInputs past → AtSteps past
at_steps past a = record {
  facts = a.early.facts;
  filled = subst (λ (bs : List Buffer). Filled past.ranks bs past.given) (sym (all_taken past.buffers past.inputs a.early.early.counted))
      a.filled;
  no_prints = a.early.early.no_prints;
  no_choices = a.early.no_choices;
  none_printed = a.early.none_printed;
}

input_line_goes : (past next : Past) (name : List ℕ) (ty : ElemType) (count : List ℕ) → AtInputs past → is_name name ≡ true
    → form_line past (input name ty count) ≡ Ok next → Leads (body past) next (line (form_words (input name ty count)))
unfolding form_line
input_line_goes past next name ty count a named h =
    let g = input_goes past next name ty count a named h in
    let n = g.0 in
    leads_to (λ p. (AtData p past.ranks ty n) × (p.stage ≡ data_due past.ranks ty n)) (data_due past.ranks ty n) (body past) next
    (line (form_words (input name ty count)))
    (λ p q. at_due past.ranks ty n p
    (record { stage_is = q.1; more = λ due. q.0; done = λ e. absurd (none past.ranks a.early.facts.some_rank e) }))
    (due_written past.ranks ty n) g.1.holds.1 g.1
  where
    none : (n : ℕ) → 1 ≤ n → n ≡ 0 → ⊥
    none n le e = omega arith

pub inputs_go : (past next : Past) (form : Form) → AtInputs past → Fits form → stands_in (form_since form) past.version ≡ true
    → stands_at Inputs form ≡ true → form_line past form ≡ Ok next → Leads (body past) next (line (form_words form))
inputs_go past next complete a fits v m h = never m
inputs_go past next (group name members) a fits v m h = never m
inputs_go past next (input name ty count) a fits v m h = input_line_goes past next name ty count a fits h
inputs_go past next (step on w) a fits v m h = steps_go past next (step on w) (at_steps past a) fits v refl h
inputs_go past next (choice kind name) a fits v m h = never m
inputs_go past next (print name) a fits v m h = steps_go past next (print name) (at_steps past a) fits v refl h
inputs_go past next last a fits v m h = steps_go past next last (at_steps past a) fits v refl h

-- where groups may stand
stands_two : (v : Version) → stands_in Two v ≡ true → StandsIn Two v
stands_two One h = cc
stands_two Two h = tt

group_line_goes : (past next : Past) (name : List ℕ) (members : List (List ℕ)) → AtGroups past → is_name name ≡ true
    → stands_in Two past.version ≡ true → form_line past (group name members) ≡ Ok next
    → Leads (body past) next (line (form_words (group name members)))
unfolding form_line
group_line_goes past next name members a named v h =
    let g = group_goes past next name members (few_of past.version past.ranks a.inputs.early.facts.few_ranks) a (stands_two past.version v)
    named h in
    leads_to (λ p. AtGroups p × (p.stage ≡ Groups)) Groups (body past) next (line (form_words (group name members))) (λ p q. q.0)
    (λ p. refl) g.holds.1 g

pub groups_go : (past next : Past) (form : Form) → AtGroups past → Fits form → stands_in (form_since form) past.version ≡ true
    → stands_at Groups form ≡ true → form_line past form ≡ Ok next → Leads (body past) next (line (form_words form))
groups_go past next complete a fits v m h = never m
groups_go past next (group name members) a fits v m h = group_line_goes past next name members a fits v h
groups_go past next (input name ty count) a fits v m h = inputs_go past next (input name ty count) a.inputs fits v refl h
groups_go past next (step on w) a fits v m h = inputs_go past next (step on w) a.inputs fits v refl h
groups_go past next (choice kind name) a fits v m h = never m
groups_go past next (print name) a fits v m h = inputs_go past next (print name) a.inputs fits v refl h
groups_go past next last a fits v m h = inputs_go past next last a.inputs fits v refl h
