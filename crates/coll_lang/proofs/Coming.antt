-- What a text that is read comes to: its description is readable, and the text is its one spelling.
use Rattle.std.proofs.Common.{◌≡◌, ℕ, zero, suc, ◌*◌, ◌<◌, ◌≤◌, List, [], ◌∷◌, ◌++◌, length, map, take, drop, get_or, Result, Ok, Err, Bool}
use Rattle.std.proofs.Common.{true, false, cond, refl, sym, ap, ◌∙◌, arith, codes, subst, append_assoc, inl, inr}
use Rattle.std.specs.Prelude.{nat_lt, IfOk}
use Rattle.std.proofs.lemmas.List.Splits.{join_with_byte-slice_split}
use Rattle.std.proofs.lemmas.List.{get_or-take, length-take-le}
use Rattle.coll_text.specs.Text.{lines, line, is_name}
use Rattle.coll_shape.specs.declared.types.Version.TheVariants.{Two}
use Rattle.coll_shape.specs.declared.types.Buffer.{Buffer}
use Rattle.coll_shape.specs.Rows.{in_rows}
use Rattle.coll_shape.specs.Outline.{Outline, no_buffer, list_bytes}
use Rattle.coll_shape.specs.WellFormed.{most_ranks}
use Rattle.coll_shape.specs.Meaning.{AreInputs}
use Rattle.coll_shape.proofs.Rows.{rows-many, rows-joined, row-long}
use Rattle.coll_shape.specs.declared.limits.TheConstants.{MOST_RANKS}
use Rattle.coll_lang.specs.Program.{Chosen, Program}
use Rattle.coll_lang.specs.Language.{Past, nothing, plain, chosen, described_by, described, program_in, read_from, read}
use Rattle.coll_lang.specs.Spelling.{head_text, remote_text, groups_text, inputs_text, steps_text, choices_text, prints_text, name_at}
use Rattle.coll_lang.specs.Spelling.{choice_name, no_choice, text}
use Rattle.coll_lang.specs.Readable.{AreChoices, IsReadable}
use Rattle.coll_lang.specs.declared.choices.ChoiceStep.{ChoiceStep}
use Rattle.coll_lang.specs.declared.stage.Stage.{Stage}
use Rattle.coll_lang.specs.declared.fault.Refusal.{Refusal}
use Rattle.coll_lang.specs.declared.fault.Refusal.TheVariants.{TooLong}
use Rattle.coll_lang.specs.Verdicts.{Reads}
use Rattle.coll_lang.specs.declared.fault.ParseFault.{ParseFault}
use Rattle.coll_lang.proofs.InputLists.{IsListOf, Filled, lists_of_all}
use Rattle.coll_lang.proofs.Facts.{Facts, formed, made_most, apart, in_at}
use Rattle.coll_lang.proofs.Lines.{bare_facts}
use Rattle.coll_lang.proofs.Sound.{outline, body, AtPrints, not_above}
use Rattle.coll_lang.proofs.AllLines.{choice_made, long_map, AtChoices, AtChosen, AtEnd, Sound, written}
use Rattle.coll_lang.proofs.WholeText.{all_go, accepted, finished_is}
use Rattle.coll_lang.specs.declared.whole.TheConstants.{LONGEST_TEXT}

-- ---- the lists of the inputs by rows
rows_filled : (ranks : ℕ) (bs : List Buffer) (lists : List (List ℕ)) → Filled ranks bs lists → (b r : ℕ) → b < length bs → r < ranks
    → IsListOf (get_or bs b no_buffer) (get_or (get_or (in_rows ranks (length bs) lists) b []) r [])
rows_filled ranks [] lists h b r l k = absurd (omega arith)
rows_filled ranks (c ∷ bs) lists h zero r l k = h.1 r [] (let e = length-take-le ranks lists h.0 in omega (arith, e, k))
rows_filled ranks (c ∷ bs) lists h (suc b) r l k = rows_filled ranks bs (drop ranks lists) h.2 b r (omega (arith, l)) k

inputs_are : (past : Past) → Facts (outline past) → Filled past.ranks (take past.inputs past.buffers) past.given
    → AreInputs (outline past) (in_rows past.ranks past.inputs past.given)
inputs_are past f h = record {
  many = rows-many past.ranks past.inputs past.given;
  ranks = λ b l. row-long past.ranks past.inputs b past.given all_there l;
  long = λ b r l k. subst (λ (x : Buffer). length (at_row b r) ≡ list_bytes x) (same b l) (rowed b r l k).whole;
  bytes = λ b r l k. (rowed b r l k).bytes;
}
  where
    at_most : past.inputs ≤ length past.buffers
    at_most = subst (λ n. past.inputs ≤ n) f.all (made_most (outline past) 0 (length past.steps) (omega arith))

    count : length (take past.inputs past.buffers) ≡ past.inputs
    count = length-take-le past.inputs past.buffers at_most

    all_there : length past.given ≡ past.inputs * past.ranks
    all_there = lists_of_all past.ranks (take past.inputs past.buffers) past.given h ∙ ap (λ n. n * past.ranks) count

    at_row : ℕ → ℕ → List ℕ
    at_row b r = get_or (get_or (in_rows past.ranks past.inputs past.given) b []) r []

    same : (b : ℕ) → b < past.inputs → get_or (take past.inputs past.buffers) b no_buffer ≡ get_or past.buffers b no_buffer
    same b l = get_or-take past.inputs past.buffers b no_buffer l

    rowed : (b r : ℕ) → b < past.inputs → r < past.ranks → IsListOf (get_or (take past.inputs past.buffers) b no_buffer) (at_row b r)
    rowed b r l k =
        subst (λ n. IsListOf (get_or (take past.inputs past.buffers) b no_buffer)
        (get_or (get_or (in_rows past.ranks n past.given) b []) r [])) count
        (rows_filled past.ranks (take past.inputs past.buffers) past.given h b r (let c = count in omega (arith, c, l)) k)

-- ---- the text of what is said
pub all_given : (past : Past) → Facts (outline past) → Filled past.ranks (take past.inputs past.buffers) past.given
    → length past.given ≡ past.inputs * past.ranks
all_given past f h =
    let at_most = subst (λ n. past.inputs ≤ n) f.all (made_most (outline past) 0 (length past.steps) (omega arith)) in
    lists_of_all past.ranks (take past.inputs past.buffers) past.given h
    ∙ ap (λ n. n * past.ranks) (length-take-le past.inputs past.buffers at_most)

plain_end : (h m g i s c p e : List ℕ) → c ≡ []
    → h ++ (m ++ (g ++ (i ++ (s ++ (p ++ ([] ++ e)))))) ≡ (h ++ (m ++ (g ++ (i ++ (s ++ (c ++ p)))))) ++ e
plain_end h m g i s c p e ec = rw ec (simp append_assoc)

plain_text : (past : Past) → AtPrints past → text (plain past) ≡ body past ++ line (codes "end" ∷ [])
unfolding text
plain_text past a =
    let e = line (codes "end" ∷ []) in
    let rest : List ℕ = steps_text past.groups past.buffers past.steps past.on
    ++ (prints_text (name_at past.buffers) past.prints ++ ([] ++ e)) in
    ap (λ (x : List (List ℕ)). head_text past.version past.ranks
    ++ (remote_text past.remote ++ (groups_text past.groups ++ (inputs_text past.ranks (take past.inputs past.buffers) x ++ rest))))
    (rows-joined past.ranks past.inputs past.given (all_given past a.facts a.filled))
    ∙ plain_end (head_text past.version past.ranks) (remote_text past.remote) (groups_text past.groups)
    (inputs_text past.ranks (take past.inputs past.buffers) past.given) (steps_text past.groups past.buffers past.steps past.on)
    (choices_text past.choices) (prints_text (name_at past.buffers) past.prints) e (ap choices_text a.no_choices)

pub prints_alike : (f g : ℕ → List ℕ) (ps : List ℕ) → ((i : ℕ) → i < length ps → f (get_or ps i 0) ≡ g (get_or ps i 0))
    → prints_text f ps ≡ prints_text g ps
prints_alike f g [] h = refl
prints_alike f g (p ∷ ps) h =
    ap (λ (x : List ℕ). line (codes "print" ∷ x ∷ []) ++ prints_text f ps) (h 0 (omega arith))
    ∙ ap (λ (x : List ℕ). line (codes "print" ∷ g p ∷ []) ++ x) (prints_alike f g ps (λ i l. h (suc i) (omega (arith, l))))

pub name_made : (ranks : ℕ) (cs : List ChoiceStep) (i : ℕ) → i < length cs
    → name_at (map (choice_made ranks) cs) i ≡ choice_name (get_or cs i no_choice)
name_made ranks [] i l = absurd (omega arith)
name_made ranks (c ∷ cs) zero l = refl
name_made ranks (c ∷ cs) (suc i) l = name_made ranks cs i (omega (arith, l))

choices_of : Past → Chosen
choices_of past = record { steps = past.choices; prints = past.prints }

chosen_end : (h m g i s c p q e : List ℕ) → m ≡ [] → g ≡ [] → i ≡ [] → s ≡ [] → p ≡ q
    → h ++ ([] ++ ([] ++ ([] ++ ([] ++ ([] ++ ((c ++ q) ++ e)))))) ≡ (h ++ (m ++ (g ++ (i ++ (s ++ (c ++ p)))))) ++ e
chosen_end h m g i s c p q e em eg ei es ep = rw (em, eg, ei, es, ep) (simp append_assoc)

no_inputs_text : (ranks inputs : ℕ) (bs : List Buffer) (given : List (List ℕ)) → inputs ≡ 0 → inputs_text ranks (take inputs bs) given ≡ []
no_inputs_text ranks inputs bs given e = rw e refl

no_steps_text : (past : Past) → past.steps ≡ [] → steps_text past.groups past.buffers past.steps past.on ≡ []
no_steps_text past e = rw e refl

choice_text : (past : Past) → AtChoices past
    → text (chosen past.version past.ranks (record { steps = past.choices; prints = past.prints })) ≡ body past ++ line (codes "end" ∷ [])
unfolding text
choice_text past a =
    chosen_end (head_text past.version past.ranks) (remote_text past.remote) (groups_text past.groups)
    (inputs_text past.ranks (take past.inputs past.buffers) past.given) (steps_text past.groups past.buffers past.steps past.on)
    (choices_text past.choices)
    (prints_text (name_at past.buffers) past.prints) (prints_text (λ i. choice_name (get_or past.choices i no_choice)) past.prints)
    (line (codes "end" ∷ []))
    (ap remote_text a.no_remote) (ap groups_text a.no_groups) (no_inputs_text past.ranks past.inputs past.buffers past.given a.no_inputs)
    (no_steps_text past a.no_steps)
    (prints_alike (name_at past.buffers) (λ i. choice_name (get_or past.choices i no_choice)) past.prints
    (λ i l. ap (λ (bs : List Buffer). name_at bs (get_or past.prints i 0)) a.made
    ∙ name_made past.ranks past.choices (get_or past.prints i 0) (a.printed i l)))

-- ---- so it is readable
pub described_plain : (past : Past) → past.choices ≡ [] → described past ≡ plain past
unfolding described
described_plain past e = ap (described_by past) e

pub described_chosen : (past : Past) → 1 ≤ length past.choices
    → described past ≡ chosen past.version past.ranks (record { steps = past.choices; prints = past.prints })
unfolding described
described_chosen past some = go past.choices some
  where
    go : (cs : List ChoiceStep) → 1 ≤ length cs
        → described_by past cs ≡ chosen past.version past.ranks (record { steps = cs; prints = past.prints })
    go [] some = absurd (omega (arith, some))
    go (c ∷ cs) some = refl

pub text_is : (past : Past) → AtEnd past → text (described past) ≡ body past ++ line (codes "end" ∷ [])
text_is past (inl a) = ap text (described_plain past a.no_choices) ∙ plain_text past a
text_is past (inr a) = ap text (described_chosen past a.some) ∙ choice_text past a.choices

at_name : (cs : List ChoiceStep) (i : ℕ) → i < length cs → get_or (map choice_name cs) i [] ≡ choice_name (get_or cs i no_choice)
at_name [] i l = absurd (omega arith)
at_name (c ∷ cs) zero l = refl
at_name (c ∷ cs) (suc i) l = at_name cs i (omega (arith, l))

choices_are : (past : Past) → AtChosen past → AreChoices (record { steps = past.choices; prints = past.prints })
choices_are past d =
    let a = d.choices in
    let m = long_map choice_name past.choices in
    record {
      some = d.some;
      at_most = a.at_most;
      few_prints = a.few_prints;
      spelled = λ i l. subst (λ (x : List ℕ). is_name x ≡ true) (at_name past.choices i l)
          (a.spelled (get_or (map choice_name past.choices) i []) (in_at (map choice_name past.choices) i [] (omega (arith, l, m))));
      distinct = λ i j li lj e. apart (map choice_name past.choices) [] a.distinct i j (omega (arith, li, m)) (omega (arith, lj, m))
          (at_name past.choices i li ∙ (e ∙ sym (at_name past.choices j lj)));
      printed = a.printed;
    }

few_two : (n : ℕ) → n ≤ MOST_RANKS → n ≤ most_ranks Two
few_two n l = l

no_inputs : (o : Outline) → o.inputs ≡ 0 → AreInputs o []
no_inputs o e = record {
  many = sym e;
  ranks = λ b l. absurd (none b l);
  long = λ b r l k. absurd (none b l);
  bytes = λ b r l k. absurd (none b l);
}
  where
    none : (b : ℕ) → b < o.inputs → ⊥
    none b l = omega (arith, l, e)

pub readable_at : (past : Past) → AtEnd past → length (text (described past)) ≤ LONGEST_TEXT → IsReadable (described past)
readable_at past (inl a) short =
    let e = described_plain past a.no_choices in
    subst IsReadable (sym e) (record {
      formed = formed (outline past) a.facts;
      given = inputs_are past a.facts a.filled;
      choices = tt;
      short = subst (λ (d : Program). length (text d) ≤ LONGEST_TEXT) e short;
    })
readable_at past (inr d) short =
    let a = d.choices in
    let c : Chosen = record { steps = past.choices; prints = past.prints } in
    let e = described_chosen past d.some ∙ ap (λ v. chosen v past.ranks c) a.version in
    subst IsReadable (sym e) (record {
      formed = formed (chosen Two past.ranks c).shape (bare_facts Two past.ranks a.some_ranks (few_two past.ranks a.few_ranks));
      given = no_inputs (chosen Two past.ranks c).shape refl;
      choices = (
        choices_are past d,
        record { version = refl; remote = refl; groups = refl; buffers = refl; inputs = refl; steps = refl; on = refl; prints = refl },
      );
      short = subst (λ (d : Program). length (text d) ≤ LONGEST_TEXT) e short;
    })

-- ---- a text that is read
pub record Whole (bytes : List ℕ) (final : Past) : Type 0 where
  pub at_end : AtEnd final
  pub spelled : bytes ≡ text (described final)

pub whole : (bytes : List ℕ) (final : Past) → read_from nothing 1 (lines bytes) ≡ Ok final → Whole bytes final
whole bytes final h =
    let e = all_go nothing final 1 (lines bytes) (record { is = refl }) h in
    let done = finished_is final.stage e.done in
    let at_end : AtEnd final = subst (λ s. Sound s final) done e.sound in
    record {
      at_end = at_end;
      spelled = sym (join_with_byte-slice_split 10 bytes)
          ∙ (sym e.written_is ∙ (ap (λ (s : Stage). written s final) done ∙ sym (text_is final at_end)));
    }

described_in : (r : Result Past (ℕ × Refusal)) (d : Program) → program_in r ≡ Ok d
    → (final : Past) × (r ≡ accepted final) × (described final ≡ d)
described_in (Ok final) d h = (final, refl, same_d (described final) d h)
  where
    same_d : (x y : Program) → program_in (Ok final) ≡ Ok d → described final ≡ d
    same_d x y h = cc
described_in (Err e) d h = cc

unlimited : (b : Bool) (e : ℕ × Refusal) (r : Result Program (ℕ × Refusal)) (d : Program) → cond b (Err e) r ≡ Ok d
    → (b ≡ false) × (r ≡ Ok d)
unlimited true e r d h = cc
unlimited false e r d h = (refl, h)

-- what is read is readable, from its one spelling
pub record Comes (bytes : List ℕ) (d : Program) : Type 0 where
  pub readable : IsReadable d
  pub spelled : bytes ≡ text d

pub comes : (bytes : List ℕ) (d : Program) → read bytes ≡ Ok d → Comes bytes d
unfolding read
comes bytes d h =
    let limit = unlimited (nat_lt LONGEST_TEXT (length bytes)) (0, TooLong) (program_in (read_from nothing 1 (lines bytes))) d h in
    let f = described_in (read_from nothing 1 (lines bytes)) d limit.1 in
    let w = whole bytes f.0 f.1 in
    let short = not_above LONGEST_TEXT (length bytes) limit.0 in
    let spelled : bytes ≡ text d = w.spelled ∙ ap text f.2 in
    record {
      readable = subst IsReadable f.2 (readable_at f.0 w.at_end (subst (λ (x : List ℕ). length x ≤ LONGEST_TEXT) w.spelled short));
      spelled = spelled;
    }

-- what `parse` needs of the lines that were read
pub record IsKept (past : Past) : Type 0 where
  pub readable : IsReadable (described past)
  pub lists : past.choices ≡ [] → length past.given ≡ past.inputs * past.ranks

pub kept : (bytes : List ℕ) (final : Past) → length bytes ≤ LONGEST_TEXT → read_from nothing 1 (lines bytes) ≡ Ok final → IsKept final
kept bytes final short h =
    let w = whole bytes final h in
    record {
      readable = readable_at final w.at_end (subst (λ (x : List ℕ). length x ≤ LONGEST_TEXT) w.spelled short);
      lists = lists_of w.at_end;
    }
  where
    lists_of : AtEnd final → final.choices ≡ [] → length final.given ≡ final.inputs * final.ranks
    lists_of (inl a) e = all_given final a.facts a.filled
    lists_of (inr d) e = absurd (none d.some)
      where
        none : 1 ≤ length final.choices → ⊥
        none some = let z = ap length e in omega (arith, some, z)

pub plain_is : (past : Past) → past.choices ≡ [] → IsReadable (described past) → IsReadable (plain past)
plain_is past e h = subst IsReadable (described_plain past e) h

pub chosen_is : (past : Past) → 1 ≤ length past.choices → IsReadable (described past)
    → IsReadable (chosen past.version past.ranks (record { steps = past.choices; prints = past.prints }))
chosen_is past some h = subst IsReadable (described_chosen past some) h

pub spelled_in : (bytes : List ℕ) (r : Result Program ParseFault) → Reads (λ d. d) r (read bytes) → IfOk r (λ d. bytes ≡ text d)
spelled_in bytes (Ok d) h = (comes bytes d h).spelled
spelled_in bytes (Err e) h = tt

pub readable_in : (bytes : List ℕ) (r : Result Program ParseFault) → Reads (λ d. d) r (read bytes) → IfOk r (λ d. IsReadable d)
readable_in bytes (Ok d) h = (comes bytes d h).readable
readable_in bytes (Err e) h = tt

-- so its choices are some
pub chosen_kept : (past : Past) → 1 ≤ length past.choices → IsReadable (described past)
    → AreChoices (record { steps = past.choices; prints = past.prints })
chosen_kept past some r =
    let c : Chosen = record { steps = past.choices; prints = past.prints } in
    let read : IsReadable (chosen past.version past.ranks c) = subst IsReadable (described_chosen past some) r in
    read.choices.0
