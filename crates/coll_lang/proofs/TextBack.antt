-- The text of a description that is no choice text is read as it.
use Rattle.std.proofs.Common.{◌≡◌, ℕ, ◌+◌, ◌<◌, ◌≤◌, List, [], ◌∷◌, ◌++◌, length, take, drop, get_or, None, Ok, refl, sym, ap, ◌∙◌, arith}
use Rattle.std.proofs.Common.{codes, subst}
use Rattle.std.specs.List.{AllByRecursion}
use Rattle.std.proofs.lemmas.List.{append-nil, get_or-take, get_or_default, length-take-le, take-append-drop}
use Rattle.std.proofs.lemmas.List.Elements.{recursion_from_All}
use Rattle.coll_text.specs.Text.{line, lines}
use Rattle.coll_shape.specs.declared.types.Buffer.{Buffer}
use Rattle.coll_shape.specs.Outline.{Outline, no_buffer}
use Rattle.coll_shape.specs.Rows.{joined}
use Rattle.coll_shape.specs.WellFormed.{IsWellFormed}
use Rattle.coll_shape.specs.Meaning.{AreInputs, Lists}
use Rattle.coll_shape.specs.declared.limits.TheConstants.{MOST_PRINTS, MOST_ELEMENTS}
use Rattle.coll_lang.specs.Program.{Program}
use Rattle.coll_lang.specs.Language.{Past, described, nothing, read, read_from}
use Rattle.coll_lang.specs.Spelling.{groups_text, head_text, inputs_text, name_at, prints_text, remote_text, steps_text, text}
use Rattle.coll_lang.specs.declared.stage.Stage.{Stage}
use Rattle.coll_lang.specs.declared.stage.Stage.TheVariants.{Finished, Groups, Inputs, Prints, Steps}
use Rattle.coll_lang.proofs.EarlyBack.{AreGroups, groups_led, head_leads, remote_led, start}
use Rattle.coll_lang.proofs.InputsBack.{IsInput, Parts, inputs_led}
use Rattle.coll_lang.proofs.Leaders.{Led, at, isnt_above, lead_then}
use Rattle.coll_lang.proofs.Leading.{Leads, Wider, groups_wider, inputs_wider, steps_wider, then}
use Rattle.coll_lang.proofs.NamesBack.{are_names}
use Rattle.coll_lang.proofs.PrintsBack.{ends, in_all, last_leads, prints_led}
use Rattle.coll_lang.proofs.RowsBack.{inputs_filled, rows_back}
use Rattle.coll_lang.proofs.StepsLed.{said, steps_led, unprinted}
use Rattle.coll_lang.specs.declared.whole.TheConstants.{LONGEST_TEXT}

-- what all lines say
abbrev all_said : Outline → Lists → Past
all_said o lists = record {
  stage = Finished;
  version = o.version;
  ranks = o.ranks;
  remote = o.remote;
  groups = o.groups;
  buffers = o.buffers;
  inputs = o.inputs;
  given = joined lists;
  steps = o.steps;
  on = o.on;
  choices = [];
  prints = o.prints;
  printed = 0 + in_all o.buffers o.prints;
}

abbrev inputs_of : Outline → List Buffer
inputs_of o = take o.inputs o.buffers

-- the texts from each kind of lines on
abbrev pub last_text : List ℕ
last_text = line (codes "end" ∷ [])

abbrev from_prints : Outline → List ℕ
from_prints o = prints_text (name_at o.buffers) o.prints ++ last_text

abbrev from_steps : Outline → List ℕ
from_steps o = steps_text o.groups o.buffers o.steps o.on ++ from_prints o

abbrev from_inputs : Outline → Lists → List ℕ
from_inputs o lists = inputs_text o.ranks (inputs_of o) (joined lists) ++ from_steps o

abbrev from_groups : Outline → Lists → List ℕ
from_groups o lists = groups_text o.groups ++ from_inputs o lists

abbrev from_remote : Outline → Lists → List ℕ
from_remote o lists = remote_text o.remote ++ from_groups o lists

-- ---- the last line
pub last_on : (past : Past) (s : Stage) → Wider s Prints → Leads (at s past) (at Finished past) last_text
last_on past s w = last_leads (at s past) w

-- ---- prints
prints_there : (o : Outline) → IsWellFormed o → AllByRecursion (λ i. i < length o.buffers) o.prints
prints_there o f = recursion_from_All (λ i. i < length o.buffers) o.prints
    (λ i d l. subst (λ n. n < length o.buffers) (get_or_default o.prints i 0 d l) (f.shape.printed i l))

pub none_more : (n m most : ℕ) → n ≡ 0 → m ≤ most → n + m ≤ most
none_more n m most e l = omega (arith, e, l)

prints_on : (o : Outline) (lists : Lists) → IsWellFormed o → (s : Stage) → Wider s Steps
    → Leads (at s (unprinted (all_said o lists))) (all_said o lists) (from_prints o)
prints_on o lists f s w =
    let all = all_said o lists in
    let n = are_names o f in
    let p : Parts o.groups o.buffers o.buffers [] = record { are = sym (append-nil o.buffers); distinct = n.distinct; apart = n.apart } in
    lead_then (at s (unprinted all)) (prints_text (name_at o.buffers) o.prints) last_text all all Prints
    (prints_led all p n.spelled s [] o.prints 0 (λ form h. w form (steps_wider form h)) (prints_there o f)
    (none_more 0 (length o.prints) MOST_PRINTS refl f.shape.few_prints)
    (none_more 0 (in_all o.buffers o.prints) MOST_ELEMENTS refl f.few_printed))
    (λ s w. last_on all s w)

-- ---- steps
steps_on : (o : Outline) (lists : Lists) → IsWellFormed o → (s : Stage) → Wider s Inputs
    → Leads (said (all_said o lists) s (inputs_of o) [] []) (all_said o lists) (from_steps o)
steps_on o lists f s w =
    let all = all_said o lists in
    let n = are_names o f in
    let own = inputs_of o in
    let p : Parts o.groups o.buffers own (drop o.inputs o.buffers) =
    record { are = sym (take-append-drop o.inputs o.buffers); distinct = n.distinct; apart = n.apart } in
    lead_then (said all s own [] []) (steps_text o.groups o.buffers o.steps o.on) (from_prints o) (unprinted all) all Steps
    (steps_led all f n s own (drop o.inputs o.buffers) [] o.steps [] o.on (λ form h. w form (inputs_wider form h)) refl refl refl
    f.shape.on_groups p
    (sym (length-take-le o.inputs o.buffers f.shape.few_inputs)))
    (λ s w. prints_on o lists f s w)

-- ---- inputs
are_inputs : (o : Outline) → IsWellFormed o → AllByRecursion (IsInput o.ranks) (inputs_of o)
are_inputs o f = recursion_from_All (IsInput o.ranks) (inputs_of o) each
  where
    count : length (inputs_of o) ≡ o.inputs
    count = length-take-le o.inputs o.buffers f.shape.few_inputs

    here : (b : ℕ) (d : Buffer) → b < length (inputs_of o) → get_or o.buffers b no_buffer ≡ get_or (inputs_of o) b d
    here b d l =
        sym (get_or-take o.inputs o.buffers b no_buffer (let c = count in omega (arith, c, l)))
        ∙ get_or_default (inputs_of o) b no_buffer d l

    each : (b : ℕ) (d : Buffer) → b < length (inputs_of o) → IsInput o.ranks (get_or (inputs_of o) b d)
    each b d l =
        let c = count in
        let at_most = f.shape.few_inputs in
        let lt : b < o.inputs = omega (arith, c, l) in
        subst (IsInput o.ranks) (here b d l)
        (record {
          held = f.held b lt;
          some = f.some b lt;
          small = f.short b lt;
          named = (are_names o f).spelled b (omega (arith, lt, at_most));
        })

-- before the inputs
abbrev with_groups : Outline → Lists → Past
with_groups o lists = record (all_said o lists) { buffers = []; inputs = 0; given = []; steps = []; on = []; prints = []; printed = 0 }

inputs_on : (o : Outline) (lists : Lists) → IsWellFormed o → AreInputs o lists → (s : Stage) → Wider s Groups
    → Leads (at s (with_groups o lists)) (all_said o lists) (from_inputs o lists)
inputs_on o lists f g s w =
    let all = all_said o lists in
    let base = with_groups o lists in
    let n = are_names o f in
    let own = inputs_of o in
    let rest = drop o.inputs o.buffers in
    let p : Parts o.groups o.buffers [] (own ++ rest) =
    record { are = sym (take-append-drop o.inputs o.buffers); distinct = n.distinct; apart = n.apart } in
    let count : 0 + length own ≡ o.inputs = from_none (length own) ∙ length-take-le o.inputs o.buffers f.shape.few_inputs in
    let wide : Wider s Inputs = λ form h. w form (groups_wider form h) in
    let led : Led (at s base) (inputs_text o.ranks own (joined lists)) (said all Finished own [] []) Inputs =
    subst (λ m. Led (at s base) (inputs_text o.ranks own (joined lists)) (record (said all Finished own [] []) { inputs = m }) Inputs) count
    (inputs_led base o.buffers f.shape.few_buffers s [] own rest 0 [] (joined lists) wide p (are_inputs o f) (inputs_filled o lists f g)) in
    lead_then (at s base) (inputs_text o.ranks own (joined lists)) (from_steps o) (said all Finished own [] []) all Inputs led
    (λ s w. steps_on o lists f s w)
  where
    from_none : (n : ℕ) → 0 + n ≡ n
    from_none n = omega arith

-- ---- groups
are_groups : (o : Outline) → IsWellFormed o → AreGroups o.ranks o.version o.groups
are_groups o f =
    let n = are_names o f in
    record {
      at_most = f.shape.few_groups;
      stands = f.version.groups;
      members = f.shape.named_members;
      spelled = n.groups_spelled;
      apart = n.groups_apart;
    }

groups_on : (o : Outline) (lists : Lists) → IsWellFormed o → AreInputs o lists → (s : Stage) → Wider s Groups
    → Leads (at s (record (start o.version o.ranks) { remote = o.remote })) (all_said o lists) (from_groups o lists)
groups_on o lists f g s w =
    let base : Past = record (start o.version o.ranks) { remote = o.remote } in
    let mid : Past = record base { groups = o.groups } in
    lead_then (at s base) (groups_text o.groups) (from_inputs o lists) mid (all_said o lists) Groups
    (groups_led base o.groups refl f.shape.few_ranks (are_groups o f) s w) (λ s w. inputs_on o lists f g s w)

-- ---- from the third line on
later_on : (o : Outline) (lists : Lists) → IsWellFormed o → AreInputs o lists
    → Leads (start o.version o.ranks) (all_said o lists) (from_remote o lists)
later_on o lists f g =
    lead_then (start o.version o.ranks) (remote_text o.remote) (from_groups o lists)
    (record (start o.version o.ranks) { remote = o.remote }) (all_said o lists) Groups
    (remote_led o.version o.ranks o.remote) (λ s w. groups_on o lists f g s w)

-- ---- the whole text
-- what a whole text leads to is what is read of it
pub whole_read : (bytes : List ℕ) (final : Past) (d : Program) → final.stage ≡ Finished → Leads nothing final bytes
    → length bytes ≤ LONGEST_TEXT
    → described final ≡ d → read bytes ≡ Ok d
unfolding read
whole_read bytes final d done leads short is =
    let fits = isnt_above (length bytes) LONGEST_TEXT short in
    let reads : read_from nothing 1 (lines bytes) ≡ Ok final =
    ap (λ (x : List ℕ). read_from nothing 1 (lines x)) (sym (append-nil bytes)) ∙ leads final [] (λ k. ends final k done) 1 in
    rw (fits, reads) (ap (λ (p : Program). Ok p) is)

abbrev pub unchosen : Outline → Lists → Program
unchosen o lists = record { shape = o; inputs = lists; choices = None }

described_is : (o : Outline) (lists : Lists) → AreInputs o lists → described (all_said o lists) ≡ unchosen o lists
unfolding described
described_is o lists g = ap (λ (l : Lists). unchosen o l) (rows_back o.ranks o.inputs lists g.many g.ranks)

text_of : (o : Outline) (lists : Lists) → head_text o.version o.ranks ++ from_remote o lists ≡ text (unchosen o lists)
unfolding text
text_of o lists = refl

pub unchosen_back : (o : Outline) (lists : Lists) → IsWellFormed o → AreInputs o lists → length (text (unchosen o lists)) ≤ LONGEST_TEXT
    → read (text (unchosen o lists)) ≡ Ok (unchosen o lists)
unchosen_back o lists f g short =
    let all = all_said o lists in
    whole_read (text (unchosen o lists)) all (unchosen o lists) refl
    (subst (λ (x : List ℕ). Leads nothing all x) (text_of o lists)
    (then nothing (start o.version o.ranks) all (head_text o.version o.ranks) (from_remote o lists)
    (head_leads o.version o.ranks f.shape.some_rank f.version.few_ranks) (later_on o lists f g)))
    short (described_is o lists g)
