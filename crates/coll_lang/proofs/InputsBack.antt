-- The inputs of a text, with their data lines, are read as what they were written of.
use Rattle.std.proofs.Common.{◌≡◌, ℕ, suc, ◌+◌, ◌-◌, ◌<◌, ◌≤◌, ◌^◌, List, [], ◌∷◌, ◌++◌, length, map, take, drop, get_or, Some, Ok, true}
use Rattle.std.proofs.Common.{false, ◌||◌, refl, sym, ap, ◌∙◌, arith, codes, subst, append_assoc, length-append}
use Rattle.std.specs.Prelude.{is_some}
use Rattle.std.specs.List.{flat_map, join_with_byte, slice_get, AllByRecursion}
use Rattle.std.specs.Fmt.{decimal}
use Rattle.std.proofs.lemmas.List.{append-nil, get_or_append_left, length-take-le, take-append-drop}
use Rattle.std.proofs.lemmas.List.Elements.{recursion_from_All}
use Rattle.std.proofs.lemmas.Option.{slice_get-get_or}
use Rattle.std.proofs.Math.Seq.{get_or-append_seam}
use Rattle.ptl_types.specs.declared.elements.ElemType.{ElemType}
use Rattle.number_lists.specs.Numbers.{from_to}
use Rattle.coll_text.specs.Text.{lines, is_name}
use Rattle.coll_text.specs.Elements.{elements, value_word}
use Rattle.coll_text.proofs.WordsBack.{number_solid, data_read, elements_solid}
use Rattle.coll_shape.specs.declared.types.Buffer.{Buffer}
use Rattle.coll_shape.specs.declared.types.Spread.{Spread}
use Rattle.coll_shape.specs.declared.types.Group.{Group}
use Rattle.coll_shape.specs.Outline.{no_buffer, no_group}
use Rattle.coll_shape.specs.declared.limits.TheConstants.{MOST_BUFFERS, MOST_GIVEN}
use Rattle.coll_lang.specs.Words.{type_word}
use Rattle.coll_lang.specs.Forms.{input}
use Rattle.coll_lang.specs.Language.{Past, judge, line_at, form_line, input_line, input_buffer, values_line, group_number, buffer_number}
use Rattle.coll_lang.specs.Language.{buffer_named, is_taken, read_from, data_due}
use Rattle.coll_lang.specs.Spelling.{input_text, data_text, inputs_text, name_at}
use Rattle.coll_lang.specs.declared.stage.Stage.{Stage}
use Rattle.coll_lang.specs.declared.stage.Stage.TheVariants.{Inputs}
use Rattle.coll_lang.proofs.InputLists.{IsListOf, Filled}
use Rattle.coll_lang.proofs.Leading.{Leads, one_line, then, solid_allowed, form_leads, Wider}
use Rattle.coll_lang.proofs.FormsBack.{name_solid, type_solid, number_full, between_read, input_back}
use Rattle.coll_lang.proofs.Leaders.{at, Led, led_none, isnt_full, name_missing, name_found}

-- ---- buffers found by their names

-- the buffers that there are, and those that still come; all names are apart
pub record Parts (gs : List Group) (all done rest : List Buffer) : Type 0 where
  pub are : all ≡ done ++ rest
  pub distinct : (i j : ℕ) → i < length all → j < length all → name_at all i ≡ name_at all j → i ≡ j
  pub apart : (i j : ℕ) → i < length gs → j < length all → (get_or gs i no_group).name ≡ name_at all j → ⊥

pub stays : (all done rest : List Buffer) → all ≡ done ++ rest → (i : ℕ) → i < length done
    → get_or all i no_buffer ≡ get_or done i no_buffer
stays all done rest e i lt = ap (λ (bs : List Buffer). get_or bs i no_buffer) e ∙ get_or_append_left done rest no_buffer i lt

pub longer : (all done rest : List Buffer) → all ≡ done ++ rest → length all ≡ length done + length rest
longer all done rest e = ap length e ∙ length-append done rest

pub comes_next : (all done rest : List Buffer) (c : Buffer) → all ≡ done ++ c ∷ rest → get_or all (length done) no_buffer ≡ c
comes_next all done rest c e = ap (λ (bs : List Buffer). get_or bs (length done) no_buffer) e ∙ get_or-append_seam done c rest no_buffer

apart_of : (i j : ℕ) → i < j → i ≡ j → ⊥
apart_of i j l e = omega (arith, l, e)

pub fresh : (gs : List Group) (all done rest : List Buffer) (c : Buffer) → Parts gs all done (c ∷ rest)
    → (is_some (group_number gs c.name) || is_some (buffer_number done c.name)) ≡ false
fresh gs all done rest c p =
    let l = longer all done (c ∷ rest) p.are in
    let own : name_at all (length done) ≡ c.name = ap (λ (b : Buffer). b.name) (comes_next all done rest c p.are) in
    ap (λ o. is_some o || is_some (buffer_number done c.name))
    (name_missing (λ (g : Group). g.name) gs no_group c.name (λ i k e. p.apart i (length done) k (omega (arith, l)) (e ∙ sym own)))
    ∙ ap (λ o. is_some o) (name_missing (λ (b : Buffer). b.name) done no_buffer c.name
    (λ i k e. apart_of i (length done) k
    (p.distinct i (length done) (omega (arith, l, k)) (omega (arith, l))
    (ap (λ (b : Buffer). b.name) (stays all done (c ∷ rest) p.are i k) ∙ e ∙ sym own))))

pub named_there : (gs : List Group) (all done rest : List Buffer) → Parts gs all done rest → (i : ℕ) → i < length done
    → buffer_named done (name_at all i) ≡ Some (i, get_or all i no_buffer)
unfolding buffer_named
named_there gs all done rest p i lt =
    let l = longer all done rest p.are in
    let here = stays all done rest p.are in
    let own : name_at all i ≡ name_at done i = ap (λ (b : Buffer). b.name) (here i lt) in
    let found : buffer_number done (name_at all i) ≡ Some i =
    ap (buffer_number done) own
    ∙ name_found (λ (b : Buffer). b.name) done no_buffer i lt
    (λ k below e. apart_of k i below
    (p.distinct k i (omega (arith, l, lt, below)) (omega (arith, l, lt))
    (ap (λ (b : Buffer). b.name) (here k (omega (arith, below, lt))) ∙ e ∙ sym own))) in
    let got : slice_get done i ≡ Some (get_or all i no_buffer) =
    slice_get-get_or done i no_buffer lt ∙ ap (λ (b : Buffer). Some b) (sym (here i lt)) in
    rw (found, got) refl

pub next_parts : (gs : List Group) (all done rest : List Buffer) (c : Buffer) → Parts gs all done (c ∷ rest)
    → Parts gs all (done ++ c ∷ []) rest
next_parts gs all done rest c p = record { are = p.are ∙ sym (append_assoc done (c ∷ []) rest); distinct = p.distinct; apart = p.apart }

-- ---- data lines
abbrev row_words : ElemType → List ℕ → List (List ℕ)
row_words ty row = map (value_word ty) (elements ty row)

-- what is said while data lines of the newest input are due
abbrev filling : Past → ℕ → List Buffer → ℕ → ElemType → ℕ → List (List ℕ) → Past
filling base left buffers inputs ty count given =
    record base { stage = data_due left ty count; buffers = buffers; inputs = inputs; given = given }

row_judged : (base : Past) (left : ℕ) (buffers : List Buffer) (inputs : ℕ) (b : Buffer) (given : List (List ℕ)) (row : List ℕ)
    → 1 ≤ b.spread.length → IsListOf b row
    → judge (filling base (suc left) buffers inputs b.ty b.spread.length given) (join_with_byte 32 (row_words b.ty row))
    ≡ Ok (filling base left buffers inputs b.ty b.spread.length (given ++ row ∷ []))
unfolding judge line_at values_line
row_judged base left buffers inputs b given row some r =
    let allowed = solid_allowed (row_words b.ty row) (elements_solid b.ty row) in
    let read = data_read b.ty b.spread.length row some r.whole r.bytes in
    rw (allowed, read, less left) refl
  where
    less : (n : ℕ) → suc n - 1 ≡ n
    less n = omega arith

rows_lead : (base : Past) (buffers : List Buffer) (inputs : ℕ) (b : Buffer) (given rows : List (List ℕ)) → 1 ≤ b.spread.length
    → AllByRecursion (IsListOf b) rows
    → Leads (filling base (length rows) buffers inputs b.ty b.spread.length given)
    (filling base 0 buffers inputs b.ty b.spread.length (given ++ rows)) (flat_map (data_text b) rows)
rows_lead base buffers inputs b given [] some h =
    λ final rest ends k. ap (λ (g : List (List ℕ)). read_from (filling base 0 buffers inputs b.ty b.spread.length g) k (lines rest)) (sym
    (append-nil given)) ∙ ends k
rows_lead base buffers inputs b given (row ∷ rows) some h =
    let past = filling base (suc (length rows)) buffers inputs b.ty b.spread.length given in
    let mid = filling base (length rows) buffers inputs b.ty b.spread.length (given ++ row ∷ []) in
    then past mid (filling base 0 buffers inputs b.ty b.spread.length (given ++ row ∷ rows)) (data_text b row) (flat_map (data_text b) rows)
    (one_line past mid (join_with_byte 32 (row_words b.ty row)) refl (solid_allowed (row_words b.ty row) (elements_solid b.ty row))
    (row_judged base (length rows) buffers inputs b given row some h.0))
    (subst (λ (g : List (List ℕ)). Leads mid (filling base 0 buffers inputs b.ty b.spread.length g) (flat_map (data_text b) rows))
    (append_assoc given (row ∷ []) rows) (rows_lead base buffers inputs b (given ++ row ∷ []) rows some h.1))

-- ---- an input
pub record IsInput (n : ℕ) (b : Buffer) : Type 0 where
  pub held : b.spread.holders ≡ from_to 0 n
  pub some : 1 ≤ b.spread.length
  pub small : b.spread.length ≤ MOST_GIVEN
  pub named : is_name b.name ≡ true

held_so : (n : ℕ) (b : Buffer) → b.spread.holders ≡ from_to 0 n → input_buffer n b.name b.ty b.spread.length ≡ b
held_so n b e = ap (λ (h : List ℕ). let s : Spread = record { length = b.spread.length; holders = h } in
    let c : Buffer = record { name = b.name; ty = b.ty; spread = s } in c) (sym e)

input_taken : (past : Past) (b : Buffer) → IsInput past.ranks b → is_taken past b.name ≡ false → length past.buffers < MOST_BUFFERS
    → form_line past (input b.name b.ty (decimal b.spread.length))
    ≡ Ok (record past { stage = data_due past.ranks b.ty b.spread.length; buffers = past.buffers ++ b ∷ []; inputs = past.inputs + 1 })
unfolding form_line input_line
input_taken past b i new at_most =
    let number = between_read 1 MOST_GIVEN b.spread.length i.some i.small (omega arith) in
    let full = isnt_full (length past.buffers) MOST_BUFFERS at_most in
    rw (number, new, full)
    (ap (λ (c : Buffer). let p : Past = record past {
      stage = data_due past.ranks b.ty b.spread.length;
      buffers = past.buffers ++ c ∷ [];
      inputs = past.inputs + 1;
    } in Ok p) (held_so past.ranks b i.held))

one_input : (base : Past) (s : Stage) (all done rest : List Buffer) (b : Buffer) (n : ℕ) (given rows : List (List ℕ))
    → length all ≤ MOST_BUFFERS
    → Wider s Inputs → Parts base.groups all done (b ∷ rest) → IsInput base.ranks b → length rows ≡ base.ranks
    → AllByRecursion (IsListOf b) rows
    → Leads (record base { stage = s; buffers = done; inputs = n; given = given })
    (record base { stage = Inputs; buffers = done ++ b ∷ []; inputs = n + 1; given = given ++ rows })
    (input_text b ++ flat_map (data_text b) rows)
one_input base s all done rest b n given rows many wider p i count lists =
    let len = b.spread.length in
    let past : Past = record base { stage = s; buffers = done; inputs = n; given = given } in
    let bs = done ++ b ∷ [] in
    let mid = filling base base.ranks bs (n + 1) b.ty len given in
    let next : Past = record base { stage = Inputs; buffers = bs; inputs = n + 1; given = given ++ rows } in
    let l = longer all done (b ∷ rest) p.are in
    let most = i.small in
    let small : len < 2 ^ 64 = omega (arith, most) in
    then past mid next (input_text b) (flat_map (data_text b) rows)
    (form_leads past mid (input b.name b.ty (decimal len)) (codes "input") (b.name ∷ type_word b.ty ∷ decimal len ∷ [])
    (refl, (name_solid b.name i.named, (type_solid b.ty, (number_solid len small, tt))))
    (input_back b.name b.ty (decimal len) i.named (number_full len small)) refl (wider (input b.name b.ty (decimal len)) refl)
    (input_taken past b i (fresh base.groups all done rest b p) (omega (arith, l, many))))
    (subst (λ (m : ℕ). Leads (filling base m bs (n + 1) b.ty len given) next (flat_map (data_text b) rows)) count
    (rows_lead base bs (n + 1) b given rows i.some lists))

-- all inputs, one after the other
pub inputs_led : (base : Past) (all : List Buffer) → length all ≤ MOST_BUFFERS
    → (s : Stage) (done bs rest : List Buffer) (n : ℕ) (given lists : List (List ℕ)) → Wider s Inputs
    → Parts base.groups all done (bs ++ rest) → AllByRecursion (IsInput base.ranks) bs → Filled base.ranks bs lists
    → Led (record base { stage = s; buffers = done; inputs = n; given = given }) (inputs_text base.ranks bs lists)
    (record base { buffers = done ++ bs; inputs = n + length bs; given = given ++ lists }) Inputs
inputs_led base all many s done [] rest n given lists wider p i filled =
    let p0 : Past = record base { buffers = done; inputs = n; given = given } in
    subst (λ (x : Past). Led (at s p0) [] x Inputs)
    (ap (λ (bs : List Buffer). let x : Past = record base { buffers = bs; inputs = n; given = given } in x) (sym (append-nil done))
    ∙ ap (λ (m : ℕ). let x : Past = record base { buffers = done ++ []; inputs = m; given = given } in x) (no_more n)
    ∙ ap (λ (g : List (List ℕ)). let x : Past = record base { buffers = done ++ []; inputs = n + 0; given = g } in x)
    (sym (append-nil given) ∙ ap (λ (ls : List (List ℕ)). given ++ ls) (sym filled)))
    (led_none s p0 Inputs wider)
  where
    no_more : (n : ℕ) → n ≡ n + 0
    no_more n = omega arith
inputs_led base all many s done (b ∷ bs) rest n given lists wider p i filled =
    let own = take base.ranks lists in
    let others = drop base.ranks lists in
    let count : length own ≡ base.ranks = length-take-le base.ranks lists filled.0 in
    let past : Past = record base { stage = s; buffers = done; inputs = n; given = given } in
    let mid : Past = record base { stage = Inputs; buffers = done ++ b ∷ []; inputs = n + 1; given = given ++ own } in
    let made : Past = record base { buffers = (done ++ b ∷ []) ++ bs; inputs = (n + 1) + length bs; given = (given ++ own) ++ others } in
    let next : Past = record base { buffers = done ++ b ∷ bs; inputs = n + suc (length bs); given = given ++ lists } in
    let first = one_input base s all done (bs ++ rest) b n given own many wider p i.0 count
    (recursion_from_All (IsListOf b) own filled.1) in
    let more = inputs_led base all many Inputs (done ++ b ∷ []) bs rest (n + 1) (given ++ own) others (λ form h. h)
    (next_parts base.groups all done (bs ++ rest) b p) i.1 filled.2 in
    let same : made ≡ next =
    ap (λ (x : List Buffer). let y : Past = record base { buffers = x; inputs = (n + 1) + length bs; given = (given ++ own) ++ others } in
    y) (append_assoc done (b ∷ []) bs)
    ∙ ap (λ (m : ℕ). let y : Past = record base { buffers = done ++ b ∷ bs; inputs = m; given = (given ++ own) ++ others } in y)
    (shift n (length bs))
    ∙ ap (λ (g : List (List ℕ)). let y : Past = record base { buffers = done ++ b ∷ bs; inputs = n + suc (length bs); given = g } in y)
    (append_assoc given own others ∙ ap (λ (x : List (List ℕ)). given ++ x) (take-append-drop base.ranks lists)) in
    let l : Led past ((input_text b ++ flat_map (data_text b) own) ++ inputs_text base.ranks bs others) made Inputs =
    record {
      stage = more.stage;
      wider = more.wider;
      leads = then past mid (at more.stage made) (input_text b ++ flat_map (data_text b) own) (inputs_text base.ranks bs others) first
          more.leads;
    } in
    subst (λ (x : Past). Led past (inputs_text base.ranks (b ∷ bs) lists) x Inputs) same
    (subst (λ (x : List ℕ). Led past x made Inputs)
    (append_assoc (input_text b) (flat_map (data_text b) own) (inputs_text base.ranks bs others)) l)
  where
    shift : (n m : ℕ) → (n + 1) + m ≡ n + suc m
    shift n m = omega arith
