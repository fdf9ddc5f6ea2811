-- The generated description is readable: its text is read as it.
use Rattle.std.proofs.Common.{◌≡◌, ℕ, zero, suc, ◌+◌, ◌*◌, ◌/◌, ◌%◌, ◌<◌, ◌≤◌, List, [], ◌∷◌, ◌++◌, length, map, take, drop, get_or, Option}
use Rattle.std.proofs.Common.{None, false, refl, sym, ap, ◌∙◌, arith, codes, subst, length-append}
use Rattle.std.specs.Prelude.{All}
use Rattle.std.specs.List.{flat_map, join_with_byte}
use Rattle.std.specs.Fmt.{decimal}
use Rattle.std.proofs.lemmas.Fmt.{length-decimal-le}
use Rattle.std.proofs.lemmas.List.{append-nil, get_or-map, take_all}
use Rattle.std.proofs.lemmas.List.Elements.{All-append, All-cons, All-nil}
use Rattle.std.proofs.lemmas.List.FromFn.{get_or-map-range_with_len, length-map-range_with_len}
use Rattle.ptl_types.specs.declared.elements.ElemType.TheVariants.{U32}
use Rattle.ptl_types.specs.Elements.{little_endian, pattern}
use Rattle.coll_text.specs.Text.{line}
use Rattle.coll_text.specs.Elements.{bytes_of_list, elements, first_elements, value_word}
use Rattle.coll_shape.specs.Meaning.{AreInputs}
use Rattle.coll_shape.specs.declared.types.Version.TheVariants.{One}
use Rattle.coll_shape.specs.declared.types.Group.{Group}
use Rattle.coll_shape.specs.declared.types.CollStep.{CollStep}
use Rattle.coll_lang.specs.Program.{Program}
use Rattle.coll_lang.specs.Language.{described}
use Rattle.coll_lang.specs.declared.choices.ChoiceStep.{ChoiceStep}
use Rattle.coll_lang.specs.declared.stage.Stage.TheVariants.{Finished}
use Rattle.coll_shape.specs.declared.types.Buffer.{Buffer}
use Rattle.coll_shape.specs.Outline.{buffer_at, list_bytes}
use Rattle.coll_lang.specs.Spelling.{data_text, head_text, input_text, name_at, prints_text, step_words, steps_text, text}
use Rattle.coll_lang.specs.Readable.{IsReadable}
use Rattle.coll_lang.specs.Generated.{all_elements, even_words, generated, generated_lists, generated_shape, rank_elements, value_at}
use Rattle.coll_lang.proofs.AllLines.{long_map}
use Rattle.coll_lang.proofs.GeneratedShape.{generated_formed}
use Rattle.coll_lang.specs.declared.whole.TheConstants.{LONGEST_TEXT}

-- ---- the lists
rows_count : (k : ℕ) → length (all_elements k) ≡ 64
unfolding all_elements
rows_count k = length-map-range_with_len (rank_elements k) 0 64

row_count : (k r : ℕ) → length (rank_elements k r) ≡ 64
unfolding rank_elements
row_count k r = length-map-range_with_len (value_at k r) 0 64

row_at : (k r : ℕ) → r < 64 → get_or (all_elements k) r [] ≡ rank_elements k r
unfolding all_elements
row_at k r l = get_or-map-range_with_len (rank_elements k) 0 64 r r [] l (omega arith)

bytes_long : (vs : List ℕ) → length (bytes_of_list U32 vs) ≡ 4 * length vs
bytes_long [] = refl
bytes_long (v ∷ vs) = let e = bytes_long vs in omega (arith, e)

bytes_small : (vs : List ℕ) → All (λ b. b < 256) (bytes_of_list U32 vs)
bytes_small [] = All-nil (λ b. b < 256)
bytes_small (v ∷ vs) = All-append (λ b. b < 256) (little_endian 4 v) (bytes_of_list U32 vs) (four v) (bytes_small vs)
  where
    below : (n : ℕ) → n % 256 < 256
    below n = omega arith

    four : (v : ℕ) → All (λ b. b < 256) (little_endian 4 v)
    four v =
        let b : ℕ = v / 256 in
        let c : ℕ = b / 256 in
        let d : ℕ = c / 256 in
        let p : ℕ → Type 0 = λ b. b < 256 in
        All-cons p (v % 256) (b % 256 ∷ c % 256 ∷ d % 256 ∷ []) (below v)
        (All-cons p (b % 256) (c % 256 ∷ d % 256 ∷ []) (below b)
        (All-cons p (c % 256) (d % 256 ∷ []) (below c) (All-cons p (d % 256) [] (below d) (All-nil p))))

list_at : (k r : ℕ) → r < 64 → get_or (generated_lists k) r [] ≡ bytes_of_list U32 (rank_elements k r)
list_at k r l =
    let e = rows_count k in
    get_or-map (bytes_of_list U32) (all_elements k) r [] [] (omega (arith, e, l)) ∙ ap (bytes_of_list U32) (row_at k r l)

pub lists_count : (k : ℕ) → length (generated_lists k) ≡ 64
lists_count k = long_map (bytes_of_list U32) (all_elements k) ∙ rows_count k

long_at : (k r : ℕ) → r < 64 → length (get_or (generated_lists k) r []) ≡ 256
long_at k r l =
    let a = bytes_long (rank_elements k r) in
    let b = row_count k r in
    ap length (list_at k r l) ∙ (let c : length (bytes_of_list U32 (rank_elements k r)) ≡ 256 = omega (arith, a, b) in c)

given : (k : ℕ) → AreInputs generated_shape (generated_lists k ∷ [])
given k = record { many = refl; ranks = ranks; long = long; bytes = bytes }
  where
    ranks : (b : ℕ) → b < 1 → length (get_or (generated_lists k ∷ []) b []) ≡ 64
    ranks zero l = lists_count k
    ranks (suc b) l = absurd (omega (arith, l))

    long : (b r : ℕ) → b < 1 → r < 64
        → length (get_or (get_or (generated_lists k ∷ []) b []) r []) ≡ list_bytes (buffer_at generated_shape b)
    long zero r l m = long_at k r m
    long (suc b) r l m = absurd (omega (arith, l))

    bytes : (b r : ℕ) → b < 1 → r < 64 → All (λ x. x < 256) (get_or (get_or (generated_lists k ∷ []) b []) r [])
    bytes zero r l m = subst (All (λ x. x < 256)) (sym (list_at k r m)) (bytes_small (rank_elements k r))
    bytes (suc b) r l m = absurd (omega (arith, l))

-- all lists are one row
pub one_row : (k : ℕ) → take 64 (generated_lists k) ≡ generated_lists k
one_row k = take_all 64 (generated_lists k) (let c = lists_count k in omega (arith, c))

-- ---- how long the text is
four_bytes : (xs : List ℕ) → pattern (take 4 xs) < 4294967296
four_bytes [] = omega arith
four_bytes (a ∷ []) = omega arith
four_bytes (a ∷ b ∷ []) = omega arith
four_bytes (a ∷ b ∷ c ∷ []) = omega arith
four_bytes (a ∷ b ∷ c ∷ d ∷ xs) = omega arith

word_short : (xs : List ℕ) → length (decimal (pattern (take 4 xs))) ≤ 10
word_short xs = short (pattern (take 4 xs)) (four_bytes xs)
  where
    short : (n : ℕ) → n < 4294967296 → length (decimal n) ≤ 10
    short n l = length-decimal-le 10 n (omega arith) (omega (arith, l)) (omega (arith, l))

words_short : (n : ℕ) (bytes : List ℕ) → length (join_with_byte 32 (map (value_word U32) (first_elements 4 n bytes))) ≤ 11 * n
words_short zero bytes = omega arith
words_short (suc zero) bytes = let h = word_short bytes in omega (arith, h)
words_short (suc (suc n)) bytes =
    let w = decimal (pattern (take 4 bytes)) in
    let h = word_short bytes in
    let more = words_short (suc n) (drop 4 bytes) in
    let both = length-append w (32 ∷ join_with_byte 32 (map (value_word U32) (first_elements 4 (suc n) (drop 4 bytes)))) in
    omega (arith, h, more, both)

abbrev a : Buffer
a = even_words (codes "a") 64

row_short : (bytes : List ℕ) → length bytes ≡ 256 → length (data_text a bytes) ≤ 705
unfolding elements
row_short bytes e =
    let h = words_short (length bytes / 4) bytes in
    let l = length-append (join_with_byte 32 (map (value_word U32) (first_elements 4 (length bytes / 4) bytes))) (10 ∷ []) in
    omega (arith, e, h, l)

rows_short : (n : ℕ) (lists : List (List ℕ)) → length lists ≡ n → ((r : ℕ) → r < n → length (get_or lists r []) ≡ 256)
    → length (flat_map (data_text a) lists) ≤ 705 * n
rows_short n [] e h = omega arith
rows_short zero (x ∷ xs) e h = absurd (omega (arith, e))
rows_short (suc n) (x ∷ xs) e h =
    let one = row_short x (h 0 (omega arith)) in
    let more = rows_short n xs (omega (arith, e)) (λ r l. h (suc r) (omega (arith, l))) in
    let both = length-append (data_text a x) (flat_map (data_text a) xs) in
    omega (arith, one, more, both)

-- the text but for its data lines
abbrev behind_data : List ℕ
behind_data = steps_text generated_shape.groups generated_shape.buffers generated_shape.steps generated_shape.on
    ++ (prints_text (name_at generated_shape.buffers) generated_shape.prints ++ line (codes "end" ∷ []))

abbrev data_of : List (List ℕ) → List ℕ
data_of lists = flat_map (data_text a) (take 64 lists)

in_three : (h i d e : List ℕ) → length (h ++ ((i ++ (d ++ [])) ++ e)) ≡ (length h + length i) + (length d + length e)
in_three h i d e =
    let x = length-append h ((i ++ (d ++ [])) ++ e) in
    let y = length-append (i ++ (d ++ [])) e in
    let z = length-append i (d ++ []) in
    let w = length-append d [] in
    omega (arith, x, y, z, w)

text_of : (k : ℕ) → text (generated k)
    ≡ head_text generated_shape.version 64 ++ ((input_text a ++ (data_of (generated_lists k ++ []) ++ [])) ++ behind_data)
unfolding text
text_of k = refl

two_digits : length (decimal 64) ≤ 2
two_digits = length-decimal-le 2 64 (omega arith) (omega arith) (omega arith)

head_long : length (head_text generated_shape.version 64) ≤ 16
head_long = let d = two_digits in let e = length-append (decimal 64) (10 ∷ []) in omega (arith, d, e)

input_long : length (input_text a) ≤ 15
input_long = let d = two_digits in let e = length-append (decimal 64) (10 ∷ []) in omega (arith, d, e)

behind_long : length behind_data ≡ 110
unfolding step_words
behind_long = refl

short : (k : ℕ) → length (text (generated k)) ≤ LONGEST_TEXT
short k =
    let lists = generated_lists k in
    let same : take 64 (lists ++ []) ≡ lists = ap (take 64) (append-nil lists) ∙ one_row k in
    let rows = rows_short 64 lists (lists_count k) (long_at k) in
    let lines_are : length (data_of (lists ++ [])) ≤ 45120 =
    subst (λ (l : List (List ℕ)). length (flat_map (data_text a) l) ≤ 45120) (sym same) (omega (arith, rows)) in
    let all = ap length (text_of k) ∙ in_three (head_text generated_shape.version 64) (input_text a) (data_of (lists ++ [])) behind_data in
    let h = head_long in
    let i = input_long in
    let b = behind_long in
    omega (arith, all, lines_are, h, i, b)

pub generated_readable : (k : ℕ) → IsReadable (generated k)
generated_readable k = record { formed = generated_formed; given = given k; choices = tt; short = short k }

-- what a reader says that holds it
pub generated_is : (k : ℕ) (groups : List Group) (buffers : List Buffer) (given : List (List ℕ)) (steps : List CollStep)
    (on : List (Option ℕ)) (choices : List ChoiceStep) (prints : List ℕ)
    → groups ≡ [] → buffers ≡ generated_shape.buffers → given ≡ generated_lists k → steps ≡ generated_shape.steps → on ≡ generated_shape.on
    → choices ≡ [] → prints ≡ generated_shape.prints
    → described (record {
      stage = Finished;
      version = One;
      ranks = 64;
      remote = false;
      groups = groups;
      buffers = buffers;
      inputs = 1;
      given = given;
      steps = steps;
      on = on;
      choices = choices;
      prints = prints;
      printed = 278528;
    }) ≡ generated k
unfolding described
generated_is k groups buffers given steps on choices prints eg eb ei es eo ec ep =
    rw (eg, eb, ei, es, eo, ec, ep)
    (ap (λ (l : List (List ℕ)). let d : Program = record { shape = generated_shape; inputs = l ∷ []; choices = None } in d) (one_row k))
