-- Inputs of a shape, and plans for them.
use Rattle.std.proofs.Common.{ℕ, zero, suc, take, lit<, ◌+◌, ◌*◌, ◌/◌, ◌%◌, ◌≡◌, ◌≤◌, ◌<◌, List, [], ◌∷◌, ◌++◌, length, map, get_or, None}
use Rattle.std.proofs.Common.{refl, ap, ap₂, sym, subst, ◌∙◌, arith, mod-lt, inl, inr}
use Rattle.std.proofs.lemmas.Bool.{cases_lt}
use Rattle.std.specs.Prelude.{All}
use Rattle.std.proofs.lemmas.List.{get_or_append_left, get_or_push, length_push, take_all, take_more}
use Rattle.std.proofs.lemmas.List.Elements.{All-push}
use Rattle.std.proofs.lemmas.Nat.{div-mul-add, mul-le}
use Rattle.number_lists.specs.Numbers.{from_to}
use Rattle.coll_shape.specs.Folding.{at}
use Rattle.coll_shape.specs.Meaning.{AreInputs, Lists, lists_of, meaning_of}
use Rattle.coll_shape.specs.declared.types.Buffer.{Buffer}
use Rattle.coll_shape.specs.Outline.{Outline, buffer_at, list_bytes, no_buffer}
use Rattle.coll_shape.specs.Rows.{in_rows}
use Rattle.coll_shape.proofs.Rows.{before-end, row-at, row-long, rows-many}
use Rattle.plan_core.specs.Plan.{Plan, all_cells}
use Rattle.plan_core.specs.Values.{value}
use Rattle.plan_core.specs.Sound.{SoundPlan}
use Rattle.plan_core.proofs.Drawing.{length-row, row-more}
use Rattle.plan_judge.specs.Causes.{judged}
use Rattle.plan_judge.proofs.Flawless.{none_sound}
use Rattle.plan_tables.proofs.Passes.{get-row, get_or-any, length-table}
use Rattle.plan_judge.specs.values.Given.{IsGiven}
use Rattle.plan_judge.proofs.values.Judged.{input_in}
use Rattle.coll_shape.specs.WellFormed.{IsWellFormed}
use Rattle.schedule_compiler.specs.shapes.Drawing.{plan_of}
use Rattle.schedule_compiler.specs.shapes.Footprint.{refusal}
use Rattle.schedule_compiler.proofs.shapes.Final.{fine-shape, inputs_fit, sound}
use Rattle.plan_agreement.specs.Agreement.{IsPlanFor}
use Rattle.plan_agreement.specs.Witness.{AreWitnesses, IsListOf, number_units, numbered, numbered_byte, numbered_list, numbered_lists}

-- ---- lists for all inputs
its_list : (o : Outline) (lists : List (List ℕ)) (b r : ℕ) → AreWitnesses o lists → b < o.inputs → r < o.ranks
    → IsListOf (list_bytes (buffer_at o b)) (get_or (get_or (in_rows o.ranks o.inputs lists) b []) r [])
its_list o lists b r all h k =
    let there : b * o.ranks + r < o.inputs * o.ranks = before-end o.ranks o.inputs b r (record { row = h; place = k }) in
    let own : IsListOf (list_bytes (buffer_at o ((b * o.ranks + r) / o.ranks))) (get_or lists (b * o.ranks + r) []) =
    all.each (b * o.ranks + r) there in
    let input : IsListOf (list_bytes (buffer_at o b)) (get_or lists (b * o.ranks + r) []) =
    subst (λ i. IsListOf (list_bytes (buffer_at o i)) (get_or lists (b * o.ranks + r) [])) (div-mul-add b o.ranks r k) own in
    subst (IsListOf (list_bytes (buffer_at o b))) (sym (row-at o.ranks o.inputs b r lists [] h k)) input

pub are_inputs : (o : Outline) (lists : List (List ℕ)) → AreWitnesses o lists → AreInputs o (in_rows o.ranks o.inputs lists)
are_inputs o lists all = record {
  many = rows-many o.ranks o.inputs lists;
  ranks = λ b h. row-long o.ranks o.inputs b lists all.many h;
  long = λ b r h k. (its_list o lists b r all h k).long;
  bytes = λ b r h k. (its_list o lists b r all h k).bytes;
}

-- ---- a plan for a shape
pub is_given : (p : Plan) (o : Outline) (inputs : Lists) → IsPlanFor p o → AreInputs o inputs → IsGiven p inputs
is_given p o inputs for ins = record {
  sound = subst (SoundPlan p) (sym ins.many) for.sound;
  rows = λ b h. ins.ranks b (subst (λ n. b < n) ins.many h) ∙ sym for.ranks;
  fits = for.fits inputs ins;
}

pub judged_fit : (p : Plan) (o : Outline) → p.ranks ≡ o.ranks
    → judged p (map (λ b. list_bytes (buffer_at o b)) (from_to 0 o.inputs)) ≡ None → IsPlanFor p o
judged_fit p o ranks none =
    let lengths = map (λ b. list_bytes (buffer_at o b)) (from_to 0 o.inputs) in
    let many : length lengths ≡ o.inputs = length-row (λ b. list_bytes (buffer_at o b)) 0 o.inputs in
    let j = none_sound p lengths none in
    let some = j.0.some_rank in
    record {
      sound = subst (SoundPlan p) many j.0;
      ranks = ranks;
      fits = λ inputs ins i h.
          let b : i / p.ranks < o.inputs = subst (λ n. i / p.ranks < n) ins.many (input_in i p.ranks (length inputs) h) in
          let r : i % p.ranks < o.ranks =
          subst (λ n. i % p.ranks < n) ranks (mod-lt i (let z : 0 < p.ranks = omega (arith, some) in z)) in
          let there : i < length lengths * p.ranks = subst (λ n. i < n * p.ranks) (ins.many ∙ sym many) h in
          ins.long (i / p.ranks) (i % p.ranks) b r
          ∙ sym (get-row (λ k. list_bytes (buffer_at o k)) o.inputs (i / p.ranks) 0 b)
          ∙ sym (j.1 i there);
    }

pub own_fit : (o : Outline) → IsWellFormed o → refusal o ≡ None → IsPlanFor (plan_of o) o
own_fit o wf none = record {
  sound = sound o wf none;
  ranks = (fine-shape o wf).ranks;
  fits = λ inputs ins. inputs_fit o inputs wf ins;
}

-- ---- lists that grow
pub one_more_byte : (n x : ℕ) (bytes : List ℕ) → x < 256 → IsListOf n bytes → IsListOf (n + 1) (bytes ++ x ∷ [])
one_more_byte n x bytes h so_far = record {
  long = length_push bytes x ∙ ap (λ k. k + 1) so_far.long;
  bytes = All-push (λ y. y < 256) bytes x so_far.bytes h;
}

-- the first i of the lists for all inputs
pub record AreFirst (o : Outline) (lists : List (List ℕ)) (i : ℕ) : Type 0 where
  pub many : length lists ≡ i
  pub each : (j : ℕ) → j < i → IsListOf (list_bytes (buffer_at o (j / o.ranks))) (get_or lists j [])

pub none_first : (o : Outline) → AreFirst o [] 0
none_first o = record { many = refl; each = λ j h. absurd (omega (arith, h)) }

pub one_more_list : (o : Outline) (lists : List (List ℕ)) (list : List ℕ) (i n : ℕ) → AreFirst o lists i
    → n ≡ list_bytes (buffer_at o (i / o.ranks)) → IsListOf n list → AreFirst o (lists ++ list ∷ []) (i + 1)
one_more_list o lists list i n so_far long is = record {
  many = length_push lists list ∙ ap (λ k. k + 1) so_far.many;
  each = λ j l.
      elim (cases_lt j i) [
        | inl k ↦
            let many = so_far.many in
            subst (IsListOf (list_bytes (buffer_at o (j / o.ranks))))
            (sym (get_or_append_left lists (list ∷ []) [] j (omega (arith, k, many)))) (so_far.each j k)
        | inr k ↦
            let e : j ≡ i = omega (arith, k, l) in
            subst (λ m. IsListOf (list_bytes (buffer_at o (m / o.ranks))) (get_or (lists ++ list ∷ []) m [])) (sym e)
            (subst (IsListOf (list_bytes (buffer_at o (i / o.ranks)))) (sym (get_or_push lists list [] i so_far.many))
            (subst (λ m. IsListOf m list) long is))
      ];
}

-- so many lists, and each is of an input
pub few_lists : (o : Outline) → IsWellFormed o → o.inputs * o.ranks ≤ 32768
few_lists o wf =
    let inputs : o.inputs ≤ 128 = (let a = wf.shape.few_inputs in let b = wf.shape.few_buffers in omega (arith, a, b)) in
    let ranks : o.ranks ≤ 256 = (let a = wf.shape.few_ranks in omega (arith, a)) in
    mul-le o.inputs o.ranks 128 256 inputs ranks

pub its_input : (o : Outline) (i : ℕ) → IsWellFormed o → i < o.inputs * o.ranks → i / o.ranks < length o.buffers
its_input o i wf h =
    let inside : i / o.ranks < o.inputs = input_in i o.ranks o.inputs h in
    let few = wf.shape.few_inputs in
    omega (arith, inside, few)

pub its_bytes : (o : Outline) (i r : ℕ) (bs : List Buffer) (x : Buffer) (n : ℕ) → IsWellFormed o → i < o.inputs * o.ranks
    → bs ≡ o.buffers → r ≡ o.ranks → x ≡ get_or bs (i / r) x → n ≡ list_bytes x → n ≡ list_bytes (buffer_at o (i / o.ranks))
its_bytes o i r bs x n wf h eb er is e =
    e ∙ ap list_bytes
    (is ∙ ap₂ (λ (l : List Buffer) k. get_or l (i / k) x) eb er ∙ get_or-any o.buffers (i / o.ranks) x no_buffer (its_input o i wf h))

-- ---- a list that isn't what is meant
pub not_meant : (p : Plan) (o : Outline) (inputs : Lists) (b r c : ℕ) (values : Lists) (held : List (List ℕ)) (x y : List ℕ)
    → c < length held → held ≡ map (value p inputs) (all_cells p) → values ≡ meaning_of o inputs → x ≡ get_or held c []
    → y ≡ at (lists_of values b) r → (x ≡ y → ⊥) → value p inputs c ≡ at (lists_of (meaning_of o inputs) b) r → ⊥
not_meant p o inputs b r c values held x y known is means own due unlike same =
    let there : c < length p.cells = omega (arith, known, length-table (value p inputs) (length p.cells) held is) in
    unlike
    (own ∙ ap (λ (v : List (List ℕ)). get_or v c []) is ∙ get-row (value p inputs) (length p.cells) c [] there ∙ same
    ∙ sym (due ∙ ap (λ (m : Lists). at (lists_of m b) r) means))

-- a list that is
pub is_meant : (p : Plan) (o : Outline) (inputs : Lists) (b r c : ℕ) (values : Lists) (held : List (List ℕ)) (x y : List ℕ)
    → c < length held → held ≡ map (value p inputs) (all_cells p) → values ≡ meaning_of o inputs → x ≡ get_or held c []
    → y ≡ at (lists_of values b) r → x ≡ y → value p inputs c ≡ at (lists_of (meaning_of o inputs) b) r
is_meant p o inputs b r c values held x y known is means own due same =
    let there : c < length p.cells = omega (arith, known, length-table (value p inputs) (length p.cells) held is) in
    sym (own ∙ ap (λ (v : List (List ℕ)). get_or v c []) is ∙ get-row (value p inputs) (length p.cells) c [] there)
    ∙ same ∙ due ∙ ap (λ (m : Lists). at (lists_of m b) r) means

pub no_bytes : IsListOf 0 []
no_bytes = record { long = refl; bytes = λ k d l. absurd (omega (arith, l)) }

pub all_bytes : (n k : ℕ) (bytes list : List ℕ) → n ≤ k → k ≤ n → list ≡ bytes → IsListOf k bytes → IsListOf n list
all_bytes n k bytes list h l e so_far =
    let same : k ≡ n = omega (arith, h, l) in
    subst (IsListOf n) (sym e) (subst (λ m. IsListOf m bytes) same so_far)

pub all_lists : (o : Outline) (lists : List (List ℕ)) (i n : ℕ) → n ≡ o.inputs * o.ranks → n ≤ i → i ≤ n → AreFirst o lists i
    → AreWitnesses o lists
all_lists o lists i n is h l all =
    let many = all.many in
    record {
      many = omega (arith, is, h, many, l);
      each = λ j k. all.each j (omega (arith, is, h, k));
    }

-- ---- inputs of numbered bytes
pub longer_row : {X : Type 0} (f : ℕ → X) (k : ℕ) (xs ys : List X) (x : X) → ys ≡ xs ++ x ∷ [] → xs ≡ map f (from_to 0 k) → x ≡ f k
    → ys ≡ map f (from_to 0 (k + 1))
longer_row {X} f k xs ys x e is own =
    e ∙ ap₂ (λ (zs : List X) z. zs ++ z ∷ []) is own ∙ sym (row-more f k)

numbered_bytes : (unit i n : ℕ) → IsListOf n (numbered_list unit i n)
numbered_bytes unit i n =
    let long : length (numbered_list unit i n) ≡ n = length-row (numbered_byte unit i) 0 n in
    record {
      long = long;
      bytes = λ k d l.
          subst (λ x. x < 256) (sym (get-row (numbered_byte unit i) n k d (subst (λ m. k < m) long l)))
          (mod-lt ((i * 32768 + k % 32768 + 1) / unit) (lit< tt));
    }

pub numbered_taken : (o : Outline) (unit : ℕ) → AreInputs o (numbered o unit)
numbered_taken o unit =
    let f : ℕ → List ℕ = λ i. numbered_list unit i (list_bytes (buffer_at o (i / o.ranks))) in
    are_inputs o (numbered_lists o unit)
    (record {
      many = length-row f 0 (o.inputs * o.ranks);
      each = λ i h.
          subst (IsListOf (list_bytes (buffer_at o (i / o.ranks)))) (sym (get-row f (o.inputs * o.ranks) i [] h))
          (numbered_bytes unit i (list_bytes (buffer_at o (i / o.ranks))));
    })

-- ---- unit by unit
pub all_units : All (λ unit. 0 < unit) number_units
all_units = λ k d l. one_of k d l
  where
    one_of : (k d : ℕ) → k < 4 → 0 < get_or number_units k d
    one_of zero d l = lit< tt
    one_of (suc zero) d l = lit< tt
    one_of (suc (suc zero)) d l = lit< tt
    one_of (suc (suc (suc zero))) d l = lit< tt
    one_of (suc (suc (suc (suc k)))) d l = absurd (omega (arith, l))

pub one_more_of : {X : Type 0} (P : X → Type 0) (xs : List X) (i : ℕ) (x : X) → i < length xs → All P (take i xs) → P (get_or xs i x)
    → All P (take (i + 1) xs)
one_more_of P xs i x h so_far p = subst (All P) (sym (take_more xs i x h)) (All-push P (take i xs) (get_or xs i x) so_far p)

pub all_taken : {X : Type 0} (P : X → Type 0) (xs : List X) (i : ℕ) → length xs ≤ i → All P (take i xs) → All P xs
all_taken P xs i h all = subst (All P) (take_all i xs h) all
