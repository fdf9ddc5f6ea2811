-- The lists of the inputs, as the data lines come.
use Rattle.std.proofs.Common.{◌≡◌, ℕ, zero, suc, ◌+◌, ◌-◌, ◌*◌, ◌<◌, ◌≤◌, List, [], ◌∷◌, ◌++◌, length, take, drop, refl, sym, ap, ◌∙◌}
use Rattle.std.proofs.Common.{arith, append_assoc, subst}
use Rattle.std.specs.Prelude.{All}
use Rattle.std.specs.List.{flat_map}
use Rattle.std.proofs.lemmas.List.{append-nil, take_all}
use Rattle.std.proofs.lemmas.List.Elements.{All-nil}
use Rattle.std.proofs.lemmas.Grind.{flat_map-append, common_steps}
use Rattle.coll_lang.specs.Spelling.{input_text, data_text, inputs_text}
use Rattle.std.proofs.lemmas.List.Elements.{All-cons, All-append}
use Rattle.coll_shape.specs.declared.types.Buffer.{Buffer}
use Rattle.coll_shape.specs.Outline.{list_bytes}

-- one rank's list of an input: whole elements, as many as it has
pub record IsListOf (b : Buffer) (list : List ℕ) : Type 0 where
  pub whole : length list ≡ list_bytes b
  pub bytes : All (λ x. x < 256) list

-- each input has a list of every rank, and no list is left over
abbrev pub Filled : ℕ → List Buffer → List (List ℕ) → Type 0
Filled ranks [] lists = lists ≡ []
Filled ranks (b ∷ bs) lists = (ranks ≤ length lists) × All (IsListOf b) (take ranks lists) × Filled ranks bs (drop ranks lists)

pub All-push : {A : Type 0} (P : A → Type 0) (xs : List A) (x : A) → All P xs → P x → All P (xs ++ x ∷ [])
All-push P xs x h p = All-append P xs (x ∷ []) h (All-cons P x [] p (All-nil P))

-- the earlier inputs have their lists, and so many are due of the newest one
abbrev pub Filling : ℕ → ℕ → List Buffer → Buffer → List (List ℕ) → Type 0
Filling ranks left [] c lists = (length lists + left ≡ ranks) × All (IsListOf c) lists
Filling ranks left (b ∷ bs) c lists =
    (ranks ≤ length lists) × All (IsListOf b) (take ranks lists) × Filling ranks left bs c (drop ranks lists)

take_none : (n : ℕ) → let none : List (List ℕ) = [] in take n none ≡ none
take_none zero = refl
take_none (suc n) = refl

behind : (b d i t : List ℕ) → b ++ (d ++ (i ++ t)) ≡ (b ++ (d ++ i)) ++ t
behind b d i t = simp append_assoc

-- a new input stands after the others, with no data lines yet
pub one_input : (ranks : ℕ) (bs : List Buffer) (c : Buffer) (lists : List (List ℕ)) → Filled ranks bs lists
    → inputs_text ranks (bs ++ c ∷ []) lists ≡ inputs_text ranks bs lists ++ input_text c
one_input ranks [] c lists h = rw (h, take_none ranks) (append-nil (input_text c))
one_input ranks (b ∷ bs) c lists h =
    ap (λ (x : List ℕ). input_text b ++ (flat_map (data_text b) (take ranks lists) ++ x)) (one_input ranks bs c (drop ranks lists) h.2)
    ∙ behind (input_text b) (flat_map (data_text b) (take ranks lists)) (inputs_text ranks bs (drop ranks lists)) (input_text c)

no_lists : (ranks : ℕ) (c : Buffer) (lists : List (List ℕ)) → lists ≡ [] → (length lists + ranks ≡ ranks) × All (IsListOf c) lists
no_lists ranks c [] e = (omega arith, All-nil (IsListOf c))
no_lists ranks c (x ∷ xs) e = cc

pub starts_filling : (ranks : ℕ) (bs : List Buffer) (c : Buffer) (lists : List (List ℕ)) → Filled ranks bs lists
    → Filling ranks ranks bs c lists
starts_filling ranks [] c lists h = no_lists ranks c lists h
starts_filling ranks (b ∷ bs) c lists h = (h.0, h.1, starts_filling ranks bs c (drop ranks lists) h.2)

drop_all : (n : ℕ) (lists : List (List ℕ)) → length lists ≤ n → drop n lists ≡ []
drop_all n lists le = grind (arith, common_steps)

take_front : (n : ℕ) (lists : List (List ℕ)) (x : List ℕ) → n ≤ length lists → take n (lists ++ x ∷ []) ≡ take n lists
take_front n lists x le = grind (arith, common_steps)

drop_front : (n : ℕ) (lists : List (List ℕ)) (x : List ℕ) → n ≤ length lists → drop n (lists ++ x ∷ []) ≡ drop n lists ++ x ∷ []
drop_front n lists x le = grind (arith, common_steps)

longer : (lists : List (List ℕ)) (x : List ℕ) → length (lists ++ x ∷ []) ≡ length lists + 1
longer lists x = grind (arith, common_steps)

pub is_filled : (ranks : ℕ) (bs : List Buffer) (c : Buffer) (lists : List (List ℕ)) → Filling ranks 0 bs c lists
    → Filled ranks (bs ++ c ∷ []) lists
is_filled ranks [] c lists h =
    let e = h.0 in
    let all : take ranks lists ≡ lists = take_all ranks lists (omega (arith, e)) in
    (omega (arith, e), subst (λ (l : List (List ℕ)). All (IsListOf c) l) (sym all) h.1, drop_all ranks lists (omega (arith, e)))
is_filled ranks (b ∷ bs) c lists h = (h.0, h.1, is_filled ranks bs c (drop ranks lists) h.2)

pub fills : (ranks left : ℕ) (bs : List Buffer) (c : Buffer) (lists : List (List ℕ)) (x : List ℕ) → 0 < left → IsListOf c x
    → Filling ranks left bs c lists → Filling ranks (left - 1) bs c (lists ++ x ∷ [])
fills ranks left [] c lists x lt is h =
    let e = h.0 in
    let l = longer lists x in
    (omega (arith, e, l), All-push (IsListOf c) lists x h.1 is)
fills ranks left (b ∷ bs) c lists x lt is h =
    let e = h.0 in
    let l = longer lists x in
    let take_is = take_front ranks lists x h.0 in (
      omega (arith, e, l),
      subst (λ (l : List (List ℕ)). All (IsListOf b) l) (sym take_is) h.1,
      subst (λ (l : List (List ℕ)). Filling ranks (left - 1) bs c l) (sym (drop_front ranks lists x h.0))
          (fills ranks left bs c (drop ranks lists) x lt is h.2),
    )

-- a data line stands after the others of the newest input
pub one_data_line : (ranks left : ℕ) (bs : List Buffer) (c : Buffer) (lists : List (List ℕ)) (x : List ℕ) → 0 < left
    → Filling ranks left bs c lists
    → inputs_text ranks (bs ++ c ∷ []) (lists ++ x ∷ []) ≡ inputs_text ranks (bs ++ c ∷ []) lists ++ data_text c x
one_data_line ranks left [] c lists x lt h =
    let e = h.0 in
    let l = longer lists x in
    let all = take_all ranks lists (omega (arith, e)) in
    let more = take_all ranks (lists ++ x ∷ []) (omega (arith, e, l)) in
    ap (λ (l : List (List ℕ)). input_text c ++ (flat_map (data_text c) l ++ [])) more
    ∙ ap (λ (l : List ℕ). input_text c ++ l)
    (append-nil (flat_map (data_text c) (lists ++ x ∷ [])) ∙ flat_map-append (data_text c) lists (x ∷ [])
    ∙ ap (λ (l : List ℕ). flat_map (data_text c) lists ++ l) (append-nil (data_text c x)))
    ∙ sym (append_assoc (input_text c) (flat_map (data_text c) lists) (data_text c x))
    ∙ ap (λ (l : List (List ℕ)). (input_text c ++ flat_map (data_text c) l) ++ data_text c x) (sym all)
    ∙ ap (λ (l : List ℕ). (input_text c ++ l) ++ data_text c x) (sym (append-nil (flat_map (data_text c) (take ranks lists))))
one_data_line ranks left (b ∷ bs) c lists x lt h =
    ap (λ (l : List (List ℕ)). input_text b
    ++ (flat_map (data_text b) l ++ inputs_text ranks (bs ++ c ∷ []) (drop ranks (lists ++ x ∷ [])))) (take_front ranks lists x h.0)
    ∙ ap (λ (l : List (List ℕ)). input_text b ++ (flat_map (data_text b) (take ranks lists) ++ inputs_text ranks (bs ++ c ∷ []) l))
    (drop_front ranks lists x h.0)
    ∙ ap (λ (l : List ℕ). input_text b ++ (flat_map (data_text b) (take ranks lists) ++ l))
    (one_data_line ranks left bs c (drop ranks lists) x lt h.2)
    ∙ behind (input_text b) (flat_map (data_text b) (take ranks lists)) (inputs_text ranks (bs ++ c ∷ []) (drop ranks lists))
    (data_text c x)

pub length-drop : (n : ℕ) (lists : List (List ℕ)) → n ≤ length lists → length lists ≡ n + length (drop n lists)
length-drop n lists le = grind (arith, common_steps)

-- so there are as many lists as inputs and ranks say
pub lists_of_all : (ranks : ℕ) (bs : List Buffer) (lists : List (List ℕ)) → Filled ranks bs lists → length lists ≡ length bs * ranks
lists_of_all ranks [] [] h = omega arith
lists_of_all ranks [] (x ∷ xs) h = cc
lists_of_all ranks (b ∷ bs) lists h =
    length-drop ranks lists h.0 ∙ ap (λ n. ranks + n) (lists_of_all ranks bs (drop ranks lists) h.2) ∙ sym (once_more (length bs) ranks)
  where
    once_more : (n size : ℕ) → suc n * size ≡ size + n * size
    once_more n size = grind arith
