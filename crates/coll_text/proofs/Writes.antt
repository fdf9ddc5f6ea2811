-- Lines and elements, written word by word.
use Rattle.std.proofs.Common.{◌≡◌, ℕ, zero, suc, ◌+◌, ◌-◌, ◌*◌, ◌/◌, ◌<◌, ◌≤◌, List, [], ◌∷◌, ◌++◌, length, take, drop, get_or, map, refl}
use Rattle.std.proofs.Common.{sym, ap, ◌∙◌, arith, add-one, append_assoc, mul-div_cancel}
use Rattle.std.specs.List.{flat_map, join_with_byte}
use Rattle.std.proofs.lemmas.List.{append-nil}
use Rattle.std.proofs.lemmas.List.Folds.{flat_map-map}
use Rattle.std.proofs.lemmas.Grind.{common_steps}
use Rattle.std.proofs.Math.Nat.{div-eq-sub-div, div-eq_of_lt}
use Rattle.op_laws.proofs.Bytes.{bytes-pos}
use Rattle.ptl_types.specs.declared.elements.ElemType.{ElemType}
use Rattle.ptl_types.specs.Operations.{bytes_of}
use Rattle.ptl_types.specs.Elements.{pattern}
use Rattle.coll_text.specs.Elements.{first_elements, elements, value_word}

-- words parted by spaces are the first one and then each other one with a space before it
pub join_spaced : (x : List ℕ) (xs : List (List ℕ)) → join_with_byte 32 (x ∷ xs) ≡ x ++ flat_map (λ w. 32 ∷ w) xs
join_spaced x [] = sym (append-nil x)
join_spaced x (y ∷ xs) = ap (λ rest. x ++ (32 ∷ rest)) (join_spaced y xs)

-- the first element, and those after it
fewer : (ty : ElemType) (n : ℕ) → bytes_of ty ≤ n → n / bytes_of ty ≡ suc ((n - bytes_of ty) / bytes_of ty)
fewer ty n le = div-eq-sub-div (bytes-pos ty) le ∙ add-one ((n - bytes_of ty) / bytes_of ty)

none_left : (ty : ElemType) (n : ℕ) → n < bytes_of ty → n / bytes_of ty ≡ 0
none_left ty n lt = div-eq_of_lt lt

-- bytes of n elements hold n of them
pub whole_elements : (ty : ElemType) (n m : ℕ) → m ≡ n * bytes_of ty → m / bytes_of ty ≡ n
whole_elements ty n m e = ap (λ (k : ℕ). k / bytes_of ty) e ∙ mul-div_cancel n (bytes-pos ty)

pub first_count : (w n : ℕ) (bytes : List ℕ) → length (first_elements w n bytes) ≡ n
first_count w zero bytes = refl
first_count w (suc n) bytes = ap suc (first_count w n (drop w bytes))

pub elements_count : (ty : ElemType) (n : ℕ) (bytes : List ℕ) → length bytes ≡ n * bytes_of ty → length (elements ty bytes) ≡ n
unfolding elements
elements_count ty n bytes e = first_count (bytes_of ty) (length bytes / bytes_of ty) bytes ∙ whole_elements ty n (length bytes) e

shorter : (n : ℕ) (bytes : List ℕ) → n ≤ length bytes → length bytes - n ≡ length (drop n bytes)
shorter n bytes le = grind (arith, common_steps)

pub first_of : (ty : ElemType) (bytes : List ℕ) → bytes_of ty ≤ length bytes → elements ty bytes ≡ pattern (take (bytes_of ty) bytes)
    ∷ elements ty (drop (bytes_of ty) bytes)
unfolding elements
first_of ty bytes le =
    ap (λ n. first_elements (bytes_of ty) n bytes) (fewer ty (length bytes) le)
    ∙ ap (λ n. pattern (take (bytes_of ty) bytes) ∷ first_elements (bytes_of ty) (n / bytes_of ty) (drop (bytes_of ty) bytes))
    (shorter (bytes_of ty) bytes le)

pub none_of : (ty : ElemType) (bytes : List ℕ) → length bytes < bytes_of ty → elements ty bytes ≡ []
unfolding elements
none_of ty bytes lt = ap (λ n. first_elements (bytes_of ty) n bytes) (none_left ty (length bytes) lt)

-- one word written
pub word_step : {W : Type 0} (f : W → List ℕ) (out : List ℕ) (words : List W) (i : ℕ) (d : W) → i < length words →
    (out ++ 32 ∷ f (get_or words i d)) ++ flat_map (λ w. 32 ∷ f w) (drop (i + 1) words) ≡ out ++ flat_map (λ w. 32 ∷ f w) (drop i words)
word_step f out words i d lt =
    append_assoc out (32 ∷ f (get_or words i d)) (flat_map (λ w. 32 ∷ f w) (drop (i + 1) words))
    ∙ ap (λ ws. out ++ flat_map (λ w. 32 ∷ f w) ws) (sym (drop_at words i d lt))
  where
    drop_at : {W : Type 0} (words : List W) (i : ℕ) (d : W) → i < length words → drop i words ≡ get_or words i d ∷ drop (i + 1) words
    drop_at words i d lt = grind (arith, common_steps)

-- one value written
pub value_step : (ty : ElemType) (out rest : List ℕ) → bytes_of ty ≤ length rest
    → ((out ++ 32 ∷ []) ++ value_word ty (pattern (take (bytes_of ty) rest))) ++ flat_map (λ x. 32 ∷ value_word ty x)
    (elements ty (drop (bytes_of ty) rest)) ≡ out ++ flat_map (λ x. 32 ∷ value_word ty x) (elements ty rest)
value_step ty out rest le =
    append_assoc (out ++ 32 ∷ []) (value_word ty (pattern (take (bytes_of ty) rest)))
    (flat_map (λ x. 32 ∷ value_word ty x) (elements ty (drop (bytes_of ty) rest)))
    ∙ append_assoc out (32 ∷ []) (value_word ty (pattern (take (bytes_of ty) rest)) ++ flat_map (λ x. 32 ∷ value_word ty x)
    (elements ty (drop (bytes_of ty) rest)))
    ∙ ap (λ xs. out ++ flat_map (λ x. 32 ∷ value_word ty x) xs) (sym (first_of ty rest le))

-- a line is its first word, the others with a space before each, and LF
pub line_written : {W : Type 0} (f : W → List ℕ) (out : List ℕ) (w : W) (ws : List W) → ((out ++ f w) ++ flat_map (λ w. 32 ∷ f w) ws) ++
    10 ∷ [] ≡ out ++ (join_with_byte 32 (map f (w ∷ ws)) ++ 10 ∷ [])
line_written f out w ws =
    append_assoc (out ++ f w) (flat_map (λ w. 32 ∷ f w) ws) (10 ∷ []) ∙ append_assoc out (f w) (flat_map (λ w. 32 ∷ f w) ws ++ 10 ∷ [])
    ∙ ap (λ (x : List ℕ). out ++ x) (sym (append_assoc (f w) (flat_map (λ w. 32 ∷ f w) ws) (10 ∷ []))
    ∙ ap (λ (x : List ℕ). (f w ++ x) ++ 10 ∷ []) (sym (flat_map-map (λ w. 32 ∷ w) f ws))
    ∙ ap (λ (x : List ℕ). x ++ 10 ∷ []) (sym (join_spaced (f w) (map f ws))))

-- a data line is its first value, the others with a space before each, and LF
pub data_written : (ty : ElemType) (out bytes : List ℕ) → bytes_of ty ≤ length bytes
    → ((out ++ value_word ty (pattern (take (bytes_of ty) bytes))) ++ flat_map (λ x. 32 ∷ value_word ty x)
    (elements ty (drop (bytes_of ty) bytes))) ++ 10 ∷ []
    ≡ out ++ (join_with_byte 32 (map (value_word ty) (elements ty bytes)) ++ 10 ∷ [])
data_written ty out bytes le =
    line_written (value_word ty) out (pattern (take (bytes_of ty) bytes)) (elements ty (drop (bytes_of ty) bytes))
    ∙ ap (λ xs. out ++ (join_with_byte 32 (map (value_word ty) xs) ++ 10 ∷ [])) (sym (first_of ty bytes le))

pub no_data : (ty : ElemType) (out bytes : List ℕ) → length bytes < bytes_of ty →
    out ++ 10 ∷ [] ≡ out ++ (join_with_byte 32 (map (value_word ty) (elements ty bytes)) ++ 10 ∷ [])
no_data ty out bytes lt = ap (λ xs. out ++ (join_with_byte 32 (map (value_word ty) xs) ++ 10 ∷ [])) (sym (none_of ty bytes lt))
