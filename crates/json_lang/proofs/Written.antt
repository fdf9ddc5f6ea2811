-- Lines written word by word, and texts line by line.
use Rattle.std.proofs.Common.{◌≡◌, ℕ, List, [], ◌∷◌, ◌++◌, map, sym, ap, ◌∙◌, append_assoc}
use Rattle.std.specs.List.{flat_map}
use Rattle.std.proofs.lemmas.List.Folds.{flat_map-map}
use Rattle.coll_text.specs.Text.{line}
use Rattle.coll_text.proofs.Writes.{join_spaced}
use Rattle.serde_json.specs.Data.{Data}
use Rattle.serde_json.specs.View.{view}
use Rattle.serde_json.specs.declared.value.Value.{Value}
use Rattle.json_lang.specs.Values.{word_of}
use Rattle.json_lang.specs.LineText.{list_line, group_line, input_line, input_lines, print_line}

-- a key and the words of values with a space before each, and LF
pub keyed_line : (out key : List ℕ) (vs : List Value)
    → ((out ++ key) ++ flat_map (λ v. 32 ∷ word_of (view v)) vs) ++ 10 ∷ [] ≡ out ++ line (key ∷ map word_of (map view vs))
keyed_line out key vs =
    let others = flat_map (λ v. 32 ∷ word_of (view v)) vs in
    append_assoc (out ++ key) others (10 ∷ []) ∙ append_assoc out key (others ++ 10 ∷ [])
    ∙ ap (λ (x : List ℕ). out ++ x) (sym (append_assoc key others (10 ∷ []))
    ∙ ap (λ (x : List ℕ). (key ++ x) ++ 10 ∷ [])
    (sym (flat_map-map (λ d. 32 ∷ word_of d) view vs) ∙ sym (flat_map-map (λ w. 32 ∷ w) word_of (map view vs)))
    ∙ ap (λ (x : List ℕ). x ++ 10 ∷ []) (sym (join_spaced key (map word_of (map view vs)))))

-- values written one after the other are the text of their list
seen : (f : Data → List ℕ) (vs : List Value) (ds : List Data) → map view vs ≡ ds → flat_map (λ v. f (view v)) vs ≡ flat_map f ds
seen f vs ds e = sym (flat_map-map f view vs) ∙ ap (flat_map f) e

-- the line of an input, and its rows
pub input_joined : (out : List ℕ) (d : Data) (vs : List Value) (rows : List Data) → map view vs ≡ rows
    → (out ++ input_line d (map view vs)) ++ flat_map (λ v. list_line (view v)) vs ≡ out ++ (input_line d rows ++ flat_map list_line rows)
input_joined out d vs rows e =
    append_assoc out (input_line d (map view vs)) (flat_map (λ v. list_line (view v)) vs)
    ∙ (λ k. out ++ (input_line d (e k) ++ seen list_line vs rows e k))

joined : (out coll ranks remote groups inputs steps prints end : List ℕ)
    → (((((((out ++ coll) ++ ranks) ++ remote) ++ groups) ++ inputs) ++ steps) ++ prints) ++ end
    ≡ out ++ (coll ++ (ranks ++ (remote ++ (groups ++ (inputs ++ (steps ++ (prints ++ end)))))))
joined out coll ranks remote groups inputs steps prints end = simp append_assoc

-- the whole text
pub all_joined : (out coll ranks remote end : List ℕ) (g i s p : List Value) (gs ins ss ps : List Data)
    → map view g ≡ gs → map view i ≡ ins → map view s ≡ ss → map view p ≡ ps
    → (((((((out ++ coll) ++ ranks) ++ remote) ++ flat_map (λ v. group_line (view v)) g) ++ flat_map (λ v. input_lines (view v)) i)
    ++ flat_map (λ v. list_line (view v)) s) ++ flat_map (λ v. print_line (view v)) p) ++ end
    ≡ out ++ (coll ++ (ranks ++ (remote
    ++ (flat_map group_line gs ++ (flat_map input_lines ins ++ (flat_map list_line ss ++ (flat_map print_line ps ++ end)))))))
all_joined out coll ranks remote end g i s p gs ins ss ps eg ei es ep =
    (λ k. (((((((out ++ coll) ++ ranks) ++ remote) ++ seen group_line g gs eg k) ++ seen input_lines i ins ei k)
    ++ seen list_line s ss es k) ++ seen print_line p ps ep k) ++ end)
    ∙ joined out coll ranks remote (flat_map group_line gs) (flat_map input_lines ins) (flat_map list_line ss) (flat_map print_line ps) end
