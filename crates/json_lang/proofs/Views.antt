-- Values beside the lists and members that they stand for.
use Rattle.std.proofs.Common.{◌≡◌, ℕ, List, [], ◌∷◌, map, Bool, ◌&&◌, String, Global, string_bytes, refl, ap}
use Rattle.std.specs.List.{list_all, list_any}
use Rattle.std.specs.Str.{bytes_eq}
use Rattle.std.specs.Map.{keys_of}
use Rattle.std.proofs.lemmas.List.Folds.{list_all-map}
use Rattle.serde_json.specs.Data.{Data}
use Rattle.serde_json.specs.View.{view, items_of, members_view}
use Rattle.serde_json.specs.declared.value.Value.{Value}
use Rattle.json_lang.specs.Values.{items_in}
use Rattle.json_lang.specs.Form.{all_among}

-- a list's values, seen as data and back
pub items_again : (ds : List Data) → items_in (items_of ds) ≡ ds
items_again [] = refl
items_again (d ∷ ds) = ap (λ more. d ∷ more) (items_again ds)

-- a plain name for the folds' lemma: one with a dash can't be given to a function by name
pub all_seen : (p : Data → Bool) (vs : List Value) → list_all p (map view vs) ≡ list_all (λ v. p (view v)) vs
all_seen p vs = list_all-map p view vs

-- an object's names are its map's keys
pub among_seen : (known : List (List ℕ)) (ms : List (String Global × Value))
    → all_among known (members_view ms) ≡ list_all (λ k. list_any (bytes_eq (string_bytes k)) known) (keys_of ms)
among_seen known [] = refl
among_seen known (m ∷ ms) = ap (λ b. list_any (bytes_eq (string_bytes m.0)) known && b) (among_seen known ms)
