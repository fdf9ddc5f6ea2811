-- Printable bytes stay printable.
use Rattle.std.proofs.Common.{◌≡◌, ℕ, List, [], ◌∷◌, ◌++◌, true, refl, ◌∙◌, ap}
use Rattle.std.specs.Prelude.{◌&&◌}
use Rattle.std.specs.List.{list_all}
use Rattle.std.proofs.lemmas.List.Folds.{list_all-append}
use Rattle.coll_lang.specs.Language.{is_allowed}

pub one_more : (xs : List ℕ) (b : ℕ) → list_all is_allowed xs ≡ true → is_allowed b ≡ true → list_all is_allowed (xs ++ b ∷ []) ≡ true
one_more xs b all one = rw (list_all-append is_allowed xs (b ∷ []), all, one) refl
