-- Operations that wait no longer, one more at a time.
use Rattle.std.proofs.Common.{◌≡◌, ℕ, ◌+◌, ◌<◌, ◌≤◌, suc, List, [], ◌∷◌, length, get_or, drop, add-one, drop-cons}
use Rattle.std.proofs.lemmas.List.{drop_all}
use Rattle.log_answers.specs.names.Postings.{each_removed, removed}
use Rattle.log_answers.specs.declared.names.postings.Postings.{Postings}

pub next_removed : (i : ℕ) (xs : List ℕ) (p q whole : Postings) → i < length xs → q ≡ removed (get_or xs i 0) p
    → each_removed (drop i xs) p ≡ whole → each_removed (drop (i + 1) xs) q ≡ whole
next_removed i xs p q whole l is e = rw (is, add-one) (rw (drop-cons xs i 0) at e)

pub all_removed : (i : ℕ) (xs : List ℕ) (p whole : Postings) → length xs ≤ i → each_removed (drop i xs) p ≡ whole → p ≡ whole
all_removed i xs p whole l e =
    let none : drop i xs ≡ [] = drop_all i xs l in
    rw none at e
