use Rattle.std.proofs.Common.{◌≡◌, ◌*◌, ◌/◌, ℕ, ◌<◌, List, length, ap, sym, ◌∙◌, arith}
use Rattle.std.specs.List.{flat_map}
use Rattle.number_lists.specs.Numbers.{from_to}
use Rattle.ptl_types.specs.Elements.{part}
use Rattle.coll_shape.specs.Folding.{at, block, exchanged}
use Rattle.coll_meaning.proofs.Rows.{flat_same}
use Rattle.coll_meaning.proofs.folding.exchanged.Goals as goal

same_part : (i m : ℕ) (a b : ℕ) (x : List ℕ) → a ≡ b → part (i * (a / m)) (a / m) x ≡ part (i * (b / m)) (b / m) x
same_part i m a b x e = ap (λ v. part (i * (v / m)) (v / m) x) e

of_blocks : (xs : List (List ℕ)) (i : ℕ) → i < length xs → ((q : ℕ) → q < length xs → length (at xs q) ≡ length (at xs 0)) →
    flat_map (λ q. block (length xs) i (at xs q)) (from_to 0 (length xs)) ≡ exchanged xs i
of_blocks xs i l even =
    flat_same (λ q. block (length xs) i (at xs q)) (λ q. part (i * (length (at xs i) / length xs)) (length (at xs i) / length xs)
    (at xs q)) 0 (length xs)
    (λ q j. same_part i (length xs) (length (at xs q)) (length (at xs i)) (at xs q) (even q (omega arith) ∙ sym (even i l)))

pub returns : goal.returns
returns c =
    let n : c.loop-q.q ≡ length c.args.xs.now = omega arith in
    c.of.ensures.made ∙ c.loop-q.invariant
    ∙ ap (λ v. flat_map (λ q. block (length c.args.xs.now) c.args.i (at c.args.xs.now q)) (from_to 0 v)) n
    ∙ of_blocks c.args.xs.now c.args.i c.requires.place c.requires.even
