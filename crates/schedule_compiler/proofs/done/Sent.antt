-- What is counted for a rank is what it sends.
use Rattle.std.proofs.Common.{ℕ, Bool, true, false, cond, not, ◌&&◌, ◌+◌, ◌≡◌, ◌<◌, ◌==◌, List, [], ◌∷◌, refl, length, filter, count_by}
use Rattle.std.proofs.Common.{get_or, ap, ap₂, ◌∙◌, sym, arith, zero-add}
use Rattle.std.proofs.lemmas.Bool.{ne_eqb}
use Rattle.std.proofs.lemmas.List.Sums.{length-filter}
use Rattle.plan_core.specs.declared.LinkKind.{LinkKind}
use Rattle.plan_core.specs.declared.LinkKind.TheVariants.{Put, Atomic, Bump}
use Rattle.plan_core.specs.Plan.{Plan, link, all_links, is_bump, own}
use Rattle.plan_core.proofs.Lists.{count-cons}
use Rattle.plan_core.specs.calls.RankOps.{done_threshold, is_message, sends_of}
use Rattle.plan_tables.specs.Rising.{of_key}
use Rattle.plan_tables.specs.Tables.{from_rank, key_of}
use Rattle.plan_tables.proofs.Passes.{get-row}
use Rattle.schedule_compiler.specs.done.Counts.{own_counts, sent_counts, sent_key}

and-true : (v : Bool) → (v && true) ≡ v
and-true true = refl
and-true false = refl

and-false : (v : Bool) → (v && false) ≡ false
and-false true = refl
and-false false = refl

-- what passes both of two tests, counted in what passes one of them
counted-both : (a b t : ℕ → Bool) (xs : List ℕ) → ((x : ℕ) → t x ≡ (b x && a x)) → count_by t xs ≡ count_by b (filter a xs)
counted-both a b t [] same = refl
counted-both a b t (x ∷ xs) same =
    count-cons t x xs ∙ ap₂ (λ w n. cond w 1 0 + n) (same x) (counted-both a b t xs same) ∙ at (a x)
  where
    at : (u : Bool) → cond (b x && u) 1 0 + count_by b (filter a xs) ≡ count_by b (cond u (x ∷ filter a xs) (filter a xs))
    at true = ap (λ w. cond w 1 0 + count_by b (filter a xs)) (and-true (b x)) ∙ sym (count-cons b x (filter a xs))
    at false = ap (λ w. cond w 1 0 + count_by b (filter a xs)) (and-false (b x)) ∙ zero-add (count_by b (filter a xs))

pub sent-all : (p : Plan) (r : ℕ) → r < p.ranks → length (of_key (sent_key p) (length p.links) r) ≡ sends_of p r
sent-all p r h =
    length-filter (λ l. sent_key p l == r) (all_links p)
    ∙ counted-both (λ l. from_rank p l == r) (is_message p) (λ l. sent_key p l == r) (all_links p) (λ i. at i (link p i).kind)
  where
    at : (i : ℕ) (kind : LinkKind) → (key_of kind (from_rank p i) p.ranks == r) ≡ (not (is_bump kind) && (from_rank p i == r))
    at i Put = refl
    at i Atomic = refl
    at i Bump = ne_eqb p.ranks r (λ z. absurd (omega (arith, z, h)))

-- where a rank is done, of a plan that waits for acknowledgements and of one that doesn't
pub done-remote : (p q : Plan) (r x y : ℕ) → p ≡ q → p.remote ≡ true → x ≡ length (own p r) → y ≡ sends_of p r → x + y ≡ done_threshold q r
done-remote p q r x y same remote cells sent =
    ap₂ (λ a b. a + b) cells sent
    ∙ ap (λ b. length (own p r) + cond b (sends_of p r) 0) (sym remote)
    ∙ ap (λ v. done_threshold v r) same

pub done-local : (p q : Plan) (r x : ℕ) → p ≡ q → p.remote ≡ false → x ≡ length (own p r) → x ≡ done_threshold q r
done-local p q r x same remote cells =
    cells
    ∙ (let z : length (own p r) ≡ length (own p r) + 0 = omega arith in z)
    ∙ ap (λ b. length (own p r) + cond b (sends_of p r) 0) (sym remote)
    ∙ ap (λ v. done_threshold v r) same

-- the counts of a rank
pub cells-at : (p : Plan) (r : ℕ) (cells : List ℕ) → cells ≡ own_counts p → r < p.ranks → get_or cells r 0 ≡ length (own p r)
cells-at p r cells e h = ap (λ v. get_or v r 0) e ∙ get-row (λ i. length (own p i)) p.ranks r 0 h

pub sent-at : (p : Plan) (r : ℕ) (sent : List ℕ) → sent ≡ sent_counts p → r < p.ranks → get_or sent r 0 ≡ sends_of p r
sent-at p r sent e h = ap (λ v. get_or v r 0) e ∙ get-row (λ i. length (of_key (sent_key p) (length p.links) i)) p.ranks r 0 h
    ∙ sent-all p r h
