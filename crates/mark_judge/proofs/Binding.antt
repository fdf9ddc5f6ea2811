-- Which cells can't be reached before their rank's start: chains of links, and the table.
use Rattle.std.proofs.Common.{ℕ, zero, suc, Bool, true, false, not, List, ◌≡◌, ◌+◌, ◌<◌, ◌≤◌, ◌++◌, ◌∷◌, ◌||◌, [], refl, length, get_or}
use Rattle.std.proofs.Common.{ap, ◌∙◌, sym, arith, inl, inr}
use Rattle.std.specs.Prelude.{nat_lt}
use Rattle.std.specs.List.{list_any}
use Rattle.std.proofs.lemmas.Bool.{cases_Bool, cases_eq, lt-ltb, ltb-true, not_from_false, or_cases, or_left, or_right}
use Rattle.std.proofs.lemmas.List.{get_or_append_left, get_or_push}
use Rattle.given_lines.specs.declared.given.Mark.{Mark}
use Rattle.given_lines.specs.declared.given.Mark.TheVariants.{Result, Enter, Leave}
use Rattle.mark_judge.specs.Bound.{IsBound, bound_within, is_bound}
use Rattle.mark_judge.specs.Bound.IsBound.{bump, go, message}
use Rattle.mark_judge.specs.Due.{cell_of}
use Rattle.mark_judge.specs.Judged.{is_early}
use Rattle.mark_judge.specs.Tables.{AreBound, does_bind, is_unbound}
use Rattle.mark_judge.proofs.Chains.{Rising, from_below, none_at_zero}
use Rattle.mark_judge.proofs.Tests.{In-any, any-In, any_same, or-false}
use Rattle.plan_core.specs.Members.{In}
use Rattle.plan_core.specs.Plan.{Plan, in_links, is_bump, link}

-- a link that is a message or comes from a cell that such a chain tells
abbrev binds_within : Plan → ℕ → ℕ → Bool
binds_within p n l = not (is_bump (link p l).kind) || bound_within p n (link p l).source

-- as many links as the cell's number are enough
enough : (p : Plan) → Rising p → (m n c : ℕ) → c ≤ m → c ≤ n → bound_within p m c ≡ bound_within p n c
unfolding bound_within
enough p up zero zero c h k = refl
enough p up zero (suc n) c h k =
    sym (ap (λ t. nat_lt c p.ranks || t) (none_at_zero p up (binds_within p n) c h) ∙ or-false (nat_lt c p.ranks))
enough p up (suc m) zero c h k =
    ap (λ t. nat_lt c p.ranks || t) (none_at_zero p up (binds_within p m) c k) ∙ or-false (nat_lt c p.ranks)
enough p up (suc m) (suc n) c h k =
    ap (λ t. nat_lt c p.ranks || t)
    (any_same (binds_within p m) (binds_within p n) (in_links p c)
    (λ l i. let u = from_below p up c l i in
    ap (λ t. not (is_bump (link p l).kind) || t) (enough p up m n (link p l).source (omega (arith, u, h)) (omega (arith, u, k)))))

within_suc : (p : Plan) (n c : ℕ)
    → bound_within p (suc n) c ≡ (nat_lt c p.ranks || list_any (binds_within p n) (in_links p c))
unfolding bound_within
within_suc p n c = refl

-- a link that is a message or comes from such a cell
abbrev binds : Plan → ℕ → Bool
binds p l = not (is_bump (link p l).kind) || is_bound p (link p l).source

-- a cell is one where it is a go cell, or such a link comes to it
pub bound_step : (p : Plan) → Rising p → (c : ℕ) → is_bound p c ≡ (nat_lt c p.ranks || list_any (binds p) (in_links p c))
bound_step p up c =
    enough p up c (suc c) c (omega arith) (omega arith)
    ∙ within_suc p c c
    ∙ ap (λ t. nat_lt c p.ranks || t)
    (any_same (binds_within p c) (binds p) (in_links p c)
    (λ l i. let u = from_below p up c l i in
    ap (λ t. not (is_bump (link p l).kind) || t) (enough p up c (link p l).source (link p l).source (omega (arith, u)) (omega arith))))

-- ---- what it says
within-bound : (p : Plan) (n c : ℕ) → bound_within p n c ≡ true → IsBound p c
unfolding bound_within
within-bound p zero c e = go c (ltb-true c p.ranks e)
within-bound p (suc n) c e =
    elim (or_cases (nat_lt c p.ranks) (list_any (binds_within p n) (in_links p c)) e) [
      | inl q ↦ go c (ltb-true c p.ranks q)
      | inr q ↦ (let r = any-In (binds_within p n) (in_links p c) q in
          let l = r.0 in
          elim (cases_Bool (is_bump (link p l).kind)) [
            | inl k ↦ bump c l r.1 k
                (within-bound p n (link p l).source (sym (ap (λ t. not t || bound_within p n (link p l).source) k) ∙ r.2))
            | inr k ↦ message c l r.1 k
          ])
    ]

pub bound-is : (p : Plan) (c : ℕ) → is_bound p c ≡ true → IsBound p c
bound-is p c e = within-bound p c c e

bound_by : (p : Plan) → Rising p → (c l : ℕ) → In l (in_links p c) → binds p l ≡ true → is_bound p c ≡ true
bound_by p up c l i e =
    bound_step p up c ∙ or_right (nat_lt c p.ranks) (list_any (binds p) (in_links p c)) (In-any (binds p) l (in_links p c) i e)

pub is-bound : (p : Plan) → Rising p → (c : ℕ) → IsBound p c → is_bound p c ≡ true
is-bound p up c (go r h) = bound_step p up r ∙ or_left (nat_lt r p.ranks) (list_any (binds p) (in_links p r)) (lt-ltb r p.ranks h)
is-bound p up c (message d l i k) =
    bound_by p up d l i
    (or_left (not (is_bump (link p l).kind)) (is_bound p (link p l).source) (not_from_false (is_bump (link p l).kind) k))
is-bound p up c (bump d l i k b) =
    bound_by p up d l i
    (or_right (not (is_bump (link p l).kind)) (is_bound p (link p l).source) (is-bound p up (link p l).source b))

-- ---- the table
-- the next cell, from those before it
pub next_is : (p : Plan) → Rising p → (c : ℕ) (before : List Bool) (links : List ℕ) → links ≡ in_links p c → AreBound p c before
    → (nat_lt c p.ranks || list_any (does_bind p before) links) ≡ is_bound p c
next_is p up c before links are told =
    ap (λ (ls : List ℕ). nat_lt c p.ranks || list_any (does_bind p before) ls) are
    ∙ ap (λ t. nat_lt c p.ranks || t)
    (any_same (does_bind p before) (binds p) (in_links p c)
    (λ l i. ap (λ t. not (is_bump (link p l).kind) || t) (told (link p l).source (from_below p up c l i))))
    ∙ sym (bound_step p up c)

-- one cell more
pub bound_more : (p : Plan) (c : ℕ) (before : List Bool) (b : Bool) → length before ≡ c → AreBound p c before → b ≡ is_bound p c
    → AreBound p (c + 1) (before ++ b ∷ [])
bound_more p c before b many told here d h =
    elim (cases_eq d c) [
      | inl e ↦ ap (λ i. get_or (before ++ b ∷ []) i false) e
          ∙ get_or_push before b false c many
          ∙ here
          ∙ ap (is_bound p) (sym e)
      | inr ne ↦ get_or_append_left before (b ∷ []) false d (omega (arith, many, h, ne)) ∙ told d (omega (arith, h, ne))
    ]

-- a line by the table
pub unbound_is : (p : Plan) (n : ℕ) (bound : List Bool) (m : Mark) → AreBound p n bound → cell_of m < n
    → is_unbound bound m ≡ is_early p m
unbound_is p n bound (Result b r c) told h = refl
unbound_is p n bound (Enter s r c) told h = ap not (told c h)
unbound_is p n bound (Leave s r c) told h = refl
