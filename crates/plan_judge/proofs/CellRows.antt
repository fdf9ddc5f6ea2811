-- No row of a cell is at fault exactly where the cell is as it must be.
use Rattle.std.proofs.Common.{ℕ, Bool, true, false, cond, not, ◌≡◌, ◌+◌, ◌-◌, ◌/◌, ◌%◌, ◌<◌, ◌≤◌, ◌==◌, List, [], ◌∷◌, Option}
use Rattle.std.proofs.Common.{Some, None, refl, length, get_or, ap, ◌∙◌, sym, arith, inl, inr, nat_le, nat_lt}
use Rattle.std.specs.Option.{is_none}
use Rattle.std.proofs.lemmas.Bool.{and_from, and_parts, cases_lt, cond-true, cond-false, eqb-true, eq-eqb, false≢true, leb-false, lt-leb}
use Rattle.std.proofs.lemmas.Bool.{lt-ltb, le-ltb, not-false, not_from_true}
use Rattle.ptl_types.specs.Operations.{bytes_of}
use Rattle.plan_core.specs.Plan.{Plan, cell, in_links}
use Rattle.plan_core.specs.Sound.{put_bytes}
use Rattle.plan_judge.specs.declared.flaw.CellCause.{CellCause}
use Rattle.plan_judge.specs.declared.flaw.CellCause.TheVariants.{BadInput, BadRank, Needs, PartElement, Unguarded}
use Rattle.plan_judge.specs.Guards.{is_guarded}
use Rattle.plan_judge.specs.Causes.{cell_rows, first_cause, first_other, go_rows, input_rows, is_go, is_input_cell, needs_its_links}
use Rattle.plan_judge.specs.Causes.{other_rows, overlap, put_parts, rows_of_its_kind}
use Rattle.plan_judge.proofs.Rows.{clear_row, from_implied, from_ruled_out, implied, row_clear, row_met, row_passed, ruled_out}

-- ---- which rows these are
abbrev kind_rows : Plan → List ℕ → ℕ → List (Bool × CellCause)
kind_rows p lengths c = cond (nat_lt c (first_other p lengths)) (input_rows p lengths c) (other_rows p c)

pub rows-go : (p : Plan) (lengths : List ℕ) (c : ℕ) → c < p.ranks → rows_of_its_kind p lengths c ≡ go_rows p c
rows-go p lengths c h = cond-true (nat_lt c p.ranks) (go_rows p c) (kind_rows p lengths c) (lt-ltb c p.ranks h)

pub rows-input : (p : Plan) (lengths : List ℕ) (c : ℕ) → p.ranks ≤ c → c < first_other p lengths
    → rows_of_its_kind p lengths c ≡ input_rows p lengths c
rows-input p lengths c a b =
    cond-false (nat_lt c p.ranks) (go_rows p c) (kind_rows p lengths c) (le-ltb c p.ranks a)
    ∙ cond-true (nat_lt c (first_other p lengths)) (input_rows p lengths c) (other_rows p c) (lt-ltb c (first_other p lengths) b)

pub rows-other : (p : Plan) (lengths : List ℕ) (c : ℕ) → first_other p lengths ≤ c → rows_of_its_kind p lengths c ≡ other_rows p c
rows-other p lengths c b =
    cond-false (nat_lt c p.ranks) (go_rows p c) (kind_rows p lengths c) (le-ltb c p.ranks (omega arith))
    ∙ cond-false (nat_lt c (first_other p lengths)) (input_rows p lengths c) (other_rows p c) (le-ltb c (first_other p lengths) b)

-- ---- what each cell must be
pub record OnItsRank (p : Plan) (c : ℕ) : Type 0 where
  pub rank : (cell p c).rank < p.ranks
  pub whole : (cell p c).length % bytes_of (cell p c).ty ≡ 0

pub record AsInput (p : Plan) (lengths : List ℕ) (c : ℕ) : Type 0 where
  pub needs : (cell p c).needs ≡ length (in_links p c)
  pub input : is_input_cell p lengths (c - p.ranks) ≡ true
  pub guarded : is_guarded p c ≡ true

pub record AsOther (p : Plan) (c : ℕ) : Type 0 where
  pub needs : (cell p c).needs ≡ length (in_links p c)
  pub covered : (cell p c).op ≡ None → put_bytes p c ≡ (cell p c).length
  pub apart : (cell p c).op ≡ None → overlap (put_parts p (in_links p c)) ≡ false

-- ---- from no fault
pub clear_rank : (p : Plan) (lengths : List ℕ) (c : ℕ) → first_cause (cell_rows p lengths c) ≡ None → OnItsRank p c
clear_rank p lengths c e =
    let a = row_clear _ _ _ e in
    let b = row_clear _ _ _ a.1 in
    record { rank = leb-false _ _ a.0; whole = eqb-true _ _ (not-false _ b.0) }

-- after the first row
abbrev kept_rows : Plan → List ℕ → ℕ → List (Bool × CellCause)
kept_rows p lengths c = (not ((cell p c).length % bytes_of (cell p c).ty == 0), PartElement) ∷ rows_of_its_kind p lengths c

clear_kind : (p : Plan) (lengths : List ℕ) (c : ℕ) → first_cause (cell_rows p lengths c) ≡ None
    → first_cause (rows_of_its_kind p lengths c) ≡ None
clear_kind p lengths c e =
    (row_clear (not ((cell p c).length % bytes_of (cell p c).ty == 0)) PartElement (first_cause (rows_of_its_kind p lengths c))
    (row_clear (nat_le p.ranks (cell p c).rank) BadRank (first_cause (kept_rows p lengths c)) e).1).1

pub clear_go : (p : Plan) (lengths : List ℕ) (c : ℕ) → first_cause (cell_rows p lengths c) ≡ None → c < p.ranks → is_go p c ≡ true
clear_go p lengths c e h =
    let f : first_cause (go_rows p c) ≡ None = ap first_cause (sym (rows-go p lengths c h)) ∙ clear_kind p lengths c e in
    not-false _ (row_clear _ _ _ f).0

pub clear_input : (p : Plan) (lengths : List ℕ) (c : ℕ) → first_cause (cell_rows p lengths c) ≡ None → p.ranks ≤ c
    → c < first_other p lengths → AsInput p lengths c
clear_input p lengths c e g h =
    let f : first_cause (input_rows p lengths c) ≡ None = ap first_cause (sym (rows-input p lengths c g h)) ∙ clear_kind p lengths c e in
    let a = row_clear _ _ _ f in
    let b = row_clear _ _ _ a.1 in
    let d = row_clear _ _ _ b.1 in
    record { needs = eqb-true _ _ (not-false _ a.0); input = not-false _ b.0; guarded = not-false _ d.0 }

pub clear_other : (p : Plan) (lengths : List ℕ) (c : ℕ) → first_cause (cell_rows p lengths c) ≡ None → first_other p lengths ≤ c
    → AsOther p c
clear_other p lengths c e h =
    let f : first_cause (other_rows p c) ≡ None = ap first_cause (sym (rows-other p lengths c h)) ∙ clear_kind p lengths c e in
    let a = row_clear _ _ _ f in
    let b = row_clear _ _ _ a.1 in
    let d = row_clear _ _ _ b.1 in
    record {
      needs = eqb-true _ _ (not-false _ a.0);
      covered = λ n. eqb-true _ _ (implied _ _ b.0 (ap is_none n));
      apart = λ n. ruled_out _ _ d.0 (ap is_none n);
    }

-- ---- to no fault
go_clear : (p : Plan) (c : ℕ) → is_go p c ≡ true → first_cause (go_rows p c) ≡ None
go_clear p c e = clear_row _ _ _ (not_from_true _ e) refl

-- after the first row
abbrev input_kept : Plan → List ℕ → ℕ → List (Bool × CellCause)
input_kept p lengths c = (not (is_input_cell p lengths (c - p.ranks)), BadInput) ∷ (not (is_guarded p c), Unguarded) ∷ []

pub input_clear : (p : Plan) (lengths : List ℕ) (c : ℕ) → AsInput p lengths c → first_cause (input_rows p lengths c) ≡ None
input_clear p lengths c k =
    clear_row _ _ _ (not_from_true _ (eq-eqb _ _ k.needs))
    (clear_row _ _ _ (not_from_true _ k.input)
    (clear_row _ _ _ (not_from_true _ k.guarded) refl))

-- the cell of an input at which nothing but its guard lacks
pub input_open : (p : Plan) (lengths : List ℕ) (c : ℕ) → needs_its_links p c ≡ true → is_input_cell p lengths (c - p.ranks) ≡ true
    → is_guarded p c ≡ false → first_cause (input_rows p lengths c) ≡ Some Unguarded
input_open p lengths c a b g =
    row_passed (not (needs_its_links p c)) Needs (first_cause (input_kept p lengths c)) (not_from_true _ a)
    ∙ row_passed (not (is_input_cell p lengths (c - p.ranks))) BadInput (first_cause ((not (is_guarded p c), Unguarded) ∷ []))
    (not_from_true _ b)
    ∙ row_met (not (is_guarded p c)) Unguarded None (ap not g)

none-is : {A : Type 0} (o : Option A) → is_none o ≡ true → o ≡ None
none-is None e = refl
none-is (Some x) e = absurd (false≢true e)

other_clear : (p : Plan) (c : ℕ) → AsOther p c → first_cause (other_rows p c) ≡ None
other_clear p c k =
    clear_row _ _ _ (not_from_true _ (eq-eqb _ _ k.needs))
    (clear_row _ _ _ (from_implied (is_none (cell p c).op) _ (λ e. eq-eqb _ _ (k.covered (none-is _ e))))
    (clear_row _ _ _ (from_ruled_out (is_none (cell p c).op) _ (λ e. k.apart (none-is _ e))) refl))

pub cell_clear : (p : Plan) (lengths : List ℕ) (c : ℕ) → OnItsRank p c
    → (c < p.ranks → is_go p c ≡ true)
    → (p.ranks ≤ c → c < first_other p lengths → AsInput p lengths c)
    → (first_other p lengths ≤ c → AsOther p c)
    → first_cause (cell_rows p lengths c) ≡ None
cell_clear p lengths c k go input other =
    clear_row _ _ _ (lt-leb _ _ k.rank)
    (clear_row _ _ _ (not_from_true _ (eq-eqb _ _ k.whole))
    (elim (cases_lt c p.ranks) [
      | inl h ↦ ap first_cause (rows-go p lengths c h) ∙ go_clear p c (go h)
      | inr h ↦ elim (cases_lt c (first_other p lengths)) [
        | inl l ↦ ap first_cause (rows-input p lengths c h l) ∙ input_clear p lengths c (input h l)
        | inr l ↦ ap first_cause (rows-other p lengths c l) ∙ other_clear p c (other l)
      ]
    ]))

-- ---- a go cell and the cell of an input, in parts
length-zero : {A : Type 0} (xs : List A) → length xs ≡ 0 → xs ≡ []
length-zero [] e = refl
length-zero (x ∷ xs) e = absurd (omega arith)

pub go_parts : (p : Plan) (r : ℕ) → is_go p r ≡ true
    → ((cell p r).needs ≡ 1) × (in_links p r ≡ []) × ((cell p r).rank ≡ r) × ((cell p r).length ≡ 0)
go_parts p r e =
    let a = and_parts _ _ e in
    let b = and_parts _ _ a.0 in
    let c = and_parts _ _ b.0 in
    (eqb-true _ _ b.1, length-zero (in_links p r) (eqb-true _ _ a.1), eqb-true _ _ c.0, eqb-true _ _ c.1)

pub parts_go : (p : Plan) (r : ℕ) → ((cell p r).needs ≡ 1) × (in_links p r ≡ []) × ((cell p r).rank ≡ r) × ((cell p r).length ≡ 0)
    → is_go p r ≡ true
parts_go p r h =
    and_from _ _ (and_from _ _ (and_from _ _ (eq-eqb _ _ h.2) (eq-eqb _ _ h.3)) (eq-eqb _ _ h.0)) (eq-eqb _ _ (ap length h.1))

pub record IsInputCell (p : Plan) (lengths : List ℕ) (i : ℕ) : Type 0 where
  pub bare : (cell p (p.ranks + i)).op ≡ None
  pub rank : (cell p (p.ranks + i)).rank ≡ i % p.ranks
  pub fits : (cell p (p.ranks + i)).length ≡ get_or lengths (i / p.ranks) 0

pub input_parts : (p : Plan) (lengths : List ℕ) (i : ℕ) → is_input_cell p lengths i ≡ true → IsInputCell p lengths i
input_parts p lengths i e =
    let a = and_parts _ _ e in
    let b = and_parts _ _ a.0 in
    record { bare = none-is _ b.0; rank = eqb-true _ _ b.1; fits = eqb-true _ _ a.1 }

pub parts_input : (p : Plan) (lengths : List ℕ) (i : ℕ) → IsInputCell p lengths i → is_input_cell p lengths i ≡ true
parts_input p lengths i h = and_from _ _ (and_from _ _ (ap is_none h.bare) (eq-eqb _ _ h.rank)) (eq-eqb _ _ h.fits)
