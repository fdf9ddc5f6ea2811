-- What a line is for, and its cell: tests and facts.
use Rattle.std.proofs.Common.{ℕ, true, ◌&&◌, ◌≡◌, ◌<◌, ◌==◌, length, ltb, refl, ap, ◌∙◌, sym, arith}
use Rattle.std.proofs.lemmas.Bool.{and_from, and_parts, eqb-true, eq-eqb, false≢true, lt-ltb, ltb-true}
use Rattle.coll_shape.specs.Collectives.{is_in}
use Rattle.coll_shape.specs.Outline.{Outline, buffer_at, group_at, list_bytes, step_at}
use Rattle.coll_shape.specs.WellFormed.{IsWellFormed}
use Rattle.coll_shape.specs.declared.types.CollStep.{CollStep}
use Rattle.coll_shape.specs.declared.types.CollStep.TheVariants.{Barrier}
use Rattle.coll_shape.proofs.Asking.{In-is_in, is_in-In}
use Rattle.given_lines.specs.declared.given.Mark.{Mark}
use Rattle.given_lines.specs.declared.given.Mark.TheVariants as marks
use Rattle.mark_judge.specs.declared.flaw.Due.{Due}
use Rattle.mark_judge.specs.declared.flaw.Due.TheVariants.{Result, Enter, Leave}
use Rattle.mark_judge.specs.Due.{does_fit, due_of, is_barrier, is_barrier_at, is_due, is_good, is_list_of, is_on}
use Rattle.mark_judge.specs.Marked.{DoesFit, IsDue, IsMember, IsOn}
use Rattle.mark_judge.specs.Tables.{is_small}
use Rattle.mark_judge.proofs.Tests.{get_or-In}
use Rattle.plan_core.specs.Members.{In}
use Rattle.plan_core.specs.Plan.{Plan, cell}
use Rattle.plan_judge.specs.Causes.{same_type}
use Rattle.plan_judge.proofs.LinkRows.{itself, one_type}
use Rattle.plan_tables.specs.Tables.{IsTabled}

-- ---- barriers
barrier-is : (x : CollStep) → is_barrier x ≡ true → x ≡ Barrier
barrier-is Barrier e = refl
barrier-is x e = absurd (false≢true e)

pub member-is : (o : Outline) (s r : ℕ) → (is_barrier_at o s && is_in r (group_at o s)) ≡ true → IsMember o s r
member-is o s r t =
    let h = and_parts (is_barrier_at o s) (is_in r (group_at o s)) t in
    let b = and_parts (ltb s (length o.steps)) (is_barrier (step_at o s)) h.0 in
    (ltb-true s (length o.steps) b.0, barrier-is (step_at o s) b.1, is_in-In r (group_at o s) h.1)

pub barrier_there : (o : Outline) (s : ℕ) → s < length o.steps → step_at o s ≡ Barrier → is_barrier_at o s ≡ true
barrier_there o s h e =
    and_from (ltb s (length o.steps)) (is_barrier (step_at o s)) (lt-ltb s (length o.steps) h) (ap is_barrier e)

pub step_known : (o : Outline) (s : ℕ) → is_barrier_at o s ≡ true → s < length o.steps
step_known o s t = ltb-true s (length o.steps) (and_parts (ltb s (length o.steps)) (is_barrier (step_at o s)) t).0

is-member : (o : Outline) (s r : ℕ) → IsMember o s r → (is_barrier_at o s && is_in r (group_at o s)) ≡ true
is-member o s r m =
    and_from (is_barrier_at o s) (is_in r (group_at o s)) (barrier_there o s m.0 m.1) (In-is_in r (group_at o s) m.2)

-- ---- what is asked for
pub due-is : (o : Outline) (d : Due) → is_due o d ≡ true → IsDue o d
due-is o (Result b r) t =
    let h = and_parts (is_in b o.prints) (is_in r (buffer_at o b).spread.holders) t in
    (is_in-In b o.prints h.0, is_in-In r (buffer_at o b).spread.holders h.1)
due-is o (Enter s r) t = member-is o s r t
due-is o (Leave s r) t = member-is o s r t

pub is-due : (o : Outline) (d : Due) → IsDue o d → is_due o d ≡ true
is-due o (Result b r) h =
    and_from (is_in b o.prints) (is_in r (buffer_at o b).spread.holders) (In-is_in b o.prints h.0)
    (In-is_in r (buffer_at o b).spread.holders h.1)
is-due o (Enter s r) h = is-member o s r h
is-due o (Leave s r) h = is-member o s r h

-- ---- which cells fit
pub on-is : (p : Plan) (r c : ℕ) → is_on p r c ≡ true → IsOn p r c
on-is p r c t =
    let h = and_parts (ltb c (length p.cells)) ((cell p c).rank == r) t in
    (ltb-true c (length p.cells) h.0, eqb-true (cell p c).rank r h.1)

is-on : (p : Plan) (r c : ℕ) → IsOn p r c → is_on p r c ≡ true
is-on p r c h =
    and_from (ltb c (length p.cells)) ((cell p c).rank == r) (lt-ltb c (length p.cells) h.0) (eq-eqb (cell p c).rank r h.1)

pub fit-is : (p : Plan) (o : Outline) (d : Due) (c : ℕ) → does_fit p o d c ≡ true → DoesFit p o d c
fit-is p o (Result b r) c t =
    let h = and_parts (is_on p r c) (is_list_of p o b c) t in
    let k = and_parts (same_type (cell p c).ty (buffer_at o b).ty) ((cell p c).length == list_bytes (buffer_at o b)) h.1 in
    (on-is p r c h.0, one_type (cell p c).ty (buffer_at o b).ty k.0, eqb-true (cell p c).length (list_bytes (buffer_at o b)) k.1)
fit-is p o (Enter s r) c t = on-is p r c t
fit-is p o (Leave s r) c t = on-is p r c t

pub is-fit : (p : Plan) (o : Outline) (d : Due) (c : ℕ) → DoesFit p o d c → does_fit p o d c ≡ true
is-fit p o (Result b r) c h =
    and_from (is_on p r c) (is_list_of p o b c) (is-on p r c h.0)
    (and_from (same_type (cell p c).ty (buffer_at o b).ty) ((cell p c).length == list_bytes (buffer_at o b))
    (ap (same_type (cell p c).ty) (sym h.1) ∙ itself (cell p c).ty)
    (eq-eqb (cell p c).length (list_bytes (buffer_at o b)) h.2))
is-fit p o (Enter s r) c h = is-on p r c h
is-fit p o (Leave s r) c h = is-on p r c h

-- its cell is one of the plan
pub fit-known : (p : Plan) (o : Outline) (d : Due) (c : ℕ) → DoesFit p o d c → c < length p.cells
fit-known p o (Result b r) c h = h.0.0
fit-known p o (Enter s r) c h = h.0
fit-known p o (Leave s r) c h = h.0

-- ---- within the limits
rank_small : (p : Plan) → IsTabled p → (r c : ℕ) → IsOn p r c → r < 256
rank_small p tabled r c h =
    let k = tabled.ranks_known c h.0 in
    let e = h.1 in
    let most = tabled.ranks in
    omega (arith, k, e, most)

buffer_small : (o : Outline) → IsWellFormed o → (b : ℕ) → In b o.prints → b < 128
buffer_small o form b h =
    let i = get_or-In b o.prints 0 h in
    let k = form.shape.printed i.0 i.1 in
    let e = i.2 in
    let most = form.shape.few_buffers in
    omega (arith, k, e, most)

step_small : (o : Outline) → IsWellFormed o → (s r : ℕ) → IsMember o s r → s < 64
step_small o form s r h = let k = h.0 in let most = form.shape.few_steps in omega (arith, k, most)

pub good_small : (p : Plan) (o : Outline) → IsTabled p → IsWellFormed o → (m : Mark) → is_good p o m ≡ true → is_small (due_of m) ≡ true
good_small p o tabled form (marks.Result b r c) t =
    let h = and_parts (is_due o (Result b r)) (does_fit p o (Result b r) c) t in
    let d = due-is o (Result b r) h.0 in
    let f = fit-is p o (Result b r) c h.1 in
    and_from (ltb b 128) (ltb r 256) (lt-ltb b 128 (buffer_small o form b d.0)) (lt-ltb r 256 (rank_small p tabled r c f.0))
good_small p o tabled form (marks.Enter s r c) t =
    let h = and_parts (is_due o (Enter s r)) (does_fit p o (Enter s r) c) t in
    and_from (ltb s 64) (ltb r 256) (lt-ltb s 64 (step_small o form s r (member-is o s r h.0)))
    (lt-ltb r 256 (rank_small p tabled r c (on-is p r c h.1)))
good_small p o tabled form (marks.Leave s r c) t =
    let h = and_parts (is_due o (Leave s r)) (does_fit p o (Leave s r) c) t in
    and_from (ltb s 64) (ltb r 256) (lt-ltb s 64 (step_small o form s r (member-is o s r h.0)))
    (lt-ltb r 256 (rank_small p tabled r c (on-is p r c h.1)))
