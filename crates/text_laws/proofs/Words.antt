-- Lines that are written of a plan are read, word by word.
use Rattle.std.proofs.Common.{◌≡◌, ℕ, ◌<◌, ◌^◌, List, [], ◌∷◌, length, Option, Some, None, Bool, true, false, cond}
use Rattle.std.proofs.Common.{◌&&◌, refl, ap, ◌∙◌, arith, codes}
use Rattle.std.specs.Prelude.{is_some, option_and_then}
use Rattle.std.specs.List.{list_all, AllByRecursion}
use Rattle.std.specs.Fmt.{decimal}
use Rattle.std.specs.Str.{bytes_eq}
use Rattle.ptl_types.specs.declared.elements.AtomicOp.{AtomicOp}
use Rattle.ptl_types.specs.declared.elements.AtomicOp.TheVariants as ops
use Rattle.coll_text.specs.Text.{line, number_between}
use Rattle.coll_text.proofs.WordsBack.{is_solid, number_solid}
use Rattle.coll_lang.specs.Words.{type_word}
use Rattle.coll_lang.proofs.FormsBack.{between_read, op_solid, type_back, type_solid}
use Rattle.plan_core.specs.declared.Cell.{Cell}
use Rattle.plan_core.specs.declared.Link.{Link}
use Rattle.plan_core.specs.declared.LinkKind.{LinkKind}
use Rattle.plan_core.specs.declared.LinkKind.TheVariants.{Put, Atomic, Bump}
use Rattle.plan_core.specs.Plan.{Plan}
use Rattle.run_text.specs.Plans.{completion_word, kind_word, op_or_none, plan_line}
use Rattle.run_text.specs.declared.plans.PlanLine.TheVariants.{Head, CellLine, LinkLine, DoneLine}
use Rattle.given_lines.specs.declared.given.Counts.{Counts}
use Rattle.given_lines.specs.Words.{cell_in, cell_of, cell_op_of, counts_in, counts_of, done_in, done_of, headed, kind_of}
use Rattle.given_lines.specs.Words.{link_in, link_of, long_of, remote_of, short_of}
use Rattle.text_laws.specs.Written.{CanBeWritten, IsCellOfWords, IsLinkOfWords}

-- ---- words

short_read : (n : ℕ) → n < 2 ^ 32 → short_of (decimal n) ≡ Some n
short_read n small = between_read 0 4294967295 n (omega arith) (omega (arith, small)) (omega arith)

long_read : (n : ℕ) → n < 2 ^ 64 → long_of (decimal n) ≡ Some n
long_read n small = between_read 0 18446744073709551615 n (omega arith) (omega (arith, small)) (omega arith)

cell_op_read : (op : Option AtomicOp) → cell_op_of (op_or_none op) ≡ Some op
cell_op_read None = refl
cell_op_read (Some ops.Min) = refl
cell_op_read (Some ops.Max) = refl
cell_op_read (Some ops.Sum) = refl
cell_op_read (Some ops.Prod) = refl
cell_op_read (Some ops.Lor) = refl
cell_op_read (Some ops.Land) = refl
cell_op_read (Some ops.Bor) = refl
cell_op_read (Some ops.Band) = refl
cell_op_read (Some ops.Lxor) = refl
cell_op_read (Some ops.Bxor) = refl

cell_op_solid : (op : Option AtomicOp) → list_all is_solid (op_or_none op) ≡ true
cell_op_solid None = refl
cell_op_solid (Some op) = op_solid op

kind_read : (kind : LinkKind) → kind_of (kind_word kind) ≡ Some kind
kind_read Put = refl
kind_read Atomic = refl
kind_read Bump = refl

kind_solid : (kind : LinkKind) → list_all is_solid (kind_word kind) ≡ true
kind_solid Put = refl
kind_solid Atomic = refl
kind_solid Bump = refl

remote_read : (remote : Bool) → remote_of (completion_word remote) ≡ Some remote
remote_read true = refl
remote_read false = refl

completion_solid : (remote : Bool) → list_all is_solid (completion_word remote) ≡ true
completion_solid true = refl
completion_solid false = refl

-- ---- lines

-- words of seen bytes
abbrev pub AreSolid : List (List ℕ) → Type 0
AreSolid ws = AllByRecursion (λ w. list_all is_solid w ≡ true) ws

-- a line of such words, which says x as the n-th
pub record IsRow {A : Type 0} (read : ℕ → List (List ℕ) → Option A) (n : ℕ) (text : List ℕ) (x : A) : Type 0 where
  pub key : List ℕ
  pub others : List (List ℕ)
  pub is : text ≡ line (key ∷ others)
  pub solid : AreSolid (key ∷ others)
  pub says : read n (key ∷ others) ≡ Some x

-- a name and a number before other words
headed_read : (name : List ℕ) (n : ℕ) (ws : List (List ℕ)) → n < 2 ^ 64 → bytes_eq name name ≡ true
    → headed name n (name ∷ decimal n ∷ ws) ≡ Some ws
unfolding headed
headed_read name n ws small same =
    ap (λ t. cond (t && is_some (number_between n n (decimal n))) (Some ws) None) same
    ∙ ap (λ (o : Option ℕ). cond (is_some o) (Some ws) None) (between_read n n n (omega arith) (omega arith) small)

abbrev cell_words : Cell → List (List ℕ)
cell_words c = decimal c.rank ∷ type_word c.ty ∷ op_or_none c.op ∷ decimal c.length ∷ decimal c.needs ∷ []

cell_read : (c : Cell) → IsCellOfWords c → cell_in (cell_words c) ≡ Some c
unfolding cell_in
cell_read c fits =
    rw (short_read c.rank fits.rank, type_back c.ty, cell_op_read c.op, long_read c.length fits.bytes, long_read c.needs fits.needs) refl

pub cell_row : (n : ℕ) (c : Cell) → n < 2 ^ 64 → IsCellOfWords c → IsRow cell_of n (plan_line (CellLine n c)) c
cell_row n c small fits = record {
  key = codes "cell";
  others = decimal n ∷ cell_words c;
  is = refl;
  solid = (
    refl,
    (
      number_solid n small,
      (
        number_solid c.rank (omega (arith, fits.rank)),
        (
          type_solid c.ty,
          (
            cell_op_solid c.op,
            (number_solid c.length fits.bytes, (number_solid c.needs fits.needs, tt)),
          ),
        ),
      ),
    ),
  );
  says = ap (option_and_then cell_in) (headed_read (codes "cell") n (cell_words c) small refl) ∙ cell_read c fits;
}

abbrev link_words : Link → List (List ℕ)
link_words l = decimal l.source ∷ decimal l.source_offset ∷ decimal l.length ∷ decimal l.target ∷ decimal l.target_offset
    ∷ kind_word l.kind ∷ []

link_read : (l : Link) → IsLinkOfWords l → link_in (link_words l) ≡ Some l
unfolding link_in
link_read l fits =
    rw (
      short_read l.source fits.source,
      long_read l.source_offset fits.source_offset,
      long_read l.length fits.bytes,
      short_read l.target fits.target,
      long_read l.target_offset fits.target_offset,
      kind_read l.kind,
    ) refl

pub link_row : (n : ℕ) (l : Link) → n < 2 ^ 64 → IsLinkOfWords l → IsRow link_of n (plan_line (LinkLine n l)) l
link_row n l small fits = record {
  key = codes "link";
  others = decimal n ∷ link_words l;
  is = refl;
  solid = (
    refl,
    (
      number_solid n small,
      (
        number_solid l.source (omega (arith, fits.source)),
        (
          number_solid l.source_offset fits.source_offset,
          (
            number_solid l.length fits.bytes,
            (
              number_solid l.target (omega (arith, fits.target)),
              (number_solid l.target_offset fits.target_offset, (kind_solid l.kind, tt)),
            ),
          ),
        ),
      ),
    ),
  );
  says = ap (option_and_then link_in) (headed_read (codes "link") n (link_words l) small refl) ∙ link_read l fits;
}

threshold_read : (t : ℕ) → t < 2 ^ 64 → done_in (decimal t ∷ []) ≡ Some t
unfolding done_in
threshold_read t fits = long_read t fits

pub done_row : (r t : ℕ) → r < 2 ^ 64 → t < 2 ^ 64 → IsRow done_of r (plan_line (DoneLine r t)) t
done_row r t small fits = record {
  key = codes "done";
  others = decimal r ∷ decimal t ∷ [];
  is = refl;
  solid = (refl, (number_solid r small, (number_solid t fits, tt)));
  says = ap (option_and_then done_in) (headed_read (codes "done") r (decimal t ∷ []) small refl) ∙ threshold_read t fits;
}

abbrev pub counts_of_plan : Plan → Counts
counts_of_plan p = record { cells = length p.cells; links = length p.links; remote = p.remote }

abbrev head_words : Plan → List (List ℕ)
head_words p = decimal (length p.cells) ∷ decimal (length p.links) ∷ completion_word p.remote ∷ []

counts_read : (least : ℕ) (p : Plan) → CanBeWritten least p → counts_in least (head_words p) ≡ Some (counts_of_plan p)
unfolding counts_in
counts_read least p fits =
    rw (
      between_read least 16777215 (length p.cells) fits.enough (omega (arith, fits.cells)) (omega arith),
      short_read (length p.links) (omega (arith, fits.links)),
      remote_read p.remote,
    ) refl

-- the first line, whatever number it has
pub head_row : (least k : ℕ) (p : Plan) → CanBeWritten least p
    → IsRow (λ n ws. counts_of p.ranks least ws) k (plan_line (Head p.ranks (length p.cells) (length p.links) p.remote)) (counts_of_plan p)
head_row least k p fits = record {
  key = codes "plan";
  others = decimal p.ranks ∷ head_words p;
  is = refl;
  solid = (
    refl,
    (
      number_solid p.ranks (omega (arith, fits.ranks)),
      (
        number_solid (length p.cells) (omega (arith, fits.cells)),
        (number_solid (length p.links) (omega (arith, fits.links)), (completion_solid p.remote, tt)),
      ),
    ),
  );
  says = ap (option_and_then (counts_in least)) (headed_read (codes "plan") p.ranks (head_words p) (omega (arith, fits.ranks)) refl)
      ∙ counts_read least p fits;
}
