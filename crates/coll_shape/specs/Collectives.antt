-- The collectives (the MPI standard's collective communication), one row each: the word, the version from which on it stands, the
-- root and the operation, the buffers, what is asked of A, who holds B and how long it is, and what each place gets of it.
use Rattle.std.specs.Prelude.{ℕ, suc, ◌*◌, ◌/◌, ◌<◌, ◌≡◌, ◌%◌, ◌==◌, ◌&&◌, ◌||◌, Bool, true, false, List, Option, Some, None, [], ◌∷◌}
use Rattle.std.specs.Prelude.{if◌then◌else◌, length, filter, get_or, codes, is_some}
use Rattle.std.specs.List.{list_all, list_any}
use Rattle.std.specs.Str.{bytes_eq}
use Rattle.ptl_types.specs.declared.elements.AtomicOp.{AtomicOp}
use Rattle.ptl_types.specs.declared.elements.AtomicOp.TheVariants.{Sum}
use Rattle.ptl_types.specs.declared.elements.ElemType.{ElemType}
use Rattle.ptl_types.specs.declared.elements.ElemType.TheVariants.{U8}
use Rattle.number_lists.specs.Members.{In}
use Rattle.number_lists.specs.Numbers.{from_to}
use Rattle.coll_shape.specs.Folding.{at, reduced, before_place, joined_lists, block, exchanged}
use Rattle.coll_shape.specs.declared.types.Version.{Version}
use Rattle.coll_shape.specs.declared.types.Version.TheVariants.{One, Two}
use Rattle.coll_shape.specs.declared.types.Buffer.{Buffer}
use Rattle.coll_shape.specs.declared.types.CollStep.{CollStep}
use Rattle.coll_shape.specs.declared.types.CollStep.TheVariants.{Barrier, Broadcast, Reduce, Allreduce, Gather, Allgather, Alltoall, Scan}
use Rattle.coll_shape.specs.declared.types.CollStep.TheVariants.{Scatter, Reducescatter, Exscan, Gatherv}
use Rattle.coll_shape.specs.declared.collectives.StepKind.{StepKind}
use Rattle.coll_shape.specs.declared.collectives.StepKind.TheVariants as kinds
use Rattle.coll_shape.specs.declared.collectives.Need.{Need}
use Rattle.coll_shape.specs.declared.collectives.Need.TheVariants as needs

-- What is asked of A. In blocks: its length is a multiple of the number of members.
pub data Asked : Type 0 where
  Nothing : Asked
  HeldAt : (root : ℕ) → Asked
  HeldAtInBlocks : (root : ℕ) → Asked
  HeldByAll : Asked
  HeldByAllInBlocks : Asked
  HeldBySome : Asked

-- a length, of m members of whom h hold A, which has length n
abbrev pub Lengths : Type 0
Lengths = ℕ → ℕ → ℕ → ℕ

-- a list at place i, of a type and the members' lists
abbrev pub Gets : Type 0
Gets = ElemType → List (List ℕ) → ℕ → List ℕ

pub record Collective : Type 0 where
  pub word : List ℕ
  pub since : Version
  -- a place among the members
  pub root : Option ℕ
  pub op : Option AtomicOp
  -- A and B
  pub source : Option ℕ
  pub result : Option ℕ
  pub asks : Asked
  -- of the members those that hold B
  pub holders : List ℕ → List ℕ
  -- B's length, of m members of whom h hold A, which has length n
  pub long : Lengths
  -- B's list at place i, of A's type and the members' lists of A
  pub gets : Gets

-- ---- the words of the rows

abbrev pub everyone : List ℕ → List ℕ
everyone g = g

abbrev pub alone : ℕ → List ℕ → List ℕ
alone root g = get_or g root 0 ∷ []

abbrev pub all_but_first : List ℕ → List ℕ
all_but_first [] = []
all_but_first (r ∷ rs) = rs

abbrev pub as_long : ℕ → ℕ → ℕ → ℕ
as_long m h n = n

abbrev pub a_list_each : ℕ → ℕ → ℕ → ℕ
a_list_each m h n = m * n

abbrev pub a_list_a_holder : ℕ → ℕ → ℕ → ℕ
a_list_a_holder m h n = h * n

abbrev pub one_block : ℕ → ℕ → ℕ → ℕ
one_block m h n = n / m

-- a list at the root alone
abbrev pub only_at : ℕ → ℕ → List ℕ → List ℕ
only_at root i list = if i == root then list else []

-- a step from A to B
abbrev pub makes : (word : List ℕ) (since : Version) (root : Option ℕ) (op : Option AtomicOp) (a b : ℕ) (asks : Asked)
    (holders : List ℕ → List ℕ) (long : Lengths) (gets : Gets) → Collective
makes word since root op a b asks holders long gets = record {
  word = word;
  since = since;
  root = root;
  op = op;
  source = Some a;
  result = Some b;
  asks = asks;
  holders = holders;
  long = long;
  gets = gets;
}

-- a step without buffers
abbrev pub meets : List ℕ → Version → Collective
meets word since = record {
  word = word;
  since = since;
  root = None;
  op = None;
  source = None;
  result = None;
  asks = Nothing;
  holders = λ g. [];
  long = λ m h n. 0;
  gets = λ ty xs i. [];
}

-- f of a step's row, so that one column of it computes without the others
abbrev pub row : {X : Type 0} → (Collective → X) → CollStep → X
row f Barrier = f (meets (codes "barrier") One)
row f (Broadcast root a b) = f (makes (codes "broadcast") One (Some root) None a b (HeldAt root) everyone as_long
    (λ ty xs i. at xs root))
row f (Reduce root o a b) = f (makes (codes "reduce") One (Some root) (Some o) a b HeldByAll (alone root) as_long
    (λ ty xs i. only_at root i (reduced o ty (length xs) xs)))
row f (Allreduce o a b) = f (makes (codes "allreduce") One None (Some o) a b HeldByAll everyone as_long
    (λ ty xs i. reduced o ty (length xs) xs))
row f (Gather root a b) = f (makes (codes "gather") One (Some root) None a b HeldByAll (alone root) a_list_each
    (λ ty xs i. only_at root i (joined_lists xs)))
row f (Allgather a b) = f (makes (codes "allgather") One None None a b HeldByAll everyone a_list_each
    (λ ty xs i. joined_lists xs))
row f (Alltoall a b) = f (makes (codes "alltoall") One None None a b HeldByAllInBlocks everyone as_long
    (λ ty xs i. exchanged xs i))
row f (Scan o a b) = f (makes (codes "scan") One None (Some o) a b HeldByAll everyone as_long
    (λ ty xs i. reduced o ty (suc i) xs))
row f (Scatter root a b) = f (makes (codes "scatter") Two (Some root) None a b (HeldAtInBlocks root) everyone one_block
    (λ ty xs i. block (length xs) i (at xs root)))
row f (Reducescatter o a b) = f (makes (codes "reducescatter") Two None (Some o) a b HeldByAllInBlocks everyone one_block
    (λ ty xs i. block (length xs) i (reduced o ty (length xs) xs)))
row f (Exscan o a b) = f (makes (codes "exscan") Two None (Some o) a b HeldByAll all_but_first as_long
    (λ ty xs i. before_place o ty xs i))
row f (Gatherv root a b) = f (makes (codes "gatherv") Two (Some root) None a b HeldBySome (alone root) a_list_a_holder
    (λ ty xs i. only_at root i (joined_lists xs)))

-- ---- read off the rows

abbrev pub word_of : CollStep → List ℕ
word_of = row (λ c. c.word)

abbrev pub since : CollStep → Version
since = row (λ c. c.since)

abbrev pub asks_of : CollStep → Asked
asks_of = row (λ c. c.asks)

abbrev pub root_of : CollStep → Option ℕ
root_of = row (λ c. c.root)

abbrev pub op_of : CollStep → Option AtomicOp
op_of = row (λ c. c.op)

-- the buffer that a step reads, and the one that it makes
abbrev pub source_of : CollStep → Option ℕ
source_of = row (λ c. c.source)

abbrev pub result_of : CollStep → Option ℕ
result_of = row (λ c. c.result)

-- B's list at place i, of a step on lists xs of elements of type ty
abbrev pub list_after : ElemType → CollStep → List (List ℕ) → ℕ → List ℕ
list_after ty step xs i = row (λ c. c.gets ty xs i) step

-- a root is a place
abbrev pub IsPlace : ℕ → Option ℕ → Type 0
IsPlace n None = Unit {0}
IsPlace n (Some root) = root < n

abbrev pub IsRoot : CollStep → ℕ → Type 0
IsRoot step n = IsPlace n (root_of step)

-- ---- what is asked of A, by tests

abbrev pub is_in : ℕ → List ℕ → Bool
is_in x [] = false
is_in x (y ∷ ys) = (y == x) || is_in x ys

-- a block for each member
abbrev pub has_blocks : List ℕ → Buffer → Bool
has_blocks g x = x.spread.length % length g == 0

abbrev pub has_what_is_asked : List ℕ → Buffer → Asked → Bool
has_what_is_asked g x Nothing = true
has_what_is_asked g x (HeldAt root) = is_in (get_or g root 0) x.spread.holders
has_what_is_asked g x (HeldAtInBlocks root) = is_in (get_or g root 0) x.spread.holders && has_blocks g x
has_what_is_asked g x HeldByAll = list_all (λ r. is_in r x.spread.holders) g
has_what_is_asked g x HeldByAllInBlocks = list_all (λ r. is_in r x.spread.holders) g && has_blocks g x
has_what_is_asked g x HeldBySome = list_any (λ r. is_in r x.spread.holders) g

-- a step on the members g can read A
abbrev pub can_read : List ℕ → CollStep → Buffer → Bool
can_read g step x = has_what_is_asked g x (asks_of step)

-- ---- the same as facts

-- every member holds A
abbrev pub AllHold : List ℕ → Buffer → Type 0
AllHold g x = (i : ℕ) → i < length g → In (get_or g i 0) x.spread.holders

-- some member holds A
abbrev pub SomeHold : List ℕ → Buffer → Type 0
SomeHold g x = (i : ℕ) × (i < length g) × In (get_or g i 0) x.spread.holders

abbrev pub HasBlocks : List ℕ → Buffer → Type 0
HasBlocks g x = x.spread.length % length g ≡ 0

abbrev pub HasAsked : List ℕ → Buffer → Asked → Type 0
HasAsked g x Nothing = Unit {0}
HasAsked g x (HeldAt root) = In (get_or g root 0) x.spread.holders
HasAsked g x (HeldAtInBlocks root) = In (get_or g root 0) x.spread.holders × HasBlocks g x
HasAsked g x HeldByAll = AllHold g x
HasAsked g x HeldByAllInBlocks = AllHold g x × HasBlocks g x
HasAsked g x HeldBySome = SomeHold g x

abbrev pub Reads : List ℕ → CollStep → Buffer → Type 0
Reads g step x = HasAsked g x (asks_of step)

-- ---- B

-- the places of the members that hold it
abbrev pub holding_places : List ℕ → List ℕ → List ℕ
holding_places g holders = filter (λ i. is_in (get_or g i 0) holders) (from_to 0 (length g))

-- where so many elements are, apart from their name and type
abbrev pub spread_so : ℕ → List ℕ → Buffer
spread_so n holders = record { name = []; ty = U8; spread = record { length = n; holders = holders } }

-- with A's type and name
abbrev pub like : Buffer → ℕ → List ℕ → Buffer
like x n holders = record { name = x.name; ty = x.ty; spread = record { length = n; holders = holders } }

-- its length, and who holds it
abbrev pub made_length : List ℕ → CollStep → Buffer → ℕ
made_length g step x = row (λ c. c.long (length g) (length (holding_places g x.spread.holders)) x.spread.length) step

abbrev pub made_holders : List ℕ → CollStep → List ℕ
made_holders g step = row (λ c. c.holders g) step

abbrev pub made_of : List ℕ → Buffer → Collective → Option ℕ → Buffer
made_of g x c None = x
made_of g x c (Some b) = like x (c.long (length g) (length (holding_places g x.spread.holders)) x.spread.length) (c.holders g)

-- B but for its name, from A
abbrev pub buffer_after : List ℕ → CollStep → Buffer → Buffer
buffer_after g step x = row (λ c. made_of g x c c.result) step

-- under its own name
abbrev pub named : List ℕ → Buffer → Buffer
named name x = record { name = name; ty = x.ty; spread = x.spread }

-- ---- the kinds of steps. What a kind has is what the row of any step of it has.

-- the step of a kind, where it takes them with this root, this operation and these buffers
abbrev pub step_of : StepKind → ℕ → AtomicOp → ℕ → ℕ → CollStep
step_of kinds.Barrier root o a b = Barrier
step_of kinds.Broadcast root o a b = Broadcast root a b
step_of kinds.Reduce root o a b = Reduce root o a b
step_of kinds.Allreduce root o a b = Allreduce o a b
step_of kinds.Gather root o a b = Gather root a b
step_of kinds.Allgather root o a b = Allgather a b
step_of kinds.Alltoall root o a b = Alltoall a b
step_of kinds.Scan root o a b = Scan o a b
step_of kinds.Scatter root o a b = Scatter root a b
step_of kinds.Reducescatter root o a b = Reducescatter o a b
step_of kinds.Exscan root o a b = Exscan o a b
step_of kinds.Gatherv root o a b = Gatherv root a b

abbrev pub kind_of : CollStep → StepKind
kind_of Barrier = kinds.Barrier
kind_of (Broadcast root a b) = kinds.Broadcast
kind_of (Reduce root o a b) = kinds.Reduce
kind_of (Allreduce o a b) = kinds.Allreduce
kind_of (Gather root a b) = kinds.Gather
kind_of (Allgather a b) = kinds.Allgather
kind_of (Alltoall a b) = kinds.Alltoall
kind_of (Scan o a b) = kinds.Scan
kind_of (Scatter root a b) = kinds.Scatter
kind_of (Reducescatter o a b) = kinds.Reducescatter
kind_of (Exscan o a b) = kinds.Exscan
kind_of (Gatherv root a b) = kinds.Gatherv

-- some step of the kind
abbrev pub some_step : StepKind → CollStep
some_step kind = step_of kind 0 Sum 0 0

abbrev pub kind_word : StepKind → List ℕ
kind_word kind = word_of (some_step kind)

abbrev pub kind_since : StepKind → Version
kind_since kind = since (some_step kind)

abbrev pub takes_root : StepKind → Bool
takes_root kind = is_some (root_of (some_step kind))

abbrev pub takes_op : StepKind → Bool
takes_op kind = is_some (op_of (some_step kind))

abbrev pub takes_buffers : StepKind → Bool
takes_buffers kind = is_some (source_of (some_step kind))

abbrev pub all_kinds : List StepKind
all_kinds =
    kinds.Barrier ∷ kinds.Broadcast ∷ kinds.Reduce ∷ kinds.Allreduce ∷ kinds.Gather ∷ kinds.Allgather ∷ kinds.Alltoall ∷ kinds.Scan
    ∷ kinds.Scatter ∷ kinds.Reducescatter ∷ kinds.Exscan ∷ kinds.Gatherv ∷ []

abbrev pub named_among : List ℕ → List StepKind → Option StepKind
named_among word [] = None
named_among word (kind ∷ others) = if bytes_eq word (kind_word kind) then Some kind else named_among word others

-- the kind of that word
abbrev pub kind_named : List ℕ → Option StepKind
kind_named word = named_among word all_kinds

-- what is asked of A, whatever place the root is
abbrev pub need_in : Asked → Option Need
need_in Nothing = None
need_in (HeldAt root) = Some needs.Root
need_in (HeldAtInBlocks root) = Some needs.RootInBlocks
need_in HeldByAll = Some needs.All
need_in HeldByAllInBlocks = Some needs.AllInBlocks
need_in HeldBySome = Some needs.Some

abbrev pub kind_need : StepKind → Option Need
kind_need kind = need_in (asks_of (some_step kind))
