-- What holds of every collective: a line for each, and what follows of it.
use Rattle.std.proofs.Common.{◌≡◌, ℕ, List, [], ◌∷◌, Option, Some, None, Bool, true, false, cond, ◌&&◌, refl, sym, ap, ap₂, ◌∙◌, subst}
use Rattle.std.proofs.Common.{length}
use Rattle.std.proofs.Common.{inl, inr, ◌⊎◌}
use Rattle.std.specs.Prelude.{is_some}
use Rattle.std.specs.List.{list_all}
use Rattle.std.specs.Str.{bytes_eq}
use Rattle.ptl_types.specs.declared.elements.AtomicOp.{AtomicOp}
use Rattle.ptl_types.specs.declared.elements.AtomicOp.TheVariants as ops
use Rattle.coll_shape.specs.declared.types.Buffer.{Buffer}
use Rattle.coll_shape.specs.declared.types.CollStep.{CollStep}
use Rattle.coll_shape.specs.declared.types.CollStep.TheVariants.{Barrier, Broadcast, Reduce, Allreduce, Gather, Allgather, Alltoall, Scan}
use Rattle.coll_shape.specs.declared.types.CollStep.TheVariants.{Scatter, Reducescatter, Exscan, Gatherv}
use Rattle.coll_shape.specs.declared.collectives.StepKind.{StepKind}
use Rattle.coll_shape.specs.declared.collectives.StepKind.TheVariants as kinds
use Rattle.coll_shape.specs.Collectives.{Asked, HeldAt, HeldAtInBlocks, HeldByAll, HeldByAllInBlocks, HeldBySome, Nothing, asks_of}
use Rattle.coll_shape.specs.Collectives.{Collective, all_kinds, buffer_after, holding_places, kind_named, kind_of, kind_since, kind_word}
use Rattle.coll_shape.specs.Collectives.{like}
use Rattle.coll_shape.specs.Collectives.{made_holders, made_length, made_of, named_among, op_of, result_of, root_of, row, since, source_of}
use Rattle.coll_shape.specs.Collectives.{step_of, takes_buffers, takes_op, takes_root, word_of}

-- ---- a line for each collective

-- what is read off a step's row is read off the whole row
abbrev pub row_of : CollStep → Collective
row_of = row (λ c. c)

pub read_off : {X : Type 0} (f : Collective → X) (s : CollStep) → row f s ≡ f (row_of s)
read_off f Barrier = refl
read_off f (Broadcast r a b) = refl
read_off f (Reduce r o a b) = refl
read_off f (Allreduce o a b) = refl
read_off f (Gather r a b) = refl
read_off f (Allgather a b) = refl
read_off f (Alltoall a b) = refl
read_off f (Scan o a b) = refl
read_off f (Scatter r a b) = refl
read_off f (Reducescatter o a b) = refl
read_off f (Exscan o a b) = refl
read_off f (Gatherv r a b) = refl

-- a step reads and makes a buffer, or is a barrier
pub has_both : (s : CollStep) → (s ≡ Barrier) ⊎ ((a : ℕ) × (b : ℕ) × (source_of s ≡ Some a) × (result_of s ≡ Some b))
has_both Barrier = inl refl
has_both (Broadcast r a b) = inr (a, b, refl, refl)
has_both (Reduce r o a b) = inr (a, b, refl, refl)
has_both (Allreduce o a b) = inr (a, b, refl, refl)
has_both (Gather r a b) = inr (a, b, refl, refl)
has_both (Allgather a b) = inr (a, b, refl, refl)
has_both (Alltoall a b) = inr (a, b, refl, refl)
has_both (Scan o a b) = inr (a, b, refl, refl)
has_both (Scatter r a b) = inr (a, b, refl, refl)
has_both (Reducescatter o a b) = inr (a, b, refl, refl)
has_both (Exscan o a b) = inr (a, b, refl, refl)
has_both (Gatherv r a b) = inr (a, b, refl, refl)

-- who asks for nothing reads nothing, and whose root is asked has that root
abbrev pub AskedFits : Asked → Option ℕ → Option ℕ → Type 0
AskedFits Nothing root source = source ≡ None
AskedFits (HeldAt r) root source = root ≡ Some r
AskedFits (HeldAtInBlocks r) root source = root ≡ Some r
AskedFits HeldByAll root source = Unit {0}
AskedFits HeldByAllInBlocks root source = Unit {0}
AskedFits HeldBySome root source = Unit {0}

pub asked_fits : (s : CollStep) → AskedFits (asks_of s) (root_of s) (source_of s)
asked_fits Barrier = refl
asked_fits (Broadcast r a b) = refl
asked_fits (Reduce r o a b) = tt
asked_fits (Allreduce o a b) = tt
asked_fits (Gather r a b) = tt
asked_fits (Allgather a b) = tt
asked_fits (Alltoall a b) = tt
asked_fits (Scan o a b) = tt
asked_fits (Scatter r a b) = refl
asked_fits (Reducescatter o a b) = tt
asked_fits (Exscan o a b) = tt
asked_fits (Gatherv r a b) = tt

-- what a step has, and something where it has none
abbrev pub or_else : {A : Type 0} → A → Option A → A
or_else d None = d
or_else d (Some x) = x

abbrev pub place_of : CollStep → ℕ
place_of s = or_else 0 (root_of s)

abbrev pub oper_of : CollStep → AtomicOp
oper_of s = or_else ops.Sum (op_of s)

-- a step is the step of its kind with what it has
pub again : (s : CollStep) → s ≡ step_of (kind_of s) (place_of s) (oper_of s) (or_else 0 (source_of s)) (or_else 0 (result_of s))
again Barrier = refl
again (Broadcast r a b) = refl
again (Reduce r o a b) = refl
again (Allreduce o a b) = refl
again (Gather r a b) = refl
again (Allgather a b) = refl
again (Alltoall a b) = refl
again (Scan o a b) = refl
again (Scatter r a b) = refl
again (Reducescatter o a b) = refl
again (Exscan o a b) = refl
again (Gatherv r a b) = refl

-- a step of a kind has what the kind has
pub record OfKind (k : StepKind) (place : ℕ) (o : AtomicOp) (a b : ℕ) : Type 0 where
  pub word : word_of (step_of k place o a b) ≡ kind_word k
  pub since : since (step_of k place o a b) ≡ kind_since k
  pub root : root_of (step_of k place o a b) ≡ cond (takes_root k) (Some place) None
  pub op : op_of (step_of k place o a b) ≡ cond (takes_op k) (Some o) None
  pub source : source_of (step_of k place o a b) ≡ cond (takes_buffers k) (Some a) None
  pub result : result_of (step_of k place o a b) ≡ cond (takes_buffers k) (Some b) None

pub of_kind : (k : StepKind) (root : ℕ) (o : AtomicOp) (a b : ℕ) → OfKind k root o a b
of_kind kinds.Barrier root o a b = record { word = refl; since = refl; root = refl; op = refl; source = refl; result = refl }
of_kind kinds.Broadcast root o a b = record { word = refl; since = refl; root = refl; op = refl; source = refl; result = refl }
of_kind kinds.Reduce root o a b = record { word = refl; since = refl; root = refl; op = refl; source = refl; result = refl }
of_kind kinds.Allreduce root o a b = record { word = refl; since = refl; root = refl; op = refl; source = refl; result = refl }
of_kind kinds.Gather root o a b = record { word = refl; since = refl; root = refl; op = refl; source = refl; result = refl }
of_kind kinds.Allgather root o a b = record { word = refl; since = refl; root = refl; op = refl; source = refl; result = refl }
of_kind kinds.Alltoall root o a b = record { word = refl; since = refl; root = refl; op = refl; source = refl; result = refl }
of_kind kinds.Scan root o a b = record { word = refl; since = refl; root = refl; op = refl; source = refl; result = refl }
of_kind kinds.Scatter root o a b = record { word = refl; since = refl; root = refl; op = refl; source = refl; result = refl }
of_kind kinds.Reducescatter root o a b = record { word = refl; since = refl; root = refl; op = refl; source = refl; result = refl }
of_kind kinds.Exscan root o a b = record { word = refl; since = refl; root = refl; op = refl; source = refl; result = refl }
of_kind kinds.Gatherv root o a b = record { word = refl; since = refl; root = refl; op = refl; source = refl; result = refl }

-- the word of a kind names it
pub kind_back : (k : StepKind) → kind_named (kind_word k) ≡ Some k
kind_back kinds.Barrier = refl
kind_back kinds.Broadcast = refl
kind_back kinds.Reduce = refl
kind_back kinds.Allreduce = refl
kind_back kinds.Gather = refl
kind_back kinds.Allgather = refl
kind_back kinds.Alltoall = refl
kind_back kinds.Scan = refl
kind_back kinds.Scatter = refl
kind_back kinds.Reducescatter = refl
kind_back kinds.Exscan = refl
kind_back kinds.Gatherv = refl

-- ---- what follows

-- what passes for each of the table of kinds passes for every kind
pub every_kind : (p : StepKind → Bool) → list_all p all_kinds ≡ true → (k : StepKind) → p k ≡ true
every_kind p h k = found all_kinds h (kind_back k)
  where
    fst : (b c : Bool) → (b && c) ≡ true → b ≡ true
    fst true c e = refl
    fst false c e = cc

    snd : (b c : Bool) → (b && c) ≡ true → c ≡ true
    snd true c e = e
    snd false c e = cc

    here : (j : StepKind) (w : List ℕ) (b : Bool) (others : Option StepKind) → cond b (Some j) others ≡ Some k → p j ≡ true
        → (others ≡ Some k → p k ≡ true) → p k ≡ true
    here j w true others e q rest = subst (λ i. p i ≡ true) (is e) q
      where
        is : Some j ≡ Some k → j ≡ k
        is e = cc
    here j w false others e q rest = rest e

    found : (ks : List StepKind) → list_all p ks ≡ true → named_among (kind_word k) ks ≡ Some k → p k ≡ true
    found [] h e = cc
    found (j ∷ ks) h e =
        here j (kind_word k) (bytes_eq (kind_word k) (kind_word j)) (named_among (kind_word k) ks) e (fst (p j) (list_all p ks) h)
        (found ks (snd (p j) (list_all p ks) h))

-- a step has what its kind takes
pub record HasKind (s : CollStep) : Type 0 where
  pub word : word_of s ≡ kind_word (kind_of s)
  pub since : since s ≡ kind_since (kind_of s)
  pub root : is_some (root_of s) ≡ takes_root (kind_of s)
  pub op : is_some (op_of s) ≡ takes_op (kind_of s)
  pub source : is_some (source_of s) ≡ takes_buffers (kind_of s)
  pub result : is_some (result_of s) ≡ takes_buffers (kind_of s)

there : {A : Type 0} (b : Bool) (x : A) → is_some (cond b (Some x) None) ≡ b
there true x = refl
there false x = refl

pub has_kind : (s : CollStep) → HasKind s
has_kind s =
    let k = kind_of s in
    let a = or_else 0 (source_of s) in
    let b = or_else 0 (result_of s) in
    let h = of_kind k (place_of s) (oper_of s) a b in
    record {
      word = ap word_of (again s) ∙ h.word;
      since = ap since (again s) ∙ h.since;
      root = ap (λ t. is_some (root_of t)) (again s) ∙ ap is_some h.root ∙ there (takes_root k) (place_of s);
      op = ap (λ t. is_some (op_of t)) (again s) ∙ ap is_some h.op ∙ there (takes_op k) (oper_of s);
      source = ap (λ t. is_some (source_of t)) (again s) ∙ ap is_some h.source ∙ there (takes_buffers k) a;
      result = ap (λ t. is_some (result_of t)) (again s) ∙ ap is_some h.result ∙ there (takes_buffers k) b;
    }

-- what a step makes of x
pub made_after : (g : List ℕ) (s : CollStep) (x : Buffer) (b : ℕ) → result_of s ≡ Some b
    → buffer_after g s x ≡ like x (made_length g s x) (made_holders g s)
made_after g s x b e =
    let c = row_of s in
    read_off (λ c. made_of g x c c.result) s
    ∙ ap (made_of g x c) (sym (read_off (λ c. c.result) s) ∙ e)
    ∙ ap₂ (like x) (sym (read_off (λ c. c.long (length g) (length (holding_places g x.spread.holders)) x.spread.length) s))
    (sym (read_off (λ c. c.holders g) s))

-- of the type of x
pub after_ty : (g : List ℕ) (s : CollStep) (x : Buffer) → (buffer_after g s x).ty ≡ x.ty
after_ty g s x = ap (λ (y : Buffer). y.ty) (read_off (λ c. made_of g x c c.result) s) ∙ of (row_of s) (row_of s).result
  where
    of : (c : Collective) (b : Option ℕ) → (made_of g x c b).ty ≡ x.ty
    of c None = refl
    of c (Some b) = refl
