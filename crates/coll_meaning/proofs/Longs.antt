-- What each collective makes is as long as its row says, and stands at the members that its row says.
use Rattle.std.proofs.Common.{◌≡◌, ℕ, zero, suc, ◌+◌, ◌*◌, ◌/◌, ◌%◌, ◌<◌, ◌≤◌, false, cond, List, Option, Some, None, length, get_or, ap}
use Rattle.std.proofs.Common.{sym, ◌∙◌, arith}
use Rattle.std.specs.Prelude.{filter, is_some}
use Rattle.number_lists.specs.Members.{In}
use Rattle.number_lists.specs.Numbers.{from_to}
use Rattle.ptl_types.specs.declared.elements.AtomicOp.{AtomicOp}
use Rattle.ptl_types.specs.Operations.{bytes_of}
use Rattle.std.proofs.Math.Nat.{mul_assoc}
use Rattle.op_laws.proofs.Bytes.{length-part}
use Rattle.coll_shape.proofs.Asking.{In-is_in}
use Rattle.coll_shape.proofs.ByCollective.{has_kind}
use Rattle.coll_shape.specs.declared.types.Buffer.{Buffer}
use Rattle.coll_shape.specs.declared.types.CollStep.{CollStep}
use Rattle.coll_shape.specs.declared.types.CollStep.TheVariants.{Barrier, Broadcast, Reduce, Allreduce, Gather, Allgather, Alltoall, Scan}
use Rattle.coll_shape.specs.declared.types.CollStep.TheVariants.{Scatter, Reducescatter, Exscan, Gatherv}
use Rattle.coll_shape.specs.Outline.{list_bytes}
use Rattle.coll_shape.specs.Folding.{at, block, exchanged, joined_lists, reduced}
use Rattle.coll_shape.specs.Collectives.{AllHold, Asked, Nothing, HeldAt, HeldAtInBlocks, HeldByAll, HeldByAllInBlocks, HeldBySome}
use Rattle.coll_shape.specs.Collectives.{HasAsked, HasBlocks, IsRoot, Reads, buffer_after, holding_places, is_in, list_after, result_of}
use Rattle.coll_shape.specs.Collectives.{source_of}
use Rattle.coll_meaning.specs.Lengths.{AreAsked, AreEven, bytes_at}
use Rattle.coll_meaning.proofs.Folds.{length_reduced}
use Rattle.coll_meaning.proofs.Rowed.{block_bytes, blocks_bytes, block_fits, flat_even, flat_long, whole_mod}
use Rattle.coll_meaning.proofs.Holding.{Rises, alone_long, alone_outside, first_out, member_in, not_in, others_in, others_outside}

module _ (g : List ℕ) (x : Buffer) (xs : List (List ℕ)) (some : 0 < length g) (rising : Rises g) (many : length xs ≡ length g)
    (long : (i : ℕ) → i < length g → length (at xs i) ≡ bytes_at x (get_or g i 0)) where
  all_whole : AllHold g x → (i : ℕ) → i < length g → length (at xs i) ≡ list_bytes x
  all_whole h i l = long i l ∙ ap (λ b. cond b (list_bytes x) 0) (In-is_in (get_or g i 0) x.spread.holders (h i l))

  even : AllHold g x → AreEven x.ty xs
  even h = record {
    even = λ i l. all_whole h i (omega (arith, l, many)) ∙ sym (all_whole h 0 some);
    whole = ap (λ v. v % bytes_of x.ty) (all_whole h 0 some) ∙ whole_mod x.spread.length (bytes_of x.ty);
  }

  fold_long : (o : AtomicOp) (m : ℕ) → AllHold g x → length (reduced o x.ty m xs) ≡ list_bytes x
  fold_long o m h = let e = even h in length_reduced o x.ty m xs e.whole ∙ all_whole h 0 some

  -- all lists in a row
  row_long : AllHold g x → length (joined_lists xs) ≡ length g * list_bytes x
  row_long h = flat_even (at xs) (list_bytes x) 0 (length xs) (λ i l. all_whole h i (omega (arith, l, many)))
      ∙ ap (λ v. v * list_bytes x) many

  held_long : length (joined_lists xs) ≡ length (holding_places g x.spread.holders) * list_bytes x
  held_long =
      flat_long (at xs) (λ i. is_in (get_or g i 0) x.spread.holders) (list_bytes x) 0 (length xs) (λ i l. long i (omega (arith, l, many)))
      ∙ ap (λ v. length (filter (λ i. is_in (get_or g i 0) x.spread.holders) (from_to 0 v)) * list_bytes x) many

  block_long : (i : ℕ) (list : List ℕ) → i < length g → HasBlocks g x → length list ≡ list_bytes x →
      length (block (length xs) i list) ≡ x.spread.length / length g * bytes_of x.ty
  block_long i list l h e =
      length-part (i * (length list / length xs)) (length list / length xs) list
      (block_fits (length list) (length xs) i (omega (arith, l, many)))
      ∙ ap (λ v. v / length xs) e ∙ ap (λ v. list_bytes x / v) many ∙ block_bytes x.spread.length (length g) (bytes_of x.ty) some h

  exchange_long : (i : ℕ) → i < length g → AllHold g x → HasBlocks g x → length (exchanged xs i) ≡ list_bytes x
  exchange_long i l h b =
      flat_even _ (list_bytes x / length g) 0 (length xs) (λ q k.
      let same : length (at xs q) ≡ length (at xs i) = all_whole h q (omega (arith, k, many)) ∙ sym (all_whole h i l) in
      let fits : i * (length (at xs i) / length xs) + length (at xs i) / length xs ≤ length (at xs i) =
      block_fits (length (at xs i)) (length xs) i (omega (arith, l, many)) in
      length-part (i * (length (at xs i) / length xs)) (length (at xs i) / length xs) (at xs q) (omega (arith, same, fits))
      ∙ ap (λ v. v / length xs) (all_whole h i l) ∙ ap (λ v. list_bytes x / v) many)
      ∙ ap (λ v. v * (list_bytes x / length g)) many ∙ blocks_bytes x.spread.length (length g) (bytes_of x.ty) some b

  at_everyone : (i n : ℕ) (list : List ℕ) → i < length g → length list ≡ n → length list ≡ cond (is_in (get_or g i 0) g) n 0
  at_everyone i n list l e = e ∙ ap (λ b. cond b n 0) (sym (member_in g i l))

  -- a list of lists
  of_lists : (m n w : ℕ) (list : List ℕ) → length list ≡ m * (n * w) → length list ≡ m * n * w
  of_lists m n w list e = e ∙ sym (mul_assoc m n w)

  -- a step that reads A finds it so
  pub asked : (a : Asked) → HasAsked g x a → AreAsked a x.ty xs
  asked Nothing h = tt
  asked (HeldAt root) h = tt
  asked (HeldAtInBlocks root) h = tt
  asked HeldByAll h = even h
  asked HeldByAllInBlocks h = even h.0
  asked HeldBySome h = tt

  root_long : (root : ℕ) → root < length g → In (get_or g root 0) x.spread.holders → length (at xs root) ≡ list_bytes x
  root_long root l h = long root l ∙ ap (λ b. cond b (list_bytes x) 0) (In-is_in (get_or g root 0) x.spread.holders h)

  -- B at the members
  pub made_long : (step : CollStep) (b : ℕ) → result_of step ≡ Some b → IsRoot step (length g) → Reads g step x → (i : ℕ) → i < length g
      → length (list_after x.ty step xs i) ≡ bytes_at (buffer_after g step x) (get_or g i 0)
  made_long Barrier b e r h i l = cc
  made_long (Broadcast root a' b') b e r h i l = at_everyone i (list_bytes x) (at xs root) l (root_long root r h)
  made_long (Reduce root o a' b') b e r h i l = alone_long g root i (list_bytes x) (reduced o x.ty (length xs) xs) rising r l
      (fold_long o (length xs) h)
  made_long (Allreduce o a' b') b e r h i l = at_everyone i (list_bytes x) (reduced o x.ty (length xs) xs) l (fold_long o (length xs) h)
  made_long (Gather root a' b') b e r h i l =
      alone_long g root i (length g * x.spread.length * bytes_of x.ty) (joined_lists xs) rising r l
      (of_lists (length g) x.spread.length (bytes_of x.ty) (joined_lists xs) (row_long h))
  made_long (Allgather a' b') b e r h i l =
      at_everyone i (length g * x.spread.length * bytes_of x.ty) (joined_lists xs) l
      (of_lists (length g) x.spread.length (bytes_of x.ty) (joined_lists xs) (row_long h))
  made_long (Alltoall a' b') b e r h i l = at_everyone i (list_bytes x) (exchanged xs i) l (exchange_long i l h.0 h.1)
  made_long (Scan o a' b') b e r h i l = at_everyone i (list_bytes x) (reduced o x.ty (suc i) xs) l (fold_long o (suc i) h)
  made_long (Scatter root a' b') b e r h i l =
      at_everyone i (x.spread.length / length g * bytes_of x.ty) (block (length xs) i (at xs root)) l
      (block_long i (at xs root) l h.1 (root_long root r h.0))
  made_long (Reducescatter o a' b') b e r h i l =
      at_everyone i (x.spread.length / length g * bytes_of x.ty) (block (length xs) i (reduced o x.ty (length xs) xs)) l
      (block_long i (reduced o x.ty (length xs) xs) l h.1 (fold_long o (length xs) h.0))
  made_long (Exscan o a' b') b e r h zero l = sym (ap (λ b. cond b (list_bytes x) 0) (first_out g rising))
  made_long (Exscan o a' b') b e r h (suc i) l = fold_long o (suc i) h ∙ ap (λ b. cond b (list_bytes x) 0) (sym (others_in g i l))
  made_long (Gatherv root a' b') b e r h i l =
      alone_long g root i (length (holding_places g x.spread.holders) * x.spread.length * bytes_of x.ty) (joined_lists xs) rising r l
      (of_lists (length (holding_places g x.spread.holders)) x.spread.length (bytes_of x.ty) (joined_lists xs) held_long)

-- and nowhere else
pub made_outside : (g : List ℕ) (x : Buffer) (step : CollStep) (b : ℕ) → result_of step ≡ Some b → IsRoot step (length g) → (r : ℕ) →
    ((i : ℕ) → i < length g → get_or g i 0 ≡ r → ⊥)
    → is_in r (buffer_after g step x).spread.holders ≡ false
made_outside g x Barrier b e r q h = cc
made_outside g x (Broadcast root a' b') b e r q h = not_in q g h
made_outside g x (Reduce root o a' b') b e r q h = alone_outside g root q r h
made_outside g x (Allreduce o a' b') b e r q h = not_in q g h
made_outside g x (Gather root a' b') b e r q h = alone_outside g root q r h
made_outside g x (Allgather a' b') b e r q h = not_in q g h
made_outside g x (Alltoall a' b') b e r q h = not_in q g h
made_outside g x (Scan o a' b') b e r q h = not_in q g h
made_outside g x (Scatter root a' b') b e r q h = not_in q g h
made_outside g x (Reducescatter o a' b') b e r q h = not_in q g h
made_outside g x (Exscan o a' b') b e r q h = others_outside g q h
made_outside g x (Gatherv root a' b') b e r q h = alone_outside g root q r h

-- a step that reads a buffer makes one
abbrev pub BothOrNone : Option ℕ → Option ℕ → Type 0
BothOrNone None None = Unit {0}
BothOrNone None (Some b) = ⊥
BothOrNone (Some a) None = ⊥
BothOrNone (Some a) (Some b) = Unit {0}

pub both_or_none : (step : CollStep) → BothOrNone (source_of step) (result_of step)
both_or_none step = of (source_of step) (result_of step) (let k = has_kind step in k.source ∙ sym k.result)
  where
    of : (a b : Option ℕ) → is_some a ≡ is_some b → BothOrNone a b
    of None None e = tt
    of None (Some b) e = cc
    of (Some a) None e = cc
    of (Some a) (Some b) e = tt
