-- All twelve steps together: sound, their exits and holders are among their cells, and what the holders hold.
use Rattle.std.proofs.Common.{ℕ, zero, suc, Bool, true, false, cond, ◌+◌, ◌-◌, ◌*◌, ◌/◌, ◌%◌, ◌≡◌, ◌≤◌, ◌<◌, ◌==◌, List, [], ◌∷◌, ◌++◌}
use Rattle.std.proofs.Common.{refl, length, map, filter, flat_map, ap, ap₂, ◌∙◌, sym, subst, arith, Some, eqb-true, le_refl, div-add-mod'}
use Rattle.std.proofs.Common.{inl}
use Rattle.std.proofs.Math.Nat.{mod-eq_of_lt, add-mul-mod_self_left}
use Rattle.ptl_types.specs.declared.elements.AtomicOp.{AtomicOp}
use Rattle.ptl_types.specs.declared.elements.ElemType.{ElemType}
use Rattle.ptl_types.specs.Operations.{bytes_of}
use Rattle.ptl_types.specs.Elements.{part, starting}
use Rattle.op_laws.proofs.Bytes.{bytes-pos, length-repeated}
use Rattle.plan_core.specs.declared.Cell.{Cell}
use Rattle.plan_core.specs.Draw.{NewCell}
use Rattle.plan_core.specs.Plan.{from_to, no_cell, Plan}
use Rattle.coll_shape.specs.declared.types.CollStep.{CollStep}
use Rattle.coll_shape.specs.declared.types.CollStep.TheVariants.{Barrier, Broadcast, Reduce, Allreduce, Gather, Allgather, Alltoall, Scan}
use Rattle.coll_shape.specs.declared.types.CollStep.TheVariants.{Scatter, Reducescatter, Exscan, Gatherv}
use Rattle.plan_steps.specs.StepContext.{StepContext, bare_entry, count, entries, entry, full_entry, further, in_row, places, rank_at}
use Rattle.plan_steps.specs.StepContext.{source_at, block_length, atomic, bump, exit_at, put_whole, rows}
use Rattle.plan_steps.specs.Steps.{giving, passing}
use Rattle.coll_shape.specs.Collectives.{Asked, HeldAt, HeldAtInBlocks, HeldByAll, HeldByAllInBlocks, HeldBySome, IsRoot, Nothing, asks_of}
use Rattle.coll_shape.specs.Collectives.{is_in, list_after}
use Rattle.plan_steps.specs.Trees.{turned, unturned, up, up_cell, up_number}
use Rattle.plan_steps.specs.Collectives.Broadcast.{copy_cell, first_cell}
use Rattle.plan_steps.specs.Collectives.Reduce.{reduce_cells}
use Rattle.plan_steps.specs.Collectives.Allreduce.{result_cell}
use Rattle.plan_steps.specs.Collectives.Gather.{gathered, gather_link}
use Rattle.plan_steps.specs.Collectives.Allgather.{allgather_cells, collected, collect_link, ring_cell, ring_node}
use Rattle.plan_steps.specs.Collectives.Alltoall.{exchanged, exchange_link}
use Rattle.plan_steps.specs.Rounds.{rounds}
use Rattle.plan_steps.specs.Collectives.Scan.{scan_cell, scan_cells, scan_number, scan_rows}
use Rattle.plan_steps.specs.Collectives.Barrier.{barrier_cells, round_rows}
use Rattle.plan_steps.specs.Collectives.Scatter.{scattered, scatter_put}
use Rattle.plan_steps.specs.Collectives.Reducescatter.{result_block, result_put}
use Rattle.plan_steps.specs.Collectives.Exscan.{exscan_cells, shifted}
use Rattle.plan_steps.specs.Collectives.Gatherv.{concatenated, held_entry}
use Rattle.plan_steps.specs.Sounding.{EachAt, Ground, HasA, IsCell, Known, SoundNewCell}
use Rattle.coll_shape.specs.Folding.{at, folded, reduced, block, joined_lists}
use Rattle.plan_steps.proofs.Drawn.{each_back, each_front, each_of_map, length-rows, each_of_rows}
use Rattle.plan_steps.proofs.Entries.{behind, of_places}
use Rattle.plan_steps.proofs.Folds.{length-folded}
use Rattle.plan_steps.proofs.allreduce.Laws.{allreduce-sound, allreduce-value}
use Rattle.plan_steps.proofs.broadcast.Laws.{broadcast-sound, broadcast-value}
use Rattle.plan_steps.proofs.reduce.Laws.{reduce-sound, reduce-value}
use Rattle.plan_steps.proofs.Trees.{turned-back, unturned-lt, up-at}
use Rattle.plan_steps.proofs.allgather.Laws.{allgather-sound, allgather-value, end_part}
use Rattle.plan_steps.proofs.alltoall.Laws.{alltoall-sound, alltoall-value}
use Rattle.plan_steps.proofs.gather.Laws.{gather-sound, gather-value}
use Rattle.plan_steps.proofs.barrier.Laws.{barrier-sound, round-at}
use Rattle.plan_steps.proofs.scan.Laws.{scan-at, scan-sound, scan-value}
use Rattle.plan_steps.proofs.scatter.Laws.{scatter-sound, scatter-value}
use Rattle.plan_steps.proofs.exscan.Laws.{exscan-sound, exscan-value}
use Rattle.plan_steps.proofs.reducescatter.Laws.{reducescatter-sound, reducescatter-value}
use Rattle.plan_steps.proofs.gatherv.Laws.{gatherv-sound, gatherv-value}
use Rattle.plan_steps.specs.Collectives.{cells_of, end_of}
use Rattle.schedule_compiler.specs.shapes.Results.{IsResult}
use Rattle.schedule_compiler.specs.shapes.Results.IsResult.{Holds, IsEmpty}
use Rattle.plan_core.proofs.Links.{In-from_to}
use Rattle.plan_core.proofs.Lists.{In-map}
use Rattle.plan_core.specs.Members.{In}
use Rattle.plan_core.specs.Rounds.{Comes}
use Rattle.plan_core.specs.declared.Incoming.{Incoming}

-- the list that is read has a block for each place
pub record Blocks (s : StepContext) : Type 0 where
  pub all : s.length ≡ count s * block_length s
  pub whole : block_length s % bytes_of s.ty ≡ 0

-- the places that hold A are those that pass a test
pub record Holding (s : StepContext) : Type 0 where
  pub test : ℕ → Bool
  pub is : s.holding ≡ filter test (from_to 0 (count s))

abbrev pub AllHave : (ℕ → Cell) → StepContext → Type 0
AllHave k s = (i : ℕ) → i < count s → HasA k s i

-- what is asked of the site
abbrev pub AsksSo : (ℕ → Cell) → StepContext → Asked → Type 0
AsksSo k s Nothing = Unit {0}
AsksSo k s (HeldAt root) = HasA k s root
AsksSo k s (HeldAtInBlocks root) = HasA k s root × Blocks s
AsksSo k s HeldByAll = AllHave k s
AsksSo k s HeldByAllInBlocks = AllHave k s × Blocks s
AsksSo k s HeldBySome = Holding s × ((i : ℕ) → i < count s → is_in i s.holding ≡ true → HasA k s i)

-- what a step asks of its site
abbrev pub Asks : (ℕ → Cell) → StepContext → CollStep → Type 0
Asks k s step = AsksSo k s (asks_of step)

pub whole_times : (m n w : ℕ) → 0 < w → n % w ≡ 0 → (m * n) % w ≡ 0
whole_times m n w pos e =
    let q : n ≡ w * (n / w) = omega (arith, div-add-mod' n w, e) in
    let r : m * n ≡ 0 + w * (m * (n / w)) = omega (arith, ap (λ v. m * v) q) in
    ap (λ v. v % w) r ∙ add-mul-mod_self_left 0 w (m * (n / w)) ∙ mod-eq_of_lt pos

module _ (ranks : ℕ) (k : ℕ → Cell) (s : StepContext) (ground : Ground ranks k s) (whole : s.length % bytes_of s.ty ≡ 0) where
  times : (m : ℕ) → (m * s.length) % bytes_of s.ty ≡ 0
  times m = whole_times m s.length (bytes_of s.ty) (bytes-pos s.ty) whole

  pub step-sound : (step : CollStep) → IsRoot step (count s) → Asks k s step → EachAt (IsCell k) s.first (cells_of s step) →
      EachAt (SoundNewCell ranks k) s.first (cells_of s step)
  step-sound Barrier root_in has cells = barrier-sound k s ranks ground cells
  step-sound (Broadcast root a b) root_in has cells = broadcast-sound k s root root_in ranks ground whole has cells
  step-sound (Reduce root o a b) root_in has cells = reduce-sound ranks k s root o ground whole has cells
  step-sound (Allreduce o a b) root_in has cells = allreduce-sound k s o ranks ground whole has cells
  step-sound (Gather root a b) root_in has cells = gather-sound k s ranks root ground root_in whole (times (count s)) has cells
  step-sound (Allgather a b) root_in has cells = allgather-sound k s ranks ground whole (times (count s)) has cells
  step-sound (Alltoall a b) root_in has cells = alltoall-sound k s ranks (s.length / count s) ground whole refl has.1.all has.0 cells
  step-sound (Scan o a b) root_in has cells = scan-sound k s o ranks ground whole has cells
  step-sound (Scatter root a b) root_in has cells = scatter-sound k s root root_in ranks ground whole has.1.whole has.1.all has.0 cells
  step-sound (Reducescatter o a b) root_in has cells = reducescatter-sound k s o ranks ground whole has.1.whole has.1.all has.0 cells
  step-sound (Exscan o a b) root_in has cells = exscan-sound k s o ranks ground whole has cells
  step-sound (Gatherv root a b) root_in has cells = gatherv-sound k s root has.0.test has.0.is ranks ground root_in whole
      (times (length s.holding)) has.1 cells

-- B's length in bytes
abbrev pub bytes_after : StepContext → CollStep → ℕ
bytes_after s Barrier = s.length
bytes_after s (Broadcast root a b) = s.length
bytes_after s (Reduce root o a b) = s.length
bytes_after s (Allreduce o a b) = s.length
bytes_after s (Gather root a b) = count s * s.length
bytes_after s (Allgather a b) = count s * s.length
bytes_after s (Alltoall a b) = s.length
bytes_after s (Scan o a b) = s.length
bytes_after s (Scatter root a b) = block_length s
bytes_after s (Reducescatter o a b) = block_length s
bytes_after s (Exscan o a b) = s.length
bytes_after s (Gatherv root a b) = length s.holding * s.length

-- ---- exits and holders are cells of the step
pub record Among (P : ℕ → NewCell → Type 0) (c rank : ℕ) : Type 0 where
  pub node : NewCell
  pub holds : P c node
  pub on_rank : node.rank ≡ rank

-- the cell that holds B at place i, on its rank, of A's type and of n bytes
pub record Holder (P : ℕ → NewCell → Type 0) (of : ElemType) (c rank n : ℕ) : Type 0 where
  pub node : NewCell
  pub holds : P c node
  pub on_rank : node.rank ≡ rank
  pub ty : node.ty ≡ of
  pub long : node.length ≡ n

some_one : {a b : ℕ} → Some a ≡ Some b → a ≡ b
some_one e = cc

module _ (P : ℕ → NewCell → Type 0) (s : StepContext) (pos : 0 < count s) where
  -- the cell of one place, where its number can be written in another way
  moved : (c d : ℕ) (n : NewCell) → c ≡ d → P c n → P d n
  moved c d n e h = subst (λ v. P v n) e h

  shift : (x y : ℕ) (ns : List NewCell) → x ≡ y → EachAt P x ns → EachAt P y ns
  shift x y ns e h = subst (λ c. EachAt P c ns) e h

  -- after the row of entries
  second : (f g : ℕ → NewCell) → EachAt P s.first (map f (places s) ++ map g (places s)) → (i : ℕ) → i < count s → P (further s i) (g i)
  second f g h i l = moved (s.first + count s + i) (further s i) (g i) (omega arith)
      (of_places P s (s.first + count s) g (behind P s s.first f (map g (places s)) h) i l)

  alone : (f : ℕ → NewCell) (n : NewCell) → EachAt P s.first (map f (places s) ++ n ∷ []) → P (further s 0) n
  alone f n h = moved (s.first + count s) (further s 0) n (omega arith) (behind P s s.first f (n ∷ []) h).0

  third : (o : AtomicOp) (root : ℕ) (g : ℕ → NewCell) → EachAt P s.first (entries s ++ (up s root o ++ map g (places s))) → (i : ℕ) →
      i < count s → P (further s (count s + i)) (g i)
  third o root g h i l =
      moved (s.first + count s + count s + i) (further s (count s + i)) (g i) (omega arith)
      (of_places P s (s.first + count s + count s) g (behind P s (s.first + count s) _ (map g (places s))
      (behind P s s.first (full_entry s) _ h)) i l)

  any : ℕ → Cell
  any c = no_cell

  round_at : EachAt P s.first (barrier_cells s) → (j i : ℕ) → j ≤ rounds (count s) → i < count s → Among P (in_row s j i) (rank_at s i)
  round_at h zero i t l = record {
    node = bare_entry s i;
    holds = moved (s.first + i) (in_row s 0 i) (bare_entry s i) (omega arith)
        (of_places P s s.first (bare_entry s) (each_front P s.first (map (bare_entry s) (places s)) (round_rows s) h) i l);
    on_rank = refl;
  }
  round_at h (suc j) i t l = record {
    node = _;
    holds = round-at any s P (behind P s s.first (bare_entry s) (round_rows s) h) j i t l;
    on_rank = refl;
  }

  first_at : (f : ℕ → NewCell) (ns : List NewCell) → EachAt P s.first (map f (places s) ++ ns) → (i : ℕ) → i < count s → P (entry s i) (f i)
  first_at f ns h i l = of_places P s s.first f (each_front P s.first (map f (places s)) ns h) i l

  collected_at : EachAt P s.first (allgather_cells s) → (i : ℕ) → i < count s → P (further s (count s * count s + i)) (collected s i)
  collected_at h i l = moved (s.first + count s + count s * count s + i) (further s (count s * count s + i)) (collected s i) (omega arith)
      (of_places P s (s.first + count s + count s * count s) (collected s) (end_part any s P h) i l)

  up_is : (root : ℕ) (o : AtomicOp) → EachAt P s.first (reduce_cells s root o) → (v : ℕ) → v < count s →
      P (up_number s v) (up_cell s root o v)
  up_is root o h v l = up-at any s root o P (behind P s s.first (full_entry s) (up s root o) h) v l

  last_scan : (o : AtomicOp) (ns : List NewCell) → EachAt P s.first (entries s ++ (scan_rows s o ++ ns)) → (i : ℕ) → i < count s →
      P (scan_number s (rounds (count s)) i) (scan_cell s o (rounds (count s)) i)
  last_scan o ns h i l = scan-at any s o P (each_front P (s.first + count s) (scan_rows s o) ns
      (behind P s s.first (full_entry s) (scan_rows s o ++ ns) h)) (rounds (count s)) i (le_refl (rounds (count s))) l

  only_scan : (o : AtomicOp) → EachAt P s.first (scan_cells s o) → (i : ℕ) → i < count s →
      P (scan_number s (rounds (count s)) i) (scan_cell s o (rounds (count s)) i)
  only_scan o h i l = scan-at any s o P (behind P s s.first (full_entry s) (scan_rows s o) h) (rounds (count s)) i
      (le_refl (rounds (count s))) l

  shifted_at : (o : AtomicOp) → EachAt P s.first (exscan_cells s o) → (j : ℕ) → suc j < count s →
      P (further s (suc (rounds (count s)) * count s + j)) (shifted s j)
  shifted_at o h j l =
      let c = length-rows (scan_cell s o) (count s) 0 (suc (rounds (count s))) in
      let m = each_of_map P (s.first + count s + length (scan_rows s o)) (shifted s) 0 (count s - 1)
      (each_back P (s.first + count s) (scan_rows s o) (map (shifted s) (from_to 0 (count s - 1)))
      (behind P s s.first (full_entry s) (scan_rows s o ++ map (shifted s) (from_to 0 (count s - 1))) h)) j (omega arith) in
      moved (s.first + count s + length (scan_rows s o) + j) (further s (suc (rounds (count s)) * count s + j)) (shifted s j)
      (omega (arith, c))
      (subst (λ v. P (s.first + count s + length (scan_rows s o) + j) (shifted s v)) (let z : 0 + j ≡ j = omega arith in z) m)

  turned_0 : (i : ℕ) → i < count s → rank_at s (turned s 0 i) ≡ rank_at s i
  turned_0 i l = ap (rank_at s) (mod-eq_of_lt {n = 0 + i} (let e : 0 + i < count s = omega arith in e)
      ∙ (let e : 0 + i ≡ i = omega arith in e))

  turned_root : (root : ℕ) → root < count s → rank_at s (turned s root 0) ≡ rank_at s root
  turned_root root r = ap (rank_at s) (mod-eq_of_lt {n = root + 0} (let w : root + 0 < count s = omega arith in w)
      ∙ (let w : root + 0 ≡ root = omega arith in w))

  result_rank : (i : ℕ) → (result_block s i).rank ≡ rank_at s i
  result_rank i = refl

  entry_rank : (b : Bool) (i : ℕ) → (cond b (full_entry s i) (bare_entry s i)).rank ≡ rank_at s i
  entry_rank true i = refl
  entry_rank false i = refl

  scan_rank : (o : AtomicOp) (q i : ℕ) → (scan_cell s o q i).rank ≡ rank_at s i
  scan_rank o q i = refl

  pub exit_node : (step : CollStep) → IsRoot step (count s) → EachAt P s.first (cells_of s step) → (i : ℕ) → i < count s →
      Among P (end_of s step i).exit (rank_at s i)
  exit_node Barrier r h i l = round_at h (rounds (count s)) i (le_refl (rounds (count s))) l
  exit_node (Broadcast root a b) r h i l = record {
    node = _;
    holds = second (first_cell s root) (copy_cell s root) h (unturned s root i)
        (unturned-lt s root i pos);
    on_rank = ap (rank_at s) (turned-back s root r i l);
  }
  exit_node (Reduce root o a b) r h i l = at_root (i == root) refl
    where
      at_root : (t : Bool) → (i == root) ≡ t → Among P (cond t (giving (up_number s 0)) (passing (up_number s (unturned s root i)))).exit
          (rank_at s i)
      at_root true e = record {
        node = _;
        holds = up_is root o h 0 pos;
        on_rank = turned_root root r
            ∙ sym (ap (rank_at s) (eqb-true _ _ e));
      }
      at_root false e = record {
        node = _;
        holds = up_is root o h (unturned s root i) (unturned-lt s root i pos);
        on_rank =
            ap (rank_at s) (turned-back s root r i l);
      }
  exit_node (Allreduce o a b) r h i l = record { node = _; holds = third o 0 (result_cell s) h i l; on_rank = turned_0 i l }
  exit_node (Gather root a b) r h i l = at_root (i == root) refl
    where
      at_root : (t : Bool) → (i == root) ≡ t → Among P (cond t (giving (further s 0)) (passing (entry s i))).exit (rank_at s i)
      at_root true e = record {
        node = _;
        holds = alone (full_entry s) (gathered s root) h;
        on_rank =
            ap (rank_at s) (sym (eqb-true _ _ e));
      }
      at_root false e = record { node = _; holds = first_at (full_entry s) (gathered s root ∷ []) h i l; on_rank = refl }
  exit_node (Allgather a b) r h i l = record { node = _; holds = collected_at h i l; on_rank = refl }
  exit_node (Alltoall a b) r h i l = record { node = _; holds = second (full_entry s) (exchanged s) h i l; on_rank = refl }
  exit_node (Scan o a b) r h i l = record { node = _; holds = only_scan o h i l; on_rank = scan_rank o (rounds (count s)) i }
  exit_node (Scatter root a b) r h i l = record { node = _; holds = second (first_cell s root) (scattered s root) h i l; on_rank = refl }
  exit_node (Reducescatter o a b) r h i l = record { node = _; holds = third o 0 (result_block s) h i l; on_rank = result_rank i }
  exit_node (Exscan o a b) r h zero l = record {
    node = _;
    holds = last_scan o (map (shifted s) (from_to 0 (count s - 1))) h 0 l;
    on_rank = scan_rank o (rounds (count s)) 0;
  }
  exit_node (Exscan o a b) r h (suc j) l = record { node = _; holds = shifted_at o h j l; on_rank = refl }
  exit_node (Gatherv root a b) r h i l = at_root (i == root) refl
    where
      at_root : (t : Bool) → (i == root) ≡ t → Among P (cond t (giving (further s 0)) (passing (entry s i))).exit (rank_at s i)
      at_root true e = record {
        node = _;
        holds = alone (held_entry s) (concatenated s root) h;
        on_rank =
            ap (rank_at s) (sym (eqb-true _ _ e));
      }
      at_root false e = record {
        node = _;
        holds = first_at (held_entry s) (concatenated s root ∷ []) h i l;
        on_rank =
            entry_rank (is_in i s.holding) i;
      }

  found : (c d rank n : ℕ) → Some d ≡ Some c → Holder P s.ty d rank n → Holder P s.ty c rank n
  found c d rank n e h = subst (λ v. Holder P s.ty v rank n) (some_one e) h

  pub holder_node : (step : CollStep) → IsRoot step (count s) → EachAt P s.first (cells_of s step) → (i c : ℕ) → i < count s →
      (end_of s step i).holder ≡ Some c → Holder P s.ty c (rank_at s i) (bytes_after s step)
  holder_node Barrier r h i c l e = cc
  holder_node (Broadcast root a b) r h i c l e = found c _ (rank_at s i) s.length e
      (record {
        node = _;
        holds = second (first_cell s root) (copy_cell s root) h (unturned s root i) (unturned-lt s root i pos);
        on_rank = ap (rank_at s) (turned-back s root r i l);
        ty = refl;
        long = refl;
      })
  holder_node (Reduce root o a b) r h i c l e = at_root (i == root) refl e
    where
      at_root : (t : Bool) → (i == root) ≡ t → (cond t (giving (up_number s 0)) (passing (up_number s (unturned s root i)))).holder ≡ Some
          c → Holder P s.ty c (rank_at s i) s.length
      at_root true q e = found c _ (rank_at s i) s.length e (record {
        node = _;
        holds = up_is root o h 0 pos;
        on_rank = turned_root root r
            ∙ sym (ap (rank_at s) (eqb-true _ _ q));
        ty = refl;
        long = refl;
      })
      at_root false q e = cc
  holder_node (Allreduce o a b) r h i c l e = found c _ (rank_at s i) s.length e
      (record { node = _; holds = third o 0 (result_cell s) h i l; on_rank = turned_0 i l; ty = refl; long = refl })
  holder_node (Gather root a b) r h i c l e = at_root (i == root) refl e
    where
      at_root : (t : Bool) → (i == root) ≡ t → (cond t (giving (further s 0)) (passing (entry s i))).holder ≡ Some c →
          Holder P s.ty c (rank_at s i) (count s * s.length)
      at_root true q e = found c _ (rank_at s i) (count s * s.length) e
          (record {
            node = _;
            holds = alone (full_entry s) (gathered s root) h;
            on_rank = ap (rank_at s) (sym (eqb-true _ _ q));
            ty =
                refl;
            long = refl;
          })
      at_root false q e = cc
  holder_node (Allgather a b) r h i c l e = found c _ (rank_at s i) (count s * s.length) e
      (record { node = _; holds = collected_at h i l; on_rank = refl; ty = refl; long = refl })
  holder_node (Alltoall a b) r h i c l e = found c _ (rank_at s i) s.length e
      (record { node = _; holds = second (full_entry s) (exchanged s) h i l; on_rank = refl; ty = refl; long = refl })
  holder_node (Scan o a b) r h i c l e = found c _ (rank_at s i) s.length e
      (record { node = _; holds = only_scan o h i l; on_rank = scan_rank o (rounds (count s)) i; ty = refl; long = refl })
  holder_node (Scatter root a b) r h i c l e = found c _ (rank_at s i) (block_length s) e
      (record { node = _; holds = second (first_cell s root) (scattered s root) h i l; on_rank = refl; ty = refl; long = refl })
  holder_node (Reducescatter o a b) r h i c l e = found c _ (rank_at s i) (block_length s) e
      (record { node = _; holds = third o 0 (result_block s) h i l; on_rank = result_rank i; ty = refl; long = refl })
  holder_node (Exscan o a b) r h zero c l e = cc
  holder_node (Exscan o a b) r h (suc j) c l e = found c _ (rank_at s (suc j)) s.length e
      (record { node = _; holds = shifted_at o h j l; on_rank = refl; ty = refl; long = refl })
  holder_node (Gatherv root a b) r h i c l e = at_root (i == root) refl e
    where
      at_root : (t : Bool) → (i == root) ≡ t → (cond t (giving (further s 0)) (passing (entry s i))).holder ≡ Some c →
          Holder P s.ty c (rank_at s i) (length s.holding * s.length)
      at_root true q e = found c _ (rank_at s i) (length s.holding * s.length) e
          (record {
            node = _;
            holds = alone (held_entry s) (concatenated s root) h;
            on_rank = ap (rank_at s) (sym (eqb-true _ _ q));
            ty =
                refl;
            long = refl;
          })
      at_root false q e = cc

-- ---- what the holders hold
module _ (k : ℕ → Cell) (val : ℕ → List ℕ) (s : StepContext) (xs : List (List ℕ)) (pos : 0 < count s) (small : count s ≤ 256)
    (many : length xs ≡ count s) (whole : s.length % bytes_of s.ty ≡ 0) where
  abbrev pub HasValue : ℕ → Type 0
  HasValue i = (val (source_at s i) ≡ at xs i) × (length (val (source_at s i)) ≡ s.length)

  abbrev pub AllValues : Type 0
  AllValues = (i : ℕ) → i < count s → (val (source_at s i) ≡ at xs i) × (length (val (source_at s i)) ≡ s.length)

  abbrev pub AsksValuesSo : Asked → Type 0
  AsksValuesSo Nothing = ⊥
  AsksValuesSo (HeldAt root) = HasValue root
  AsksValuesSo (HeldAtInBlocks root) = HasValue root × Blocks s
  AsksValuesSo HeldByAll = AllValues
  AsksValuesSo HeldByAllInBlocks = AllValues × Blocks s
  AsksValuesSo HeldBySome = Holding s × ((i : ℕ) → i < count s → is_in i s.holding ≡ true → HasValue i) ×
      ((i : ℕ) → i < count s → is_in i s.holding ≡ false → at xs i ≡ [])

  abbrev pub AsksValues : CollStep → Type 0
  AsksValues step = AsksValuesSo (asks_of step)

  -- the fold of the first m
  fold_is : (o : AtomicOp) (m : ℕ) → length (at xs 0) ≡ s.length → folded o s.ty (map (at xs) (from_to 0 m)) (starting o s.ty s.length)
      ≡ reduced o s.ty m xs
  fold_is o m e = ap (λ n. folded o s.ty (map (at xs) (from_to 0 m)) (starting o s.ty n)) (sym e)

  fold_all : (o : AtomicOp) → length (at xs 0) ≡ s.length → folded o s.ty (map (at xs) (from_to 0 (count s))) (starting o s.ty s.length)
      ≡ reduced o s.ty (length xs) xs
  fold_all o e = fold_is o (count s) e ∙ ap (λ m. reduced o s.ty m xs) (sym many)

  fold_long : (o : AtomicOp) → length (at xs 0) ≡ s.length → length (reduced o s.ty (length xs) xs) ≡ s.length
  fold_long o e =
      ap length (sym (fold_all o e))
      ∙ length-folded o s.ty (map (at xs) (from_to 0 (count s))) (starting o s.ty s.length)
      (ap (λ n. n % bytes_of s.ty) (length-repeated o s.ty s.length whole) ∙ whole)
      ∙ length-repeated o s.ty s.length whole

  len_at : (i : ℕ) → HasValue i → length (at xs i) ≡ s.length
  len_at i h = ap length (sym h.0) ∙ h.1

  joined : flat_map (at xs) (from_to 0 (count s)) ≡ joined_lists xs
  joined = ap (λ m. flat_map (at xs) (from_to 0 m)) (sym many)

  -- block i of a list of A's length
  block_is : (i : ℕ) (x : List ℕ) → length x ≡ s.length → part (i * block_length s) (block_length s) x ≡ block (length xs) i x
  block_is i x e = ap₂ (λ n m. part (i * (n / m)) (n / m) x) (sym e) (sym many)

  rooted : (t : Bool) (c e : ℕ) (x : List ℕ) → val c ≡ x → IsResult val (cond t x []) (cond t (giving c) (passing e)).holder
  rooted true c e x h = Holds c h
  rooted false c e x h = IsEmpty refl

  pub step-value : (step : CollStep) → IsRoot step (count s) → AsksValues step → EachAt (Known k val) s.first (cells_of s step) →
      (i : ℕ) → i < count s → IsResult val (list_after s.ty step xs i) (end_of s step i).holder
  step-value Barrier root_in asks known i l = absurd asks
  step-value (Broadcast root a b) root_in asks known i l = Holds _ (broadcast-value k s root root_in val pos asks.1 known i l ∙ asks.0)
  step-value (Reduce root o a b) root_in asks known i l =
      rooted (i == root) (up_number s 0) (up_number s (unturned s root i)) (reduced o s.ty (length xs) xs)
      (reduce-value k val (at xs) s root o root_in whole asks known ∙ fold_all o (len_at 0 (asks 0 pos)))
  step-value (Allreduce o a b) root_in asks known i l = Holds _ (allreduce-value k s o val (at xs) pos whole asks known i l
      ∙ fold_all o (len_at 0 (asks 0 pos)))
  step-value (Gather root a b) root_in asks known i l = rooted (i == root) (further s 0) (entry s i) (joined_lists xs)
      (gather-value k s root val (at xs) asks known ∙ joined)
  step-value (Allgather a b) root_in asks known i l = Holds _ (allgather-value k s val (at xs) pos asks known i l ∙ joined)
  step-value (Alltoall a b) root_in asks known i l =
      Holds _ (alltoall-value k s (s.length / count s) val (at xs) refl asks.1.all asks.0 known i l
      ∙ ap₂ (λ n m. flat_map (λ q. part (i * (n / m)) (n / m) (at xs q)) (from_to 0 m)) (sym (len_at i (asks.0 i l))) (sym many))
  step-value (Scan o a b) root_in asks known i l = Holds _ (scan-value k s o val (at xs) small whole asks known i l
      ∙ fold_is o (suc i) (len_at 0 (asks 0 pos)))
  step-value (Scatter root a b) root_in asks known i l = Holds _ (scatter-value k s root root_in val asks.1.all asks.0.1 known i l
      ∙ ap (part (i * block_length s) (block_length s)) asks.0.0 ∙ block_is i (at xs root) (len_at root asks.0))
  step-value (Reducescatter o a b) root_in asks known i l =
      Holds _ (reducescatter-value k s o val (at xs) pos whole asks.1.all asks.0 known i l
      ∙ ap (part (i * block_length s) (block_length s)) (fold_all o (len_at 0 (asks.0 0 pos)))
      ∙ block_is i (reduced o s.ty (length xs) xs) (fold_long o (len_at 0 (asks.0 0 pos))))
  step-value (Exscan o a b) root_in asks known zero l = IsEmpty refl
  step-value (Exscan o a b) root_in asks known (suc j) l = Holds _ (exscan-value k s o val (at xs) small whole asks known j l
      ∙ fold_is o (suc j) (len_at 0 (asks 0 pos)))
  step-value (Gatherv root a b) root_in asks known i l =
      rooted (i == root) (further s 0) (entry s i) (joined_lists xs)
      (gatherv-value k s root asks.0.test asks.0.is val (at xs) asks.1 asks.2 known ∙ joined)

-- ---- within a step: each place's entry waits for what the place did before, and links lead from it to the place's exit
-- each link that a node names comes to it from its source
abbrev pub Linked : Plan → ℕ → NewCell → Type 0
Linked q c n = (i : Incoming) → In i n.into → Comes q i.source c

module _ (q : Plan) (s : StepContext) (pos : 0 < count s) where
  -- ---- the entry waits for the exit before it
  full_waits : (i : ℕ) → Linked q (entry s i) (full_entry s i) → Comes q (exit_at s i) (entry s i)
  full_waits i h = h (bump (exit_at s i)) (inl refl)

  bare_waits : (i : ℕ) → Linked q (entry s i) (bare_entry s i) → Comes q (exit_at s i) (entry s i)
  bare_waits i h = h (bump (exit_at s i)) (inl refl)

  either_waits : (b : Bool) (i : ℕ) → Linked q (entry s i) (cond b (full_entry s i) (bare_entry s i)) → Comes q (exit_at s i) (entry s i)
  either_waits true i h = full_waits i h
  either_waits false i h = bare_waits i h

  pub waits : (step : CollStep) → EachAt (Linked q) s.first (cells_of s step) → (i : ℕ) → i < count s → Comes q (exit_at s i) (entry s i)
  waits Barrier h i l = bare_waits i (first_at (Linked q) s pos (bare_entry s) _ h i l)
  waits (Broadcast root a b) h i l = either_waits (i == root) i (first_at (Linked q) s pos (first_cell s root) _ h i l)
  waits (Reduce root o a b) h i l = full_waits i (first_at (Linked q) s pos (full_entry s) _ h i l)
  waits (Allreduce o a b) h i l = full_waits i (first_at (Linked q) s pos (full_entry s) _ h i l)
  waits (Gather root a b) h i l = full_waits i (first_at (Linked q) s pos (full_entry s) _ h i l)
  waits (Allgather a b) h i l = full_waits i (first_at (Linked q) s pos (full_entry s) _ h i l)
  waits (Alltoall a b) h i l = full_waits i (first_at (Linked q) s pos (full_entry s) _ h i l)
  waits (Scan o a b) h i l = full_waits i (first_at (Linked q) s pos (full_entry s) _ h i l)
  waits (Scatter root a b) h i l = either_waits (i == root) i (first_at (Linked q) s pos (first_cell s root) _ h i l)
  waits (Reducescatter o a b) h i l = full_waits i (first_at (Linked q) s pos (full_entry s) _ h i l)
  waits (Exscan o a b) h i l = full_waits i (first_at (Linked q) s pos (full_entry s) _ h i l)
  waits (Gatherv root a b) h i l = either_waits (is_in i s.holding) i (first_at (Linked q) s pos (held_entry s) _ h i l)

-- L: a way along links, which may stay where it is, and may go on by one link
module _ (q : Plan) (L : ℕ → ℕ → Type 0) (stay : (a : ℕ) → L a a) (onward : (a b c : ℕ) → Comes q b c → L a b → L a c)
    (s : StepContext) (pos : 0 < count s) where
  abbrev P : ℕ → NewCell → Type 0
  P = Linked q

  -- ---- from the entry to the exit
  step_on : (a c : ℕ) (i : Incoming) → Comes q i.source c → L a i.source → L a c
  step_on a c i w path = onward a i.source c w path

  -- the cells of a tree stand behind the entries, and those behind the tree
  tree : (o : AtomicOp) (root : ℕ) (ns : List NewCell)
      → EachAt P s.first (map (full_entry s) (places s) ++ (up s root o ++ ns))
      → EachAt P (s.first + count s) (up s root o)
  tree o root ns h =
      each_front P (s.first + count s) (up s root o) ns (behind P s s.first (full_entry s) (up s root o ++ ns) h)

  to_tree : (o : AtomicOp) (root v i : ℕ) → v < count s → turned s root v ≡ i → EachAt P (s.first + count s) (up s root o)
      → L (entry s i) (up_number s v)
  to_tree o root v i l e h =
      step_on (entry s i) (up_number s v) (atomic s.length (entry s (turned s root v)))
      ((up-at (any P s pos) s root o P h v l) (atomic s.length (entry s (turned s root v))) (inl refl))
      (subst (λ x. L (entry s i) (entry s x)) (sym e) (stay (entry s i)))

  turned_none : (v : ℕ) → v < count s → turned s 0 v ≡ v
  turned_none v l = mod-eq_of_lt {n = 0 + v} (let e : 0 + v < count s = omega arith in e) ∙ (let e : 0 + v ≡ v = omega arith in e)

  turned_top : (root : ℕ) → root < count s → turned s root 0 ≡ root
  turned_top root r =
      mod-eq_of_lt {n = root + 0} (let w : root + 0 < count s = omega arith in w) ∙ (let w : root + 0 ≡ root = omega arith in w)

  to_round : EachAt P s.first (barrier_cells s) → (j i : ℕ) → j ≤ rounds (count s) → i < count s
      → L (entry s i) (in_row s j i)
  to_round h zero i t l = subst (L (entry s i)) (let e : entry s i ≡ in_row s 0 i = omega arith in e) (stay (entry s i))
  to_round h (suc j) i t l =
      step_on (entry s i) (in_row s (suc j) i) (bump (in_row s j i))
      ((round-at (any P s pos) s P (behind P s s.first (bare_entry s) (round_rows s) h) j i t l) (bump (in_row s j i)) (inl refl))
      (to_round h j i (omega arith) l)

  to_scan : (o : AtomicOp) → EachAt P (s.first + count s) (scan_rows s o) → (j i : ℕ) → j ≤ rounds (count s) → i < count s
      → L (entry s i) (scan_number s j i)
  to_scan o h zero i t l =
      step_on (entry s i) (scan_number s 0 i) (atomic s.length (entry s i))
      ((scan-at (any P s pos) s o P h 0 i t l) (atomic s.length (entry s i)) (inl refl)) (stay (entry s i))
  to_scan o h (suc j) i t l =
      step_on (entry s i) (scan_number s (suc j) i) (atomic s.length (scan_number s j i))
      ((scan-at (any P s pos) s o P h (suc j) i t l) (atomic s.length (scan_number s j i)) (inl refl)) (to_scan o h j i (omega arith) l)

  scans : (o : AtomicOp) (ns : List NewCell) → EachAt P s.first (map (full_entry s) (places s) ++ (scan_rows s o ++ ns))
      → EachAt P (s.first + count s) (scan_rows s o)
  scans o ns h =
      each_front P (s.first + count s) (scan_rows s o) ns (behind P s s.first (full_entry s) (scan_rows s o ++ ns) h)

  place_in : (f : ℕ → Incoming) (i : ℕ) → i < count s → In (f i) (map f (places s))
  place_in f i l = In-map f i (places s) (In-from_to 0 (count s) i (omega arith) (omega (arith, l)))

  pub way_through : (step : CollStep) → IsRoot step (count s) → EachAt P s.first (cells_of s step) → (i : ℕ) → i < count s
      → L (entry s i) (end_of s step i).exit
  way_through Barrier r h i l = to_round h (rounds (count s)) i (le_refl (rounds (count s))) l
  way_through (Broadcast root a b) r h i l =
      down (unturned s root i) (turned-back s root r i l)
      (second P s pos (first_cell s root) (copy_cell s root) h (unturned s root i) (unturned-lt s root i pos))
    where
      down : (v : ℕ) → turned s root v ≡ i → P (further s v) (copy_cell s root v) → L (entry s i) (further s v)
      down zero e k =
          step_on (entry s i) (further s 0) (put_whole s.length (entry s root)) (k (put_whole s.length (entry s root)) (inl refl))
          (subst (λ x. L (entry s i) (entry s x)) (sym e ∙ turned_top root r) (stay (entry s i)))
      down (suc v) e k =
          step_on (entry s i) (further s (suc v)) (bump (entry s (turned s root (suc v))))
          (k (bump (entry s (turned s root (suc v)))) (inl refl)) (subst (λ x. L (entry s i) (entry s x)) (sym e) (stay (entry s i)))
  way_through (Reduce root o a b) r h i l = at_root (i == root) refl
    where
      at_root : (t : Bool) → (i == root) ≡ t
          → L (entry s i) (cond t (giving (up_number s 0)) (passing (up_number s (unturned s root i)))).exit
      at_root true e =
          to_tree o root 0 i pos (turned_top root r ∙ sym (eqb-true _ _ e)) (behind P s s.first (full_entry s) (up s root o) h)
      at_root false e =
          to_tree o root (unturned s root i) i (unturned-lt s root i pos) (turned-back s root r i l)
          (behind P s s.first (full_entry s) (up s root o) h)
  way_through (Allreduce o a b) r h i l = down i l (third P s pos o 0 (result_cell s) h i l)
    where
      down : (v : ℕ) → v < count s → P (further s (count s + v)) (result_cell s v) → L (entry s v) (further s (count s + v))
      down zero k w =
          step_on (entry s 0) (further s (count s + 0)) (put_whole s.length (up_number s 0))
          (w (put_whole s.length (up_number s 0)) (inl refl))
          (to_tree o 0 0 0 k (turned_none 0 k) (tree o 0 (map (result_cell s) (places s)) h))
      down (suc v) k w =
          step_on (entry s (suc v)) (further s (count s + suc v)) (bump (up_number s (suc v)))
          (w (bump (up_number s (suc v))) (inl refl))
          (to_tree o 0 (suc v) (suc v) k (turned_none (suc v) k) (tree o 0 (map (result_cell s) (places s)) h))
  way_through (Gather root a b) r h i l = at_root (i == root) refl
    where
      at_root : (t : Bool) → (i == root) ≡ t → L (entry s i) (cond t (giving (further s 0)) (passing (entry s i))).exit
      at_root true e =
          step_on (entry s i) (further s 0) (gather_link s i)
          ((alone P s pos (full_entry s) (gathered s root) h) (gather_link s i) (place_in (gather_link s) i l)) (stay (entry s i))
      at_root false e = stay (entry s i)
  way_through (Allgather a b) r h i l =
      step_on (entry s i) (further s (count s * count s + i)) (collect_link s i 0)
      ((moved P s pos (s.first + count s + count s * count s + i) (further s (count s * count s + i)) (collected s i) (omega arith)
      (of_places P s (s.first + count s + count s * count s) (collected s) (end_part (any P s pos) s P h) i l))
      (collect_link s i 0) (place_in (collect_link s i) 0 pos))
      (step_on (entry s i) (ring_cell s 0 i) (put_whole s.length (entry s i)) (ring (put_whole s.length (entry s i)) (inl refl))
      (stay (entry s i)))
    where
      ring : P (ring_cell s 0 i) (ring_node s 0 i)
      ring =
          moved P s pos (s.first + count s + (0 * count s + i)) (ring_cell s 0 i) (ring_node s 0 i) (omega arith)
          (each_of_rows P (s.first + count s) (ring_node s) (count s) 0 (count s)
          (each_front P (s.first + count s) (rows s (ring_node s) 0 (count s)) (map (collected s) (places s))
          (behind P s s.first (full_entry s) (rows s (ring_node s) 0 (count s) ++ map (collected s) (places s)) h)) 0 i pos l)
  way_through (Alltoall a b) r h i l =
      step_on (entry s i) (further s i) (exchange_link s i i)
      ((second P s pos (full_entry s) (exchanged s) h i l) (exchange_link s i i) (place_in (exchange_link s i) i l)) (stay (entry s i))
  way_through (Scan o a b) r h i l =
      to_scan o (behind P s s.first (full_entry s) (scan_rows s o) h) (rounds (count s)) i (le_refl (rounds (count s))) l
  way_through (Scatter root a b) r h i l = at_root (i == root) refl (second P s pos (first_cell s root) (scattered s root) h i l)
    where
      at_root : (t : Bool) → (i == root) ≡ t → P (further s i) (scattered s root i) → L (entry s i) (further s i)
      at_root true e k =
          step_on (entry s i) (further s i) (scatter_put s root i) (k (scatter_put s root i) (rw e (inl refl)))
          (subst (λ x. L (entry s i) (entry s x)) (eqb-true _ _ e) (stay (entry s i)))
      at_root false e k = step_on (entry s i) (further s i) (bump (entry s i)) (k (bump (entry s i)) (rw e (inl refl))) (stay (entry s i))
  way_through (Reducescatter o a b) r h i l = down i l (third P s pos o 0 (result_block s) h i l)
    where
      down : (v : ℕ) → v < count s → P (further s (count s + v)) (result_block s v) → L (entry s v) (further s (count s + v))
      down zero k w =
          step_on (entry s 0) (further s (count s + 0)) (result_put s 0) (w (result_put s 0) (inl refl))
          (to_tree o 0 0 0 k (turned_none 0 k) (tree o 0 (map (result_block s) (places s)) h))
      down (suc v) k w =
          step_on (entry s (suc v)) (further s (count s + suc v)) (bump (up_number s (suc v)))
          (w (bump (up_number s (suc v))) (inl refl))
          (to_tree o 0 (suc v) (suc v) k (turned_none (suc v) k) (tree o 0 (map (result_block s) (places s)) h))
  way_through (Exscan o a b) r h zero l =
      to_scan o (scans o (map (shifted s) (from_to 0 (count s - 1))) h) (rounds (count s)) 0 (le_refl (rounds (count s))) l
  way_through (Exscan o a b) r h (suc j) l =
      step_on (entry s (suc j)) (further s (suc (rounds (count s)) * count s + j)) (bump (scan_number s (rounds (count s)) (suc j)))
      ((shifted_at P s pos o h j l) (bump (scan_number s (rounds (count s)) (suc j))) (inl refl))
      (to_scan o (scans o (map (shifted s) (from_to 0 (count s - 1))) h) (rounds (count s)) (suc j) (le_refl (rounds (count s))) l)
  way_through (Gatherv root a b) r h i l = at_root (i == root) refl
    where
      at_root : (t : Bool) → (i == root) ≡ t → L (entry s i) (cond t (giving (further s 0)) (passing (entry s i))).exit
      at_root true e =
          step_on (entry s i) (further s 0) (bump (entry s root))
          ((alone P s pos (held_entry s) (concatenated s root) h) (bump (entry s root)) (inl refl))
          (subst (λ x. L (entry s i) (entry s x)) (eqb-true _ _ e) (stay (entry s i)))
      at_root false e = stay (entry s i)
