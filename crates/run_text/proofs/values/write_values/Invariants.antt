use Rattle.std.proofs.Common.{ℕ, ◌≡◌, ◌≤◌, ◌*◌, ◌++◌, drop, length}
use Rattle.ptl_types.specs.Operations.{bytes_of}
use Rattle.run_text.proofs.Spaced.{spaced}
use Rattle.run_text.proofs.values.write_values.Given as goal

abbrev pub invariant-loop-rest : goal.invariant-loop-rest
invariant-loop-rest l = record {
  left : (m : ℕ) × (length l.rest ≡ m * bytes_of l.ty) × (m * 22 ≤ l.at);
  inside : l.at ≤ length l.block;
  written : spaced l.ty l.bytes ≡ spaced l.ty l.rest ++ drop l.at l.block;
  is_size : l.size ≡ bytes_of l.ty;
}

abbrev pub decreases-loop-rest : goal.decreases-loop-rest
decreases-loop-rest l = length l.rest
