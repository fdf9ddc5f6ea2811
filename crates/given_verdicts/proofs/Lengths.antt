-- The lengths of inputs.
use Rattle.std.proofs.Common.{◌≡◌, ℕ, ◌+◌, ◌<◌, List, [], ◌∷◌, ◌++◌, length, map, sym, ap₂, ◌∙◌, subst}
use Rattle.number_lists.specs.Numbers.{from_to}
use Rattle.coll_shape.specs.Meaning.{AreInputs, Lists}
use Rattle.coll_shape.specs.Outline.{Outline, buffer_at, list_bytes}
use Rattle.plan_core.proofs.Drawing.{length-row, row-more}
use Rattle.plan_tables.proofs.Passes.{get-row}
use Rattle.plan_judge.specs.values.Given.{AreLists}
use Rattle.given_verdicts.specs.Answers.{lengths_of}

-- a description's inputs are lists of these lengths
pub input_lists : (o : Outline) (inputs : Lists) (ranks : ℕ) → ranks ≡ o.ranks → AreInputs o inputs → AreLists ranks (lengths_of o) inputs
input_lists o inputs ranks e given = record {
  many = given.many ∙ sym (length-row (λ b. list_bytes (buffer_at o b)) 0 o.inputs);
  rows = λ b h. given.ranks b (below b h) ∙ sym e;
  long = λ b r h k.
      given.long b r (below b h) (subst (λ n. r < n) e k)
      ∙ sym (get-row (λ i. list_bytes (buffer_at o i)) o.inputs b 0 (below b h));
}
  where
    below : (b : ℕ) → b < length inputs → b < o.inputs
    below b h = subst (λ n. b < n) given.many h

-- one input more
pub one_more : (o : Outline) (lengths : List ℕ) (b n : ℕ) → lengths ≡ map (λ i. list_bytes (buffer_at o i)) (from_to 0 b)
    → n ≡ list_bytes (buffer_at o b) → lengths ++ n ∷ [] ≡ map (λ i. list_bytes (buffer_at o i)) (from_to 0 (b + 1))
one_more o lengths b n so_far e =
    ap₂ (λ (v : List ℕ) (k : ℕ). v ++ k ∷ []) so_far e ∙ sym (row-more (λ i. list_bytes (buffer_at o i)) b)
