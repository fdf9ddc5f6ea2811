-- What keeps the bounds of a wire.
use Rattle.std.proofs.Common.{◌≡◌, ◌≤◌, ◌∙◌, ap, Option, Some, None, List, [], ◌∷◌, ◌++◌, length, arith, append-nil, length-append}
use Rattle.std.specs.Prelude.{All}
use Rattle.std.proofs.lemmas.List.Sums.{sum_by-append}
use Rattle.std.proofs.lemmas.List.Elements.{All-nil, All-cons, All-head, All-tail}
use Rattle.ptl_types.specs.Messages.{Sent}
use Rattle.pair_wires.specs.declared.bounds.Bounds.{Bounds}
use Rattle.pair_wires.specs.Bounds.{Travels, KeepsBounds}
use Rattle.pair_wires.specs.Ends.{followed_by}

All-left : {X : Type 0} (P : X → Type 0) (xs ys : List X) → All P (xs ++ ys) → All P xs
All-left P [] ys h = All-nil P
All-left P (x ∷ xs) ys h = All-cons P x xs (All-head P x (xs ++ ys) h) (All-left P xs ys (All-tail P x (xs ++ ys) h))

-- a beginning of a list that keeps the bounds keeps them
pub KeepsBounds-left : (b : Bounds) (xs ys : List Sent) → KeepsBounds b (xs ++ ys) → KeepsBounds b xs
KeepsBounds-left b xs ys h = record {
  travel = All-left (Travels b) xs ys h.travel;
  at_most = omega (arith, length-append xs ys, h.at_most);
  short = omega (arith, sum_by-append (λ (m : Sent). length m.bytes) xs ys, h.short);
}

pub KeepsBounds-nil : (b : Bounds) → KeepsBounds b []
KeepsBounds-nil b = record { travel = All-nil (Travels b); at_most = omega arith; short = omega arith }

-- what was pushed keeps the bounds where what was sent does
pub pushed-keeps : (b : Bounds) (ms : List Sent) (waiting : Option Sent) → KeepsBounds b (followed_by ms waiting) → KeepsBounds b ms
pushed-keeps b ms None h = h
pushed-keeps b ms (Some m) h = KeepsBounds-left b ms (m ∷ []) h

-- what waits makes the list no shorter
pub length-followed_by : (ms : List Sent) (waiting : Option Sent) → length ms ≤ length (followed_by ms waiting)
length-followed_by ms None = omega arith
length-followed_by ms (Some m) = omega (arith, length-append ms (m ∷ []))

-- where as many were moved as were held, nothing is left
pub all-moved : (received held moved left sent : List Sent) → sent ≡ received ++ held → sent ≡ (received ++ moved) ++ left →
    length held ≤ length moved → sent ≡ received ++ moved
all-moved received held moved [] sent whole parts enough = parts ∙ append-nil (received ++ moved)
all-moved received held moved (x ∷ left) sent whole parts enough =
    absurd (omega (
      arith,
      ap (λ (l : List Sent). length l) whole,
      ap (λ (l : List Sent). length l) parts,
      length-append received held,
      length-append (received ++ moved) (x ∷ left),
      length-append received moved,
      enough,
    ))
