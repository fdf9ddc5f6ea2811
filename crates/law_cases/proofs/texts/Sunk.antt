-- What sinks took and sources gave, and what becomes of a text that is handed to a sink: whole, begun, or not at all. And values of lines.
use Rattle.std.proofs.Common.{ℕ, ◌≡◌, ◌-◌, ◌^◌, List, [], ◌∷◌, ◌++◌, Option, Some, None, Ok, Err, codes, drop, get_or, length, refl}
use Rattle.std.proofs.Common.{arith, ap, sym, ◌∙◌, inl, inr, lit<, lit≤}
use Rattle.ptl_types.specs.declared.elements.ElemType.TheVariants.{I8, U16, U8}
use Rattle.coll_text.specs.Values.{data_line, value_of}
use Rattle.coll_text.specs.declared.values.Flaw.TheVariants.{Malformed, NoValue}
use Rattle.port_io.specs.Counts.{Rose}
use Rattle.port_io.specs.Ends.{Appends, GivesFront, IsAtEnd, Outflow}
use Rattle.run_text.specs.Putting.{Ends, FailsWithin, Puts, Takes}

-- a sink that took these bytes, with so many faults, finished so often
abbrev sink : List ℕ → ℕ → ℕ → Outflow
sink bytes faults finishes = record { taken = Some bytes; faults = faults; finishes = finishes }

-- ---- whole and finished
whole : Ends (sink (1 ∷ []) 0 4) (sink (1 ∷ 2 ∷ 3 ∷ []) 0 5) (2 ∷ 3 ∷ [])
whole = record { appended = refl; faults = lit≤ tt; finishes = refl }

unfinished : Ends (sink (1 ∷ []) 0 4) (sink (1 ∷ 2 ∷ 3 ∷ []) 0 4) (2 ∷ 3 ∷ []) → ⊥
unfinished h = let q : 4 ≡ 5 = h.finishes in absurd (omega (arith, q))

one_is_lost : Ends (sink (1 ∷ []) 0 4) (sink (1 ∷ 3 ∷ []) 0 5) (2 ∷ 3 ∷ []) → ⊥
one_is_lost h = let q : 2 ≡ 3 = ap (λ (bytes : List ℕ). length bytes) h.appended in absurd (omega (arith, q))

before_the_others : Ends (sink (1 ∷ []) 0 4) (sink (2 ∷ 3 ∷ 1 ∷ []) 0 5) (2 ∷ 3 ∷ []) → ⊥
before_the_others h = let q : 2 ≡ 1 = ap (λ (bytes : List ℕ). get_or bytes 0 0) h.appended in absurd (omega (arith, q))

faults_forgotten : Ends (sink [] 1 4) (sink [] 0 5) [] → ⊥
faults_forgotten h = let q = h.faults in absurd (omega (arith, q))

-- ---- begun: all but the rest was taken
but_the_last : Takes (sink (1 ∷ []) 0 4) (sink (1 ∷ 2 ∷ []) 0 4) (2 ∷ 3 ∷ []) (3 ∷ [])
but_the_last = record { out = 2 ∷ []; whole = refl; appended = refl; faults = lit≤ tt; finishes = refl }

not_finished_by_it : Takes (sink (1 ∷ []) 0 4) (sink (1 ∷ 2 ∷ []) 0 5) (2 ∷ 3 ∷ []) (3 ∷ []) → ⊥
not_finished_by_it h = let q : 5 ≡ 4 = h.finishes in absurd (omega (arith, q))

another_byte : Takes (sink (1 ∷ []) 0 4) (sink (1 ∷ 9 ∷ []) 0 4) (2 ∷ 3 ∷ []) (3 ∷ []) → ⊥
another_byte h =
    let out : 9 ∷ [] ≡ h.out = ap (λ (bytes : List ℕ). drop 1 bytes) h.appended in
    let q : 2 ≡ 9 = ap (λ (bytes : List ℕ). get_or bytes 0 0) (h.whole ∙ ap (λ o. o ++ 3 ∷ []) (sym out)) in absurd (omega (arith, q))

held_back : Puts (sink [] 0 4) (sink (7 ∷ 8 ∷ []) 0 4) (7 ∷ []) (9 ∷ []) (8 ∷ 9 ∷ []) (Ok tt)
held_back = record { out = 7 ∷ 8 ∷ []; whole = refl; appended = refl; faults = lit≤ tt; finishes = refl }

-- ---- failed: a beginning stands, and the faults rose
a_beginning : FailsWithin (sink [] 0 4) (sink (2 ∷ []) 1 4) (2 ∷ 3 ∷ [])
a_beginning = record {
  rest = 3 ∷ [];
  begun = record { out = 2 ∷ []; whole = refl; appended = refl; faults = lit≤ tt; finishes = refl };
  rose = inl (lit< tt);
}

without_a_fault : FailsWithin (sink [] 0 4) (sink (2 ∷ []) 0 4) (2 ∷ 3 ∷ []) → ⊥
without_a_fault h = elim h.rose [ inl q ↦ absurd (omega (arith, q)) | inr q ↦ absurd (omega (arith, q)) ]

-- ---- counts of faults stop at the end of their type
at_the_end : Rose (2 ^ 64 - 1) (2 ^ 64 - 1)
at_the_end = inr refl

not_risen : Rose 1 1 → ⊥
not_risen h = elim h [ inl q ↦ absurd (omega (arith, q)) | inr q ↦ absurd (omega (arith, q)) ]

-- ---- sinks and sources that don't tell, and what a source gives
no_longer_told : Appends None None (1 ∷ []) × Appends (Some (1 ∷ [])) None (2 ∷ []) × GivesFront None None (1 ∷ []) × IsAtEnd None
no_longer_told = (refl, tt, refl, tt)

told_again : Appends None (Some (1 ∷ [])) (1 ∷ []) → ⊥
told_again h = let q : ◌≡◌ {A = Option (List ℕ)} (Some (1 ∷ [])) None = h in cc

from_the_front : GivesFront (Some (1 ∷ 2 ∷ 3 ∷ [])) (Some (3 ∷ [])) (1 ∷ 2 ∷ [])
from_the_front = refl

from_the_back : GivesFront (Some (1 ∷ 2 ∷ 3 ∷ [])) (Some (1 ∷ [])) (2 ∷ 3 ∷ []) → ⊥
from_the_back h = let q : 1 ≡ 2 = ap (λ (bytes : List ℕ). get_or bytes 0 0) h in absurd (omega (arith, q))

goes_on_to_tell : GivesFront (Some (1 ∷ [])) None (1 ∷ []) → ⊥
goes_on_to_tell h = h

some_is_left : IsAtEnd (Some (1 ∷ [])) → ⊥
some_is_left h = let q : 1 ≡ 0 = ap (λ (bytes : List ℕ). length bytes) h in absurd (omega (arith, q))

-- ---- values of a line, as bit patterns and as bytes
unsigned : (value_of U8 (codes "255") ≡ Some 255) × (value_of U8 (codes "256") ≡ None) × (value_of U8 (codes "-1") ≡ None)
    × (value_of U8 (codes "01") ≡ None)
unfolding value_of
unsigned = (refl, refl, refl, refl)

signed : (value_of I8 (codes "127") ≡ Some 127) × (value_of I8 (codes "128") ≡ None) × (value_of I8 (codes "-128") ≡ Some 128)
    × (value_of I8 (codes "-129") ≡ None) × (value_of I8 (codes "-0") ≡ None) × (value_of I8 (codes "-1") ≡ Some 255)
unfolding value_of
signed = (refl, refl, refl, refl, refl, refl)

a_line : (data_line U16 2 (codes "1" ∷ codes "513" ∷ []) ≡ Ok (1 ∷ 0 ∷ 1 ∷ 2 ∷ []))
    × (data_line U16 1 (codes "1" ∷ codes "513" ∷ []) ≡ Err Malformed)
    × (data_line U16 2 (codes "1" ∷ [] ∷ []) ≡ Err Malformed) × (data_line U16 2 (codes "1" ∷ codes "x" ∷ []) ≡ Err NoValue)
unfolding data_line value_of
a_line = (refl, refl, refl, refl)
