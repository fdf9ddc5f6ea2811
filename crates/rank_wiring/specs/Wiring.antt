-- How the ends in the slots belong to the wires: those of each rank stand in the order of the wires.
use Rattle.std.specs.Prelude.{ℕ, suc, Bool, ◌==◌, ◌≡◌, List, [], ◌∷◌, if◌then◌else◌, map}
use Rattle.pair_wires.specs.declared.bounds.Bounds.{Bounds}
use Rattle.pair_wires.specs.Wires.{WireState}
use Rattle.rank_slots.specs.Lists.{Each}
use Rattle.rank_slots.specs.Joints.{Fits, Joint, joint}

abbrev pub from_rank : ℕ → Bounds → Bool
from_rank s b = b.source == s

abbrev pub to_rank : ℕ → Bounds → Bool
to_rank d b = b.target == d

-- the places, counted from n, of those of which p holds
abbrev pub places_of : (Bounds → Bool) → ℕ → List Bounds → List ℕ
places_of p n [] = []
places_of p n (b ∷ bs) = if p b then n ∷ places_of p (suc n) bs else places_of p (suc n) bs

abbrev pub bounds_of : List WireState → List Bounds
bounds_of wires = map (λ (w : WireState). w.bounds) wires

-- the ends of wires, one of each in order, which are numbered from n on
abbrev pub joints_from : ℕ → List WireState → List Joint
joints_from n [] = []
joints_from n (w ∷ ws) = joint n w ∷ joints_from (suc n) ws

-- these are ends of the wires of which p holds, one of each, in order
pub record IsRow (wires : List WireState) (p : Bounds → Bool) (js : List Joint) : Type 0 where
  pub numbers : map (λ (j : Joint). j.number) js ≡ places_of p 0 (bounds_of wires)
  pub fits : Each (Fits wires) js

-- the ends of rank r: an out end of each wire from it, an in end of each wire to it
pub record IsLaid (wires : List WireState) (r : ℕ) (outs ins : List Joint) : Type 0 where
  pub outs_are : IsRow wires (from_rank r) outs
  pub ins_are : IsRow wires (to_rank r) ins
