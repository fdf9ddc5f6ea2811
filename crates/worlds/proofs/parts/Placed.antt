-- The places of lanes.
use Rattle.std.proofs.Common.{ℕ, zero, suc, Bool, true, false, ◌&&◌, ◌+◌, ◌*◌, ◌/◌, ◌%◌, ◌<◌, ◌≡◌, ◌==◌, ◌∙◌, refl, sym, ap, ap₂, inl, inr}
use Rattle.std.proofs.Common.{arith, if◌then◌else◌, eq-eqb, eqb-true}
use Rattle.std.proofs.lemmas.Bool.{cases_Bool, and_parts}
use Rattle.std.proofs.lemmas.Nat.{div-add-mod', div_below, div-mul-add, mod-mul-add, mul-add-lt}
use Rattle.ptl_types.specs.declared.headers.Lane.{Lane}
use Rattle.ptl_types.specs.declared.headers.Lane.TheVariants.{Request, Answer}
use Rattle.cuts.specs.histories.History.{same_lane}
use Rattle.cuts.proofs.rest.Longer.{same_lane-true}
use Rattle.cuts.specs.windows.Places.{destination_at, kind_at, lane_place, source_at}
use Rattle.worlds.specs.parts.Marks.{lane_back}

pair_apart : (n s d t e : ℕ) → d < n → e < n → s * n + d ≡ t * n + e → (s ≡ t) × (d ≡ e)
pair_apart n s d t e h k q = (
  sym (div-mul-add s n d h) ∙ ap (λ i. i / n) q ∙ div-mul-add t n e k,
  sym (mod-mul-add s n d h) ∙ ap (λ i. i % n) q ∙ mod-mul-add t n e k,
)

-- one lane
pub record OneLane (s d : ℕ) (lane : Lane) (t e : ℕ) (way : Lane) : Type 0 where
  pub source : s ≡ t
  pub destination : d ≡ e
  pub kind : lane ≡ way

pub lane_apart : (n s d : ℕ) (lane : Lane) (t e : ℕ) (way : Lane) → d < n → e < n → lane_place n s d lane ≡ lane_place n t e way →
    OneLane s d lane t e way
lane_apart n s d Request t e Request h k q = let a = pair_apart n s d t e h k (omega arith) in
    record { source = a.0; destination = a.1; kind = refl }
lane_apart n s d Answer t e Answer h k q = let a = pair_apart n s d t e h k (omega arith) in
    record { source = a.0; destination = a.1; kind = refl }
lane_apart n s d Request t e Answer h k q = absurd (omega arith)
lane_apart n s d Answer t e Request h k q = absurd (omega arith)

pub lane_in : (n s d : ℕ) (lane : Lane) → s < n → d < n → lane_place n s d lane < 2 * (n * n)
lane_in n s d Request h k = let a : s * n + d < n * n = mul-add-lt s n d n h k in omega arith
lane_in n s d Answer h k = let a : s * n + d < n * n = mul-add-lt s n d n h k in omega arith

pub lanes_apart : Answer ≡ Request → ⊥
lanes_apart e = cc

-- the lane back from the lane back
pub back_back : (l : Lane) → lane_back (lane_back l) ≡ l
back_back Request = refl
back_back Answer = refl

-- whether two are one lane
abbrev pub is_lane_of : ℕ → ℕ → Lane → ℕ → ℕ → Lane → Bool
is_lane_of s d lane q u l = (q == s) && ((u == d) && same_lane l lane)

same_is : (l m : Lane) → same_lane l m ≡ true → l ≡ m
same_is Request Request e = refl
same_is Answer Answer e = refl
same_is Request Answer e = cc
same_is Answer Request e = cc

both : {b : Bool} → b ≡ true → b ≡ false → ⊥
both e i = cc

pub one_lane : (s d : ℕ) (lane : Lane) (q u : ℕ) (l : Lane) → is_lane_of s d lane q u l ≡ true → OneLane q u l s d lane
one_lane s d lane q u l e =
    let a = and_parts (q == s) ((u == d) && same_lane l lane) e in
    let b = and_parts (u == d) (same_lane l lane) a.1 in
    record { source = eqb-true q s a.0; destination = eqb-true u d b.0; kind = same_is l lane b.1 }

pub is_one : (s d : ℕ) (lane : Lane) (q u : ℕ) (l : Lane) → OneLane q u l s d lane → is_lane_of s d lane q u l ≡ true
is_one s d lane q u l o =
    ap₂ (λ a b. a && b) (eq-eqb q s o.source) (ap₂ (λ a b. a && b) (eq-eqb u d o.destination) (ap (λ x. same_lane x lane) o.kind
    ∙ same_lane-true lane))

pub not_one : (s d : ℕ) (lane : Lane) (q u : ℕ) (l : Lane) → is_lane_of s d lane q u l ≡ false → OneLane q u l s d lane → ⊥
not_one s d lane q u l e o = both (is_one s d lane q u l o) e

-- the lane of a place has this place
pub place_told : (n i : ℕ) → lane_place n (source_at n i) (destination_at n i) (kind_at i) ≡ i
place_told n i = elim (cases_Bool (i % 2 == 0)) [
  | inl e ↦ ap (λ b. lane_place n (i / 2 / n) (i / 2 % n) (if b then Request else Answer)) e
      ∙ (let z = eqb-true (i % 2) 0 e in let p = div-add-mod' (i / 2) n in omega (arith, z, p))
  | inr e ↦ ap (λ b. lane_place n (i / 2 / n) (i / 2 % n) (if b then Request else Answer)) e
      ∙ (let z : (i % 2 ≡ 0) → ⊥ = λ q. both (eq-eqb (i % 2) 0 q) e in let p = div-add-mod' (i / 2) n in odd z p)
]
  where
    odd : ((i % 2 ≡ 0) → ⊥) → i / 2 / n * n + i / 2 % n ≡ i / 2 → 2 * (i / 2 / n * n + i / 2 % n) + 1 ≡ i
    odd z p = omega (arith, z, p)

-- and lies between two of the ranks
pub ranks_told : (n i : ℕ) → i < 2 * (n * n) → (source_at n i < n) × (destination_at n i < n)
ranks_told n i h = (div_below (i / 2) n n (some n i h) (omega arith), mod_below (i / 2) n (some n i h))
  where
    some : (n i : ℕ) → i < 2 * (n * n) → 0 < n
    some zero i h = absurd (omega arith)
    some (suc n) i h = omega arith

    mod_below : (a b : ℕ) → 0 < b → a % b < b
    mod_below a b h = omega arith
