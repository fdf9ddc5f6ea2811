-- What lies in the lanes of which one is changed.
use Rattle.std.proofs.Common.{ℕ, Bool, true, false, not, cond, ◌&&◌, ◌*◌, ◌<◌, ◌≤◌, ◌≡◌, ◌∙◌, List, [], ◌∷◌, ◌++◌, Option, Some, None}
use Rattle.std.proofs.Common.{length, filter, nat_lt, if◌then◌else◌, ◌==◌, refl, sym, ap, ap₂, inl, inr, arith, append-nil, eq-eqb}
use Rattle.std.proofs.Common.{eqb-true, lt-ltb}
use Rattle.std.proofs.Math.ListN.{set, length-set}
use Rattle.std.proofs.lemmas.Bool.{and_parts, cases_Bool, cases_lt}
use Rattle.std.proofs.lemmas.List.{get_or-set_same, get_or-set_other}
use Rattle.ptl_types.specs.Kinds.{is_answer, lane_of}
use Rattle.ptl_types.specs.Messages.{Sent}
use Rattle.ptl_types.specs.declared.headers.Lane.{Lane}
use Rattle.ptl_types.specs.declared.headers.Lane.TheVariants.{Request, Answer}
use Rattle.ptl_types.specs.declared.headers.MessageKind.{MessageKind}
use Rattle.pair_wires.specs.Lanes.{Plain, plain}
use Rattle.cuts.specs.histories.History.{and_then, is_for, is_lane}
use Rattle.cuts.specs.windows.Places.{lane_place}
use Rattle.worlds.specs.parts.Layout.{held_in, lane_at}
use Rattle.worlds.specs.parts.Marks.{out_with, sent_out}
use Rattle.worlds.proofs.parts.Placed.{OneLane, is_lane_of, lane_apart, lane_in, not_one, one_lane}
use Rattle.worlds.proofs.parts.Sets.{at_set}

test_not_lt : (a b : ℕ) → b ≤ a → nat_lt a b ≡ false
test_not_lt a b h = grind arith

and_false : (b : Bool) → (b && false) ≡ false
and_false true = refl
and_false false = refl

-- a lane of two of the ranks
pub held_here : (n : ℕ) (lanes : List Plain) (s d : ℕ) (lane : Lane) → s < n → d < n →
    held_in n lanes s d lane ≡ (lane_at lanes (lane_place n s d lane)).messages
held_here n lanes s d lane hs hd = ap₂ (λ a b. if a && b then (lane_at lanes (lane_place n s d lane)).messages else []) (lt-ltb s n hs)
    (lt-ltb d n hd)

-- of others there is none
held_past_source : (n : ℕ) (lanes : List Plain) (s d : ℕ) (lane : Lane) → n ≤ s → held_in n lanes s d lane ≡ []
held_past_source n lanes s d lane h = ap (λ a. if a && nat_lt d n then (lane_at lanes (lane_place n s d lane)).messages else [])
    (test_not_lt s n h)

held_past_goal : (n : ℕ) (lanes : List Plain) (s d : ℕ) (lane : Lane) → n ≤ d → held_in n lanes s d lane ≡ []
held_past_goal n lanes s d lane h =
    ap (λ b. if nat_lt s n && b then (lane_at lanes (lane_place n s d lane)).messages else []) (test_not_lt d n h)
    ∙ ap (λ b. if b then (lane_at lanes (lane_place n s d lane)).messages else []) (and_false (nat_lt s n))

-- lanes that are the same at a place hold the same
held_same : (n : ℕ) (lanes later : List Plain) (s d : ℕ) (lane : Lane) →
    (s < n → d < n → lane_at later (lane_place n s d lane) ≡ lane_at lanes (lane_place n s d lane)) →
    held_in n later s d lane ≡ held_in n lanes s d lane
held_same n lanes later s d lane same = elim (cases_lt s n) [
  | inr hs ↦ held_past_source n later s d lane hs ∙ sym (held_past_source n lanes s d lane hs)
  | inl hs ↦ elim (cases_lt d n) [
    | inr hd ↦ held_past_goal n later s d lane hd ∙ sym (held_past_goal n lanes s d lane hd)
    | inl hd ↦ held_here n later s d lane hs hd ∙ ap (λ (x : Plain). x.messages) (same hs hd) ∙ sym (held_here n lanes s d lane hs hd)
  ]
]

-- the place of a lane is inside
pub inside : (n : ℕ) (lanes : List Plain) → length lanes ≡ 2 * (n * n) → (a b : ℕ) (way : Lane) → a < n → b < n →
    lane_place n a b way < length lanes
inside n lanes size a b way ha hb = let i = lane_in n a b way ha hb in omega arith

-- one lane has other messages
module _ (n : ℕ) (lanes : List Plain) (size : length lanes ≡ 2 * (n * n)) (a b : ℕ) (way : Lane) (ha : a < n) (hb : b < n)
    (ms : List Sent) where
  abbrev pub set_lane : List Plain
  set_lane = set lanes (lane_place n a b way) (plain ms (lane_at lanes (lane_place n a b way)).capacity)

  in_table : lane_place n a b way < length lanes
  in_table = inside n lanes size a b way ha hb

  pub set_size : length set_lane ≡ 2 * (n * n)
  set_size = length-set lanes (lane_place n a b way) (plain ms (lane_at lanes (lane_place n a b way)).capacity) ∙ size

  -- the others are as they were
  pub set_other : (s d : ℕ) (lane : Lane) → d < n → (OneLane s d lane a b way → ⊥) → lane_at set_lane (lane_place n s d lane) ≡ lane_at
      lanes (lane_place n s d lane)
  set_other s d lane hd apart = get_or-set_other lanes (lane_place n a b way) (lane_place n s d lane)
      (plain ms (lane_at lanes (lane_place n a b way)).capacity) (plain [] 0) (λ q. apart (lane_apart n s d lane a b way hd hb q))

  pub set_here : (lane_at set_lane (lane_place n a b way)).messages ≡ ms
  set_here = ap (λ (x : Plain). x.messages) (get_or-set_same lanes (lane_place n a b way)
      (plain ms (lane_at lanes (lane_place n a b way)).capacity) (plain [] 0) in_table)

  -- each keeps its room
  pub set_capacity : (i : ℕ) → (lane_at set_lane i).capacity ≡ (lane_at lanes i).capacity
  set_capacity i = at_set (λ x. x.capacity ≡ (lane_at lanes i).capacity) lanes (lane_place n a b way) i
      (plain ms (lane_at lanes (lane_place n a b way)).capacity) (plain [] 0) in_table (λ e. ap (λ j. (lane_at lanes j).capacity) (sym e))
      (λ x. refl)

  pub held_set : (s d : ℕ) (lane : Lane) → held_in n set_lane s d lane
      ≡ (if is_lane_of a b way s d lane then ms else held_in n lanes s d lane)
  held_set s d lane = elim (cases_Bool (is_lane_of a b way s d lane)) [
    | inl e ↦
        let o = one_lane a b way s d lane e in
        ap₂ (λ x y. held_in n set_lane x y lane) o.source o.destination ∙ ap (held_in n set_lane a b) o.kind
        ∙ held_here n set_lane a b way ha hb ∙ set_here
        ∙ sym (ap (λ t. if t then ms else held_in n lanes s d lane) e)
    | inr e ↦
        held_same n lanes set_lane s d lane (λ hs hd. set_other s d lane hd (not_one a b way s d lane e))
        ∙ sym (ap (λ t. if t then ms else held_in n lanes s d lane) e)
  ]

-- ---- a message goes to the end of its lane
lane_known : (lane : Lane) (k : MessageKind) → is_lane lane k ≡ true → lane ≡ lane_of k
lane_known Request k e = at (is_answer k) e
  where
    at : (b : Bool) → not b ≡ true → Request ≡ (if b then Answer else Request)
    at true e = cc
    at false e = refl
lane_known Answer k e = sym (ap (λ b. if b then Answer else Request) e)

known_lane : (k : MessageKind) → is_lane (lane_of k) k ≡ true
known_lane k = at (is_answer k) refl
  where
    at : (b : Bool) → is_answer k ≡ b → is_lane (if b then Answer else Request) k ≡ true
    at true e = e
    at false e = ap not e

-- what rank r sends by it, lane by lane
sent_there : (r s d : ℕ) (lane : Lane) (m : Sent) → (if s == r then filter (is_for d lane) (m ∷ []) else [])
    ≡ (if is_lane_of r m.header.target (lane_of m.header.kind) s d lane then m ∷ [] else [])
sent_there r s d lane m = elim (cases_Bool (is_lane_of r m.header.target (lane_of m.header.kind) s d lane)) [
  | inl e ↦
      let o = one_lane r m.header.target (lane_of m.header.kind) s d lane e in
      ap (λ b. if b then filter (is_for d lane) (m ∷ []) else []) (eq-eqb s r o.source)
      ∙ ap (λ b. if b then m ∷ [] else []) (ap₂ (λ x y. x && y) (eq-eqb m.header.target d (sym o.destination))
      (ap (λ l. is_lane l m.header.kind) o.kind ∙ known_lane m.header.kind))
      ∙ sym (ap (λ b. if b then m ∷ [] else []) e)
  | inr e ↦ elsewhere e ∙ sym (ap (λ b. if b then m ∷ [] else []) e)
]
  where
    elsewhere : is_lane_of r m.header.target (lane_of m.header.kind) s d lane ≡ false →
        (if s == r then filter (is_for d lane) (m ∷ []) else []) ≡ []
    elsewhere e = elim (cases_Bool (s == r)) [
      | inr n ↦ ap (λ b. if b then filter (is_for d lane) (m ∷ []) else []) n
      | inl y ↦ elim (cases_Bool (is_for d lane m)) [
        | inr n ↦ ap (λ b. if b then filter (is_for d lane) (m ∷ []) else []) y ∙ ap (λ b. if b then m ∷ [] else []) n
        | inl z ↦
            let q = and_parts (m.header.target == d) (is_lane lane m.header.kind) z in
            absurd (not_one r m.header.target (lane_of m.header.kind) s d lane e
            (record {
              source = eqb-true s r y;
              destination = sym (eqb-true m.header.target d q.0);
              kind = lane_known lane m.header.kind q.1;
            }))
      ]
    ]

module _ (n : ℕ) (lanes : List Plain) (size : length lanes ≡ 2 * (n * n)) (r : ℕ) (hr : r < n) where
  pub held_sent : (m : Sent) → m.header.target < n → (s d : ℕ) (lane : Lane) → held_in n (sent_out n r m lanes) s d lane ≡ held_in n lanes
      s d lane ++ (if s == r then filter (is_for d lane) (m ∷ []) else [])
  held_sent m hm s d lane =
      held_set n lanes size r m.header.target (lane_of m.header.kind) hr hm
      ((lane_at lanes (lane_place n r m.header.target (lane_of m.header.kind))).messages ++ m ∷ []) s d lane
      ∙ by_lane
      ∙ ap (λ ms. held_in n lanes s d lane ++ ms) (sym (sent_there r s d lane m))
    where
      by_lane : (if is_lane_of r m.header.target (lane_of m.header.kind) s d lane then
          (lane_at lanes (lane_place n r m.header.target (lane_of m.header.kind))).messages ++ m ∷ [] else held_in n lanes s d lane)
          ≡ held_in n lanes s d lane ++ (if is_lane_of r m.header.target (lane_of m.header.kind) s d lane then m ∷ [] else [])
      by_lane = elim (cases_Bool (is_lane_of r m.header.target (lane_of m.header.kind) s d lane)) [
        | inl e ↦
            let o = one_lane r m.header.target (lane_of m.header.kind) s d lane e in
            ap (λ t. if t then (lane_at lanes (lane_place n r m.header.target (lane_of m.header.kind))).messages ++ m ∷ [] else held_in n
            lanes s d lane) e
            ∙ ap (λ ms. ms ++ m ∷ []) (sym (ap₂ (λ x y. held_in n lanes x y lane) o.source o.destination
            ∙ ap (held_in n lanes r m.header.target) o.kind ∙ held_here n lanes r m.header.target (lane_of m.header.kind) hr hm))
            ∙ ap (λ t. held_in n lanes s d lane ++ (if t then m ∷ [] else [])) (sym e)
        | inr e ↦
            ap (λ t. if t then (lane_at lanes (lane_place n r m.header.target (lane_of m.header.kind))).messages ++ m ∷ [] else held_in n
            lanes s d lane) e ∙ sym (append-nil (held_in n lanes s d lane))
            ∙ ap (λ t. held_in n lanes s d lane ++ (if t then m ∷ [] else [])) (sym e)
      ]

  -- what the rank makes, if anything
  pub held_out : (o : Option Sent) → ((m : Sent) → o ≡ Some m → m.header.target < n) → (s d : ℕ) (lane : Lane) →
      held_in n (out_with n r o lanes) s d lane ≡ held_in n lanes s d lane ++
      (if s == r then filter (is_for d lane) (and_then o []) else [])
  held_out None goes s d lane = sym (ap (λ ms. held_in n lanes s d lane ++ ms) (none (s == r)) ∙ append-nil (held_in n lanes s d lane))
    where
      none : (b : Bool) → cond {A = List Sent} b [] [] ≡ []
      none true = refl
      none false = refl
  held_out (Some m) goes s d lane = held_sent m (goes m refl) s d lane
