-- What comes to a rank in all, where what comes on each lane keeps what the plan says of it.
use Rattle.std.proofs.Common.{◌≡◌, ◌≤◌, ◌<◌, ◌+◌, ◌^◌, ℕ, zero, suc, Bool, true, false, cond, List, [], ◌∷◌, ◌++◌, sym, refl, ap, ap₂}
use Rattle.std.proofs.Common.{◌∙◌, subst, arith, length, inl, inr, ◌&&◌, ◌==◌, eq-eqb}
use Rattle.std.specs.Prelude.{sum_by, count_by, filter}
use Rattle.std.proofs.Math.Bool.{and-true}
use Rattle.std.proofs.lemmas.Bool.{cases_eq, cases_lt, ne_eqb}
use Rattle.std.proofs.lemmas.List.Sums.{count_by-le-length, length-filter, sum_by-cons}
use Rattle.plan_core.proofs.Lists.{count-cons}
use Rattle.ptl_types.specs.declared.headers.Lane.{Lane}
use Rattle.ptl_types.specs.declared.headers.Lane.TheVariants.{Request, Answer}
use Rattle.ptl_types.specs.Messages.{Sent}
use Rattle.plan_core.specs.Plan.{Plan, all_links, cell, link, out_links}
use Rattle.plan_core.specs.calls.Areas.{comes_to, links_to}
use Rattle.plan_core.specs.calls.Lanes.{goes_along, lane_links}
use Rattle.plan_core.specs.calls.RankOps.{is_message, sends_of}
use Rattle.cuts.specs.histories.History.{Local, got, same_lane}
use Rattle.cuts.specs.histories.History.Local.{Start, Receive, Fire}
use Rattle.cuts.specs.histories.Lanes.{is_receipt}
use Rattle.rank_node.specs.Copies.{bytes_received}
use Rattle.rank_node.specs.Node.{IsNode, NodeState}
use Rattle.rank_node.specs.Handles.{slots_of}
use Rattle.rank_node.specs.Plans.{IsCompiledFor}
use Rattle.rank_node.proofs.Copies.{bytes-push, receipts-push}
use Rattle.rank_node.proofs.Nodes.{agrees}
use Rattle.rank_node.proofs.Plans.{run-legal}
use Rattle.plan_core.specs.Sound.{SoundPlan}
use Rattle.plan_core.specs.Values.{Inputs}
use Rattle.cuts.proofs.start.Starting.{length-from_to}
use Rattle.cuts.proofs.start.Unrefused.{length-rank_ops}
use Rattle.cuts.specs.view.Calls.{prepare}
use Rattle.cuts.specs.histories.Plans.{start_of}
use Rattle.cuts.proofs.histories.FromCut.{prepared_of}
use Rattle.cuts.proofs.histories.StepBounds.{few_steps}
use Rattle.cuts.proofs.histories.Told.{length-own-le}
use Rattle.pair_wires.specs.Bounds.{KeepsBounds}
use Rattle.rank_slots.specs.Lanes.{bounds_on}

-- ---- sums over ranks
abbrev total : (ℕ → ℕ) → ℕ → ℕ
total g zero = 0
total g (suc n) = total g n + g n

total-le : (f g : ℕ → ℕ) (n : ℕ) → ((s : ℕ) → f s ≤ g s) → total f n ≤ total g n
total-le f g zero le = omega arith
total-le f g (suc n) le = let a = total-le f g n le in let b = le n in omega (arith, a, b)

total-same : (f g : ℕ → ℕ) (n : ℕ) → ((s : ℕ) → f s ≡ g s) → total f n ≡ total g n
total-same f g zero same = refl
total-same f g (suc n) same = ap₂ (λ a b. a + b) (total-same f g n same) (same n)

total-none : (n : ℕ) → total (λ s. 0) n ≡ 0
total-none zero = refl
total-none (suc n) = let a = total-none n in omega (arith, a)

total-add : (f g : ℕ → ℕ) (n : ℕ) → total (λ s. f s + g s) n ≡ total f n + total g n
total-add f g zero = refl
total-add f g (suc n) = let a = total-add f g n in omega (arith, a)

-- sums of sums, in either order
total-swap : {X : Type 0} (f : ℕ → X → ℕ) (xs : List X) (n : ℕ) → total (λ s. sum_by (f s) xs) n ≡ sum_by (λ x. total (λ s. f s x) n) xs
total-swap f [] n = total-none n
total-swap f (x ∷ xs) n =
    total-same (λ s. sum_by (f s) (x ∷ xs)) (λ s. f s x + sum_by (f s) xs) n (λ s. sum_by-cons (f s) x xs)
    ∙ (total-add (λ s. f s x) (λ s. sum_by (f s) xs) n
    ∙ (ap (λ v. total (λ s. f s x) n + v) (total-swap f xs n)
    ∙ sym (sum_by-cons (λ x. total (λ s. f s x) n) x xs)))

sum-same : {X : Type 0} (f g : X → ℕ) (xs : List X) → ((x : X) → f x ≡ g x) → sum_by f xs ≡ sum_by g xs
sum-same f g [] same = refl
sum-same f g (x ∷ xs) same = sum_by-cons f x xs ∙ (ap₂ (λ a b. a + b) (same x) (sum-same f g xs same) ∙ sym (sum_by-cons g x xs))

sum-le : {X : Type 0} (f g : X → ℕ) (xs : List X) → ((x : X) → f x ≤ g x) → sum_by f xs ≤ sum_by g xs
sum-le f g [] le = omega arith
sum-le f g (x ∷ xs) le = let a = sum_by-cons f x xs in let b = sum_by-cons g x xs in let c = le x in let d = sum-le f g xs le in
    omega (arith, a, b, c, d)

-- one rank is one of those below n, or none of them
abbrev pick : ℕ → Bool → ℕ → ℕ → ℕ
pick q b m s = cond ((q == s) && b) m 0

pick-other : (q : ℕ) (b : Bool) (m s : ℕ) → (q ≡ s → ⊥) → pick q b m s ≡ 0
pick-other q b m s apart = ap (λ a. cond (a && b) m 0) (ne_eqb q s apart)

pick-here : (q : ℕ) (b : Bool) (m : ℕ) → pick q b m q ≡ cond b m 0
pick-here q b m = ap (λ a. cond (a && b) m 0) (eq-eqb q q refl)

picked-none : (q : ℕ) (b : Bool) (m n : ℕ) → n ≤ q → total (pick q b m) n ≡ 0
picked-none q b m zero h = refl
picked-none q b m (suc n) h = let a = picked-none q b m n (omega (arith, h)) in let c = pick-other q b m n (λ e. omega (arith, e, h)) in
    omega (arith, a, c)

picked-one : (q : ℕ) (b : Bool) (m n : ℕ) → q < n → total (pick q b m) n ≡ cond b m 0
picked-one q b m zero h = absurd (omega (arith, h))
picked-one q b m (suc n) h = elim (cases_eq q n) [
  | inl e ↦ let a = picked-none q b m n (omega (arith, e)) in let c = subst (λ s. pick q b m s ≡ cond b m 0) e (pick-here q b m) in
      omega (arith, a, c)
  | inr apart ↦ let a = picked-one q b m n (omega (arith, h, apart)) in let c = pick-other q b m n apart in omega (arith, a, c)
]

picked-le : (q : ℕ) (b : Bool) (m n : ℕ) → total (pick q b m) n ≤ cond b m 0
picked-le q b m n = elim (cases_lt q n) [
  | inl h ↦ let a = picked-one q b m n h in omega (arith, a)
  | inr h ↦ let a = picked-none q b m n h in omega (arith, a)
]

-- ---- what was received, rank by rank that it came from
abbrev part : Lane → (Sent → ℕ) → ℕ → Local → ℕ
part l w s (Receive q k m) = pick q (same_lane k l) (w m) s
part l w s Start = 0
part l w s (Fire t) = 0

abbrev whole : Lane → (Sent → ℕ) → Local → ℕ
whole l w (Receive q k m) = cond (same_lane k l) (w m) 0
whole l w Start = 0
whole l w (Fire t) = 0

got-sum : (l : Lane) (w : Sent → ℕ) (s : ℕ) (h : List Local) → sum_by w (got h s l) ≡ sum_by (part l w s) h
got-sum l w s [] = refl
got-sum l w s (Start ∷ h) = let a = got-sum l w s h in let b = sum_by-cons (part l w s) Start h in omega (arith, a, b)
got-sum l w s (Fire t ∷ h) = let a = got-sum l w s h in let b = sum_by-cons (part l w s) (Fire t) h in omega (arith, a, b)
got-sum l w s (Receive q k m ∷ h) = let a = got-sum l w s h in let b = sum_by-cons (part l w s) (Receive q k m) h in
    at ((q == s) && same_lane k l) a b
  where
    at : (c : Bool) → sum_by w (got h s l) ≡ sum_by (part l w s) h → sum_by (part l w s) (Receive q k m ∷ h) ≡ cond c (w m) 0 + sum_by
        (part l w s) h
        → sum_by w (cond c (m ∷ got h s l) (got h s l)) ≡ sum_by (part l w s) (Receive q k m ∷ h)
    at true a b = let c = sum_by-cons w m (got h s l) in omega (arith, a, b, c)
    at false a b = omega (arith, a, b)

-- a number above each source
abbrev above : List Local → ℕ
above [] = 0
above (Start ∷ h) = above h
above (Fire t ∷ h) = above h
above (Receive q k m ∷ h) = suc q + above h

parts-whole : (l : Lane) (w : Sent → ℕ) (h : List Local) (n : ℕ) → above h ≤ n → sum_by (λ e. total (λ s. part l w s e) n) h ≡ sum_by
    (whole l w) h
parts-whole l w [] n le = refl
parts-whole l w (Start ∷ h) n le = sum_by-cons (λ e. total (λ s. part l w s e) n) Start h
    ∙ (ap₂ (λ a b. a + b) (total-none n) (parts-whole l w h n le) ∙ sym (sum_by-cons (whole l w) Start h))
parts-whole l w (Fire t ∷ h) n le = sum_by-cons (λ e. total (λ s. part l w s e) n) (Fire t) h
    ∙ (ap₂ (λ a b. a + b) (total-none n) (parts-whole l w h n le) ∙ sym (sum_by-cons (whole l w) (Fire t) h))
parts-whole l w (Receive q k m ∷ h) n le =
    sum_by-cons (λ e. total (λ s. part l w s e) n) (Receive q k m) h
    ∙ (ap₂ (λ a b. a + b) (picked-one q (same_lane k l) (w m) n (omega (arith, le))) (parts-whole l w h n (omega (arith, le)))
    ∙ sym (sum_by-cons (whole l w) (Receive q k m) h))

-- so all that came on a lane is no more than what the ranks may send there
came : (l : Lane) (w : Sent → ℕ) (h : List Local) (g : ℕ → ℕ) → ((s : ℕ) → sum_by w (got h s l) ≤ g s) →
    sum_by (whole l w) h ≤ total g (above h)
came l w h g le =
    let a = parts-whole l w h (above h) (omega arith) in
    let b = total-swap (part l w) h (above h) in
    let c = total-le (λ s. sum_by (part l w s) h) g (above h) (λ s. let x = got-sum l w s h in let y = le s in omega (arith, x, y)) in
    omega (arith, a, b, c)

-- ---- the links of a plan, rank by rank
guarded : (t : ℕ → Bool) (f : ℕ → ℕ) (xs : List ℕ) → sum_by f (filter t xs) ≡ sum_by (λ x. cond (t x) (f x) 0) xs
guarded t f [] = refl
guarded t f (x ∷ xs) = let a = guarded t f xs in let b = sum_by-cons (λ x. cond (t x) (f x) 0) x xs in at (t x) a b
  where
    at : (c : Bool) → sum_by f (filter t xs) ≡ sum_by (λ x. cond (t x) (f x) 0) xs → sum_by (λ x. cond (t x) (f x) 0) (x ∷ xs) ≡ cond c
        (f x) 0 + sum_by (λ x. cond (t x) (f x) 0) xs
        → sum_by f (cond c (x ∷ filter t xs) (filter t xs)) ≡ sum_by (λ x. cond (t x) (f x) 0) (x ∷ xs)
    at true a b = let c = sum_by-cons f x (filter t xs) in omega (arith, a, b, c)
    at false a b = omega (arith, a, b)

ones : {X : Type 0} (xs : List X) → sum_by (λ (x : X). 1) xs ≡ length xs
ones [] = refl
ones (x ∷ xs) = let a = ones xs in let b = sum_by-cons (λ x. 1) x xs in omega (arith, a, b)

module _ (p : Plan) (r : ℕ) (f : ℕ → ℕ) where
  abbrev from : ℕ → ℕ
  from l = (cell p (link p l).source).rank

  abbrev to : ℕ → ℕ
  to l = (cell p (link p l).target).rank

  -- a link to r is from one rank at most
  along : (m t : Bool) (q n v : ℕ) → total (λ s. cond (m && ((q == s) && t)) v 0) n ≤ cond (m && t) v 0
  along true t q n v = picked-le q t v n
  along false t q n v = let a = total-none n in omega (arith, a)

  -- and a link from r is to one rank at most
  back : (m t : Bool) (q n v : ℕ) → total (λ s. cond (m && (t && (q == s))) v 0) n ≤ cond (t && m) v 0
  back true true q n v = let a = picked-le q true v n in let b = total-same (λ s. cond (q == s) v 0) (pick q true v) n
      (λ s. ap (λ c. cond c v 0) (sym (and-true (q == s)))) in omega (arith, a, b)
  back true false q n v = let a = total-none n in omega (arith, a)
  back false true q n v = let a = total-none n in omega (arith, a)
  back false false q n v = let a = total-none n in omega (arith, a)

  links-in : (n : ℕ) → total (λ s. sum_by f (lane_links p s r)) n ≤ sum_by f (links_to p r)
  links-in n =
      let a = total-same (λ s. sum_by f (lane_links p s r)) (λ s. sum_by (λ l. cond (goes_along p s r l) (f l) 0) (all_links p)) n
      (λ s. guarded (goes_along p s r) f (all_links p)) in
      let b = total-swap (λ s l. cond (goes_along p s r l) (f l) 0) (all_links p) n in
      let c = sum-le (λ l. total (λ s. cond (goes_along p s r l) (f l) 0) n) (λ l. cond (comes_to p r l) (f l) 0) (all_links p)
      (λ l. along (is_message p l) (to l == r) (from l) n (f l)) in
      let d = guarded (comes_to p r) f (all_links p) in
      omega (arith, a, b, c, d)

  links-out : (n : ℕ) → total (λ s. sum_by f (lane_links p r s)) n ≤ sum_by (λ l. cond ((from l == r) && is_message p l) (f l) 0)
      (all_links p)
  links-out n =
      let a = total-same (λ s. sum_by f (lane_links p r s)) (λ s. sum_by (λ l. cond (goes_along p r s l) (f l) 0) (all_links p)) n
      (λ s. guarded (goes_along p r s) f (all_links p)) in
      let b = total-swap (λ s l. cond (goes_along p r s l) (f l) 0) (all_links p) n in
      let c = sum-le (λ l. total (λ s. cond (goes_along p r s l) (f l) 0) n) (λ l. cond ((from l == r) && is_message p l) (f l) 0)
      (all_links p) (λ l. back (is_message p l) (from l == r) (to l) n (f l)) in
      omega (arith, a, b, c)

-- ---- what came in all
receipts-are : (h : List Local) → count_by is_receipt h ≡ sum_by (whole Request (λ m. 1)) h + sum_by (whole Answer (λ m. 1)) h
receipts-are [] = refl
receipts-are (e ∷ h) =
    let a = receipts-are h in let b = count-cons is_receipt e h in let c = sum_by-cons (whole Request (λ m. 1)) e h in let d =
    sum_by-cons (whole Answer (λ m. 1)) e h in
    let x = each e in omega (arith, a, b, c, d, x)
  where
    each : (e : Local) → cond (is_receipt e) 1 0 ≡ whole Request (λ m. 1) e + whole Answer (λ m. 1) e
    each Start = refl
    each (Fire t) = refl
    each (Receive q Request m) = refl
    each (Receive q Answer m) = refl

bytes-are : (h : List Local) → bytes_received h ≡ sum_by (whole Request (λ m. length m.bytes)) h + sum_by
    (whole Answer (λ m. length m.bytes)) h
bytes-are [] = refl
bytes-are (e ∷ h) =
    let a = bytes-are h in let c = sum_by-cons (whole Request (λ m. length m.bytes)) e h in let d =
    sum_by-cons (whole Answer
    (λ m. length m.bytes)) e h in
    let x = each e in omega (arith, a, c, d, x)
  where
    each : (e : Local) → bytes_received (e ∷ h) ≡ whole Request (λ m. length m.bytes) e + whole Answer (λ m. length m.bytes) e
        + bytes_received h
    each Start = omega arith
    each (Fire t) = omega arith
    each (Receive q Request m) = omega arith
    each (Receive q Answer m) = omega arith

sends-are : (p : Plan) (r : ℕ) (xs : List ℕ) → count_by (is_message p) (filter (λ l. (cell p (link p l).source).rank == r) xs) ≡ sum_by
    (λ l. cond (((cell p (link p l).source).rank == r) && is_message p l) 1 0) xs
sends-are p r [] = refl
sends-are p r (l ∷ xs) = at ((cell p (link p l).source).rank == r) (sends-are p r xs)
    (sum_by-cons (λ l. cond (((cell p (link p l).source).rank == r) && is_message p l) 1 0) l xs)
  where
    at : (b : Bool) → count_by (is_message p) (filter (λ l. (cell p (link p l).source).rank == r) xs) ≡ sum_by
        (λ l. cond (((cell p (link p l).source).rank == r) && is_message p l) 1 0) xs
        → sum_by (λ l. cond (((cell p (link p l).source).rank == r) && is_message p l) 1 0) (l ∷ xs) ≡ cond (b && is_message p l) 1 0
        + sum_by (λ l. cond (((cell p (link p l).source).rank == r) && is_message p l) 1 0) xs
        → count_by (is_message p) (cond b (l ∷ filter (λ l. (cell p (link p l).source).rank == r) xs)
        (filter (λ l. (cell p (link p l).source).rank == r) xs)) ≡ sum_by
        (λ l. cond (((cell p (link p l).source).rank == r) && is_message p l) 1 0) (l ∷ xs)
    at true a b = let c = count-cons (is_message p) l (filter (λ l. (cell p (link p l).source).rank == r) xs) in omega (arith, a, b, c)
    at false a b = omega (arith, a, b)

module _ (p : Plan) (r : ℕ) (h : List Local) (heard : (s : ℕ) (lane : Lane) → KeepsBounds (bounds_on p s r lane) (got h s lane)) where
  requests : sum_by (whole Request (λ m. 1)) h ≤ length (links_to p r)
  requests =
      let a = came Request (λ m. 1) h (λ s. sum_by (λ l. 1) (lane_links p s r)) (λ s. let x = ones (got h s Request) in let y =
      ones (lane_links p s r) in let z = (heard s Request).at_most in omega (arith, x, y, z)) in
      let b = links-in p r (λ l. 1) (above h) in
      let c = ones (links_to p r) in
      omega (arith, a, b, c)

  answers : sum_by (whole Answer (λ m. 1)) h ≤ cond p.remote (sends_of p r) 0
  answers = at p.remote (λ s. (heard s Answer).at_most)
    where
      at : (b : Bool) → ((s : ℕ) → length (got h s Answer) ≤ cond b (length (lane_links p r s)) 0) →
          sum_by (whole Answer (λ m. 1)) h ≤ cond b (sends_of p r) 0
      at true at_most =
          let a = came Answer (λ m. 1) h (λ s. sum_by (λ l. 1) (lane_links p r s)) (λ s. let x = ones (got h s Answer) in let y =
          ones (lane_links p r s) in let z = at_most s in omega (arith, x, y, z)) in
          let b = links-out p r (λ l. 1) (above h) in
          let c = sends-are p r (all_links p) in
          omega (arith, a, b, c)
      at false at_most =
          let a = came Answer (λ m. 1) h (λ s. 0) (λ s. let x = ones (got h s Answer) in let z = at_most s in omega (arith, x, z)) in
          let b = total-none (above h) in
          omega (arith, a, b)

  -- no more receipts than the plan says
  pub at_most-receipts : count_by is_receipt h ≤ length (links_to p r) + cond p.remote (sends_of p r) 0
  at_most-receipts = let a = receipts-are h in let b = requests in let c = answers in omega (arith, a, b, c)

  -- and no more bytes
  pub at_most-bytes : bytes_received h ≤ sum_by (λ l. (link p l).length) (links_to p r)
  at_most-bytes =
      let a = came Request (λ m. length m.bytes) h (λ s. sum_by (λ l. (link p l).length) (lane_links p s r))
      (λ s. (heard s Request).short) in
      let b = links-in p r (λ l. (link p l).length) (above h) in
      let c = came Answer (λ m. length m.bytes) h (λ s. 0) (λ s. (heard s Answer).short) in
      let d = total-none (above h) in
      let e = bytes-are h in
      omega (arith, a, b, c, d, e)

-- ---- a node has room for what keeps the bounds
pub record HasRoom (n : NodeState) (m : Sent) : Type 0 where
  pub receipts : 0 < n.diary.receipts
  pub bytes : length m.bytes ≤ n.diary.bytes

pub has-room : (p : Plan) (inputs : Inputs) (n : NodeState) (s : ℕ) (lane : Lane) (m : Sent) → IsCompiledFor p inputs n.task.rank n.task →
    IsNode n → n.strays ≡ 0
    → ((q : ℕ) (l : Lane) → KeepsBounds (bounds_on p q n.task.rank l) (got (n.diary.locals ++ Receive s lane m ∷ []) q l)) → HasRoom n m
has-room p inputs n s lane m compiled is strays heard =
    let r = n.task.rank in let later = n.diary.locals ++ Receive s lane m ∷ [] in
    let a = at_most-receipts p r later heard in
    let b = receipts-push n.diary.locals (Receive s lane m) in
    let c = is.receipts in
    let d = compiled.receipts in
    let e = at_most-bytes p r later heard in
    let f = bytes-push n.diary.locals (Receive s lane m) in
    let g = is.bytes in
    let i = compiled.bytes in record {
      receipts = omega (arith, a, b, c, d, strays);
      bytes = omega (arith, e, f, g, i, strays);
    }

-- ---- a history is short
at_most-out : (p : Plan) (r : ℕ) → length (out_links p r) ≤ length p.links
at_most-out p r =
    let a = length-filter (λ l. (cell p (link p l).source).rank == r) (all_links p) in
    let b = count_by-le-length (λ l. (cell p (link p l).source).rank == r) (all_links p) in
    let c = length-from_to 0 (length p.links) in
    omega (arith, a, b, c)

pub short-history : (p : Plan) (inputs : Inputs) → SoundPlan p (length inputs) → (n : NodeState) →
    IsCompiledFor p inputs n.task.rank n.task → IsNode n → n.strays ≡ 0 → length n.diary.locals < 2 ^ 62
short-history p inputs sound n compiled is strays =
    let r = n.task.rank in let k = slots_of n.kept in
    let a = few_steps p k r (start_of p k r) n.diary.locals (prepare p inputs k r) (prepared_of p inputs sound k r)
    (run-legal p inputs k r n compiled is (agrees n.kept is.descriptors)) in
    let b = length-rank_ops p r in
    let c = at_most-out p r in
    let d = length-own-le p r in
    let e = is.receipts in
    let f = is.compiled.at_most in
    let g = sound.few_together in
    omega (arith, a, b, c, d, e, f, g, strays)
