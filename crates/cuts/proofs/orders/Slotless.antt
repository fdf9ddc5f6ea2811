-- What can be taken of lists doesn't depend on the slots that tables gave out.
use Rattle.std.proofs.Common.{ℕ, suc, Bool, true, false, cond, not, ◌&&◌, ◌==◌, ◌+◌, ◌≡◌, ◌<◌, List, [], ◌∷◌, ◌++◌, refl, length, map}
use Rattle.std.proofs.Common.{filter, count_by, ap, ap₂, ◌∙◌, sym, subst, inl, inr, arith, append-nil, length-append, if◌then◌else◌}
use Rattle.std.proofs.lemmas.Bool.{cases_Bool}
use Rattle.std.proofs.lemmas.List.{map-append}
use Rattle.ptl_types.specs.Messages.{Sent}
use Rattle.ptl_types.specs.declared.headers.Lane.{Lane}
use Rattle.ptl_types.specs.declared.headers.Lane.TheVariants.{Answer, Request}
use Rattle.ptl_types.specs.declared.steps.LocalStep.{LocalStep}
use Rattle.ptl_types.specs.declared.steps.LocalStep.TheVariants.{Start as Starts, Receive as Receives, Fire as Fires}
use Rattle.ni_model.specs.Ready.{is_ready, is_ready_op, posted_at}
use Rattle.op_laws.specs.Combining.{CombineStarts, CombineSwaps}
use Rattle.plan_core.specs.Members.{In}
use Rattle.plan_core.specs.Plan.{Plan}
use Rattle.plan_core.specs.Sound.{AreInputsOf, SoundPlan}
use Rattle.plan_core.specs.Values.{Inputs}
use Rattle.plan_core.proofs.Lists.{In-append_left, In-append_right, count-cons, length-map'}
use Rattle.cuts.specs.machine.Machine.{Move as MachineMove, all_seen, outs, seen}
use Rattle.cuts.specs.machine.Machine.Move.{Began, Heard, Strayed, Took}
use Rattle.cuts.specs.machine.Seen.{Came, nothing_seen}
use Rattle.cuts.specs.view.Slots.{Slots}
use Rattle.cuts.specs.view.View.{view}
use Rattle.cuts.specs.view.Calls.{prepare}
use Rattle.cuts.proofs.view.StepFire.{ready_work}
use Rattle.cuts.specs.histories.Cut.{IsCut, IsPrefixOf, is_stray}
use Rattle.cuts.specs.histories.History.{Local, got, is_for, is_start, made}
use Rattle.cuts.proofs.histories.Clean.{made-clean}
use Rattle.std.proofs.lemmas.List.{nil_from_length}
use Rattle.plan_core.proofs.Lists.{In-filter_cases}
use Rattle.cuts.specs.histories.History.Local.{Start, Receive, Fire}
use Rattle.cuts.specs.histories.Moment.{IsMoment}
use Rattle.cuts.specs.histories.Plans.{start_of, system_of}
use Rattle.cuts.specs.histories.System.{sent_by, state_at}
use Rattle.cuts.proofs.histories.FromCut.{answers_loc, answers_rem, moves_at, prepared_of, sent_requests}
use Rattle.cuts.proofs.histories.Origin.{got_first, got_later, legal_got}
use Rattle.cuts.proofs.histories.Runs.{run_moves, tk}
use Rattle.cuts.proofs.histories.Shape.{shape}
use Rattle.cuts.proofs.histories.Simulate.{did, moves_of, work_numbered}
use Rattle.cuts.proofs.histories.Told.{ready_from}
use Rattle.cuts.proofs.histories.Traffic.{ack, as_message, came_from, goes_to, own_received, to_came}
use Rattle.cuts.proofs.rest.Due.{sent_ack}
use Rattle.cuts.specs.orders.Taking.{AreListed, IsInterleaving, IsNext, IsStuckAt, Lists, MayTake, Move, histories, listed}
use Rattle.cuts.specs.orders.Verdict.{IsVerdict, Rests, Says}
use Rattle.cuts.specs.declared.orders.Verdict.{Verdict}
use Rattle.cuts.specs.declared.orders.Verdict.TheVariants.{Fails, Holds}
use Rattle.cuts.proofs.orders.Parts.{same-front}
use Rattle.cuts.proofs.orders.Steps.{beyond, may, moves_reach, reached_moment}

-- ---- a step without its slots: what a request brought, whether an answer is ok
pub data Bare : Type 0 where
  BStart : Bare
  BAsk : (s : ℕ) (a : Came) → Bare
  BTold : (s : ℕ) (ok : Bool) → Bare
  BFire : (t : ℕ) → Bare

abbrev pub bare : Local → Bare
bare Start = BStart
bare (Receive s Request m) = BAsk s (to_came m)
bare (Receive s Answer m) = BTold s m.header.ok
bare (Fire t) = BFire t

abbrev pub bares : List Local → List Bare
bares es = map bare es

abbrev listed_of : Bare → LocalStep
listed_of BStart = Starts
listed_of (BAsk s a) = Receives s Request
listed_of (BTold s ok) = Receives s Answer
listed_of (BFire t) = Fires t

listed-bare : (e : Local) → listed e ≡ listed_of (bare e)
listed-bare Start = refl
listed-bare (Receive s Request m) = refl
listed-bare (Receive s Answer m) = refl
listed-bare (Fire t) = refl

all_listed : (es : List Local) → map listed es ≡ map listed_of (bares es)
all_listed [] = refl
all_listed (e ∷ es) = ap₂ (λ x xs. x ∷ xs) (listed-bare e) (all_listed es)

-- ---- what a history's bare steps tell
abbrev pub is_begin : Bare → Bool
is_begin BStart = true
is_begin _ = false

pub starts-bare : (es : List Local) → count_by is_start es ≡ count_by is_begin (bares es)
starts-bare [] = refl
starts-bare (e ∷ es) =
    count-cons is_start e es ∙ ap₂ (λ b n. cond b 1 0 + n) (one e) (starts-bare es) ∙ sym (count-cons is_begin (bare e) (bares es))
  where
    one : (e : Local) → is_start e ≡ is_begin (bare e)
    one Start = refl
    one (Receive s Request m) = refl
    one (Receive s Answer m) = refl
    one (Fire t) = refl

abbrev asks_from : ℕ → List Bare → List Came
asks_from s [] = []
asks_from s (BAsk q a ∷ bs) = if q == s then a ∷ asks_from s bs else asks_from s bs
asks_from s (_ ∷ bs) = asks_from s bs

and-true : (b : Bool) → (b && true) ≡ b
and-true true = refl
and-true false = refl

and-false : (b : Bool) → (b && false) ≡ false
and-false true = refl
and-false false = refl

got-asks : (s : ℕ) (es : List Local) → map to_came (got es s Request) ≡ asks_from s (bares es)
got-asks s [] = refl
got-asks s (Start ∷ es) = got-asks s es
got-asks s (Fire t ∷ es) = got-asks s es
got-asks s (Receive q Answer m ∷ es) = ap (λ b. map to_came (cond b (m ∷ got es s Request) (got es s Request))) (and-false (q == s))
    ∙ got-asks s es
got-asks s (Receive q Request m ∷ es) = ap (λ b. map to_came (cond b (m ∷ got es s Request) (got es s Request))) (and-true (q == s))
    ∙ at (q == s) (got-asks s es)
  where
    at : (b : Bool) → map to_came (got es s Request) ≡ asks_from s (bares es) →
        map to_came (cond b (m ∷ got es s Request) (got es s Request)) ≡ cond b (to_came m ∷ asks_from s (bares es))
        (asks_from s (bares es))
    at true e = ap (λ v. to_came m ∷ v) e
    at false e = e

abbrev told_by : ℕ → List Bare → ℕ
told_by s [] = 0
told_by s (BTold q ok ∷ bs) = (if q == s then 1 else 0) + told_by s bs
told_by s (_ ∷ bs) = told_by s bs

got-told : (s : ℕ) (es : List Local) → length (got es s Answer) ≡ told_by s (bares es)
got-told s [] = refl
got-told s (Start ∷ es) = got-told s es
got-told s (Fire t ∷ es) = got-told s es
got-told s (Receive q Request m ∷ es) = ap (λ b. length (cond b (m ∷ got es s Answer) (got es s Answer))) (and-false (q == s))
    ∙ got-told s es
got-told s (Receive q Answer m ∷ es) = ap (λ b. length (cond b (m ∷ got es s Answer) (got es s Answer))) (and-true (q == s))
    ∙ at (q == s) (got-told s es)
  where
    at : (b : Bool) → length (got es s Answer) ≡ told_by s (bares es) → length (cond b (m ∷ got es s Answer) (got es s Answer)) ≡ cond b 1
        0 + told_by s (bares es)
    at true e = omega (arith, e)
    at false e = omega (arith, e)

-- ---- histories without strays, whose requests say where they come from
abbrev Fine : List Local → Type 0
Fine [] = Unit {0}
Fine (Receive s Request m ∷ es) = (is_stray m ≡ false) × (m.header.source ≡ s) × Fine es
Fine (_ ∷ es) = Fine es

build_fine : (es : List Local) → ((s : ℕ) (m : Sent) → In m (got es s Request) → (is_stray m ≡ false) × (m.header.source ≡ s)) → Fine es
build_fine [] h = tt
build_fine (Start ∷ es) h = build_fine es (λ s m i. h s m (got_later Start es s Request m i))
build_fine (Fire t ∷ es) h = build_fine es (λ s m i. h s m (got_later (Fire t) es s Request m i))
build_fine (Receive q Answer x ∷ es) h = build_fine es (λ s m i. h s m (got_later (Receive q Answer x) es s Request m i))
build_fine (Receive q Request x ∷ es) h = let z = h q x (got_first q Request x es) in
    (z.0, z.1, build_fine es (λ s m i. h s m (got_later (Receive q Request x) es s Request m i)))

from-got : (d : ℕ) (es : List Local) → Fine es → length (filter (came_from d) (own_received Request es)) ≡ length (got es d Request)
from-got d [] f = refl
from-got d (Start ∷ es) f = from-got d es f
from-got d (Fire t ∷ es) f = from-got d es f
from-got d (Receive q Answer m ∷ es) f = from-got d es f ∙ ap (λ b. length (cond b (m ∷ got es d Request) (got es d Request)))
    (sym (and-false (q == d)))
from-got d (Receive q Request m ∷ es) f =
    ap (λ b. length (filter (came_from d) (cond (not b) (m ∷ own_received Request es) (own_received Request es)))) f.0
    ∙ ap (λ n. length (cond (n == d) (m ∷ filter (came_from d) (own_received Request es))
    (filter (came_from d) (own_received Request es)))) f.1
    ∙ at (q == d) (from-got d es f.2)
    ∙ ap (λ b. length (cond b (m ∷ got es d Request) (got es d Request))) (sym (and-true (q == d)))
  where
    at : (b : Bool) → length (filter (came_from d) (own_received Request es)) ≡ length (got es d Request)
        → length (cond b (m ∷ filter (came_from d) (own_received Request es)) (filter (came_from d) (own_received Request es))) ≡ length
        (cond b (m ∷ got es d Request) (got es d Request))
    at true e = ap suc e
    at false e = e

-- ---- a rank's moves, from its bare steps
abbrev bare_move : Plan → ℕ → Bare → MachineMove
bare_move p r BStart = Began
bare_move p r (BAsk s a) = Took a.link a.bytes
bare_move p r (BTold s ok) = Heard ok
bare_move p r (BFire t) = did (work_numbered p r t)

abbrev bare_moves : Plan → ℕ → List Came → List Bare → List MachineMove
bare_moves p r early [] = []
bare_moves p r early (BStart ∷ bs) = Began ∷ (map tk early ++ map (bare_move p r) bs)
bare_moves p r early (BAsk s a ∷ bs) = bare_moves p r (early ++ a ∷ []) bs
bare_moves p r early (BTold s ok ∷ bs) = Heard ok ∷ bare_moves p r early bs
bare_moves p r early (BFire t ∷ bs) = did (work_numbered p r t) ∷ bare_moves p r early bs

moves-bare : (p : Plan) (r : ℕ) (es : List Local) → Fine es → moves_of p r es ≡ map (bare_move p r) (bares es)
moves-bare p r [] f = refl
moves-bare p r (Start ∷ es) f = ap (λ v. Began ∷ v) (moves-bare p r es f)
moves-bare p r (Fire t ∷ es) f = ap (λ v. did (work_numbered p r t) ∷ v) (moves-bare p r es f)
moves-bare p r (Receive s Answer m ∷ es) f = ap (λ v. Heard m.header.ok ∷ v) (moves-bare p r es f)
moves-bare p r (Receive s Request m ∷ es) f = ap₂ (λ b v. cond b Strayed (Took m.header.hdr_data m.bytes) ∷ v) f.0 (moves-bare p r es f.2)

run-bare : (p : Plan) (r : ℕ) (es : List Local) (early : List Came) → Fine es → run_moves p r early es ≡ bare_moves p r early (bares es)
run-bare p r [] early f = refl
run-bare p r (Start ∷ es) early f = ap (λ v. Began ∷ (map tk early ++ v)) (moves-bare p r es f)
run-bare p r (Fire t ∷ es) early f = ap (λ v. did (work_numbered p r t) ∷ v) (run-bare p r es early f)
run-bare p r (Receive s Answer m ∷ es) early f = ap (λ v. Heard m.header.ok ∷ v) (run-bare p r es early f)
run-bare p r (Receive s Request m ∷ es) early f =
    ap (λ b. cond b (Strayed ∷ run_moves p r early es) (run_moves p r (early ++ to_came m ∷ []) es)) f.0
    ∙ run-bare p r es (early ++ to_came m ∷ []) f.2

sent-came : (p : Plan) (s : Slots) (xs : List Came) → map to_came (map (as_message p s) xs) ≡ xs
sent-came p s [] = refl
sent-came p s (x ∷ xs) = ap (λ v. x ∷ v) (sent-came p s xs)

module _ (starts : CombineStarts) (p : Plan) (inputs : Inputs) (sound : SoundPlan p (length inputs)) (fit : AreInputsOf p inputs)
    (swaps : CombineSwaps) where
  abbrev pub Made : (ℕ → Slots) → List Move → Type 0
  Made k es = IsInterleaving (system_of p inputs k) es

  pub moment_of : (k : ℕ → Slots) (es : List Move) (made : Made k es) →
      IsMoment (system_of p inputs k) (histories es) (moves_reach (system_of p inputs k) es made).0
  moment_of k es made = let x = moves_reach (system_of p inputs k) es made in reached_moment starts p inputs k sound fit swaps
      (histories es) x.0 x.1

  pub cut_of : (k : ℕ → Slots) (es : List Move) → Made k es → IsCut (system_of p inputs k) (histories es)
  cut_of k es made = (moment_of k es made).cut

  front_of : (k : ℕ → Slots) (es : List Move) → Made k es → (s d : ℕ) (lane : Lane) →
      IsPrefixOf (got (histories es d) s lane) (sent_by (system_of p inputs k) (histories es) s d lane)
  front_of k es made s d lane = let x = moves_reach (system_of p inputs k) es made in (x.0 s d lane, x.2 s d lane)

  fine_of : (k : ℕ → Slots) (es : List Move) → Made k es → (r : ℕ) → r < p.ranks → Fine (histories es r)
  fine_of k es given r h = build_fine (histories es r) (λ s m i. one s m i)
    where
      one : (s : ℕ) (m : Sent) → In m (got (histories es r) s Request) → (is_stray m ≡ false) × (m.header.source ≡ s)
      one s m i =
          let cut = cut_of k es given in
          let source = (legal_got p (k r) r (start_of p (k r) r) (histories es r) false (prepare p inputs (k r) r)
          (prepared_of p inputs sound (k r) r) (cut.legal r h) s Request m i).source in
          let f = front_of k es given s r Request in
          let j : In m (sent_by (system_of p inputs k) (histories es) s r Request) =
          subst (λ v. In m v) f.1 (In-append_left m (got (histories es r) s Request) f.0 i) in
          (clean_sent s m j, source)
        where
          clean_sent : (s : ℕ) (m : Sent) → In m (sent_by (system_of p inputs k) (histories es) s r Request) → is_stray m ≡ false
          clean_sent s m j = made-clean p inputs sound (k s) s (histories es s) m
              (In-filter_cases (is_for r Request) m (made (start_of p (k s) s) (prepare p inputs (k s) s) (histories es s)) j).0

  -- the same steps under other slots
  abbrev pub Alike : List Move → List Move → Type 0
  Alike es fs = (r : ℕ) → bares (histories es r) ≡ bares (histories fs r)

  module _ (k l : ℕ → Slots) (es fs : List Move) (made : Made k es) (other : Made l fs) (same : Alike es fs) where
    same_moves : (r : ℕ) → r < p.ranks → moves_at p (histories es) r ≡ moves_at p (histories fs) r
    same_moves r h = run-bare p r (histories es r) [] (fine_of k es made r h) ∙ ap (bare_moves p r []) (same r)
        ∙ sym (run-bare p r (histories fs r) [] (fine_of l fs other r h))

    same_seen : (r : ℕ) → r < p.ranks → all_seen p (moves_at p (histories es)) r ≡ all_seen p (moves_at p (histories fs)) r
    same_seen r h = ap (seen p nothing_seen) (same_moves r h)

    pub same_ready : (r t : ℕ) → r < p.ranks → is_ready (state_at (system_of p inputs k) (histories es) r) t ≡ true →
        is_ready (state_at (system_of p inputs l) (histories fs) r) t ≡ true
    same_ready r t h e =
        let a = shape starts p inputs sound fit k (histories es) (cut_of k es made) r h in
        let b = shape starts p inputs sound fit l (histories fs) (cut_of l fs other) r h in
        let g = all_seen p (moves_at p (histories es)) r in
        let w = ready_work a.annex p inputs sound (k r) r g t (sym (ap₂ (λ c q. is_ready_op c (posted_at t q)) a.cts a.pending) ∙ e) in
        let z = ready_from b.annex p inputs sound (l r) r g w.0 w.1.ours w.1.pending w.1.reached in
        ap₂ (λ c q. is_ready_op c (posted_at t q)) b.cts b.pending
        ∙ ap (λ v. is_ready (view b.annex p inputs (l r) r v) t) (sym (same_seen r h))
        ∙ subst (λ n. is_ready (view b.annex p inputs (l r) r g) n ≡ true) w.1.number z

    pub same_requests : (s d : ℕ) → s < p.ranks → map to_came (sent_by (system_of p inputs k) (histories es) s d Request) ≡ map to_came
        (sent_by (system_of p inputs l) (histories fs) s d Request)
    same_requests s d h =
        ap (map to_came) (sent_requests starts p inputs sound fit k (histories es) (cut_of k es made) s d h)
        ∙ sent-came p (k s) _
        ∙ ap (λ ms. filter (goes_to p d) (outs p inputs nothing_seen ms)) (same_moves s h)
        ∙ sym (sent-came p (l s) _)
        ∙ sym (ap (map to_came) (sent_requests starts p inputs sound fit l (histories fs) (cut_of l fs other) s d h))

    pub same_asks : (s r : ℕ) → map to_came (got (histories es r) s Request) ≡ map to_came (got (histories fs r) s Request)
    same_asks s r = got-asks s (histories es r) ∙ ap (asks_from s) (same r) ∙ sym (got-asks s (histories fs r))

    pub same_told : (s r : ℕ) → length (got (histories es r) s Answer) ≡ length (got (histories fs r) s Answer)
    same_told s r = got-told s (histories es r) ∙ ap (told_by s) (same r) ∙ sym (got-told s (histories fs r))

    pub same_answers : (s d : ℕ) → s < p.ranks → length (sent_by (system_of p inputs k) (histories es) s d Answer) ≡ length
        (sent_by (system_of p inputs l) (histories fs) s d Answer)
    same_answers s d h = at p.remote refl
      where
        at : (b : Bool) → p.remote ≡ b → length (sent_by (system_of p inputs k) (histories es) s d Answer) ≡ length
            (sent_by (system_of p inputs l) (histories fs) s d Answer)
        at false rem =
            ap length (answers_loc starts p inputs sound fit k (histories es) (cut_of k es made) rem s d h)
            ∙ sym (ap length (answers_loc starts p inputs sound fit l (histories fs) (cut_of l fs other) rem s d h))
        at true rem =
            ap length (answers_rem starts p inputs sound fit k (histories es) (cut_of k es made) rem s d h)
            ∙ length-map' ack _
            ∙ from-got d (histories es s) (fine_of k es made s h)
            ∙ sym (length-map' to_came (got (histories es s) d Request))
            ∙ ap length (same_asks d s)
            ∙ length-map' to_came (got (histories fs s) d Request)
            ∙ sym (from-got d (histories fs s) (fine_of l fs other s h))
            ∙ sym (length-map' ack _)
            ∙ sym (ap length (answers_rem starts p inputs sound fit l (histories fs) (cut_of l fs other) rem s d h))

    -- a step that may be taken there has one here that is listed alike
    pub record Likewise (r : ℕ) (e : Local) : Type 0 where
      pub step : Local
      pub may : MayTake (system_of p inputs l) (histories fs) r step
      pub alike : bare e ≡ bare step

    ok_sent : (s r : ℕ) (m : Sent) → s < p.ranks → (q : ℕ → Slots) (gs : List Move) → Made q gs →
        In m (sent_by (system_of p inputs q) (histories gs) s r Answer) → m.header.ok ≡ true
    ok_sent s r m h q gs g i = let a = sent_ack starts p inputs sound fit q (histories gs) (cut_of q gs g) r s m h i in
        sym (ap (λ (x : Sent). x.header.ok) a.is)

    known : (r s : ℕ) (lane : Lane) (m : Sent) → MayTake (system_of p inputs k) (histories es) r (Receive s lane m) → s < p.ranks
    known r s lane m t = let x = moves_reach (system_of p inputs k) es made in
        (may (system_of p inputs k) es r (Receive s lane m) x.0 x.2 t (beyond (system_of p inputs k) es made)).0

    -- the first of what is left to come, and what it brings
    ask : (r s : ℕ) (m : Sent) → s < p.ranks → MayTake (system_of p inputs k) (histories es) r (Receive s Request m) →
        Likewise r (Receive s Request m)
    ask r s m hs t = at f.0 f.1 left
      where
        f : IsPrefixOf (got (histories fs r) s Request) (sent_by (system_of p inputs l) (histories fs) s r Request)
        f = front_of l fs other s r Request

        left : to_came m ∷ map to_came t.0 ≡ map to_came f.0
        left =
            same-front (map to_came (got (histories fs r) s Request)) (to_came m ∷ map to_came t.0) (map to_came f.0)
            (ap (λ v. v ++ to_came m ∷ map to_came t.0) (sym (same_asks s r))
            ∙ sym (map-append to_came (got (histories es r) s Request) (m ∷ t.0))
            ∙ ap (map to_came) t.1
            ∙ same_requests s r hs
            ∙ sym (ap (map to_came) f.1)
            ∙ map-append to_came (got (histories fs r) s Request) f.0)

        at : (ms : List Sent) → got (histories fs r) s Request ++ ms ≡ sent_by (system_of p inputs l) (histories fs) s r Request →
            to_came m ∷ map to_came t.0 ≡ map to_came ms → Likewise r (Receive s Request m)
        at [] q e = absurd (let z = ap length e in omega (arith, z))
        at (n ∷ ms) q e = record { step = Receive s Request n; may = (ms, q); alike = ap (BAsk s) (head_one e) }
          where
            head_one : {x y : Came} {xs ys : List Came} → x ∷ xs ≡ y ∷ ys → x ≡ y
            head_one e = cc

    tell : (r s : ℕ) (m : Sent) → s < p.ranks → MayTake (system_of p inputs k) (histories es) r (Receive s Answer m) →
        Likewise r (Receive s Answer m)
    tell r s m hs t = at f.0 f.1 more
      where
        f : IsPrefixOf (got (histories fs r) s Answer) (sent_by (system_of p inputs l) (histories fs) s r Answer)
        f = front_of l fs other s r Answer

        more : 0 < length f.0
        more =
            let a = ap length t.1 in
            let b = length-append (got (histories es r) s Answer) (m ∷ t.0) in
            let c = same_answers s r hs in
            let d = same_told s r in
            let e = ap length f.1 in
            let g = length-append (got (histories fs r) s Answer) f.0 in
            omega (arith, a, b, c, d, e, g)

        at : (ms : List Sent) → got (histories fs r) s Answer ++ ms ≡ sent_by (system_of p inputs l) (histories fs) s r Answer →
            0 < length ms → Likewise r (Receive s Answer m)
        at [] q n = absurd (omega (arith, n))
        at (x ∷ ms) q n = record {
          step = Receive s Answer x;
          may = (ms, q);
          alike = ap (BTold s)
              (ok_sent s r m hs k es made (subst (λ v. In m v) t.1 (In-append_right m (got (histories es r) s Answer) (m ∷ t.0) (inl refl)))
              ∙ sym (ok_sent s r x hs l fs other (subst (λ v. In x v) q
              (In-append_right x (got (histories fs r) s Answer) (x ∷ ms) (inl refl)))));
        }

    pub likewise : (r : ℕ) (e : Local) → r < p.ranks → MayTake (system_of p inputs k) (histories es) r e → Likewise r e
    likewise r Start h t = record {
      step = Start;
      may = starts-bare (histories fs r) ∙ ap (count_by is_begin) (sym (same r))
          ∙ sym (starts-bare (histories es r)) ∙ t;
      alike = refl;
    }
    likewise r (Fire t) h m = record { step = Fire t; may = same_ready r t h m; alike = refl }
    likewise r (Receive s Request m) h t = ask r s m (known r s Request m t) t
    likewise r (Receive s Answer m) h t = tell r s m (known r s Answer m t) t

    pub same_listed : (r : ℕ) → map listed (histories es r) ≡ map listed (histories fs r)
    same_listed r = all_listed (histories es r) ∙ ap (map listed_of) (same r) ∙ sym (all_listed (histories fs r))

    -- a rank that rests there rests here
    pub rests_too : (r : ℕ) → r < p.ranks → (Alike fs es) → ((t : ℕ) → is_ready (state_at (system_of p inputs l) (histories fs) r) t
        ≡ true → is_ready (state_at (system_of p inputs k) (histories es) r) t ≡ true)
        → Rests (system_of p inputs k) (histories es) r → Rests (system_of p inputs l) (histories fs) r
    rests_too r h back ready rests = record {
      started = let z = starts-bare (histories fs r) ∙ ap (count_by is_begin) (sym (same r)) ∙ sym (starts-bare (histories es r)) in
          let y = rests.started in omega (arith, z, y);
      idle = λ t. elim (cases_Bool (is_ready (state_at (system_of p inputs l) (histories fs) r) t))
          [ inr e ↦ e | inl e ↦ absurd (both (ready t e) (rests.idle t)) ];
      empty = λ s lane hs. nothing s lane hs;
    }
      where
        both : {b : Bool} → b ≡ true → b ≡ false → ⊥
        both e i = cc

        sizes : (s : ℕ) (lane : Lane) → s < p.ranks → length (got (histories fs r) s lane) ≡ length
            (sent_by (system_of p inputs l) (histories fs) s r lane)
        sizes s Request hs =
            sym (length-map' to_came (got (histories fs r) s Request)) ∙ sym (ap length (same_asks s r))
            ∙ ap (λ (ms : List Sent). length (map to_came ms)) (rests.empty s Request hs)
            ∙ ap length (same_requests s r hs) ∙ length-map' to_came (sent_by (system_of p inputs l) (histories fs) s r Request)
        sizes s Answer hs = sym (same_told s r) ∙ ap length (rests.empty s Answer hs) ∙ same_answers s r hs

        nothing : (s : ℕ) (lane : Lane) → s < p.ranks → got (histories fs r) s lane ≡ sent_by (system_of p inputs l) (histories fs) s r lane
        nothing s lane hs =
            let f = front_of l fs other s r lane in
            let a = sizes s lane hs in
            let b = ap length f.1 in
            let c = length-append (got (histories fs r) s lane) f.0 in
            sym (append-nil (got (histories fs r) s lane)) ∙ ap (λ v. got (histories fs r) s lane ++ v)
            (sym (nil_from_length f.0 (omega (arith, a, b, c)))) ∙ f.1

  -- ---- the same moves under other slots
  pub record Translated (k l : ℕ → Slots) (lists : Lists) (es : List Move) : Type 0 where
    pub moves : List Move
    pub made : Made l moves
    pub alike : Alike es moves
    pub listed : AreListed lists moves

  next-alike : (lists : Lists) (es fs : List Move) → Alike es fs → (r : ℕ) (e f : Local) → bare e ≡ bare f →
      IsNext lists (histories es) r (listed e) → IsNext lists (histories fs) r (listed f)
  next-alike lists es fs same r e f q n = (
    n.0,
    ap₂ (λ v x. v ++ x ∷ n.0)
        (all_listed (histories fs r) ∙ ap (map listed_of) (sym (same r)) ∙ sym (all_listed (histories es r)))
        (listed-bare f ∙ ap listed_of (sym q) ∙ sym (listed-bare e))
        ∙ n.1,
  )

  pub translated : (k l : ℕ → Slots) (lists : Lists) (es : List Move) → Made k es → AreListed lists es → Translated k l lists es
  translated k l lists [] made listed = record { moves = []; made = tt; alike = λ r. refl; listed = tt }
  translated k l lists (e ∷ es) made listed = more (translated k l lists es made.0 listed.0)
    where
      more : Translated k l lists es → Translated k l lists (e ∷ es)
      more t =
          let w = likewise k l es t.moves made.0 t.made t.alike e.rank e.step made.1 made.2 in
          record {
            moves = record { rank = e.rank; step = w.step } ∷ t.moves;
            made = (t.made, made.1, w.may);
            alike = λ r. grown r (e.rank == r) w.step w.alike (t.alike r);
            listed = (t.listed, next-alike lists es t.moves t.alike e.rank e.step w.step w.alike listed.1);
          }
        where
          grown : (r : ℕ) (b : Bool) (x : Local) → bare e.step ≡ bare x → bares (histories es r) ≡ bares (histories t.moves r)
              → bares (cond b (histories es r ++ e.step ∷ []) (histories es r)) ≡ bares
              (cond b (histories t.moves r ++ x ∷ []) (histories t.moves r))
          grown r true x q h = map-append bare (histories es r) (e.step ∷ []) ∙ ap₂ (λ v y. v ++ y ∷ []) h q
              ∙ sym (map-append bare (histories t.moves r) (x ∷ []))
          grown r false x q h = h

  -- ---- so the verdict is the same
  pub slotless : (k l : ℕ → Slots) (lists : Lists) (v : Verdict) → IsVerdict (system_of p inputs k) lists v →
      IsVerdict (system_of p inputs l) lists v
  slotless k l lists v x = record {
    moves = t.moves;
    taken = record { made = t.made; listed = t.listed; stuck = stuck };
    says = says v x.says;
  }
    where
      t : Translated k l lists x.moves
      t = translated k l lists x.moves x.taken.made x.taken.listed

      back : Alike t.moves x.moves
      back r = sym (t.alike r)

      stuck : (r : ℕ) → r < p.ranks → IsStuckAt (system_of p inputs l) lists (histories t.moves) r
      stuck r h e next may =
          let w = likewise l k t.moves x.moves t.made x.taken.made back r e h may in
          x.taken.stuck r h w.step (next-alike lists t.moves x.moves back r e w.step w.alike next) w.may

      words : (r : ℕ) → map listed (histories t.moves r) ≡ map listed (histories x.moves r)
      words r = same_listed l k t.moves x.moves t.made x.taken.made back r

      there : (r : ℕ) → r < p.ranks → Rests (system_of p inputs k) (histories x.moves) r →
          Rests (system_of p inputs l) (histories t.moves) r
      there r h rests = rests_too k l x.moves t.moves x.taken.made t.made t.alike r h back
          (λ n e. same_ready l k t.moves x.moves t.made x.taken.made back r n h e) rests

      here : (r : ℕ) → r < p.ranks → Rests (system_of p inputs l) (histories t.moves) r → Rests (system_of p inputs k) (histories x.moves) r
      here r h rests = rests_too l k t.moves x.moves t.made x.taken.made back r h t.alike
          (λ n e. same_ready k l x.moves t.moves x.taken.made t.made t.alike r n h e) rests

      size : (r : ℕ) → length (histories x.moves r) ≡ length (histories t.moves r)
      size r = sym (length-map' listed (histories x.moves r)) ∙ sym (ap length (words r)) ∙ length-map' listed (histories t.moves r)

      says : (v : Verdict) → Says (system_of p inputs k) lists (histories x.moves) v →
          Says (system_of p inputs l) lists (histories t.moves) v
      says Holds a = λ r h. (words r ∙ (a r h).0, there r h (a r h).1)
      says (Fails r place cause) a = (
        a.0,
        a.1 ∙ ap (λ n. n + 1) (size r),
        elim a.2 [
          | inl s ↦ inl (
            s.0,
            record {
              lower = λ q h. words q ∙ s.1.lower q h;
              next =
                  (s.1.next.0, ap (λ v. v ++ s.0 ∷ s.1.next.0) (words r) ∙ s.1.next.1);
            },
            s.2,
          )
          | inr s ↦ inr (
            record {
              whole = λ q h. words q ∙ s.0.whole q h;
              lower = λ q h. let k = a.0 in there q (omega (arith, h, k)) (s.0.lower q h);
              restless = λ rests. s.0.restless (here r a.0 rests);
            },
            s.1,
          )
        ],
      )
