-- Steps one after the other, and each kind of step.
use Rattle.std.proofs.Common.{ℕ, zero, suc, Bool, true, false, not, cond, ◌&&◌, ◌≡◌, ◌+◌, ◌-◌, ◌<◌, ◌≤◌, ◌==◌, List, [], ◌∷◌, ◌++◌}
use Rattle.std.proofs.Common.{Result, Ok, Err, length, refl, sym, ap, ap₂, ◌∙◌, subst, arith}
use Rattle.std.proofs.Common.{append_assoc, count_by, length-append, get_or, eqb-true, inl, inr, Option}
use Rattle.std.proofs.Common.{get_or-set_other, get_or-set_same, length-set}
use Rattle.std.specs.Result.{OnOk}
use Rattle.std.proofs.lemmas.Bool.{cases_Bool, eqb-false, ne_eqb}
use Rattle.std.proofs.lemmas.List.Elements.{filter-append}
use Rattle.std.proofs.lemmas.Grind.{flat_map-append}
use Rattle.std.proofs.lemmas.List.{append-nil}
use Rattle.std.proofs.lemmas.List.Sums.{sum_by-append}
use Rattle.ptl_types.specs.Kinds.{lane_of}
use Rattle.ptl_types.specs.Messages.{Sent}
use Rattle.ptl_types.specs.declared.headers.Lane.{Lane}
use Rattle.ptl_types.specs.declared.headers.Lane.TheVariants.{Request, Answer}
use Rattle.port_io.specs.Ends.{Outflow}
use Rattle.run_text.specs.Putting.{Takes}
use Rattle.run_text.proofs.Taking.{Rose-later, Takes-none, Takes-then, Takes-more}
use Rattle.cuts.specs.histories.Cut.{is_stray, owned}
use Rattle.cuts.specs.histories.History.{Local, and_then, got, is_start, made, made_by, same_lane, state}
use Rattle.cuts.specs.histories.History.Local.{Start, Receive, Fire}
use Rattle.cuts.proofs.histories.Fronts.{got-append, made-append, state-append}
use Rattle.rank_node.specs.Copies.{Diary, bytes_received}
use Rattle.rank_node.specs.Node.{IsStarted, start_of}
use Rattle.rank_frames.specs.Due.{Dues, due_on, messages_due, with_taken}
use Rattle.message_codec.specs.Encoding.{encoding}
use Rattle.rank_frames.specs.Frames.{frame, frames_for, frames_of, given}
use Rattle.rank_frames.specs.Going.{Fails, Goes, GoesOn, HasGone, Wants, Writes}
use Rattle.rank_frames.specs.Place.{PlaceState, fired_place, frames_left, is_new, received_place}
use Rattle.rank_frames.specs.declared.fault.Stop.{Stop}
use Rattle.rank_frames.specs.declared.fault.Stop.TheVariants.{Read, Write, NoMemory, Frame}

-- ---- none, and one after the other

pub gone-none : (p : PlaceState) → HasGone p p [] []
gone-none p = record {
  me = refl;
  task = refl;
  locals = sym (append-nil p.node.diary.locals);
  slots = λ k a. a;
  nic = λ k a. refl;
  made = λ k a. refl;
  ranks = refl;
  lanes = λ s lane. omega arith;
  bytes = omega arith;
  clean = λ s lane. refl;
}

-- the bytes of all that is received
received-append : (es fs : List Local) → bytes_received (es ++ fs) ≡ bytes_received es + bytes_received fs
received-append [] fs = omega arith
received-append (Start ∷ es) fs = received-append es fs
received-append (Receive s lane m ∷ es) fs = let h = received-append es fs in omega arith
received-append (Fire t ∷ es) fs = received-append es fs

pub gone-then : (p q r : PlaceState) (es fs : List Local) (ms ns : List Sent) → HasGone p q es ms → HasGone q r fs ns
    → HasGone p r (es ++ fs) (ms ++ ns)
gone-then p q r es fs ms ns g h = record {
  me = h.me ∙ g.me;
  task = h.task ∙ g.task;
  locals = h.locals ∙ ap (λ (l : List Local). l ++ fs) g.locals ∙ append_assoc p.node.diary.locals es fs;
  slots = λ k a. g.slots k (h.slots k a);
  nic = λ k a.
      h.nic k a ∙ ap₂ (λ t v. state (start_of t k) v fs) g.task (g.nic k (h.slots k a))
      ∙ sym (state-append (start_of p.node.task k) p.node.nic es fs);
  made = λ k a.
      made-append (start_of p.node.task k) p.node.nic es fs
      ∙ ap₂ (λ (xs ys : List Sent). xs ++ ys) (g.made k (h.slots k a))
      (ap₂ (λ t v. made (start_of t k) v fs) (sym g.task) (sym (g.nic k (h.slots k a))) ∙ h.made k a);
  ranks = h.ranks ∙ g.ranks;
  lanes = λ s lane.
      let a = g.lanes s lane in
      let b = h.lanes s lane in
      let c : length (got (es ++ fs) s lane) ≡ length (got es s lane) + length (got fs s lane) =
      ap (λ (l : List Sent). length l) (got-append es fs s lane) ∙ length-append (got es s lane) (got fs s lane) in
      omega arith;
  bytes =
      let a = g.bytes in
      let b = h.bytes in
      let c = received-append es fs in
      omega arith;
  clean = λ s lane.
      ap owned (got-append es fs s lane) ∙ filter-append (λ m. not (is_stray m)) (got es s lane) (got fs s lane)
      ∙ ap₂ (λ (xs ys : List Sent). xs ++ ys) (g.clean s lane) (h.clean s lane) ∙ sym (got-append es fs s lane);
}

-- ---- each kind of step

pub gone-fire : (p : PlaceState) (t : ℕ) → HasGone p (fired_place t p) (Fire t ∷ []) (and_then (made_by p.node.nic (Fire t)) [])
gone-fire p t = record {
  me = refl;
  task = refl;
  locals = refl;
  slots = λ k a. a;
  nic = λ k a. refl;
  made = λ k a. refl;
  ranks = refl;
  lanes = λ s lane. omega arith;
  bytes = omega arith;
  clean = λ s lane. refl;
}

pub gone-start : (p q : PlaceState) → IsStarted p.node q.node → q.me ≡ p.me → q.due ≡ p.due → HasGone p q (Start ∷ []) []
gone-start p q st me due = record {
  me = me;
  task = st.task;
  locals = ap (λ (d : Diary). d.locals) st.diary;
  slots = st.slots;
  nic = st.nic;
  made = λ k a. refl;
  ranks = ap (λ (d : Dues). length d.requests) due;
  lanes = λ s lane. let same = ap (λ (d : Dues). due_on d s lane) due in omega arith;
  bytes = let same = ap (λ (d : Dues). d.bytes) due in omega arith;
  clean = λ s lane. refl;
}

-- one less at its place
less-here : (xs : List ℕ) (s : ℕ) → 0 < get_or xs s 0 → s < length xs
less-here [] s some = absurd (omega arith)
less-here (x ∷ xs) zero some = omega arith
less-here (x ∷ xs) (suc s) some = let h = less-here xs s some in omega arith

lanes-same : (a b : Lane) → same_lane a b ≡ true → a ≡ b
lanes-same Request Request e = refl
lanes-same Request Answer e = absurd cc
lanes-same Answer Request e = absurd cc
lanes-same Answer Answer e = refl

less-same : (d : Dues) (source : ℕ) (lane : Lane) (n : ℕ) → 0 < due_on d source lane
    → due_on (with_taken d source lane n) source lane + 1 ≡ due_on d source lane
less-same d source Request n some =
    let e = get_or-set_same d.requests source (get_or d.requests source 0 - 1) 0 (less-here d.requests source some) in
    omega arith
less-same d source Answer n some =
    let e = get_or-set_same d.answers source (get_or d.answers source 0 - 1) 0 (less-here d.answers source some) in
    omega arith

less-other_rank : (d : Dues) (source : ℕ) (lane : Lane) (n s : ℕ) (l : Lane) → (source ≡ s → ⊥)
    → due_on (with_taken d source lane n) s l ≡ due_on d s l
less-other_rank d source Request n s Request ne = get_or-set_other d.requests source s (get_or d.requests source 0 - 1) 0 (λ e. ne (sym e))
less-other_rank d source Request n s Answer ne = refl
less-other_rank d source Answer n s Request ne = refl
less-other_rank d source Answer n s Answer ne = get_or-set_other d.answers source s (get_or d.answers source 0 - 1) 0 (λ e. ne (sym e))

less-other_lane : (d : Dues) (source : ℕ) (lane : Lane) (n s : ℕ) (l : Lane) → same_lane lane l ≡ false
    → due_on (with_taken d source lane n) s l ≡ due_on d s l
less-other_lane d source Request n s Request e = absurd cc
less-other_lane d source Request n s Answer e = refl
less-other_lane d source Answer n s Request e = refl
less-other_lane d source Answer n s Answer e = absurd cc

less-ranks : (d : Dues) (source : ℕ) (lane : Lane) (n : ℕ) → length (with_taken d source lane n).requests ≡ length d.requests
less-ranks d source Request n = length-set d.requests source (get_or d.requests source 0 - 1)
less-ranks d source Answer n = refl

taken-lanes : (d : Dues) (source : ℕ) (lane : Lane) (n : ℕ) (m : Sent) (s : ℕ) (l : Lane) → 0 < due_on d source lane
    → due_on (with_taken d source lane n) s l + length (got (Receive source lane m ∷ []) s l) ≡ due_on d s l
taken-lanes d source lane n m s l some =
    elim (cases_Bool (source == s)) [
      | inl same ↦ elim (cases_Bool (same_lane lane l)) [
        | inl on ↦
            let a : source ≡ s = eqb-true source s same in
            let b : lane ≡ l = lanes-same lane l on in
            let c = less-same d source lane n some in
            let e : due_on (with_taken d source lane n) s l + 1 ≡ due_on d s l =
            subst (λ x. due_on (with_taken d source lane n) x l + 1 ≡ due_on d x l) a
            (subst (λ x. due_on (with_taken d source lane n) source x + 1 ≡ due_on d source x) b c) in
            rw (same, on) e
        | inr off ↦
            let e = less-other_lane d source lane n s l off in
            rw (same, off) (omega arith)
      ]
      | inr other ↦
          let ne : source ≡ s → ⊥ = eqb-false source s other in
          let e = less-other_rank d source lane n s l ne in
          rw other (omega arith)
    ]

taken-bytes : (d : Dues) (source : ℕ) (lane : Lane) (n : ℕ) → n ≤ d.bytes → (with_taken d source lane n).bytes + n ≡ d.bytes
taken-bytes d source Request n le = omega arith
taken-bytes d source Answer n le = omega arith

received-clean : (source : ℕ) (lane : Lane) (m : Sent) (s : ℕ) (l : Lane) → is_stray m ≡ false
    → owned (got (Receive source lane m ∷ []) s l) ≡ got (Receive source lane m ∷ []) s l
received-clean source lane m s l own = at ((source == s) && same_lane lane l)
  where
    at : (b : Bool) → owned (cond b (m ∷ []) []) ≡ cond b (m ∷ []) []
    at true = rw own refl
    at false = refl

pub gone-receive : (p : PlaceState) (source : ℕ) (m : Sent) → 0 < due_on p.due source (lane_of m.header.kind) → is_stray m ≡ false
    → length m.bytes ≤ p.due.bytes → HasGone p (received_place source m p) (Receive source (lane_of m.header.kind) m ∷ [])
    (and_then (made_by p.node.nic (Receive source (lane_of m.header.kind) m)) [])
gone-receive p source m some own fits = record {
  me = refl;
  task = refl;
  locals = refl;
  slots = λ k a. a;
  nic = λ k a. refl;
  made = λ k a. refl;
  ranks = less-ranks p.due source (lane_of m.header.kind) (length m.bytes);
  lanes = λ s l. taken-lanes p.due source (lane_of m.header.kind) (length m.bytes) m s l some;
  bytes = let e = taken-bytes p.due source (lane_of m.header.kind) (length m.bytes) fits in omega arith;
  clean = λ s l. received-clean source (lane_of m.header.kind) m s l own;
}

-- ---- going on

pub goes-none : (p : PlaceState) (o : Outflow) → GoesOn p p o o [] []
goes-none p o = record { steps = []; messages = []; gone = gone-none p; fed = refl; text = Takes-none o [] }

pub goes-then : (p q r : PlaceState) (a b c : Outflow) (xs ys rest : List ℕ) → GoesOn p q a b xs [] → GoesOn q r b c ys rest
    → GoesOn p r a c (xs ++ ys) rest
goes-then p q r a b c xs ys rest g h = record {
  steps = g.steps ++ h.steps;
  messages = g.messages ++ h.messages;
  gone = gone-then p q r g.steps h.steps g.messages h.messages g.gone h.gone;
  fed = flat_map-append given g.steps h.steps ∙ ap₂ (λ (u v : List ℕ). u ++ v) g.fed h.fed;
  text =
      let whole : frames_of (g.messages ++ h.messages) ≡ frames_of g.messages ++ frames_of h.messages =
      flat_map-append (λ (m : Sent). frame m.header.target (encoding m)) g.messages h.messages in
      subst (λ text. Takes a c text rest) (sym whole)
      (Takes-then a b c (frames_of g.messages ++ frames_of h.messages) (frames_of h.messages) rest
      (Takes-more a b (frames_of g.messages) [] (frames_of h.messages) g.text) h.text);
}

-- the sink failed later on
pub fails-then : (p q r : PlaceState) (a b c : Outflow) (xs ys : List ℕ) → GoesOn p q a b xs [] → Fails q r b c ys
    → Fails p r a c (xs ++ ys)
fails-then p q r a b c xs ys g h = record {
  rest = h.rest;
  on = goes-then p q r a b c xs ys h.rest g h.on;
  rose = Rose-later a.faults b.faults c.faults g.text.faults h.rose;
}

-- later on there was no memory
pub wants-then : (p q r : PlaceState) (a b c : Outflow) (xs ys : List ℕ) → GoesOn p q a b xs [] → Wants q r b c ys
    → Wants p r a c (xs ++ ys)
wants-then p q r a b c xs ys g h = record {
  unsent = h.unsent;
  on = goes-then p q r a b c xs ys (frames_of (and_then h.unsent [])) g h.on;
}

-- steps that were made, and what was written of their message
pub step-goes : (p q : PlaceState) (es : List Local) (o : Option Sent) (bytes : List ℕ) (r : Result (Unit {0}) Stop) (a b : Outflow)
    → HasGone p q es (and_then o []) → frames_for es ≡ bytes → Writes r a b (frames_of (and_then o [])) → Goes r p q a b bytes
step-goes p q es o bytes (Ok done) a b gone fed text =
    record { steps = es; messages = and_then o []; gone = gone; fed = fed; text = text }
step-goes p q es o bytes (Err Write) a b gone fed fails = record {
  rest = fails.rest;
  on = record { steps = es; messages = and_then o []; gone = gone; fed = fed; text = fails.begun };
  rose = fails.rose;
}
step-goes p q es o bytes (Err NoMemory) a b gone fed same =
    let text = frames_of (and_then o []) in
    record {
      unsent = o;
      on = record {
        steps = es;
        messages = and_then o [];
        gone = gone;
        fed = fed;
        text = subst (λ x. Takes a x text text) (sym same) (Takes-none a text);
      };
    }
step-goes p q es o bytes (Err Read) a b gone fed none = absurd none
step-goes p q es o bytes (Err (Frame fault)) a b gone fed none = absurd none

-- then more
pub goes-on : (p q s : PlaceState) (a b c : Outflow) (xs ys : List ℕ) (r : Result (Unit {0}) Stop)
    → GoesOn p q a b xs [] → Goes r q s b c ys
    → Goes r p s a c (xs ++ ys)
goes-on p q s a b c xs ys (Ok done) g h = goes-then p q s a b c xs ys [] g h
goes-on p q s a b c xs ys (Err Write) g h = fails-then p q s a b c xs ys g h
goes-on p q s a b c xs ys (Err NoMemory) g h = wants-then p q s a b c xs ys g h
goes-on p q s a b c xs ys (Err Read) g none = absurd none
goes-on p q s a b c xs ys (Err (Frame fault)) g none = absurd none

-- ---- how many frames are left

-- of what there was more of nothing there is less than nothing
fewer-new : (m n : ℕ) → m ≤ n → cond (n == 0) 1 0 ≤ cond (m == 0) 1 0
fewer-new m n h = elim (cases_Bool (n == 0)) [
  | inl none ↦ (let e = eqb-true n 0 none in let z : m ≡ 0 = omega (arith, h, e) in rw (z, none) (omega arith))
  | inr some ↦ rw some (omega arith)
]

-- who has started stays so
pub no-newer : (p q : PlaceState) (es : List Local) (ms : List Sent) → HasGone p q es ms
    → cond (is_new q) 1 0 ≤ cond (is_new p) 1 0
no-newer p q es ms gone =
    let before = p.node.diary.locals in
    let more : count_by is_start q.node.diary.locals ≡ count_by is_start before + count_by is_start es =
    ap (λ (l : List Local). count_by is_start l) gone.locals ∙ sum_by-append (λ (e : Local). cond (is_start e) 1 0) before es in
    fewer-new (count_by is_start before) (count_by is_start q.node.diary.locals) (omega (arith, more))

-- a start, and what was fired then
pub start-fewer : (p q s : PlaceState) (es : List Local) (ms : List Sent) → IsStarted p.node q.node → q.due ≡ p.due
    → count_by is_start p.node.diary.locals ≡ 0 → HasGone q s es ms → s.due ≡ q.due → frames_left s < frames_left p
start-fewer p q s es ms st due none gone same =
    let started : count_by is_start q.node.diary.locals ≡ count_by is_start p.node.diary.locals + 1 =
    ap (λ (d : Diary). count_by is_start d.locals) st.diary ∙ sum_by-append (λ (e : Local). cond (is_start e) 1 0) p.node.diary.locals
    (Start ∷ []) in
    let old : is_new p ≡ true = ap (λ n. n == 0) none in
    let begun : is_new q ≡ false = ne_eqb (count_by is_start q.node.diary.locals) 0 (λ e. omega (arith, e, started)) in
    let later = no-newer q s es ms gone in
    let few : cond (is_new q) 1 0 ≡ 0 = ap {B = ℕ} (λ b. cond b 1 0) begun in
    let one : cond (is_new p) 1 0 ≡ 1 = ap {B = ℕ} (λ b. cond b 1 0) old in
    let all : messages_due s.due ≡ messages_due p.due = ap (λ (d : Dues). messages_due d) (same ∙ due) in
    omega (arith, later, few, one, all)

-- a receipt, and what was fired then
follow-fewer : (p q : PlaceState) (es : List Local) (ms : List Sent) → HasGone p q es ms
    → messages_due q.due + 1 ≡ messages_due p.due → frames_left q < frames_left p
follow-fewer p q es ms gone less = let later = no-newer p q es ms gone in omega (arith, later, less)

pub all-fewer : (r : Result (Unit {0}) Stop) (p q s : PlaceState) (b c : Outflow) (ys : List ℕ) (es : List Local) (ms : List Sent)
    → HasGone p q es ms → messages_due q.due + 1 ≡ messages_due p.due → Goes r q s b c ys → s.due ≡ q.due
    → OnOk r (frames_left s < frames_left p)
all-fewer (Ok done) p q s b c ys es ms gone less went same =
    let all : messages_due s.due ≡ messages_due q.due = ap (λ (d : Dues). messages_due d) same in
    follow-fewer p s (es ++ went.steps) (ms ++ went.messages) (gone-then p q s es went.steps ms went.messages gone went.gone)
    (omega (arith, all, less))
all-fewer (Err e) p q s b c ys es ms gone less went same = tt
