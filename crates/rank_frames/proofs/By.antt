-- Frames one after the other.
use Rattle.std.proofs.Common.{refl, ℕ, Bool, true, false, ◌+◌, ◌<◌, ◌≤◌, ◌≡◌, ◌==◌, ◌&&◌, List, [], ◌++◌, Option, Some, None}
use Rattle.std.proofs.Common.{Result, Ok, Err, length, ap}
use Rattle.std.proofs.Common.{append_assoc, arith, count_by, inl, inr, length-append, nat_lt, ◌∙◌, sym, subst}
use Rattle.std.proofs.lemmas.Bool.{lt-ltb}
use Rattle.std.proofs.lemmas.List.{append-nil}
use Rattle.std.specs.Result.{OnOk}
use Rattle.port_io.specs.Ends.{GivesFront, Inflow, IsAtEnd, Outflow}
use Rattle.run_text.proofs.Taking.{Rose-later}
use Rattle.ptl_types.specs.Messages.{Sent}
use Rattle.cuts.specs.histories.History.{is_start}
use Rattle.message_codec.specs.Reading.{reading}
use Rattle.message_codec.specs.declared.fault.Fault.{Fault}
use Rattle.rank_frames.specs.Due.{messages_due}
use Rattle.rank_frames.specs.Frames.{IsPart, Lacks, LacksRoom, RunsDry, frame, head}
use Rattle.rank_frames.specs.Going.{Goes, GoesBy, HasStarted, IsIdle, IsOver, StopsBy, TakesFrames}
use Rattle.rank_frames.specs.Place.{PlaceState, Refuses, RefusesHead, fault_of_head}
use Rattle.rank_frames.specs.declared.fault.Stop.{Stop}
use Rattle.rank_frames.specs.declared.fault.Stop.TheVariants.{Read, Write, NoMemory, Frame}
use Rattle.rank_frames.proofs.Gone.{fails-then, goes-none, goes-then, wants-then}

-- ---- what a source gives
pub front-none : (told : Option (List ℕ)) → GivesFront told told []
front-none None = refl
front-none (Some left) = refl

pub front-then : (a b c : Option (List ℕ)) (xs ys : List ℕ) → GivesFront a b xs → GivesFront b c ys → GivesFront a c (xs ++ ys)
front-then None None c xs ys first then = then
front-then None (Some left) c xs ys first then = absurd (cc)
front-then (Some rest) None c xs ys first then = absurd first
front-then (Some rest) (Some left) None xs ys first then = absurd then
front-then (Some rest) (Some left) (Some last) xs ys first then = first ∙ (ap (λ zs. xs ++ zs) then ∙ sym (append_assoc xs ys last))

-- where nothing is left, nothing is left later
pub still-end : (a b : Option (List ℕ)) → IsAtEnd a → GivesFront a b [] → IsAtEnd b
still-end None b over front = subst IsAtEnd (sym front) tt
still-end (Some rest) None over front = absurd front
still-end (Some rest) (Some left) over front = sym front ∙ over

-- ---- a source that runs dry

dry-more : (x y : Inflow) (P Q : List ℕ → Type 0) → ((l : List ℕ) → P l → Q l) → RunsDry x y P → RunsDry x y Q
dry-more x y P Q more (inl rose) = inl rose
dry-more x y P Q more (inr e) = inr (record { bytes = e.bytes; front = e.front; at_end = e.at_end; so = more e.bytes e.so })

dry-then : (x y z : Inflow) (xs : List ℕ) (P Q : List ℕ → Type 0) → GivesFront x.left y.left xs → x.faults ≤ y.faults
    → ((l : List ℕ) → P l → Q (xs ++ l)) → RunsDry y z P → RunsDry x z Q
dry-then x y z xs P Q front faults more (inl rose) = inl (Rose-later x.faults y.faults z.faults faults rose)
dry-then x y z xs P Q front faults more (inr e) = inr (record {
  bytes = xs ++ e.bytes;
  front = front-then x.left y.left z.left xs e.bytes front e.front;
  at_end = e.at_end;
  so = more e.bytes e.so;
})

pub lacks-more : (e : Stop) (x y : Inflow) (n m : ℕ) → n ≤ m → Lacks e x y n → Lacks e x y m
lacks-more Read x y n m fits dry = dry-more x y (λ l. length l < n) (λ l. length l < m) (λ l h. omega (arith, h, fits)) dry
lacks-more Write x y n m fits none = absurd none
lacks-more NoMemory x y n m fits none = absurd none
lacks-more (Frame fault) x y n m fits none = absurd none

pub lacks-then : (e : Stop) (x y z : Inflow) (xs : List ℕ) (n m : ℕ) → GivesFront x.left y.left xs → x.faults ≤ y.faults
    → length xs + n ≤ m → Lacks e y z n → Lacks e x z m
lacks-then Read x y z xs n m front faults fits dry =
    dry-then x y z xs (λ l. length l < n) (λ l. length l < m) front faults
    (λ l h. let e = length-append xs l in omega (arith, e, h, fits)) dry
lacks-then Write x y z xs n m front faults fits none = absurd none
lacks-then NoMemory x y z xs n m front faults fits none = absurd none
lacks-then (Frame fault) x y z xs n m front faults fits none = absurd none

-- a source that gives no whole head, or not all bytes behind one, gives a part of a frame
pub head-part : (x y : Inflow) → RunsDry x y (λ l. length l < 8) → RunsDry x y IsPart
head-part x y dry = dry-more x y (λ l. length l < 8) IsPart (λ l h. inl h) dry

pub bytes-part : (x y z : Inflow) (rank count : ℕ) → GivesFront x.left y.left (head rank count) → x.faults ≤ y.faults
    → RunsDry y z (λ l. length l < count) → RunsDry x z IsPart
bytes-part x y z rank count front faults dry =
    dry-then x y z (head rank count) (λ l. length l < count) IsPart front faults
    (λ l h. inr (record { rank = rank; count = count; behind = l; is = refl; fewer = h })) dry

-- ---- one frame

-- what is waited for is a part of a frame behind these bytes
abbrev waiting : List ℕ → List ℕ → Type 0
waiting bytes given = (part : List ℕ) × (given ≡ bytes ++ part) × IsPart part

-- no whole head came
pub head-lacks : (e : Stop) (p : PlaceState) (x y : Inflow) (o : Outflow) → (HasStarted p → IsIdle p) → (IsOver p → ⊥) → Lacks e x y 8
    → StopsBy e p p x y o o
head-lacks Read p x y o idle waits dry = record {
  bytes = [];
  on = goes-none p o;
  idle = idle;
  waits = waits;
  dry = dry-more x y IsPart (waiting []) (λ l h. (l, refl, h)) (head-part x y dry);
}
head-lacks Write p x y o idle waits none = absurd none
head-lacks NoMemory p x y o idle waits none = absurd none
head-lacks (Frame fault) p x y o idle waits none = absurd none

-- not all bytes behind a head came, or there was no room for them
pub bytes-lack : (e : Stop) (p : PlaceState) (x y z : Inflow) (o : Outflow) (s n : ℕ) → (HasStarted p → IsIdle p) → (IsOver p → ⊥)
    → GivesFront x.left y.left (head s n) → x.faults ≤ y.faults → LacksRoom e y z n → StopsBy e p p x z o o
bytes-lack Read p x y z o s n idle waits front faults dry = record {
  bytes = [];
  on = goes-none p o;
  idle = idle;
  waits = waits;
  dry = dry-more x z IsPart (waiting []) (λ l h. (l, refl, h)) (bytes-part x y z s n front faults dry);
}
bytes-lack NoMemory p x y z o s n idle waits front faults same = record {
  bytes = [];
  wants = record { unsent = None; on = goes-none p o };
  part = head s n;
  front = subst (λ (w : Inflow). GivesFront x.left w.left (head s n)) (sym same) front;
}
bytes-lack Write p x y z o s n idle waits front faults none = absurd none
bytes-lack (Frame fault) p x y z o s n idle waits front faults none = absurd none

-- a frame whose head is refused
pub head-stops : (e : Stop) (p : PlaceState) (x y : Inflow) (o : Outflow) (s n : ℕ) → GivesFront x.left y.left (head s n)
    → RefusesHead e (fault_of_head p s n) → StopsBy e p p x y o o
head-stops Read p x y o s n front refused = absurd refused
head-stops Write p x y o s n front refused = absurd refused
head-stops NoMemory p x y o s n front refused = absurd refused
head-stops (Frame fault) p x y o s n front refused = record {
  bytes = [];
  on = goes-none p o;
  frame = head s n;
  front = front;
  is = inl (record { source = s; count = n; is = refl; refused = refused });
}

-- a frame whose bytes are refused, or there is no memory for its message
pub bytes-stop : (e : Stop) (p : PlaceState) (x y : Inflow) (o : Outflow) (s : ℕ) (xs : List ℕ) → GivesFront x.left y.left (frame s xs)
    → fault_of_head p s (length xs) ≡ None → Refuses p s e (reading xs) → StopsBy e p p x y o o
bytes-stop Read p x y o s xs front passes refused = absurd (never (reading xs) refused)
  where
    never : (read : Result Sent Fault) → Refuses p s Read read → ⊥
    never (Ok m) r = r
    never (Err f) r = r
bytes-stop Write p x y o s xs front passes refused = absurd (never (reading xs) refused)
  where
    never : (read : Result Sent Fault) → Refuses p s Write read → ⊥
    never (Ok m) r = r
    never (Err f) r = r
bytes-stop NoMemory p x y o s xs front passes refused =
    record { bytes = []; wants = record { unsent = None; on = goes-none p o }; part = frame s xs; front = front }
bytes-stop (Frame fault) p x y o s xs front passes refused = record {
  bytes = [];
  on = goes-none p o;
  frame = frame s xs;
  front = front;
  is = inr (record { source = s; behind = xs; is = refl; head_passes = passes; refused = refused });
}

-- it went on by a frame
pub frame-takes : (r : Result (Unit {0}) Stop) (p q : PlaceState) (x y : Inflow) (a b : Outflow) (bytes : List ℕ)
    → GivesFront x.left y.left bytes → x.faults ≤ y.faults → Goes r p q a b bytes → OnOk r (IsIdle q) → TakesFrames r p q x y a b
frame-takes (Ok done) p q x y a b bytes front faults went idle =
    record { bytes = bytes; on = went; front = front; faults = faults; idle = λ started. idle }
frame-takes (Err Write) p q x y a b bytes front faults went idle = record { bytes = bytes; fails = went; front = front }
frame-takes (Err NoMemory) p q x y a b bytes front faults went idle = record {
  bytes = bytes;
  wants = went;
  part = [];
  front = subst (λ (l : List ℕ). GivesFront x.left y.left l) (sym (append-nil bytes)) front;
}
frame-takes (Err Read) p q x y a b bytes front faults none idle = absurd none
frame-takes (Err (Frame fault)) p q x y a b bytes front faults none idle = absurd none

-- ---- frame after frame
pub by-none : (p : PlaceState) (x : Inflow) (o : Outflow) → (HasStarted p → IsIdle p) → GoesBy p p x x o o
by-none p x o idle = record { bytes = []; on = goes-none p o; front = front-none x.left; faults = omega arith; idle = idle }

pub by-then : (p q s : PlaceState) (x y z : Inflow) (a b c : Outflow) → GoesBy p q x y a b
    → GoesBy q s y z b c → GoesBy p s x z a c
by-then p q s x y z a b c g h = record {
  bytes = g.bytes ++ h.bytes;
  on = goes-then p q s a b c g.bytes h.bytes [] g.on h.on;
  front = front-then x.left y.left z.left g.bytes h.bytes g.front h.front;
  faults = let before = g.faults in let after = h.faults in omega (arith, before, after);
  idle = h.idle;
}

later-part : (xs ys : List ℕ) (l : List ℕ) → waiting ys l → waiting (xs ++ ys) (xs ++ l)
later-part xs ys l (part, is, short) = (part, ap (λ (v : List ℕ). xs ++ v) is ∙ sym (append_assoc xs ys part), short)

pub by-stops : (e : Stop) (p q s : PlaceState) (x y z : Inflow) (a b c : Outflow) → GoesBy p q x y a b → StopsBy e q s y z b c
    → StopsBy e p s x z a c
by-stops Read p q s x y z a b c g h = record {
  bytes = g.bytes ++ h.bytes;
  on = goes-then p q s a b c g.bytes h.bytes [] g.on h.on;
  idle = h.idle;
  waits = h.waits;
  dry = dry-then x y z g.bytes (waiting h.bytes) (waiting (g.bytes ++ h.bytes)) g.front g.faults (later-part g.bytes h.bytes) h.dry;
}
by-stops Write p q s x y z a b c g h = record {
  bytes = g.bytes ++ h.bytes;
  fails = fails-then p q s a b c g.bytes h.bytes g.on h.fails;
  front = front-then x.left y.left z.left g.bytes h.bytes g.front h.front;
}
by-stops NoMemory p q s x y z a b c g h = record {
  bytes = g.bytes ++ h.bytes;
  wants = wants-then p q s a b c g.bytes h.bytes g.on h.wants;
  part = h.part;
  front =
      subst (λ (l : List ℕ). GivesFront x.left z.left l) (sym (append_assoc g.bytes h.bytes h.part))
      (front-then x.left y.left z.left g.bytes (h.bytes ++ h.part) g.front h.front);
}
by-stops (Frame fault) p q s x y z a b c g h = record {
  bytes = g.bytes ++ h.bytes;
  on = goes-then p q s a b c g.bytes h.bytes [] g.on h.on;
  frame = h.frame;
  front =
      subst (λ (l : List ℕ). GivesFront x.left z.left l) (sym (append_assoc g.bytes h.bytes h.frame))
      (front-then x.left y.left z.left g.bytes (h.bytes ++ h.frame) g.front h.front);
  is = h.is;
}

-- who lacks something hasn't ended
pub not-over : (q : PlaceState) → (nat_lt 0 (count_by is_start q.node.diary.locals) && (messages_due q.due == 0)) ≡ false → IsOver q → ⊥
not-over q none over =
    both (nat_lt 0 (count_by is_start q.node.diary.locals)) (messages_due q.due == 0)
    (lt-ltb 0 (count_by is_start q.node.diary.locals) over.started) (ap (λ n. n == 0) over.none_due) none
  where
    both : (a b : Bool) → a ≡ true → b ≡ true → (a && b) ≡ false → ⊥
    both true true p q e = absurd (cc)
    both true false p q e = absurd (cc)
    both false b p q e = absurd (cc)
