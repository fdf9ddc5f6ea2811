-- What each step of a place comes to, with what was written of its message.
use Rattle.std.proofs.Common.{ℕ, ◌≡◌, List, [], ◌∷◌, Option, None, Result, refl, sym, ap, subst}
use Rattle.std.proofs.lemmas.List.{append-nil}
use Rattle.ptl_types.specs.Kinds.{lane_of}
use Rattle.ptl_types.specs.Messages.{Sent}
use Rattle.port_io.specs.Ends.{Outflow}
use Rattle.run_text.proofs.Taking.{Takes-none}
use Rattle.cuts.specs.histories.History.{Local, and_then, made_by}
use Rattle.cuts.specs.histories.History.Local.{Start, Receive, Fire}
use Rattle.rank_node.specs.Node.{IsStarted}
use Rattle.message_codec.specs.Encoding.{encoding}
use Rattle.rank_frames.specs.Frames.{frame, frames_of, mark}
use Rattle.rank_frames.specs.Going.{Goes, GoesOn, HasGone, Writes}
use Rattle.rank_frames.specs.Place.{PlaceState, fault_of, fired_place, received_place}
use Rattle.rank_frames.specs.declared.fault.Stop.{Stop}
use Rattle.rank_frames.proofs.Clear.{clear}
use Rattle.rank_frames.proofs.Gone.{gone-fire, gone-receive, gone-start, goes-on, step-goes}

-- the frames of one message are its frame
pub one-frame : (m : Sent) → frames_of (m ∷ []) ≡ frame m.header.target (encoding m)
one-frame m = append-nil (frame m.header.target (encoding m))

pub fire-goes : (p q : PlaceState) (t : ℕ) (o : Option Sent) (r : Result (Unit {0}) Stop) (a b : Outflow)
    → q ≡ fired_place t p → o ≡ made_by p.node.nic (Fire t) → Writes r a b (frames_of (and_then o [])) → Goes r p q a b []
fire-goes p q t o r a b step message text =
    let fires = λ (x : Option Sent). HasGone p (fired_place t p) (Fire t ∷ []) (and_then x []) in
    let made = subst fires (sym message) (gone-fire p t) in
    let gone = subst (λ (x : PlaceState). HasGone p x (Fire t ∷ []) (and_then o [])) (sym step) made in
    step-goes p q (Fire t ∷ []) o [] r a b gone refl text

pub start-goes : (p q : PlaceState) (a : Outflow) → IsStarted p.node q.node → q.me ≡ p.me → q.due ≡ p.due → GoesOn p q a a mark []
start-goes p q a st me due = record {
  steps = Start ∷ [];
  messages = [];
  gone = gone-start p q st me due;
  fed = refl;
  text = Takes-none a [];
}

pub receive-goes : (p q : PlaceState) (source : ℕ) (m : Sent) (o : Option Sent) (r : Result (Unit {0}) Stop) (a b : Outflow)
    → fault_of p source m ≡ None → q ≡ received_place source m p → o ≡ made_by p.node.nic (Receive source (lane_of m.header.kind) m)
    → Writes r a b (frames_of (and_then o [])) → Goes r p q a b (frame source (encoding m))
receive-goes p q source m o r a b none step message text =
    let is = clear p source m none in
    let es : List Local = Receive source (lane_of m.header.kind) m ∷ [] in
    let makes = λ (x : Option Sent). HasGone p (received_place source m p) es (and_then x []) in
    let made = subst makes (sym message) (gone-receive p source m is.due is.own is.bytes) in
    let gone = subst (λ (x : PlaceState). HasGone p x es (and_then o [])) (sym step) made in
    step-goes p q es o (frame source (encoding m)) r a b gone (append-nil (frame source (encoding m))) text

-- and what is ready then
pub then-all : (p q s : PlaceState) (a b c : Outflow) (xs : List ℕ) (r : Result (Unit {0}) Stop) → GoesOn p q a b xs [] → Goes r q s b c []
    → Goes r p s a c xs
then-all p q s a b c xs r g h = subst (λ ys. Goes r p s a c ys) (append-nil xs) (goes-on p q s a b c xs [] r g h)
