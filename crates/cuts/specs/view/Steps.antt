-- The steps of an installed interface: which messages come to it, and what its operations send.
use Rattle.std.specs.Prelude.{ℕ, false, ◌≡◌, ◌<◌, ◌/◌, ◌%◌, ◌^◌, ◌==◌, Option, Some, None, length, if◌then◌else◌}
use Rattle.ptl_types.specs.declared.headers.Header.{Header}
use Rattle.ptl_types.specs.declared.headers.MessageKind.TheVariants.{Ack as AckKind}
use Rattle.ptl_types.specs.declared.headers.AckRequest.TheVariants.{CtAck}
use Rattle.ptl_types.specs.Matching.{is_match}
use Rattle.ptl_types.specs.Messages.{Sent}
use Rattle.ni_model.specs.declared.Linked.{Linked}
use Rattle.plan_core.specs.Members.{In}
use Rattle.plan_core.specs.Plan.{Plan, cell, link, is_bump}
use Rattle.plan_core.specs.Values.{Inputs, initial}
use Rattle.cuts.specs.machine.Seen.{Seen, content}
use Rattle.plan_core.specs.calls.RankOps.{RankOp}
use Rattle.plan_core.specs.calls.RankOps.RankOp.{ForLink, ForDone}
use Rattle.cuts.specs.machine.Machine.{sending}
use Rattle.cuts.specs.view.View.{Annex}
use Rattle.cuts.specs.view.Slots.{Slots, the_md}
use Rattle.cuts.specs.view.TriggeredOps.{link_message}

-- the message that an operation makes
abbrev pub sent_message : Plan → Inputs → Slots → Seen → RankOp → Option Sent
sent_message p inputs s g (ForLink l) = if is_bump (link p l).kind then None else Some (link_message p s l (sending p inputs g l).bytes)
sent_message p inputs s g (ForDone c) = None

-- each cell has its length
abbrev pub Sized : Plan → Inputs → Seen → Type 0
Sized p inputs g = (d : ℕ) → d < length p.cells → length (content p g.came d (initial p inputs d)) ≡ (cell p d).length

-- link l comes to rank r, and isn't a Bump
pub record IsLinkHere (p : Plan) (r l : ℕ) : Type 0 where
  pub known : l < length p.links
  pub sends : is_bump (link p l).kind ≡ false
  pub here : (cell p (link p l).target).rank ≡ r

-- an acknowledgement of an operation of this rank
pub record IsAckHere (s : Slots) (m : Sent) : Type 0 where
  pub kind : m.header.kind ≡ AckKind
  pub home : m.header.home ≡ Some (the_md s)
  pub answered : m.header.ack ≡ CtAck

-- the overflow entries match messages of this job alone
pub record IsQuiet (annex : Annex) : Type 0 where
  pub ours : (x : Linked) → In x annex.before → (m : Header) → (m.match_bits / 2 ^ 48 % 2 ^ 16 == 1) ≡ false → is_match x.entry m ≡ false
