-- A slot goes onward.
use Rattle.std.proofs.Common.{append-nil, ◌≡◌, ◌++◌, ◌∷◌, [], ◌∙◌, ℕ, List, sym, ap, refl, subst}
use Rattle.std.specs.Prelude.{Option, Some, None}
use Rattle.ptl_types.specs.declared.steps.LocalStep.{LocalStep}
use Rattle.ptl_types.specs.declared.steps.LocalStep.TheVariants.{Start as Starts, Receive as Receives, Fire as Fires}
use Rattle.pair_wires.specs.Wires.{WireState}
use Rattle.cuts.specs.histories.History.Local.{Fire, Receive, Start}
use Rattle.rank_node.specs.Copies.{Diary}
use Rattle.rank_node.specs.Node.{NodeState}
use Rattle.rank_slots.specs.declared.gate.StartAnswer.{StartAnswer}
use Rattle.rank_slots.specs.declared.turn_rank.TurnRank.{TurnRank}
use Rattle.rank_slots.specs.Missing.{HasFlushed, MissedAt, ReceivedAt}
use Rattle.rank_slots.specs.Names.{IsWired, Plate, history, mark, plate}
use Rattle.rank_slots.specs.Chronicles.{KeepsHandles}
use Rattle.rank_slots.specs.Onward.{Onward, Stepped}
use Rattle.rank_slots.specs.Sound.{IsSound}
use Rattle.rank_slots.specs.Steps.{Begun, Grew}
use Rattle.rank_slots.proofs.Chronicles.{handles-after, keeps-still}
use Rattle.rank_slots.proofs.Pairs.{same_at}
use mathlib.Core.Option.{some}
use mathlib.Core.List.{IsPrefix}
use lib.ListN.{get_elem?}
use Rattle.ptl_types.specs.declared.headers.Lane.{Lane}
use Rattle.rank_slots.specs.declared.ports.InPort.{InPort}
use Rattle.rank_slots.specs.declared.gate.StartAnswer.TheVariants.{Started, AlreadyStarted}

pub longer-begun : (x y : TurnRank) (s : StartAnswer) → Begun s (mark x) (mark y) → IsPrefix (history x) (history y)
longer-begun x y Started b = (Start ∷ [], sym b.1)
longer-begun x y AlreadyStarted b = ([], append-nil (history x) ∙ sym b.1)

pub stepped-after : (e : Option LocalStep) (x y z : TurnRank) → history y ≡ history x → Stepped e (mark y) (mark z)
    → Stepped e (mark x) (mark z)
stepped-after None x y z same s = s ∙ same
stepped-after (Some step) x y z same s = (s.0, s.1, s.2 ∙ ap (λ h. h ++ s.0 ∷ []) same)

pub longer-stepped : (e : Option LocalStep) (x y : TurnRank) → Stepped e (mark x) (mark y) → IsPrefix (history x) (history y)
longer-stepped None x y s = ([], append-nil (history x) ∙ sym s)
longer-stepped (Some step) x y s = (s.0 ∷ [], sym s.2)

pub onward-same : (x y : TurnRank) → plate y ≡ plate x → y.node.value.diary ≡ x.node.value.diary → y.node.value.kept ≡ x.node.value.kept
    → Onward None x y
onward-same x y name same kept = (name, ap (λ (d : Diary). d.locals) same, keeps-still x y kept)

pub onward-still : (x : TurnRank) → Onward None x x
onward-still x = onward-same x x refl refl refl

pub onward-after : (e : Option LocalStep) (x y z : TurnRank) → Onward None x y → Onward e y z → Onward e x z
onward-after e x y z f g = (g.0 ∙ f.0, stepped-after e x y z f.1 g.1, handles-after x y z (longer-stepped None x y f.1) f.2 g.2)

pub onward-sound : (x y : TurnRank) → Onward None x y → IsSound x.job → IsSound y.job
onward-sound x y f sound = subst IsSound (sym (ap (λ (p : Plate). p.job) f.0)) sound

pub onward-wired : (wires : List WireState) (x y : TurnRank) → Onward None x y → IsWired wires (plate x) → IsWired wires (plate y)
onward-wired wires x y f wired = subst (IsWired wires) (sym f.0) wired

pub onward-flushed : (x y : TurnRank) → plate y ≡ plate x → HasFlushed x y → Onward None x y
onward-flushed x y name f = onward-same x y name (ap (λ (n : NodeState). n.diary) f.node.same) (ap (λ (n : NodeState). n.kept) f.node.same)

-- what a start answers, as a step
abbrev pub as-step : StartAnswer → Option LocalStep
as-step Started = Some Starts
as-step AlreadyStarted = None

pub onward-begun : (x y : TurnRank) (s : StartAnswer) → plate y ≡ plate x → Begun s (mark x) (mark y) → KeepsHandles x y
    → Onward (as-step s) x y
onward-begun x y Started name b keeps = (name, (Start, refl, b.1), keeps)
onward-begun x y AlreadyStarted name b keeps = (name, b.1, keeps)

pub onward-fired : (x y : TurnRank) (t : ℕ) → plate y ≡ plate x → Grew (Fire t) (mark x) (mark y) → KeepsHandles x y
    → Onward (Some (Fires t)) x y
onward-fired x y t name grew keeps = (name, (Fire t, refl, grew), keeps)

pub onward-missed : (x y : TurnRank) (at : ℕ) → plate y ≡ plate x → MissedAt at x y → KeepsHandles x y → Onward None x y
onward-missed x y at name m keeps = (name, ap (λ (n : NodeState). n.diary.locals) m.node, keeps)

-- of the port that stands there
pub onward-received : (x y : TurnRank) (at s : ℕ) (lane : Lane) (p : InPort)
    → plate y ≡ plate x → get_elem? x.ins.items at ≡ some p → p.source ≡ s → p.lane ≡ lane
    → ReceivedAt at x y → KeepsHandles x y → Onward (Some (Receives s lane)) x y
onward-received x y at s lane p name there source kind h keeps =
    let one = same_at x.ins.items at h.port p h.there there in (
      name,
      (
        Receive h.port.source h.port.lane h.message,
        (λ k. Receives ((ap (λ (o : InPort). o.source) one ∙ source) k) ((ap (λ (o : InPort). o.lane) one ∙ kind) k)),
        h.grew,
      ),
      keeps,
    )
