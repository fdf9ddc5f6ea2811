-- How much a lane holds, and how histories go on.
use Rattle.std.proofs.Common.{ℕ, true, false, not, ◌<◌, ◌≤◌, ◌==◌, ◌∙◌, List, [], ◌∷◌, ◌++◌, Bool, refl, ap, sym, arith, length}
use Rattle.std.proofs.Common.{length-append, append-nil, if◌then◌else◌}
use Rattle.std.proofs.lemmas.List.Elements.{filter-append}
use Rattle.ptl_types.specs.Messages.{Sent}
use Rattle.ptl_types.specs.declared.headers.Lane.{Lane}
use Rattle.cuts.specs.histories.Cut.{IsPrefixOf, is_stray, owned}
use Rattle.cuts.specs.histories.History.{Local, got}
use Rattle.cuts.specs.histories.History.Local.{Start as Started, Receive as Received, Fire as Fired}
use Rattle.cuts.specs.histories.Moment.{IsMoment}
use Rattle.cuts.specs.histories.System.{Histories, System, sent_by}
use Rattle.cuts.specs.orders.Chosen.{Scene, delivered, step_made}
use Rattle.cuts.specs.orders.Taking.{with_step}
use Rattle.cuts.specs.declared.orders.Step.{Step}
use Rattle.cuts.specs.declared.orders.Step.TheVariants.{Start, Deliver, Fire}

-- what is held without strays was sent
pub held_few : (k : System) (z : Scene) (s d : ℕ) (lane : Lane) (most : ℕ) → IsMoment k z.world z.held → s < k.count → d < k.count →
    length (sent_by k z.world s d lane) ≤ most → length (owned (z.held s d lane)) ≤ most
held_few k z s d lane most moment hs hd at_most =
    let a = ap length (sym (filter-append (λ (m : Sent). not (is_stray m)) (got (z.world d) s lane) (z.held s d lane))
    ∙ moment.lanes s d lane hs hd) in
    let b = length-append (owned (got (z.world d) s lane)) (owned (z.held s d lane)) in
    omega (arith, a, b, at_most)

-- one step more at rank r
grows : (r : ℕ) (e : Local) (w : Histories) (q : ℕ) → IsPrefixOf (w q) (with_step r e w q)
grows r e w q = at (r == q)
  where
    at : (b : Bool) → IsPrefixOf (w q) (if b then w q ++ e ∷ [] else w q)
    at true = (e ∷ [], refl)
    at false = ([], append-nil (w q))

delivery_grows : (k : System) (s d : ℕ) (lane : Lane) (ms : List Sent) (z : Scene) (q : ℕ) →
    IsPrefixOf (z.world q) ((delivered k s d lane ms z).world q)
delivery_grows k s d lane [] z q = ([], append-nil (z.world q))
delivery_grows k s d lane (m ∷ later) z q = grows d (Received s lane m) z.world q

-- each history begins with what it was
pub begins : (k : System) (z : Scene) (x : Step) (q : ℕ) → IsPrefixOf (z.world q) ((step_made k x z).world q)
begins k z (Start r) q = grows r Started z.world q
begins k z (Fire r t) q = grows r (Fired t) z.world q
begins k z (Deliver s d lane) q = delivery_grows k s d lane (z.held s d lane) z q
