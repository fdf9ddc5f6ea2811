-- What a rank of a plan sends is never a stray.
use Rattle.std.proofs.Common.{ℕ, false, ◌≡◌, List, length, refl, inl, inr}
use Rattle.ptl_types.specs.Messages.{Sent}
use Rattle.plan_core.specs.Members.{In}
use Rattle.plan_core.specs.Plan.{Plan, cell, link}
use Rattle.plan_core.specs.Sound.{SoundPlan}
use Rattle.plan_core.specs.Values.{Inputs}
use Rattle.plan_core.proofs.Links.{out_links-In}
use Rattle.cuts.specs.view.Slots.{Slots}
use Rattle.cuts.specs.view.Calls.{prepare}
use Rattle.cuts.specs.histories.Cut.{is_stray}
use Rattle.cuts.specs.histories.History.{Local, made}
use Rattle.cuts.specs.histories.Plans.{start_of}
use Rattle.cuts.proofs.histories.Conform.{stray_request}
use Rattle.cuts.proofs.histories.FromCut.{prepared_of}
use Rattle.cuts.proofs.histories.Origin.{FromLink, made_from, reply-answer}
use Rattle.cuts.proofs.histories.Simulate.{link-no_stray}

pub made-clean : (p : Plan) (inputs : Inputs) → SoundPlan p (length inputs) → (s : Slots) (r : ℕ) (es : List Local) (m : Sent) →
    In m (made (start_of p s r) (prepare p inputs s r) es) → is_stray m ≡ false
made-clean p inputs sound s r es m i =
    elim (made_from p s r (start_of p s r) es (prepare p inputs s r) m (prepared_of p inputs sound s r) i) [
      | inl f ↦ linked f
      | inr a ↦ stray_request m (reply-answer es m a)
    ]
  where
    linked : FromLink p s r m → is_stray m ≡ false
    linked f =
        let q = out_links-In p r f.l f.out in
        link-no_stray p inputs sound s (cell p (link p f.l).target).rank f.l (record { known = q.0; sends = f.sends; here = refl }) m
        f.header
