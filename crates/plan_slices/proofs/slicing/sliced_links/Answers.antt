use Rattle.std.proofs.Common.{ℕ, ◌≡◌, List, [], ◌∷◌, ◌++◌, ◌∙◌, ap, sym, map}
use Rattle.number_lists.specs.Numbers.{from_to}
use Rattle.plan_core.specs.declared.Link.{Link}
use Rattle.plan_core.specs.Plan.{link}
use Rattle.plan_core.proofs.Drawing.{row-more}
use Rattle.plan_slices.specs.declared.cut.Cut.{Cut}
use Rattle.plan_slices.specs.Slices.{cut_at, sliced_link}
use Rattle.plan_slices.proofs.slicing.sliced_links.Goals as goal

pub loop-l-preserved : goal.loop-l-preserved
loop-l-preserved c =
    let f : ℕ → Link = λ n. sliced_link (cut_at c.args.cuts.now (link c.args.plan.now n).target) (link c.args.plan.now n) in
    let value : c.sliced_link.result ≡ f c.loop-l.l = c.sliced_link.ensures
    ∙ ap (λ (k : Cut). sliced_link k c.link_at-link.result) c.cut_at.ensures
    ∙ ap (λ (x : Link). sliced_link (cut_at c.args.cuts.now x.target) x) c.link_at-link.ensures in
    c.in_ok-push.ensures.items
    ∙ ap (λ (xs : List Link). xs ++ c.sliced_link.result ∷ []) c.loop-l.invariant
    ∙ ap (λ (x : Link). map f (from_to 0 c.loop-l.l) ++ x ∷ []) value
    ∙ sym (row-more f c.loop-l.l)
