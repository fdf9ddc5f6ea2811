-- One place tried in each turn.
use Rattle.std.proofs.Common.{suc, cond, ◌≡◌, ◌-◌, ◌==◌, ◌∷◌, [], ◌++◌, arith, ap, ap₂, sym, ◌∙◌, map}
use Rattle.plan_steps.specs.StepContext.{atomic, count, entry}
use Rattle.plan_steps.specs.Trees.{children, parent, turned, up_number}
use Rattle.plan_steps.proofs.Children.{first-link, links-more}
use Rattle.plan_steps.proofs.tree.up_links.Goals as goal

pub loop-w-init : goal.loop-w-init
loop-w-init c =
    let s = c.args.site.now in
    c.in_ok-push.ensures.items
    ∙ ap₂ (λ x k. x ++ k ∷ []) c.new-links.ensures.items (c.atomic.ensures
    ∙ ap₂ atomic c.length.ensures.value (c.entry.ensures.value ∙ ap (entry s) c.turned.ensures.value))
    ∙ sym (first-link (up_number s) (atomic s.length) (entry s (turned s c.args.root c.args.v)) c.args.v)

pub loop-w-preserved : goal.loop-w-preserved
loop-w-preserved c =
    let s = c.args.site.now in
    let l = c.loop-w.auto in
    c.in_ok-push_child.ensures
    ∙ ap (λ x. x ++ cond (parent c.loop-w.w == c.args.v) (atomic s.length (up_number s c.loop-w.w) ∷ []) []) c.loop-w.invariant
    ∙ sym (links-more (up_number s) (atomic s.length) (entry s (turned s c.args.root c.args.v)) c.args.v c.loop-w.w (omega (arith, l.w)))

pub returns : goal.returns
returns c =
    let s = c.args.site.now in
    let n = c.count-count.ensures.value in
    let v = c.requires.v in
    let t = c.loop-w-test.false in
    let u = c.loop-w.auto in
    c.loop-w.invariant
    ∙ ap (λ w. map (atomic s.length) (entry s (turned s c.args.root c.args.v) ∷ map (up_number s)
    (children c.args.v (suc c.args.v) (w - suc c.args.v))))
    (let e : c.loop-w.w ≡ count s = omega (arith, n, v, t, u.w, u.w-end) in e)
