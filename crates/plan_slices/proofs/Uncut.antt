-- A plan that isn't cut: each byte of each cell stands by itself.
use Rattle.std.proofs.Common.{ℕ, ◌*◌, ◌/◌, ◌%◌, ◌≡◌, ◌<◌, [], refl, ap, ap₂, subst, ◌∙◌, arith, inl}
use Rattle.std.proofs.Math.Nat.{div-one, mod-one}
use Rattle.std.proofs.lemmas.List.{ext_get_or}
use Rattle.plan_core.specs.declared.Cell.{Cell}
use Rattle.plan_core.specs.declared.Link.{Link}
use Rattle.plan_core.specs.Plan.{Plan, cell, link, no_cell, no_link}
use Rattle.plan_slices.specs.Slices.{AreCuts, no_cut, sliced, sliced_cell, sliced_link}
use Rattle.plan_slices.proofs.Values.{cell-sliced, link-sliced, sliced-cells, sliced-links}

uncut_cell : (x : Cell) → sliced_cell no_cut x ≡ x
uncut_cell x = ap (λ n. record { rank = x.rank; ty = x.ty; op = x.op; length = n; needs = x.needs }) (div-one x.length)

uncut_link : (x : Link) → sliced_link no_cut x ≡ x
uncut_link x =
    ap (λ n. record {
      source = x.source;
      source_offset = n;
      length = x.length / 1;
      target = x.target;
      target_offset = x.target_offset / 1;
      kind = x.kind;
    }) (div-one x.source_offset)
    ∙ ap₂ (λ n m. record {
      source = x.source;
      source_offset = x.source_offset;
      length = n;
      target = x.target;
      target_offset = m;
      kind = x.kind;
    }) (div-one x.length) (div-one x.target_offset)

module _ (p : Plan) where
  uncut_cells : (sliced p []).cells ≡ p.cells
  uncut_cells =
      ext_get_or no_cell (sliced p []).cells p.cells (sliced-cells p [])
      (λ c h. cell-sliced p [] c (subst (λ n. c < n) (sliced-cells p []) h) ∙ uncut_cell (cell p c))

  uncut_links : (sliced p []).links ≡ p.links
  uncut_links =
      ext_get_or no_link (sliced p []).links p.links (sliced-links p [])
      (λ l h. link-sliced p [] l (subst (λ n. l < n) (sliced-links p []) h) ∙ uncut_link (link p l))

  pub uncut : sliced p [] ≡ p
  uncut = ap₂ (λ a b. record { ranks = p.ranks; remote = p.remote; cells = a; links = b }) uncut_cells uncut_links

  whole : (n : ℕ) → n % (1 * 1) ≡ 0
  whole n = mod-one n

  some : 0 < 1
  some = omega arith

  pub are_uncut : AreCuts p []
  are_uncut = record {
    cells = λ c h. record { width = some; count = some; long = whole (cell p c).length; elements = λ o e. inl refl };
    links = λ l h other. record {
      alike = refl;
      source_offset = whole (link p l).source_offset;
      target_offset = whole (link p l).target_offset;
      long = whole (link p l).length;
    };
  }
