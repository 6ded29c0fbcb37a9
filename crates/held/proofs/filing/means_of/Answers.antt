-- `means_of`: the mean steps are the values of the s × g records from where the shape's mean steps start, and where none stand there are zeros.
use native.Mathlib.Omega.{arith}
use mathlib.Core.Bool.{true}
use mathlib.Core.Path.{◌≡◌, sym, ◌∙◌}
use Rattle.delivery.specs.Shapes.{has_means}
use Rattle.delivery.proofs.Shapes.{means_fit}
use Rattle.held.proofs.Blocks.{part_holds, means_listed, where_it_stands}
use Rattle.held.proofs.filing.means_of.Goals as goal

pub slice_bounds-block-count : goal.slice_bounds-block-count
slice_bounds-block-count c =
    let stand : has_means c.args.shape ≡ true = sym c.has_means.ensures ∙ c.if-not-has_means.false in
    omega (arith, means_fit _ _ _ _ c.requires.of stand)

pub slice_bounds-block-start : goal.slice_bounds-block-start
slice_bounds-block-start c =
    let stand : has_means c.args.shape ≡ true = sym c.has_means.ensures ∙ c.if-not-has_means.false in
    omega (arith, means_fit _ _ _ _ c.requires.of stand)

pub values-requires : goal.values-requires
values-requires c =
    let stand : has_means c.args.shape ≡ true = sym c.has_means.ensures ∙ c.if-not-has_means.false in
    (part_holds c.args.delivery.now c.means_from-from.ensures.0 c.rows.ensures.0 (means_fit _ _ _ _ c.requires.of stand), omega arith)

pub returns : goal.returns
returns c =
    let stand : has_means c.args.shape ≡ true = sym c.has_means.ensures ∙ c.if-not-has_means.false in
    where_it_stands stand (means_listed _ _ _ _ c.means_from-from.ensures.0 c.rows.ensures.0 c.values.ensures)
