-- `lowers_of`: the lowers are the values of the first V records of the rest, by exit, and where none stand there are zeros.
use native.Mathlib.Omega.{arith}
use mathlib.Core.Bool.{true}
use mathlib.Core.Path.{◌≡◌, refl, sym, ◌∙◌}
use Rattle.delivery.specs.Shapes.{has_lowers}
use Rattle.delivery.proofs.Shapes.{uppers_fit, lowers_fit}
use Rattle.held.proofs.Blocks.{part_holds, lowers_listed, where_it_stands}
use Rattle.held.proofs.filing.lowers_of.Goals as goal

pub slice_bounds-rest-count : goal.slice_bounds-rest-count
slice_bounds-rest-count c = omega (arith, uppers_fit _ _ _ _ c.requires.of)

pub slice_bounds-rest-start : goal.slice_bounds-rest-start
slice_bounds-rest-start c = omega (arith, uppers_fit _ _ _ _ c.requires.of)

pub values_by_exit-requires : goal.values_by_exit-requires
values_by_exit-requires c =
    let stand : has_lowers c.args.shape ≡ true = sym c.has_lowers.ensures ∙ c.if-not-has_lowers.false in
    record { fits = c.requires.fits; whole = part_holds c.args.delivery.now c.entries-v.ensures.0 refl (lowers_fit _ _ _ _ c.requires.of stand) }

pub returns : goal.returns
returns c =
    let stand : has_lowers c.args.shape ≡ true = sym c.has_lowers.ensures ∙ c.if-not-has_lowers.false in
    where_it_stands stand (lowers_listed _ _ _ c.requires.fits.few_entries c.entries-v.ensures.0 c.values_by_exit.ensures)
