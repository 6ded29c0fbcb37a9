-- `check_means`: the mean steps stand after the lowers, or at once where there are none, and where no mean steps stand nothing is tested.
use mathlib.Core.Bool.{true}
use mathlib.Core.Path.{◌≡◌, sym, ◌∙◌}
use Rattle.delivery.specs.Shapes.{has_means}
use Rattle.certificate.proofs.Steps.{block_after_lowers, block_alone, no_means, means_after_lowers, means_alone}
use Rattle.certificate.proofs.numbers.Checked.check_means.Goals as goal

pub returns-then-not-has_means : goal.returns-then-not-has_means
returns-then-not-has_means c = no_means _ _ _ _ c.args.self.now.uppers.now _ (sym c.has_means.ensures ∙ c.if-not-has_means.true)

pub check-requires-clause-files : goal.check-requires-clause-files
check-requires-clause-files c =
    let self = c.args.self.now in
    let means-stand : has_means self.shape ≡ true = sym c.has_means.ensures ∙ c.if-not-has_means.false in
    let block = block_after_lowers self.right.read means-stand c.entries-v.ensures.0 (sym c.has_lowers.ensures ∙ c.if-has_lowers.true) in
    (self.right.indexed, self.right.uppers, block)

pub returns-then-has_lowers : goal.returns-then-has_lowers
returns-then-has_lowers c =
    let self = c.args.self.now in
    let means-stand : has_means self.shape ≡ true = sym c.has_means.ensures ∙ c.if-not-has_means.false in
    means_after_lowers _ _ _ _ self.uppers.now _ _ means-stand c.entries-v.ensures.0 (sym c.has_lowers.ensures ∙ c.if-has_lowers.true) c.check.ensures

pub check-requires-2-clause-files : goal.check-requires-2-clause-files
check-requires-2-clause-files c =
    let self = c.args.self.now in
    let means-stand : has_means self.shape ≡ true = sym c.has_means.ensures ∙ c.if-not-has_means.false in
    let block = block_alone self.right.read means-stand (sym c.has_lowers.ensures ∙ c.if-has_lowers.false) in
    (self.right.indexed, self.right.uppers, block)

pub returns : goal.returns
returns c =
    let self = c.args.self.now in
    let means-stand : has_means self.shape ≡ true = sym c.has_means.ensures ∙ c.if-not-has_means.false in
    means_alone _ _ _ _ self.uppers.now _ _ means-stand c.entries-v.ensures.0 (sym c.has_lowers.ensures ∙ c.if-has_lowers.false) c.check-2.ensures
