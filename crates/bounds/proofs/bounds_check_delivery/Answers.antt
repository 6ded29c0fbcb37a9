-- `bounds_check_delivery`: the verdict as one number, the model's first; its place fits.
use mathlib.Core.Path.{◌≡◌, sym, ap, ◌∙◌}
use Rattle.std.proofs.Common.{rules}
use Rattle.std.proofs.lemmas.Result.{MatchResult-weaker}
use Rattle.verdict.specs.Verdict.{verdict}
use Rattle.verdict.proofs.Places.{place_fits}
use Rattle.bounds.specs.Codes.{code_of}
use Rattle.bounds.proofs.Codes.{decided, place_below}
use Rattle.bounds.proofs.bounds_check_delivery.Goals as goal

pub code-requires : goal.code-requires
code-requires c =
    let found : c.and_then.result ≡ verdict c.args.model.now c.args.delivery.now =
    decided _ _ c.check.result _ c.check.ensures (MatchResult-weaker c.check.result c.and_then.ensures (λ u p. search rules) (λ why p. search rules)) in
    place_below _ (λ r i k e. place_fits _ _ r i k (sym found ∙ e))

pub returns : goal.returns
returns c =
    let found : c.and_then.result ≡ verdict c.args.model.now c.args.delivery.now =
    decided _ _ c.check.result _ c.check.ensures (MatchResult-weaker c.check.result c.and_then.ensures (λ u p. search rules) (λ why p. search rules)) in
    c.code.ensures ∙ ap code_of found
