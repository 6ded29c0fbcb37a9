-- `bounds_delivery_shortfall`: the shortfall of the verdict, the model's first, which fits an i64 since the check has returned it as one.
use mathlib.Core.Path.{◌≡◌, sym, ap, ◌∙◌}
use mir.Syntax.{w64}
use mir.Facts.{to_z-of_z}
use Rattle.std.proofs.Common.{rules}
use Rattle.std.proofs.lemmas.Result.{MatchResult-weaker}
use Rattle.verdict.specs.Verdict.{verdict}
use Rattle.bounds.specs.Codes.{shortfall_of}
use Rattle.bounds.proofs.Codes.{decided}
use Rattle.bounds.proofs.bounds_delivery_shortfall.Goals as goal

pub returns-in-Err : goal.returns-in-Err
returns-in-Err c =
    let found : c.and_then.result ≡ verdict c.args.model.now c.args.delivery.now =
    decided _ _ c.check.result _ c.check.ensures (MatchResult-weaker c.check.result c.and_then.ensures (λ u p. search rules) (λ why p. search rules)) in
    to_z-of_z {w = w64} (search rules) ∙ ap shortfall_of (sym c.in-Err.is ∙ found)
