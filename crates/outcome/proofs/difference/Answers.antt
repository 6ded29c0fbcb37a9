-- `difference` returns the signed difference of its definition: a saturating sum or difference with 0 is each of the definition's two cases.
use Rattle.std.proofs.Common.{◌≡◌, ◌-◌, ap, sym, ◌∙◌, arith, rules}
use Rattle.std.specs.Prelude.{pos, negsuc}
use Rattle.outcome.specs.Differences.{difference}
use Rattle.outcome.proofs.Differences.{difference_over, difference_under, zero_minus}
use Rattle.outcome.proofs.difference.Goals as goal

pub returns-then-need-have : goal.returns-then-need-have
returns-then-need-have c =
    let e : c.saturating_add_unsigned.result ≡ difference c.args.have c.args.need =
    c.saturating_add_unsigned.ensures ∙ ap pos (omega arith) ∙ sym (difference_over _ _ (omega arith)) in
    search (rules, e)

pub returns-else-need-have : goal.returns-else-need-have
returns-else-need-have c =
    let z = zero_minus (c.args.need - c.args.have) (omega arith) in
    let e : c.saturating_sub_unsigned.result ≡ difference c.args.have c.args.need =
    (rw z at c.saturating_sub_unsigned.ensures) ∙ ap negsuc (omega arith) ∙ sym (difference_under _ _ (omega arith)) in
    search (rules, e)
