-- `check_records`: the loop returns at the first record that is refused, by itself or by its order, after every record before it has passed; the
-- sizes are those of the records passed.
use mathlib.Core.Path.{◌≡◌, sym, ◌∙◌}
use Rattle.std.proofs.lemmas.Result.{err_from_is_err_and}
use Rattle.outcome.proofs.Tests.{each_none, each_more}
use Rattle.outcome.specs.Tests.{first}
use Rattle.model.proofs.Records.{sizes_none}
use Rattle.wellformed.specs.Verdict.{ascends}
use Rattle.wellformed.specs.Clauses.{own_tests}
use Rattle.wellformed.proofs.Order.{numbered, before_none, before_next}
use Rattle.wellformed.proofs.Verdict.{own_refuse, order_fails, record_passes, record_refuses}
use Rattle.wellformed.proofs.check_records.Goals as goal
use Rattle.outcome.specs.Outcomes.{Accepted}

pub loop-i-init : goal.loop-i-init
loop-i-init c = (each_none _, before_none, sizes_none c.no_records-sizes.ensures.0 c.no_records-sizes.ensures.1)

pub returns-in_err-check-clause-refused : goal.returns-in_err-check-clause-refused
returns-in_err-check-clause-refused c =
    let p = err_from_is_err_and c.from_residual.result c.from_residual.ensures.1 in
    rw (p.1, p.2) (record_refuses _ _ _ c.loop-i-test.true c.loop-i.invariant.0 (own_refuse _ _ (sym c.check.ensures ∙ c.in_err-check.was)))

pub returns-then-not-ascends-clause-refused : goal.returns-then-not-ascends-clause-refused
returns-then-not-ascends-clause-refused c =
    let own : first (own_tests c.args.model.now c.loop-i.i) ≡ Accepted = sym c.check.ensures ∙ c.in_ok-check.was in
    let order : c.ascends.result ≡ ascends c.args.model.now c.loop-i.i = c.ascends.ensures _ c.loop-i.invariant.1 (numbered own c.key_number-number.ensures) in
    rw c.refused.ensures (record_refuses _ _ _ c.loop-i-test.true c.loop-i.invariant.0 (order_fails _ _ own (sym order ∙ c.if-not-ascends.true)))

pub loop-i-preserved : goal.loop-i-preserved
loop-i-preserved c =
    let own : first (own_tests c.args.model.now c.loop-i.i) ≡ Accepted = sym c.check.ensures ∙ c.in_ok-check.was in
    let order : c.ascends.result ≡ ascends c.args.model.now c.loop-i.i = c.ascends.ensures _ c.loop-i.invariant.1 (numbered own c.key_number-number.ensures) in (
      each_more _ _ c.loop-i.invariant.0 (record_passes _ _ own (sym order ∙ c.if-not-ascends.false)),
      before_next (numbered own c.key_number-number.ensures),
      c.with_record-sizes.ensures,
    )
