-- `number_of`: the bytes passed are digits that say n, so that the word says what the rest of it says after n.
use Rattle.std.proofs.Common.{sym, ◌∙◌, arith, rules, tests}
use Rattle.spelling.proofs.Words.{number_short, number_sized, digit_fails, digit_passes, digits_done, number_more}
use Rattle.spelling.proofs.number_of.Goals as goal

pub returns-then-not-contains : goal.returns-then-not-contains
returns-then-not-contains c = sym (number_short _ (search (rules, tests)))

pub loop-digit-init : goal.loop-digit-init
loop-digit-init c = (omega arith, number_sized c.args.word.now (search (rules, tests)) (search (rules, tests)))

pub returns-then-not-is_ascii_digit : goal.returns-then-not-is_ascii_digit
returns-then-not-is_ascii_digit c =
    let i = c.loop-digit.digit-index in
    let word = c.args.word.now in
    sym (c.loop-digit.invariant.1 ∙ digit_fails _ word i c.loop-digit-test.true (sym c.is_ascii_digit.ensures.value ∙ c.if-not-is_ascii_digit.true))

pub loop-digit-preserved : goal.loop-digit-preserved
loop-digit-preserved c =
    let i = c.loop-digit.digit-index in
    let word = c.args.word.now in
    let digit = sym c.is_ascii_digit.ensures.value ∙ c.if-not-is_ascii_digit.false in (
      rw c.with_digit-n.ensures (number_more _ _ _ c.loop-digit.invariant.0 digit),
      c.loop-digit.invariant.1 ∙ digit_passes _ word i c.loop-digit-test.true digit ∙ rw c.with_digit-n.ensures,
    )

pub returns : goal.returns
returns c = sym (c.loop-digit.invariant.1 ∙ digits_done _ c.args.word.now c.loop-digit.digit-index (omega arith))
