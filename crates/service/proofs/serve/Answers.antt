-- `serve`: each byte takes the desk a step on, and there is room for a reply to each.
use native.Mathlib.Omega.{arith}
use mathlib.Core.Path.{◌≡◌, refl, sym, ap, ◌∙◌}
use lib.ListN.{length}
use borrow.Author.Tests.{eq-eqb, ne_eqb}
use Rattle.model.specs.declared.sizes.Sizes.{Sizes}
use Rattle.service.proofs.Serving.{serving_none, serving_pushed, serving_changed, serving_answered}
use Rattle.service.proofs.serve.Goals as goal

pub loop-i-init : goal.loop-i-init
loop-i-init g c =
    let line_size : length c.args.desk.line ≡ 301 =
    c.well_formed.1.0.1.1.1.0.1.0.1 in
    let start = c in
    let none = ap (λ (n : Sizes). n.states) c.none-sizes.ensures in
    (serving_none c.min-taken.ensures (line_size) (omega (arith, c.min-kept.ensures)) c.view-v.ensures c.lists-lists.ensures, record { size = refl; found = λ some. absurd (omega arith) })

pub loop-i-preserved-then-byte-ne10 : goal.loop-i-preserved-then-byte-ne10
loop-i-preserved-then-byte-ne10 g c = let turn = c in
    let inv = turn.loop-i.invariant in
    (serving_pushed inv.0 turn.loop-i-test.true refl (ne_eqb _ 10 c.if-byte-ne10.true) c.keep_byte-kept.ensures.0 c.keep_byte-kept.ensures.1, inv.1)

pub loop-i-preserved-then-may_change : goal.loop-i-preserved-then-may_change
loop-i-preserved-then-may_change g c = let put = c in
    let performed = put in
    let branch = performed in
    let asked = branch in
    let test = asked in
    let turn = test in
    let none = ap (λ (n : Sizes). n.states) put.none-sizes-then-may_change.ensures in (
      serving_changed turn.loop-i.invariant.0 turn.loop-i-test.true refl (eq-eqb _ 10 test.if-byte-ne10.false) asked.said_by-said.ensures
          (sym branch.may_change.ensures ∙ branch.if-may_change.true) performed.perform-changed.ensures put.view-v-then-may_change.ensures put.lists-lists-then-may_change.ensures put.put_response-at.ensures,
      record { size = turn.loop-i.invariant.1.size; found = λ some. absurd (omega arith) },
    )

pub loop-i-preserved : goal.loop-i-preserved
loop-i-preserved g c = let put = c in
    let answered = put in
    let found = c.find_if-sizes in
    let branch = c in
    let asked = branch in
    let test = asked in
    let turn = test in (
      serving_answered turn.loop-i.invariant.0 turn.loop-i-test.true refl (eq-eqb _ 10 test.if-byte-ne10.false) asked.said_by-said.ensures
          (sym branch.may_change.ensures ∙ branch.if-may_change.false) answered.answer-response.ensures put.put_response-at-in-loop-i.ensures,
      found.ensures.1,
    )
