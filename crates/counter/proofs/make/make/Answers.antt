-- `make`: after i turns the buffer starts with the file made of the first i rules, and each turn puts the next record behind it.
use Prim.Native.Nat.{◌+◌, ◌*◌, ◌≤◌}
use native.Mathlib.Omega.{arith}
use mathlib.Core.Path.{◌≡◌, refl, sym, ap, ap₂, ◌∙◌}
use mathlib.Core.List.{◌++◌}
use lib.ListN.{length, take}
use Rattle.walks.specs.Lists.{list_to}
use Rattle.model.specs.Format as model
use Rattle.model.specs.Made.{made_model}
use Rattle.counter.specs.Clauses.{record_made}
use Rattle.counter.proofs.Made.{rule_made, counter_model_lem, made_turn}
use Rattle.counter.proofs.Puts.{take_written}
use Rattle.counter.proofs.make.make.Goals as goal

pub loop-i-init : goal.loop-i-init
unfolding made_model list_to
loop-i-init c = refl

pub loop-i-preserved : goal.loop-i-preserved
loop-i-preserved c =
    let i = c.loop-i.i in
    let file = c.args.file.now in
    let out = c.loop-i.out in
    let fits : model.record_bytes * i + 10 ≤ length out = omega (arith, c.requires.0.most) in
    let next : model.record_bytes * (i + 1) ≡ model.record_bytes * i + 10 = omega arith in
    ap₂ take next c.put_rule.ensures
    ∙ take_written out (model.record_bytes * i) (record_made file i) fits
    ∙ ap (λ b. b ++ record_made file i) c.loop-i.invariant
    ∙ made_turn file i (c.requires.0.right i (omega arith)).shift_range

pub returns : goal.returns
returns c =
    let all : c.moves-n.result ≡ c.loop-i.i = omega arith in
    let file = c.args.file.now in
    record {
      room = omega (arith, c.requires.0.most);
      made = ap (λ k. take (model.record_bytes * k) c.loop-i.out) all ∙ c.loop-i.invariant
          ∙ ap (λ k. made_model (list_to (rule_made file) k)) (sym all ∙ c.moves-n.ensures) ∙ sym (counter_model_lem _);
    }
