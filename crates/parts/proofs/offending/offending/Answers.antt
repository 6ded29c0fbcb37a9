-- `offending`: each return stands where the tests before it have answered as the definition asks.
use mathlib.Core.Bool.{true, false}
use mathlib.Core.Path.{◌≡◌, sym, ◌∙◌}
use Rattle.parts.specs.Parts.{names_model, names_rule}
use Rattle.parts.proofs.Offences.{names_model_lem, names_rule_lem, names_no_rule, names_bound_lem, names_none}
use Rattle.parts.proofs.Wholes.{empty_lies}
use Rattle.parts.proofs.offending.offending.Goals as goal

pub returns-then-names_model : goal.returns-then-names_model
returns-then-names_model c = rw (names_model_lem _ _ _ _ (sym c.names_model.ensures ∙ c.if-names_model.true)) empty_lies

pub returns-then-is_whole : goal.returns-then-is_whole
returns-then-is_whole c =
    let no_model : names_model c.args.number ≡ false =
    sym c.names_model.ensures ∙ c.if-names_model.false in
    let rule : names_rule c.args.number ≡ true =
    sym c.names_rule.ensures ∙ c.if-names_rule.true in
    rw (names_rule_lem _ _ _ _ no_model rule
    (sym c.is_whole.ensures ∙ c.if-is_whole.true)) c.record_at.ensures

pub returns-then-names_rule : goal.returns-then-names_rule
returns-then-names_rule c =
    let no_model : names_model c.args.number ≡ false =
    sym c.names_model.ensures ∙ c.if-names_model.false in
    let rule : names_rule c.args.number ≡ true =
    sym c.names_rule.ensures ∙ c.if-names_rule.true in
    rw (names_no_rule _ _ _ _ no_model rule
    (sym c.is_whole.ensures ∙ c.if-is_whole.false)) empty_lies

pub returns-then-names_bound : goal.returns-then-names_bound
returns-then-names_bound c =
    let no_model : names_model c.args.number ≡ false =
    sym c.names_model.ensures ∙ c.if-names_model.false in
    let no-rule : names_rule c.args.number ≡ false =
    sym c.names_rule.ensures ∙ c.if-names_rule.false in
    rw (names_bound_lem _ _ _ _ no_model no-rule
    (sym c.names_bound.ensures ∙ c.if-names_bound.true)) c.record_at-then-names_bound.ensures

pub returns : goal.returns
returns c =
    let no_model : names_model c.args.number ≡ false =
    sym c.names_model.ensures ∙ c.if-names_model.false in
    let no-rule : names_rule c.args.number ≡ false =
    sym c.names_rule.ensures ∙ c.if-names_rule.false in
    rw (names_none _ _ _ _ no_model no-rule
    (sym c.names_bound.ensures ∙ c.if-names_bound.false)) empty_lies
