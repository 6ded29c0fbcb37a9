-- `word_end`: the first word ends at the first space, or where the text does.
use Rattle.std.proofs.Common.{◌≡◌, length, eqb, ap, arith, rules, tests, ◌∙◌}
use Rattle.std.proofs.lemmas.Iterator.{YieldsList-from_slice}
use Rattle.std.proofs.lemmas.Iterator.Search.{position_from_yields_List}
use Rattle.std.specs.List.{position}
use Rattle.std.specs.Option.{unwrap_or}
use Rattle.spelling.proofs.Words.{end_is, end_within}
use Rattle.spelling.proofs.word_end.Goals as goal

pub returns : goal.returns
returns c =
    let text = c.args.text.now in
    let found : c.position.result ≡ position (λ b. eqb b 32) text =
    position_from_yields_List (λ b. eqb b 32) _ _ c.position.result c.position.ensures.ran (YieldsList-from_slice text cc) (λ x b q k. search (rules, tests)) in
    let end = c.unwrap_or.ensures ∙ ap (λ o. unwrap_or o (length text)) found ∙ end_is text in
    (end, omega (arith, end, end_within text))
