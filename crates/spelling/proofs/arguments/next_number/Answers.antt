-- `next_number`: the first word ends at the next space, or where the rest does, and the rest after it has the other words.
use Rattle.std.proofs.Common.{rules, sym, ◌∙◌}
use Rattle.spelling.proofs.Rest.{next_none, next_by}
use Rattle.spelling.proofs.arguments.next_number.Goals as goal

pub returns-in_err-text : goal.returns-in_err-text
returns-in_err-text c = rw c.from_residual.ensures (sym (next_none _ (search rules)))

pub returns-in_err-number_of : goal.returns-in_err-number_of
returns-in_err-number_of c =
    let found = next_by c.args.rest.now c.in_ok-text.text.now _ _ _ _ c.in_ok-text.ensures.cases.0 c.word_end.ensures.0 c.split_at.ensures.front c.split_at.ensures.back in
    rw c.from_residual-in_err-number_of.ensures (sym (found ∙ rw (sym c.number_of.ensures, c.in_err-number_of.was)))

pub returns : goal.returns
returns c =
    let found = next_by c.args.rest.now c.in_ok-text.text.now _ _ _ _ c.in_ok-text.ensures.cases.0 c.word_end.ensures.0 c.split_at.ensures.front c.split_at.ensures.back in
    sym (found ∙ rw (sym c.number_of.ensures, c.in_ok-number_of.was))
