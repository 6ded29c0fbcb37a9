-- `is_plain`: a line that is short enough is plain where every byte is no control byte.
use Rattle.std.proofs.Common.{not, rules, tests, sym, ◌∙◌}
use borrow.Author.Tests.{lt-leb}
use Rattle.std.specs.Char.{is_ascii_control}
use Rattle.std.proofs.lemmas.Iterator.{YieldsList-from_slice}
use Rattle.std.proofs.lemmas.Iterator.Search.{all_from_yields_List}
use Rattle.spelling.proofs.Words.{plain_long, plain_short}
use Rattle.spelling.proofs.is_plain.Goals as goal

pub returns-then-line-le-MOST_BYTES : goal.returns-then-line-le-MOST_BYTES
returns-then-line-le-MOST_BYTES c =
    all_from_yields_List (λ b. not (is_ascii_control b)) _ _ c.all.result c.all.ensures.ran (YieldsList-from_slice c.args.line.now cc) (λ x b q k. search (rules, tests))
    ∙ plain_short _ c.if-line-le-MOST_BYTES.true

pub returns-else-line-le-MOST_BYTES : goal.returns-else-line-le-MOST_BYTES
returns-else-line-le-MOST_BYTES c =
    let long = c.if-line-le-MOST_BYTES.false in
    lt-leb _ 300 long ∙ sym (plain_long _ long)
