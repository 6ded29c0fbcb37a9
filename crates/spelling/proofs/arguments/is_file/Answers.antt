-- `is_file`: what stands after the space is a name where it is one word of 1 to 255 bytes.
use Rattle.std.proofs.Common.{rules, tests, sym, ◌∙◌}
use Rattle.spelling.proofs.Rest.{file_none, file_sized, file_unsized}
use Rattle.spelling.proofs.arguments.is_file.Goals as goal

pub returns-in_default : goal.returns-in_default
returns-in_default c = sym (file_none _ (search rules))

pub returns-then-contains : goal.returns-then-contains
returns-then-contains c =
    rw c.word_end.ensures.0
    (sym (file_sized c.args.rest.now c.in-Some.name.now _ c.in-Some.ensures.cases.0 (search (rules, tests)) (search (rules, tests))))

pub returns-else-contains : goal.returns-else-contains
returns-else-contains c =
    c.if-contains.false ∙ sym (file_unsized c.args.rest.now c.in-Some.name.now _ c.in-Some.ensures.cases.0 (search (rules, tests)))
