-- `copied`: the file's bytes come first, and after them the zeros stay.
use mathlib.Core.List.{◌++◌}
use mathlib.Core.Path.{ap, ◌∙◌}
use lib.ListN.{length, drop, replicate}
use Rattle.model.specs.Format.{most_bytes}
use Rattle.held.proofs.Listed.{filled_by}
use Rattle.held.proofs.filing.copied.Goals as goal

pub returns : goal.returns
returns c =
    let file = c.args.file.now in
    ap (λ b. b ++ drop (length file) (replicate most_bytes 0)) c.copy_from_slice.ensures.after ∙ filled_by most_bytes file c.requires
