-- `exits_through`: by how many symbols the record pushes, the target alone, the exits of one row, or those of two symbols.
use Prim.Native.Nat.{◌+◌, ◌*◌, ◌^◌}
use native.Mathlib.Omega.{arith}
use mathlib.Core.Path.{◌≡◌, sym, ap, ap₂, ◌∙◌}
use Rattle.model.specs.Records.{target, top}
use Rattle.model.proofs.Records.{fits_narrow}
use Rattle.model.proofs.Accepted.{sized_fits, record_names}
use Rattle.rows.proofs.Sums.{pushes_nothing, pushes_one}
use Rattle.live.proofs.Bits.{through_nothing, through_one}
use Rattle.live.proofs.exits.exits_through.Goals as goal

pub returns-then-l-eq0 : goal.returns-then-l-eq0
returns-then-l-eq0 c = λ q.
    let at = c in
    let args = at.args in
    let none = pushes_nothing _ _ _ (sym c.pushes-l.ensures.0 ∙ c.if-l-eq0.true) in
    through_nothing args.n.states args.n.symbols args.marks.now _ q none (c.exit.ensures ∙ ap (λ r. 2 ^ r) at.target-r.ensures.0)

pub row-requires : goal.row-requires
row-requires c = let start = c in
    let names = record_names start.requires.0 start.requires.1 in
    (fits_narrow (sized_fits start.requires.0), omega arith, omega arith)

pub bounds-marks-row : goal.bounds-marks-row
bounds-marks-row c = omega (arith, c.row.ensures.1, (sized_fits c.requires.0).few_rows)

pub returns-then-l-eq1 : goal.returns-then-l-eq1
returns-then-l-eq1 c =
    let row_read : let start = c in c.row.result ≡ target start.args.model.now start.args.i * start.args.n.symbols + top start.args.model.now start.args.i = let start = c in c.row.ensures.0 ∙ ap₂ (λ r y. r * start.args.n.symbols + y) c.target-r.ensures.0 c.top.ensures.0 in
    λ q.
    let read = c in
    let args = read.args in
    let alone = pushes_one _ _ _ (sym read.pushes-l.ensures.0 ∙ c.if-l-eq1.true) in
    through_one args.n.states args.n.symbols args.marks.now _ q alone row_read

pub exits_of_two-requires : goal.exits_of_two-requires
exits_of_two-requires c = let start = c in
    let names = record_names start.requires.0 start.requires.1 in
    (sized_fits start.requires.0, omega arith)
