-- `sizes_of`: after i turns the sizes are those of the first i records.
use native.Mathlib.Omega.{arith}
use mathlib.Core.Path.{◌≡◌}
use Rattle.model.specs.Records.{records_of}
use Rattle.model.proofs.Records.{sizes_none, sizes_all}
use Rattle.model.proofs.sizes.sizes_of.Goals as goal

pub loop-i-init : goal.loop-i-init
loop-i-init c = sizes_none c.no_records-sizes.ensures.0 c.no_records-sizes.ensures.1

pub with_record-sizes-requires : goal.with_record-sizes-requires
unfolding records_of
with_record-sizes-requires c = (omega arith, c.loop-i.invariant)

pub returns : goal.returns
returns c =
    let e : c.loop-i.i ≡ records_of c.args.model.now = omega arith in
    let all = rw e at c.loop-i.invariant in
    (sizes_all all, all.few_states, all.few_symbols)
