-- `certain`: so few powers of 65,536 fit 64 bits.
use native.Mathlib.Omega.{arith}
use Rattle.shortruns.proofs.Laws.{power_most}
use Rattle.shortruns.proofs.chances.certain.Goals as goal

pub pow-requires : goal.pow-requires
pow-requires c = omega (arith, power_most c.args.steps c.requires)
