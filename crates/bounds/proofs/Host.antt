-- What a C host learns from a code of 0: it stands for acceptance alone, and what is accepted is true of the runs.
use Prim.Native.Nat.{ℕ}
use mathlib.Core.List.{List}
use mathlib.Core.Logic.Iff
use Rattle.wellformed.specs.Verdict.{model_verdict}
use Rattle.wellformed.proofs.Accepted.{model_accepted}
use Rattle.verdict.specs.Verdict.{verdict}
use Rattle.verdict.proofs.Accepted.{delivery_accepted}
use Rattle.certificate.proofs.Holds.{accepted_true}
use Rattle.bounds.specs.Host.{Host}
use Rattle.bounds.proofs.Codes.{code_accepted}

pub host : (b d : List ℕ) → Host b d
host b d = record {
  model = Iff.trans (code_accepted (model_verdict b)) (model_accepted b);
  delivery = Iff.trans (code_accepted (verdict b d)) (delivery_accepted b d);
  true_of_runs = λ e. accepted_true b d ((code_accepted (verdict b d)).0 e);
}
