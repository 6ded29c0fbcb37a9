-- What a C host learns from a code of 0: of a model's bytes b, that they are a model file; of a delivery's bytes d beside them, that they are a
-- delivery file for it, and mission point 3 with the tail of request A.7, that what they say is true of the runs of the model.
use Rattle.std.specs.Prelude.{ℕ, List, ◌↔◌, ◌≡◌}
use Rattle.model.specs.Accepted.{ModelFile}
use Rattle.wellformed.specs.Verdict.{model_verdict}
use Rattle.verdict.specs.Verdict.{verdict}
use Rattle.verdict.specs.Accepted.{RightFiles}
use Rattle.certificate.specs.Promised.{TrueOfRuns}
use Rattle.bounds.specs.Codes.{code_of}

pub record Host (b d : List ℕ) : Type 0 where
  pub model : (code_of (model_verdict b) ≡ 0) ↔ ModelFile b
  pub delivery : (code_of (verdict b d) ≡ 0) ↔ RightFiles b d
  pub true_of_runs : code_of (verdict b d) ≡ 0 → TrueOfRuns b d
