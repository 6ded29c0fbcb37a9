-- `report_on`: the report on the two parts that were read.
use Rattle.files.proofs.report_on.Goals as goal

pub returns : goal.returns
returns g c = record { model = _; delivery = _; report = c.of_files.ensures }
