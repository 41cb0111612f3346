-- A `TbReported` of a report meets its contract.
use mathlib.Core.Path.{sym, ap}
use Rattle.c_evidence.specs.Piling.{tb_reported}
use borrow.Author.Rules.{rules}
use Rattle.c_evidence.proofs.piling.TbReportedFromReport.from.Goals as goal

pub returns-in-Err : goal.returns-in-Err
returns-in-Err c = sym (ap tb_reported c.in-Err.is)
