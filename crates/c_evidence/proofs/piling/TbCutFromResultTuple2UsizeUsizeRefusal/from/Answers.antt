-- A `TbCut` of a run meets its contract.
use mathlib.Core.Path.{sym, ap}
use Rattle.c_evidence.specs.Piling.{tb_cut}
use borrow.Author.Rules.{rules}
use Rattle.c_evidence.proofs.piling.TbCutFromResultTuple2UsizeUsizeRefusal.from.Goals as goal

pub returns-in-Ok : goal.returns-in-Ok
returns-in-Ok c = sym (ap tb_cut c.in-Ok.is)
