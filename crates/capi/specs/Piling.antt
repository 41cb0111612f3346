-- What the report check and the cutter promise at the C boundary: their answers are told by cases.
use Rattle.refusal.specs.declared.Refusal.{Refusal}
use Rattle.std.specs.Prelude.{◌≡◌, ℕ, List, length, Result}
use Rattle.laws.specs.Written.{written}
use Rattle.pile_report.specs.Report.{Reports}
use Rattle.pile_report.specs.Taking.{Takes, taken_number, taken_bytes}
use Rattle.c_evidence.specs.Piling.{tb_reported, tb_cut}
use Rattle.c_evidence.specs.declared.TbReported.{TbReported}
use Rattle.c_evidence.specs.declared.TbCut.{TbCut}

-- the struct tells the answer that is right of the pile
pub record Checks (pile answers : List ℕ) (told : TbReported) : Type 0 where
  pub answer : Result (ℕ × ℕ) (Refusal × ℕ)
  pub right : Reports pile answers answer
  pub same : told ≡ tb_reported answer

-- the struct tells the answer that is right of the pile and the buffer out, and the buffer holds afterwards what that
-- same answer leaves in it
pub record Cuts (pile answers out : List ℕ) (told : TbCut) (afterwards : List ℕ) : Type 0 where
  pub answer : Result (ℕ × ℕ) Refusal
  pub right : Takes pile answers (length out) answer
  pub same : told ≡ tb_cut answer
  pub left : afterwards ≡ written (taken_number answer) (taken_bytes answer pile) out
