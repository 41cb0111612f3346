-- What is said of a pile, as structs for C.
use Rattle.refusal.specs.declared.Refusal.{Refusal}
use Rattle.std.specs.Prelude.{ℕ, Err, Ok, Result}
use Rattle.pile.specs.declared.Judgement.{Judgement}
use Rattle.pile_report.specs.Report.{report_number, report_at}
use Rattle.pile_report.specs.Taking.{taken_number}
use Rattle.c_packets.specs.Judging.{verdict_with}
use Rattle.c_packets.specs.declared.TbVerdict.{TbVerdict}
use Rattle.c_evidence.specs.declared.TbJudged.{TbJudged}
use Rattle.c_evidence.specs.declared.TbReported.{TbReported}
use Rattle.c_evidence.specs.declared.TbCut.{TbCut}

-- what is said of one record: its verdict with the key, and its place beside it
abbrev pub placed : ℕ → TbVerdict → TbJudged
placed k v =
    record {
      code = v.code;
      radi = v.radi;
      place = k;
      at = v.at;
      midp = v.midp;
      low = v.low;
      high = v.high;
      mint = v.mint;
      maxt = v.maxt;
      pubk = v.pubk;
    }

abbrev pub tb_judged : Judgement → TbJudged
tb_judged j = placed j.place (verdict_with j.verdict j.pubk)

-- the answer of the check of a report: the pair, or a refusal with the record and the byte that it carries, and 0 where
-- it carries none
abbrev pub tb_reported : Result (ℕ × ℕ) (Refusal × ℕ) → TbReported
tb_reported (Ok (i, j)) = record { code = 0; place = 0; at = report_at (Ok (i, j)); first = i; second = j }
tb_reported (Err (why, k)) =
    record {
      code = report_number (Err (why, k));
      place = k;
      at = report_at (Err (why, k));
      first = 0;
      second = 0;
    }

-- the answer of the cutter: the places of the run's first and last record, or a refusal
abbrev pub tb_cut : Result (ℕ × ℕ) Refusal → TbCut
tb_cut (Ok (i, j)) = record { code = 0; first = i; last = j }
tb_cut (Err why) = record { code = taken_number (Err why); first = 0; last = 0 }
