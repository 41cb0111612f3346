-- What the reader and the writer of reports in the public format answer, as structs for C.
use Rattle.refusal.specs.declared.Refusal.{Refusal}
use Rattle.std.specs.Prelude.{Err, Ok, Result, ℕ}
use Rattle.report_text.specs.Forwarded.{forwarded_number}
use Rattle.report_read.specs.Read.{read_number}
use Rattle.report_write.specs.Published.{published_number}
use Rattle.c_evidence.specs.declared.TbForwarded.{TbForwarded}
use Rattle.c_evidence.specs.declared.TbPublished.{TbPublished}
use Rattle.c_evidence.specs.declared.TbRecords.{TbRecords}

-- the answer of the reader: how many records there are, or a refusal
abbrev pub tb_records : Result ℕ Refusal → TbRecords
tb_records (Ok n) = record { code = 0; records = n }
tb_records (Err why) = record { code = read_number (Err why); records = 0 }

-- the answer of the writer: how long the text is, or a refusal with the record and the byte that it carries, and 0
-- where it carries none
abbrev pub tb_published : Result ℕ (Refusal × ℕ) → TbPublished
tb_published (Ok n) = record { code = 0; place = 0; at = 0; length = n }
tb_published (Err (why, k)) =
    record { code = published_number (Err (why, k)); place = k; at = why.at; length = 0 }

-- the answer of the cut of a text: the places of the run's first and last record and how long its text is, or a refusal
abbrev pub tb_forwarded : Result (ℕ × ℕ × ℕ) Refusal → TbForwarded
tb_forwarded (Ok (i, j, n)) = record { code = 0; first = i; last = j; length = n }
tb_forwarded (Err why) =
    record { code = forwarded_number (Err why); first = 0; last = 0; length = 0 }
