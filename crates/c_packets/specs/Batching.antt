-- What a whole batch is answered with, as a struct for C.
use Rattle.refusal.specs.declared.Refusal.{Refusal}
use Rattle.std.specs.Prelude.{Err, Ok, Result, ℕ}
use Rattle.c_packets.specs.declared.TbBatch.{TbBatch}

abbrev pub tb_batch : Result ℕ Refusal → TbBatch
tb_batch (Ok n) = record { code = 0; at = 0; answered = n }
tb_batch (Err why) = record { code = why.code; at = why.at; answered = 0 }
