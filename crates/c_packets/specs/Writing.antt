-- What the writers of bytes answer, as a struct for C.
use Rattle.refusal.specs.declared.Refusal.{Refusal}
use Rattle.std.specs.Prelude.{Result, ℕ}
use Rattle.wire_request.specs.Answered.{wrote_number, wrote_at, wrote_length}
use Rattle.c_packets.specs.declared.TbWrote.{TbWrote}

abbrev pub tb_wrote : Result ℕ Refusal → TbWrote
tb_wrote w = record { code = wrote_number w; at = wrote_at w; length = wrote_length w }
