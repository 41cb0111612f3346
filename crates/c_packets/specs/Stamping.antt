-- The window of an old stamp, as a struct for C.
use Rattle.old_stamp.specs.declared.OldWindow.{OldWindow}
use Rattle.refusal.specs.declared.Refusal.{Refusal}
use Rattle.std.specs.Prelude.{Err, Ok, Result}
use Rattle.old_stamp.specs.Window.{stamped_number}
use Rattle.c_packets.specs.declared.TbOld.{TbOld}

abbrev pub tb_old : Result OldWindow Refusal → TbOld
tb_old (Ok w) = record { code = stamped_number (Ok w); low = w.low; high = w.high }
tb_old (Err why) = record { code = stamped_number (Err why); low = 0; high = 0 }
