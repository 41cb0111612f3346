-- Where a server was found, as a struct for C: the list, 0 for the owner's and 1 for the shipped, and the byte at which
-- its record begins.
use Rattle.refusal.specs.declared.Refusal.{Refusal}
use Rattle.std.specs.Prelude.{◌*◌, Err, Ok, Result}
use Rattle.server_list.specs.Lookup.{where_number}
use Rattle.server_list.specs.declared.Where.{Where}
use Rattle.server_list.specs.declared.Where.TheVariants.{Owner, Shipped}
use Rattle.c_packets.specs.declared.TbFound.{TbFound}

abbrev pub tb_found : Result Where Refusal → TbFound
tb_found (Ok (Owner k)) = record { code = 0; list = 0; offset = k * 64 }
tb_found (Ok (Shipped k)) = record { code = 0; list = 1; offset = k * 64 }
tb_found (Err why) = record { code = where_number (Err why); list = 0; offset = 0 }
