-- What the reader of server lists and the readers of addresses answer, as structs for C.
use Rattle.refusal.specs.declared.Refusal.{Refusal}
use Rattle.std.specs.Prelude.{Err, Ok, Result, ℕ}
use Rattle.list_parts.specs.declared.Addressed.{Addressed}
use Rattle.list_parts.specs.declared.Addressed.TheVariants as addressed
use Rattle.c_lists.specs.declared.TbServers.{TbServers}
use Rattle.c_lists.specs.declared.TbAddressed.{TbAddressed}

-- how many records there are and how many servers were passed over, or a refusal
abbrev pub tb_servers : Result (ℕ × ℕ) Refusal → TbServers
tb_servers (Ok (n, m)) = record { code = 0; records = n; passed_over = m }
tb_servers (Err why) = record { code = why.code; records = 0; passed_over = 0 }

-- how many octets an address has and its protocol, 0 for UDP and 1 for TCP, or a refusal
abbrev pub tb_addressed : Result Addressed Refusal → TbAddressed
tb_addressed (Ok (addressed.Udp n)) = record { code = 0; tcp = 0; length = n }
tb_addressed (Ok (addressed.Tcp n)) = record { code = 0; tcp = 1; length = n }
tb_addressed (Err why) = record { code = why.code; tcp = 0; length = 0 }
