-- The code that a struct tells is the number of the answer that it tells.
use Rattle.refusal.specs.declared.Refusal.{Refusal}
use Rattle.std.specs.Prelude.{Err, Ok, Result}
use mathlib.Core.Path.{◌≡◌, refl}
use Rattle.tree_build.specs.Building.{path_number, rows_number}
use Rattle.report_read.specs.Read.{read_number}
use Rattle.server_batch.specs.Answering.{batch_number}
use Rattle.list_read.specs.Read.{servers_number}
use Rattle.list_parts.specs.Parts.{part_number, addressed_number}
use Rattle.list_parts.specs.declared.Addressed.{Addressed}
use Rattle.list_parts.specs.declared.Addressed.TheVariants as addressed
use Rattle.list_write.specs.Answers.{listing_number}
use Rattle.c_lists.specs.Listing.{tb_servers, tb_addressed}
use Rattle.c_packets.specs.Writing.{tb_wrote}
use Rattle.c_packets.specs.Batching.{tb_batch}
use Rattle.c_packets.specs.Building.{tb_placed, tb_laid}
use Rattle.c_evidence.specs.Publishing.{tb_records}
use Prim.Native.Nat.{ℕ}

pub path-code : (a : Result (ℕ × ℕ) Refusal) → (tb_placed a).code ≡ path_number a
path-code (Ok (indx, depth)) = refl
path-code (Err why) = refl

pub rows_code : (a : Result ℕ Refusal) (length : ℕ) → (tb_laid a length).code ≡ rows_number a
rows_code (Ok depth) length = refl
rows_code (Err why) length = refl

pub read-code : (a : Result ℕ Refusal) → (tb_records a).code ≡ read_number a
read-code (Ok n) = refl
read-code (Err why) = refl

pub batch-code : (a : Result ℕ Refusal) → (tb_batch a).code ≡ batch_number a
batch-code (Ok n) = refl
batch-code (Err why) = refl

pub servers-code : (a : Result (ℕ × ℕ) Refusal) → (tb_servers a).code ≡ servers_number a
servers-code (Ok (n, m)) = refl
servers-code (Err why) = refl

pub part-code : (a : Result ℕ Refusal) → (tb_wrote a).code ≡ part_number a
part-code (Ok n) = refl
part-code (Err why) = refl

pub addressed-code : (a : Result Addressed Refusal) → (tb_addressed a).code ≡ addressed_number a
addressed-code (Ok (addressed.Udp n)) = refl
addressed-code (Ok (addressed.Tcp n)) = refl
addressed-code (Err why) = refl

pub listing-code : (a : Result ℕ Refusal) → (tb_wrote a).code ≡ listing_number a
listing-code (Ok n) = refl
listing-code (Err why) = refl
