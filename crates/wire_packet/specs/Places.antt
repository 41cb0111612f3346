-- Where a refusal's place stands in a packet (request P8): which message of the packet it is counted in, where that
-- message starts, and what stands at the place within it. proofs/Places shows that each of the codes 4 to 7 is told so,
-- and every other code with no place.
use Rattle.std.specs.Prelude.{ℕ, ◌+◌, ◌≤◌, ◌≡◌, List, length, take, drop}
use Rattle.refusal.specs.declared.Refusal.{Refusal}
use Rattle.wire_message.specs.Places.{WrongAt}
use Rattle.wire_message.specs.Rules.{message_code}
use Rattle.wire_message.specs.declared.rules.TagRule.{TagRule}
use Rattle.wire_packet.specs.Packet.{body_start, body}
use Rattle.wire_packet.specs.Response.{srep, cert, dele, srep_start, cert_start, dele_start}
use Rattle.wire_packet.specs.Tables.{root_table, srep_table, cert_table, dele_table}

-- the numbers that carry a place
pub record Carries (n : ℕ) : Type 0 where
  pub least : 4 ≤ n
  pub most : n ≤ 7

-- the refusal r of the packet p is that of its message m, which the table judges and which stands from byte `start` on:
-- its code, its place counted from the packet's first byte, and what stands there
pub record ToldOf (p : List ℕ) (r : Refusal) (m : List ℕ) (rows : List TagRule) (start : ℕ) : Type 0 where
  pub stands : take (length m) (drop start p) ≡ m
  pub code : (message_code m rows).code ≡ r.code
  pub at : r.at ≡ (message_code m rows).at + start
  pub wrong : WrongAt m rows (message_code m rows)

-- a code of 4 to 7 in a response: of the root; of SREP, where the root passes; of CERT, where SREP does too; of DELE,
-- where CERT does too (document 01's order)
pub data ToldIn (p : List ℕ) (r : Refusal) : Type 0 where
  of-root : ToldOf p r (body p) root_table body_start → ToldIn p r
  of-srep : (message_code (body p) root_table).code ≡ 0
      → ToldOf p r (srep (body p)) srep_table (body_start + srep_start (body p)) → ToldIn p r
  of-cert : (message_code (body p) root_table).code ≡ 0 → (message_code (srep (body p)) srep_table).code ≡ 0
      → ToldOf p r (cert (body p)) cert_table (body_start + cert_start (body p)) → ToldIn p r
  of-dele : (message_code (body p) root_table).code ≡ 0 → (message_code (srep (body p)) srep_table).code ≡ 0
      → (message_code (cert (body p)) cert_table).code ≡ 0
      → ToldOf p r (dele (body p)) dele_table (body_start + dele_start (body p)) → ToldIn p r

-- a refusal with another number has no place
abbrev pub Bare : Refusal → Type 0
Bare r = (Carries r.code → ⊥) → r.at ≡ 0
