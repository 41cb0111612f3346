-- A good request and a good response, as document 01 and request P4 say them ("Bytes of a message"; draft 19, 4 and 5),
-- over the fields that a packet is made of: no code stands in these sentences. proofs/GoodRequest and
-- proofs/GoodResponse show that, of packets of bytes, they hold exactly where none of the codes 1 to 8 is given.
use Rattle.std.specs.Prelude.{ℕ, ◌≤◌, ◌≡◌, List, length}
use Rattle.laws.specs.Numbers.{le}
use Rattle.wire_message.specs.Encode.{Field, Fields, encode, value_among}
use Rattle.wire_message.specs.Rules.{bytes, nonzero, versions, siblings}
use Rattle.wire_message.specs.Sentences.{Holds, MayHold, HoldsMessage}
use Rattle.wire_message.specs.Tags.{SIG, VER, SRV, NONC, DELE, TYPE, PATH, RADI, PUBK, MIDP, SREP, VERS, MINT, ROOT, CERT}
use Rattle.wire_message.specs.Tags.{MAXT, INDX}
use Rattle.wire_packet.specs.Packet.{packet_of}
use Rattle.wire_packet.specs.Versions.{HoldsVersion}

-- p is the packet of these fields: the eight bytes, the length and their message; 12 to 2,000 bytes in all (house)
pub record PacketFields (p : List ℕ) (fs : List Field) : Type 0 where
  pub kept : Fields fs
  pub is : p ≡ packet_of (encode fs)
  pub least : 12 ≤ length p
  pub most : length p ≤ 2000

-- a good request (draft 19, 5.1)
pub record GoodRequest (p : List ℕ) : Type 0 where
  pub fields : List Field
  pub packet : PacketFields p fields
  -- VER is 1 to 32 versions of 4 bytes, strictly rising; NONC has 32 bytes, TYPE 4, and SRV 32 if it is present
  pub ver : Holds fields VER versions
  pub nonc : Holds fields NONC (bytes 32)
  pub type : Holds fields TYPE (bytes 4)
  pub srv : MayHold fields SRV (bytes 32)
  -- TYPE is 0, and VER holds 1
  pub type-is : le 4 (value_among TYPE fields) 0 ≡ 0
  pub version : HoldsVersion (value_among VER fields) 1

-- a good response (draft 19, 5.2)
pub record GoodResponse (p : List ℕ) : Type 0 where
  pub fields : List Field
  pub packet : PacketFields p fields
  -- SIG has 64 bytes, NONC 32, TYPE 4 and INDX 4, and PATH is 0 to 32 siblings of 32 bytes
  pub sig : Holds fields SIG (bytes 64)
  pub nonc : Holds fields NONC (bytes 32)
  pub type : Holds fields TYPE (bytes 4)
  pub path : Holds fields PATH siblings
  pub indx : Holds fields INDX (bytes 4)
  -- SREP is a message: VER has 4 bytes, RADI is a u32 that is not 0, MIDP has 8 bytes, VERS is a list as VER in a
  -- request, and ROOT has 32
  pub srep : HoldsMessage fields SREP
  pub ver : Holds srep.fields VER (bytes 4)
  pub radi : Holds srep.fields RADI nonzero
  pub midp : Holds srep.fields MIDP (bytes 8)
  pub vers : Holds srep.fields VERS versions
  pub root : Holds srep.fields ROOT (bytes 32)
  -- CERT is a message, in which SIG has 64 bytes
  pub cert : HoldsMessage fields CERT
  pub cert-sig : Holds cert.fields SIG (bytes 64)
  -- and DELE is a message: PUBK has 32 bytes, MINT 8, MAXT 8
  pub dele : HoldsMessage cert.fields DELE
  pub pubk : Holds dele.fields PUBK (bytes 32)
  pub mint : Holds dele.fields MINT (bytes 8)
  pub maxt : Holds dele.fields MAXT (bytes 8)
  -- TYPE is 1, and so is SREP's VER; VERS holds it
  pub type-is : le 4 (value_among TYPE fields) 0 ≡ 1
  pub version : le 4 (value_among VER srep.fields) 0 ≡ 1
  pub listed : HoldsVersion (value_among VERS srep.fields) (le 4 (value_among VER srep.fields) 0)
