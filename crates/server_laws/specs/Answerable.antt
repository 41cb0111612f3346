-- When a response is written, as requests P1 and P4 say it: all of these at once. No code stands in it.
use Rattle.std.specs.Prelude.{List, ◌≡◌, ℕ, ◌^◌, ◌≤◌, ◌<◌, length}
use Rattle.hash.specs.Hashes.{leaf_of}
use Rattle.wire_message.specs.Encode.{Field, Fields, encode}
use Rattle.wire_message.specs.Rules.{bytes}
use Rattle.wire_message.specs.Sentences.{Holds, HoldsMessage}
use Rattle.wire_message.specs.Tags.{SIG, DELE, PUBK, MINT, MAXT}
use Rattle.wire_message.specs.Values.{value_of}
use Rattle.wire_message.specs.Tags.{PATH, ROOT}
use Rattle.server_response.specs.Refusing.{mint_of, maxt_of}
use Rattle.server_response.specs.Response.{Reply, response_bytes}
use Rattle.tree.specs.Leads.{Leads}
use Rattle.wire_packet.specs.Good.{GoodRequest}
use Rattle.wire_packet.specs.Packet.{body}
use Rattle.wire_packet.specs.Response.{srep, cert, indx_in, midp_in, radi_in}

-- what the types of the call say of what was lent: numbers of their width, a root of 32 and a signature of 64 bytes
pub record Typed (a : Reply) : Type 0 where
  pub indx : a.indx < 2 ^ 32
  pub root : length a.root ≡ 32
  pub midp : a.midp < 2 ^ 64
  pub radi : a.radi < 2 ^ 32
  pub signature : length a.signature ≡ 64

-- the value of a good CERT (document 01, "Bytes of a message"; draft 19, 5.2.6)
pub record GoodCert (value : List ℕ) : Type 0 where
  pub fields : List Field
  pub kept : Fields fields
  pub is : value ≡ encode fields
  -- SIG has 64 bytes, and DELE is a message: PUBK has 32 bytes, MINT 8, MAXT 8
  pub sig : Holds fields SIG (bytes 64)
  pub dele : HoldsMessage fields DELE
  pub pubk : Holds dele.fields PUBK (bytes 32)
  pub mint : Holds dele.fields MINT (bytes 8)
  pub maxt : Holds dele.fields MAXT (bytes 8)

-- a response can be written
pub record Answerable (a : Reply) : Type 0 where
  -- the request is a good one
  pub request : GoodRequest a.request
  -- RADI is not 0
  pub radius : 0 < a.radi
  -- CERT and its DELE are good
  pub delegation : GoodCert a.cert
  -- the path is 0 to 32 whole siblings and leads, with INDX, from the request's leaf to the root
  pub leads : Leads (leaf_of a.request) a.indx a.path a.root
  -- MINT <= MIDP <= MAXT
  pub from : mint_of a.cert ≤ a.midp
  pub to : a.midp ≤ maxt_of a.cert
  -- the response is not longer than the request
  pub short : length (response_bytes a) ≤ length a.request

-- the response packet p, whoever wrote it, says what the call is to say
pub record Says (p : List ℕ) (a : Reply) : Type 0 where
  pub indx : indx_in (body p) ≡ a.indx
  pub root : value_of (srep (body p)) ROOT ≡ a.root
  pub path : value_of (body p) PATH ≡ a.path
  pub midp : midp_in (body p) ≡ a.midp
  pub radi : radi_in (body p) ≡ a.radi
  pub cert : cert (body p) ≡ a.cert

-- the value of CERT delegates: the signature over this DELE, which says that this key may sign from mint to maxt
pub record Delegates (value pubk : List ℕ) (mint maxt : ℕ) (signature dele : List ℕ) : Type 0 where
  pub good : GoodCert value
  pub signed : value_of value SIG ≡ signature
  pub over : value_of value DELE ≡ dele
  pub key : value_of (value_of value DELE) PUBK ≡ pubk
  pub from : mint_of value ≡ mint
  pub to : maxt_of value ≡ maxt
