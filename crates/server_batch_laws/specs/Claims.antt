-- What is claimed of the answers of a batch.
use Rattle.std.specs.Prelude.{true, List, ◌++◌, ◌≡◌, ℕ, ◌*◌, ◌≤◌, length, take, drop, get_or, Ok}
use Rattle.laws.specs.Written.{written}
use Rattle.check_response.specs.Window.{window_of}
use Rattle.ed25519.specs.Verification.{verifies}
use Rattle.server_batch.specs.Batch.{Batch, count, size_at, packet_at, answered_at}
use Rattle.server_response.specs.Refusing.{dele_of, mint_of, maxt_of, reply_code}
use Rattle.server_response.specs.Response.{Reply, response_bytes}
use Rattle.server_signed_laws.specs.Signer.{check_signed}
use Rattle.wire_message.specs.Tags.{SIG, SRV, PATH, PUBK, SREP, ROOT, INDX}
use Rattle.wire_message.specs.Values.{has, value_of}
use Rattle.wire_packet.specs.Good.{GoodRequest}
use Rattle.wire_packet.specs.Packet.{body}
use Rattle.wire_packet.specs.Response.{srep}
use Rattle.wire_request.specs.Answered.{answered}
use Rattle.wire_request.specs.Texts.{delegation_context}
use Rattle.server_batch_laws.specs.Call.{Call, packet, answer, reply_to}

-- the packet p is what `write_response` writes for the call a: it refuses nothing of it; lent any buffer that has room
-- for p, it answers the length of p, and p stands at the front
pub record Writes (a : Reply) (p : List ℕ) : Type 0 where
  pub granted : (reply_code a).code ≡ 0
  pub done : (out : List ℕ) → length p ≤ length out → answered (reply_code a) (response_bytes a) out ≡ Ok (length p)
  pub front : (out : List ℕ) → take (length p) (written 0 (response_bytes a) out) ≡ p

-- a host finds the packet p in slot i of `room` bytes: it is as many bytes at the front of the slot as length i says
pub record Finds (p : List ℕ) (i room : ℕ) (out lengths : List ℕ) : Type 0 where
  pub size : get_or lengths i 0 ≡ length p
  pub bytes : take (get_or lengths i 0) (drop (room * i) out) ≡ p

-- a request is meant for the server with this SRV value (draft 19, 5.2): it is a good one, and has no SRV or this one
pub record Meant (srv q : List ℕ) : Type 0 where
  pub request : GoodRequest q
  pub own : has (body q) SRV ≡ true → value_of (body q) SRV ≡ srv

-- `check_signed` accepts the response packet p to the request packet q, under a long-term key. Its window is that of
-- this MIDP and RADI and of the MINT and MAXT of CERT, and CERT's key is beside it
abbrev pub Passes : List ℕ → List ℕ → List ℕ → ℕ → ℕ → List ℕ → Type 0
Passes key q p midp radi cert =
    check_signed key q p
    ≡ record {
      verdict = Ok (window_of midp radi (mint_of cert) (maxt_of cert));
      pubk = value_of (dele_of cert) PUBK;
    }

-- two response packets have the same tags, and the same value for each but SIG, PATH, INDX and, in SREP, ROOT: so NONC,
-- TYPE and CERT, and in SREP VER, RADI, MIDP and VERS
pub record Alike (p q : List ℕ) : Type 0 where
  pub tags : (tag : ℕ) → has (body p) tag ≡ has (body q) tag
  pub values : (tag : ℕ) → (tag ≡ SIG → ⊥) → (tag ≡ PATH → ⊥) → (tag ≡ SREP → ⊥) → (tag ≡ INDX → ⊥)
      → value_of (body p) tag ≡ value_of (body q) tag
  pub srep-tags : (tag : ℕ) → has (srep (body p)) tag ≡ has (srep (body q)) tag
  pub srep-values : (tag : ℕ) → (tag ≡ ROOT → ⊥) → value_of (srep (body p)) tag ≡ value_of (srep (body q)) tag

-- what is known of the answer to a packet of a call that refuses nothing. A host finds it, it is what `write_response`
-- writes, and it is not longer than its request. It passes under every key under which CERT's signature verifies
pub record Known (c : Call) (i : ℕ) (out-after lengths-after : List ℕ) : Type 0 where
  pub found : Finds (answer c i) i c.room out-after lengths-after
  pub meant : Meant c.batch.srv (packet c i)
  pub written : Writes (reply_to c i) (answer c i)
  pub short : length (answer c i) ≤ length (packet c i)
  pub passes : (key : List ℕ) → verifies key (delegation_context ++ dele_of c.cert) (value_of c.cert SIG) ≡ true
      → Passes key (packet c i) (answer c i) c.midp c.radi c.cert

-- two batches have as many packets, and the same ones at the same places among those that are meant for the server and
-- have at least s bytes; the others may be any
pub record Agree (b d : Batch) (s : ℕ) : Type 0 where
  pub many : count b ≡ count d
  pub able : (i : ℕ) → answered_at b s i ≡ answered_at d s i
  pub sizes : (i : ℕ) → answered_at b s i ≡ true → size_at b i ≡ size_at d i
  pub packets : (i : ℕ) → answered_at b s i ≡ true → packet_at b i ≡ packet_at d i
