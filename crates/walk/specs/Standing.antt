-- What holds of each state and buffer that a caller can come to: the front of the buffer is the pile of the accepted
-- records. The theorem of the walk is proved by it; no contract cites it.
use Rattle.std.specs.Prelude.{ℕ, ◌-◌, ◌*◌, ◌%◌, ◌≤◌, ◌<◌, ◌≡◌, true, false, List, length, take, replicate}
use Rattle.pile.specs.Layout.{RECORD}
use Rattle.hash.specs.Hashes.{link_of}
use Rattle.laws.specs.Pasted.{fronted}
use Rattle.wire_message.specs.Tags.{NONC}
use Rattle.wire_message.specs.Values.{value_of}
use Rattle.pile.specs.Pile.{record_at, rand_in, request_packet, response_packet}
use Rattle.pile.specs.Valid.{record_bad}
use Rattle.pile.specs.Meaning.{IsLinked}
use Rattle.check_response.specs.Check.{check_code}
use Rattle.wire_packet.specs.Blank.{zeros32}
use Rattle.wire_packet.specs.Packet.{body}
use Rattle.wire_request.specs.Request.{request_bytes}
use Rattle.walk.specs.State.{key_at}
use Rattle.walk.specs.Starting.{servers_in}
use Rattle.walk.specs.declared.Walk.{Walk}

-- the NONC of a record's request
abbrev pub nonce_in : List ℕ → List ℕ
nonce_in r = value_of (body (request_packet r)) NONC

-- the record r holds our request to the server with this key, and a response to it that passes with both answers yes
pub record Recorded (key r : List ℕ) : Type 0 where
  pub keyed : take 32 r ≡ key
  pub ours : request_packet r ≡ request_bytes key (nonce_in r)
  pub undamaged : record_bad r ≡ false
  pub passes : (check_code (request_packet r) (response_packet r) true true).code ≡ 0

pub record InStep (keys nonce : List ℕ) (most : ℕ) (w : Walk) (buffer : List ℕ) : Type 0 where
  -- the walk is over these servers
  pub over-these : w.keys ≡ fronted keys (replicate 256 0)
  pub counted : w.count ≡ servers_in keys
  pub allowed : w.most ≡ most
  pub from : 3 ≤ w.count
  pub to : w.count ≤ 8
  pub whole : length keys ≡ 32 * w.count
  pub up_to : w.step ≤ 2 * w.count
  -- the buffer has room for all records
  pub room : 2 * RECORD * w.count ≤ length buffer
  pub nonce-long : length w.nonce ≡ 32
  pub rand-long : length w.rand ≡ 32
  -- record k is of server k of the first round, or of the second
  pub entries : (k : ℕ) → k < w.step → Recorded (key_at w.keys (k % w.count)) (record_at buffer k)
  -- each after the first is linked to the one before it, and the one that is asked next will be
  pub links : (k : ℕ) → 0 < k → k < w.step → IsLinked (record_at buffer (k - 1)) (record_at buffer k)
  pub next : 0 < w.step → w.nonce ≡ link_of (response_packet (record_at buffer (w.step - 1))) w.rand
  -- the first rand is zero, and the first nonce the caller's
  pub first-rand : w.step ≡ 0 → w.rand ≡ zeros32
  pub first-nonce : w.step ≡ 0 → w.nonce ≡ nonce
  pub zero-rand : 0 < w.step → rand_in (record_at buffer 0) ≡ zeros32
  pub host-nonce : 0 < w.step → nonce_in (record_at buffer 0) ≡ nonce
