-- A round of a server: a batch of requests, the rows of their tree, one SREP, and a response to each (request P1). What
-- the operations answered and left is told by their own statements.
use Rattle.std.specs.Prelude.{true, List, ◌≡◌, ℕ, ◌*◌, ◌-◌, ◌^◌, ◌≤◌, ◌<◌, length, take, Ok}
use Rattle.tree_build.specs.AllRows.{nodes_of}
use Rattle.tree_build.specs.Building.{path_answer, from_bytes, rows_answer, rows_bytes}
use Rattle.tree_build.specs.Leaves.{most, count_of, held_of}
use Rattle.hash.specs.Hashes.{leaf_of}
use Rattle.laws.specs.Flat.{flat}
use Rattle.laws.specs.Upto.{upto}
use Rattle.laws.specs.Written.{written}
use Rattle.wire_message.specs.Tags.{PUBK}
use Rattle.wire_message.specs.Values.{value_of}
use Rattle.server_response.specs.Refusing.{dele_of, mint_of, maxt_of}
use Rattle.server_response.specs.Response.{Reply, reply}
use Rattle.tree.specs.Tree.{node_in}
use Rattle.check_response.specs.Check.{verdict_of, key_of}
use Rattle.check_response.specs.Window.{window_of}
use Rattle.wire_packet.specs.Packet.{body}
use Rattle.wire_packet.specs.Request.{request_code}
use Rattle.wire_packet.specs.Response.{srep}

-- what a server has in a round: the requests by their places, the time and its radius, the value of CERT and the
-- signature over SREP. Then the rows that `rows` left in a buffer, and the depth that it answered
pub record Round : Type 0 where
  pub count : ℕ
  pub requests : ℕ → List ℕ
  pub midp : ℕ
  pub radi : ℕ
  pub cert : List ℕ
  pub signature : List ℕ
  pub buffer : List ℕ
  pub rows : List ℕ
  pub depth : ℕ

-- the leaves of the requests, one after the other
abbrev pub leaves_of : Round → List ℕ
leaves_of r = flat (upto (λ k. leaf_of (r.requests k)) r.count)

-- the root: the last node of the rows
abbrev pub root_in : Round → List ℕ
root_in r = node_in r.rows (nodes_of r.depth - 1)

-- 1 to 1,024 good requests, whose leaves were lent to `rows`, which wrote; and numbers and a signature of their width
pub record Laid (r : Round) : Type 0 where
  pub one : 1 ≤ r.count
  pub few : r.count ≤ most
  pub good : (k : ℕ) → k < r.count → (request_code (r.requests k)).code ≡ 0
  pub answered : Ok r.depth ≡ rows_answer (count_of (length (leaves_of r))) (length r.buffer)
  pub left : r.rows ≡ written 0 (rows_bytes (leaves_of r)) r.buffer
  pub midp : r.midp < 2 ^ 64
  pub radi : r.radi < 2 ^ 32
  pub signature : length r.signature ≡ 64

-- what `path_from` answered for one place and left in a buffer
pub record Turn : Type 0 where
  pub place : ℕ
  pub indx : ℕ
  pub siblings : ℕ
  pub buffer : List ℕ
  pub path : List ℕ

-- it was lent the rows, and wrote
pub record Placed (r : Round) (t : Turn) : Type 0 where
  pub answered : Ok (t.indx, t.siblings)
      ≡ path_answer (held_of (length r.rows) r.count) t.place (length t.buffer)
  pub left : t.path ≡ written 0 (from_bytes r.rows r.count t.place) t.buffer

-- the call of `write_response` for that place: its own request, the INDX and the siblings that `path_from` answered,
-- and what is the same for all
abbrev pub turn_reply : Round → Turn → Reply
turn_reply r t =
    reply (r.requests t.place) t.indx (root_in r) (take (32 * t.siblings) t.path) r.midp r.radi r.cert
    r.signature

-- the packet p serves the request at that place. It passes for it when both answers are yes, with the window of this
-- time, and with the times and the key of CERT. Its SREP is the one that was signed
pub record Serves (r : Round) (t : Turn) (signed p : List ℕ) : Type 0 where
  pub passes : verdict_of (r.requests t.place) p true true
      ≡ Ok (window_of r.midp r.radi (mint_of r.cert) (maxt_of r.cert))
  pub key : key_of (r.requests t.place) p true true ≡ value_of (dele_of r.cert) PUBK
  pub carries : srep (body p) ≡ signed
