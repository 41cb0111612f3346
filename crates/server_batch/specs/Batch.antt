-- A batch: its packets, which of them are answered, and with what (draft 19, 5.2, 5.2.1, 5.2.5 and 5.3).
use Rattle.std.specs.Prelude.{Bool, not, ◌&&◌, ◌||◌, List, ℕ, ◌+◌, ◌*◌, leb, length, take, drop, get_or}
use Rattle.laws.specs.Flat.{flat}
use Rattle.laws.specs.Least.{least}
use Rattle.laws.specs.Same.{same}
use Rattle.hash.specs.Hashes.{leaf_of}
use Rattle.tree.specs.Tree.{depth_of, root_of, path_of}
use Rattle.wire_message.specs.Tags.{SRV}
use Rattle.wire_message.specs.Values.{has, value_of}
use Rattle.wire_packet.specs.Packet.{body}
use Rattle.wire_packet.specs.Request.{request_bad}
use Rattle.server_response.specs.Response.{reply, response_bytes}
use Rattle.server_batch.specs.Picking.{how_many, picked}

-- ---- The packets

-- what came: slots of one size, one after the other, with the length of the packet at the front of each; and the SRV
-- value of the server
pub record Batch : Type 0 where
  pub packets : List ℕ
  pub slot : ℕ
  pub lengths : List ℕ
  pub srv : List ℕ

-- the same in the order of the call
abbrev pub batch : List ℕ → ℕ → List ℕ → List ℕ → Batch
batch packets slot lengths srv = record { packets = packets; slot = slot; lengths = lengths; srv = srv }

-- how many packets there are
abbrev pub count : Batch → ℕ
count b = length b.lengths

-- how long packet i is said to be, and its bytes
abbrev pub size_at : Batch → ℕ → ℕ
size_at b i = get_or b.lengths i 0

unfoldable pub packet_in : List ℕ → ℕ → List ℕ → ℕ → List ℕ
packet_in packets slot lengths i = take (get_or lengths i 0) (drop (slot * i) packets)

abbrev pub packet_at : Batch → ℕ → List ℕ
packet_at b i = packet_in b.packets b.slot b.lengths i

-- ---- Which of them are answered: a packet is, exactly where it is a good request, its SRV is the server's or absent,
-- and it has at least `longest` bytes, which no answer exceeds

-- a request is meant for the server with this SRV value: it is a good one, and has no SRV, or this one (5.2: of
-- another, "the server MUST ignore the request"; this server has one long-term key)
unfoldable pub meant_for : List ℕ → List ℕ → Bool
meant_for srv p = not (request_bad p) && (not (has (body p) SRV) || same (value_of (body p) SRV) srv)

-- packet i is: what is longer than its slot is no packet
unfoldable pub meant_at : Batch → ℕ → Bool
meant_at b i = leb (size_at b i) b.slot && meant_for b.srv (packet_at b i)

-- packet i is answered, where an answer may have as many bytes as `size`: it is meant for the server and at least so
-- long, so that no answer is longer than its request
unfoldable pub answered_at : Batch → ℕ → ℕ → Bool
answered_at b size i = meant_at b i && leb size (size_at b i)

-- Who is answered hangs on how long an answer is (9.7: no longer than its request), and that, by the depth of the tree,
-- on how many are answered. With d siblings and a CERT of c bytes an answer has 264 + 32 d + c; these are enough where
-- the packets that are at least so long make a tree no deeper than d. A packet that is too short even for an answer
-- with no sibling is never counted, so that it disturbs no other
unfoldable pub enough_with : Batch → ℕ → ℕ → Bool
enough_with b c d = leb (depth_of (how_many (answered_at b (264 + 32 * d + c)) (count b))) d

-- the most bytes that an answer has: with the least number of siblings that is enough. The depth of a tree over all
-- packets is always enough, so that none above it is tried
unfoldable pub longest : Batch → ℕ → ℕ
longest b c = 264 + 32 * least (enough_with b c) (depth_of (count b)) + c

-- ---- With what: `size` is how long a packet must be that is answered

-- how many are answered, and how many before packet i: that is its place among the leaves, and its INDX (5.2.7)
abbrev pub answers : Batch → ℕ → ℕ
answers b size = how_many (answered_at b size) (count b)

abbrev pub place_of : Batch → ℕ → ℕ → ℕ
place_of b size i = how_many (answered_at b size) i

-- the leaves of the tree (5.3), its depth, and its root
abbrev pub leaves : Batch → ℕ → List (List ℕ)
leaves b size = picked (answered_at b size) (λ i. leaf_of (packet_at b i)) (count b)

abbrev pub depth_in : Batch → ℕ → ℕ
depth_in b size = depth_of (answers b size)

abbrev pub root_in : Batch → ℕ → List ℕ
root_in b size = root_of (leaves b size) (depth_in b size)

-- the answer to packet i: its own place and path, and what is the same for all
unfoldable pub answer_at : Batch → ℕ → ℕ → ℕ → List ℕ → List ℕ → ℕ → List ℕ
answer_at b size midp radi cert signature i =
    response_bytes
    (reply (packet_at b i) (place_of b size i) (root_in b size)
    (flat (path_of (leaves b size) (depth_in b size) (place_of b size i))) midp radi cert signature)
