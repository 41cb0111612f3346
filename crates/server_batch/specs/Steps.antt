-- What private functions ask and promise. No operation is stated by it. Where a function is lent the marks, it speaks
-- of these and not of the SRV value by which they were made.
use Rattle.std.specs.Prelude.{Bool, cond, false, ◌&&◌, List, [], ◌≡◌, ℕ, ◌+◌, ◌*◌, ◌-◌, ◌≤◌, ◌<◌, ◌^◌, eqb, leb, length, get_or}
use Rattle.laws.specs.Flat.{flat}
use Rattle.laws.specs.Pasted.{pasted}
use Rattle.laws.specs.Written.{Puts}
use Rattle.hash.specs.Hashes.{leaf_of}
use Rattle.tree.specs.Tree.{node_in, nodes_in, depth_of}
use Rattle.tree_build.specs.AllRows.{levels, nodes_of, path_in}
use Rattle.tree_build.specs.Leaves.{most}
use Rattle.tree_build.specs.Level.{CanRead}
use Rattle.wire_packet.specs.Request.{request_bad}
use Rattle.server_response.specs.Response.{reply, response_bytes}
use Rattle.server_batch.specs.Answering.{signature_over, out_after, rows_left, out_left, lengths_left}
use Rattle.server_batch.specs.Batch.{Batch, count, packet_in, meant_at, answers, root_in}
use Rattle.server_batch.specs.Picking.{how_many, picked}
use Rattle.server_batch.specs.declared.Said.{Said}

-- all slots are there
pub record Slots (b : Batch) : Type 0 where
  pub few : count b ≤ most
  pub whole : b.slot * count b ≤ length b.packets

-- 1 for a packet that is meant for the server, and 0 for another
abbrev pub mark_at : Batch → ℕ → ℕ
mark_at b i = cond (meant_at b i) 1 0

-- a packet is answered, by its mark and its length
abbrev pub stay_test : ℕ → ℕ → ℕ → Bool
stay_test mark n least = eqb mark 1 && leb least n

-- packet i is
unfoldable pub stay_at : List ℕ → List ℕ → ℕ → ℕ → Bool
stay_at marks lengths least i = stay_test (get_or marks i 0) (get_or lengths i 0) least

-- d siblings are enough, where CERT has c bytes
unfoldable pub enough_in : List ℕ → List ℕ → ℕ → ℕ → Bool
enough_in marks lengths c d = leb (depth_of (how_many (stay_at marks lengths (264 + 32 * d + c)) (length lengths))) d

-- the length of its answer, where each has size bytes
unfoldable pub length_in : List ℕ → List ℕ → ℕ → ℕ → ℕ → ℕ
length_in marks lengths least size i = cond (stay_at marks lengths least i) size 0

-- all slots and marks are there, and what is marked is a good request within its slot
pub record Held (packets : List ℕ) (slot : ℕ) (lengths marks : List ℕ) : Type 0 where
  pub few : length lengths ≤ most
  pub whole : slot * length lengths ≤ length packets
  pub marked : length lengths ≤ length marks
  pub inside : (i : ℕ) → i < length lengths → get_or marks i 0 ≡ 1 → get_or lengths i 0 ≤ slot
  pub good : (i : ℕ) → i < length lengths → get_or marks i 0 ≡ 1 → request_bad (packet_in packets slot lengths i) ≡ false

-- the leaf of packet i
abbrev pub leaf_in : List ℕ → ℕ → List ℕ → ℕ → List ℕ
leaf_in packets slot lengths i = leaf_of (packet_in packets slot lengths i)

-- what is put of packet i: its leaf, as node k, where it is answered
pub record PutLeaf (stays : Bool) (leaf o : List ℕ) (k : ℕ) (out : List ℕ) (r : ℕ) : Type 0 where
  pub next : r ≡ k + cond stays 1 0
  pub puts : Puts o (32 * k) (cond stays leaf []) out (32 * r)

-- the leaves of the first n packets are put, k of them
pub record PutLeaves (stays : ℕ → Bool) (leaf : ℕ → List ℕ) (n : ℕ) (o out : List ℕ) (k : ℕ) : Type 0 where
  pub many : k ≡ how_many stays n
  pub puts : Puts o 0 (flat (picked stays leaf n)) out (32 * k)

-- what all answers say has its lengths
pub record Whole (said : Said) : Type 0 where
  pub root : length said.root ≡ 32
  pub signature : length said.signature ≡ 64

-- an answer can be written: the packet is a good request, the rows have all nodes of a tree of depth d, which has that
-- place, and the answer is not too long and has room
pub record CanAnswer (p : List ℕ) (place : ℕ) (rows : List ℕ) (d : ℕ) (said : Said) (c room : ℕ) : Type 0 where
  pub whole : Whole said
  pub good : request_bad p ≡ false
  pub read : CanRead rows d place (32 * d)
  pub short : 264 + 32 * d + c ≤ 2000
  pub enough : 264 + 32 * d + c ≤ room

-- the answer to packet i, at place k of the tree whose rows are lent
unfoldable pub answer_in : List ℕ → ℕ → List ℕ → ℕ → Said → List ℕ → List ℕ
answer_in packet k rows d said cert =
    response_bytes (reply packet k said.root (flat (path_in rows d k)) said.midp said.radi cert
    said.signature)

-- answers can be written, each of them at most `least` bytes: the rows have all nodes of a tree of depth d, and out has
-- n slots of `room` bytes, of which each has room for an answer
pub record Answering (rows : List ℕ) (d : ℕ) (said : Said) (c least n room out : ℕ) : Type 0 where
  pub whole : Whole said
  pub deep : 2 ^ d ≤ most
  pub held : 32 * nodes_of d ≤ length rows
  pub longest : 264 + 32 * d + c ≤ least
  pub enough : least ≤ room
  pub slots : room * n ≤ out

-- what is written of packet i: its answer, from index `at` of o on, where it is answered
pub record AnsweredOne (stays : Bool) (answer : List ℕ) (at : ℕ) (o : List ℕ) (k : ℕ) (out : List ℕ) (r : ℕ)
    : Type 0 where
  pub next : r ≡ k + cond stays 1 0
  pub is : out ≡ cond stays (pasted o at answer) o
  pub long : length out ≡ length o

-- the answers to all packets, by their marks
abbrev pub answers_in : List ℕ → ℕ → List ℕ → List ℕ → ℕ → List ℕ → ℕ → Said → List ℕ → ℕ → List ℕ
answers_in packets slot lengths marks least rows d said cert i =
    answer_in (packet_in packets slot lengths i) (how_many (stay_at marks lengths least) i) rows d said cert

-- nothing is too short for n packets, where CERT has c bytes
pub record Enough (n c packets slot rows out room lengths : ℕ) : Type 0 where
  pub of-packets : slot * n ≤ packets
  pub of-rows : 32 * nodes_of (depth_of n) ≤ rows
  pub of-out : room * n ≤ out
  pub of-lengths : n ≤ lengths
  pub of_room : 264 + 32 * depth_of n + c ≤ room

-- what all answers say, where these are the rows of the tree of depth d: its root is their last node
abbrev pub said_of : List ℕ → ℕ → List ℕ → ℕ → ℕ → Said
said_of rows d seed midp radi =
    record {
      root = node_in rows (nodes_of d - 1);
      midp = midp;
      radi = radi;
      signature = signature_over seed (node_in rows (nodes_of d - 1)) midp radi;
    }

-- n packets, of which k stay, can be answered
pub record CanServe (stays : ℕ → Bool) (k n c least rows out room : ℕ) : Type 0 where
  pub some : 0 < k
  pub all : k ≡ how_many stays n
  pub few : k ≤ most
  pub held : 32 * nodes_of (depth_of k) ≤ rows
  pub longest : 264 + 32 * depth_of k + c ≤ least
  pub enough : least ≤ room
  pub slots : room * n ≤ out

-- they are: the rows over the k leaves that stood at the front of them, and the answers
pub record Served (packets : List ℕ) (slot : ℕ) (lengths marks : List ℕ) (least k : ℕ) (cert seed : List ℕ)
    (midp radi room : ℕ) (rows out rows-after out-after : List ℕ) : Type 0 where
  pub whole : Whole (said_of rows-after (depth_of k) seed midp radi)
  pub laid : Puts rows 0 (flat (levels (nodes_in k rows) (depth_of k) 0)) rows-after (32 * nodes_of (depth_of k))
  pub answered : out-after
      ≡ out_after (stay_at marks lengths least)
      (answers_in packets slot lengths marks least rows-after (depth_of k)
      (said_of rows-after (depth_of k) seed midp radi) cert)
      room out (length lengths)

-- what is left of a batch, where nothing is refused: r packets are answered
pub record Left (b : Batch) (least : ℕ) (cert seed : List ℕ) (midp radi room : ℕ) (rows out lengths : List ℕ)
    (rows-after out-after lengths-after : List ℕ) (r : ℕ) : Type 0 where
  pub many : r ≡ answers b least
  pub of-rows : rows-after ≡ rows_left b least rows
  pub of-out : out-after ≡ out_left b least cert (signature_over seed (root_in b least) midp radi) midp radi room out
  pub of-lengths : lengths-after
      ≡ lengths_left b least cert (signature_over seed (root_in b least) midp radi) midp radi lengths
