-- A call of `answer_batch`, and the answer to one of its packets as `write_response` would be told to write it.
use Rattle.std.specs.Prelude.{Bool, List, ◌≡◌, ℕ, ◌^◌, ◌<◌, length, Result}
use Rattle.laws.specs.Flat.{flat}
use Rattle.tree.specs.Tree.{path_of}
use Rattle.refusal.specs.declared.Refusal.{Refusal}
use Rattle.server_batch.specs.Answering.{batch_answer, batch_code, batch_number, signature_over, LeftBy}
use Rattle.server_batch.specs.Batch.{Batch, packet_at, longest, answered_at, place_of, leaves, depth_in, root_in, answer_at}
use Rattle.server_response.specs.Response.{Reply, reply}

-- what the call is lent: the batch, the value of CERT, the delegated seed, MIDP and RADI. Then how many bytes there are
-- for the rows and for the answers, the size of an answer's slot, and how many lengths there are
pub record Call : Type 0 where
  pub batch : Batch
  pub cert : List ℕ
  pub seed : List ℕ
  pub midp : ℕ
  pub radi : ℕ
  pub rows : ℕ
  pub out : ℕ
  pub room : ℕ
  pub lengths : ℕ

-- its code, 0 where nothing is refused
abbrev pub code_of : Call → Refusal
code_of c =
    batch_code c.batch c.cert c.seed c.midp c.radi c.rows c.out c.room c.lengths

-- what `answer_batch` says, r, and leaves, by its contract, of the buffers that it is lent
pub record Called (c : Call) (rows out lengths : List ℕ) (r : Result ℕ Refusal)
    (rows-after out-after lengths-after : List ℕ) : Type 0 where
  pub of-out : c.out ≡ length out
  pub says : r ≡ batch_answer c.batch c.cert (code_of c)
  pub left : LeftBy c.batch c.cert c.seed c.midp c.radi c.room rows out lengths (batch_number r)
      rows-after out-after lengths-after

-- nothing is refused, and the numbers have the width of their types
pub record Taken (c : Call) : Type 0 where
  pub passes : (code_of c).code ≡ 0
  pub midp : c.midp < 2 ^ 64
  pub radi : c.radi < 2 ^ 32

-- packet i
abbrev pub packet : Call → ℕ → List ℕ
packet c i = packet_at c.batch i

-- how long a packet must be that is answered, and that packet i is
abbrev pub least_of : Call → ℕ
least_of c = longest c.batch (length c.cert)

abbrev pub answered : Call → ℕ → Bool
answered c i = answered_at c.batch (least_of c) i

-- the one signature, over the SREP of all
abbrev pub signature_in : Call → List ℕ
signature_in c = signature_over c.seed (root_in c.batch (least_of c)) c.midp c.radi

-- the answer to packet i
abbrev pub answer : Call → ℕ → List ℕ
answer c i = answer_at c.batch (least_of c) c.midp c.radi c.cert (signature_in c) i

-- and the call of `write_response` for it: its place among the answered, with its path
abbrev pub reply_to : Call → ℕ → Reply
reply_to c i =
    let b = c.batch in
    let n = least_of c in
    reply (packet c i) (place_of b n i) (root_in b n) (flat (path_of (leaves b n) (depth_in b n) (place_of b n i))) c.midp
    c.radi c.cert (signature_in c)
