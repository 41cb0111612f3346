-- What the reader of server lists answers, and what it writes. Order: 24, 25, 19.
use Rattle.refusal.specs.declared.Refusal.{Refusal}
use Rattle.std.specs.Prelude.{ℕ, suc, ◌*◌, Bool, false, List, [], ◌∷◌, ◌++◌, eqb, ltb, length, Err, Ok, Result}
use Rattle.laws.specs.Pick.{pick, either}
use Rattle.hash.specs.Hashes.{srv_of}
use Rattle.refusal.specs.Refusal.{refusal}
use Rattle.list_read.specs.Server.{Server, askable}
use Rattle.list_read.specs.Listed.{Lists, this, unread}

-- the number of an answer, 0 where nothing is refused
abbrev pub servers_number : Result (ℕ × ℕ) Refusal → ℕ
servers_number (Ok (n, m)) = 0
servers_number (Err why) = why.code

-- the servers that we can ask, in their order, and how many others there are
unfoldable pub askables : List Server → List Server
askables [] = []
askables (v ∷ vs) = pick (askable v) (v ∷ askables vs) (askables vs)

unfoldable pub passed_over : List Server → ℕ
passed_over [] = 0
passed_over (v ∷ vs) = pick (askable v) (passed_over vs) (suc (passed_over vs))

-- the record of a server (document 01, "Server lists"): the key, and its SRV value
unfoldable pub record_of : Server → List ℕ
record_of v = v.key ++ srv_of v.key

-- one after the other
unfoldable pub records_of : List Server → List ℕ
records_of [] = []
records_of (v ∷ vs) = record_of v ++ records_of vs

-- more than 8 addresses
unfoldable pub is_crowded : Server → Bool
is_crowded v = ltb 8 (length v.addresses)

unfoldable pub any_crowded : List Server → Bool
any_crowded [] = false
any_crowded (v ∷ vs) = either (is_crowded v) (any_crowded vs)

-- 25 where there is no server, where there are more than 64, or where one has too many addresses
unfoldable pub size_code : List Server → ℕ
size_code vs = pick (eqb (length vs) 0) 25 (pick (ltb 64 (length vs)) 25 (pick (any_crowded vs) 25 0))

-- the servers of a list
unfoldable pub servers_of : Lists → List Server
servers_of (this l) = l.servers
servers_of unread = []

-- 24 where the text is no list
unfoldable pub list_code : Lists → ℕ
list_code (this l) = size_code l.servers
list_code unread = 24

-- 19 where the buffer has fewer than 64 bytes for each server that we can ask; else how many records there are, and how
-- many servers were passed over
unfoldable pub answer_of : List Server → ℕ → Result (ℕ × ℕ) Refusal
answer_of vs room =
    pick (ltb room (length (askables vs) * 64)) (Err (refusal 19)) (Ok ((length (askables vs)), (passed_over vs)))

unfoldable pub read_of : Lists → ℕ → Result (ℕ × ℕ) Refusal
read_of l room = pick (eqb (list_code l) 0) (answer_of (servers_of l) room) (Err (refusal (list_code l)))

-- what is written where nothing is refused
unfoldable pub record_bytes : Lists → List ℕ
record_bytes l = records_of (askables (servers_of l))
