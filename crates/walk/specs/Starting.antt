-- The start of a walk (request P10): 31, then 19.
use Rattle.std.specs.Prelude.{ℕ, ◌*◌, ◌/◌, ◌%◌, Bool, not, cond, List, [], ◌∷◌, eqb, ltb, length, replicate, Err, Ok, Result}
use Rattle.pile.specs.Layout.{RECORD}
use Rattle.laws.specs.Any.{any}
use Rattle.laws.specs.Least.{somewhere}
use Rattle.laws.specs.Pasted.{fronted}
use Rattle.laws.specs.Same.{same}
use Rattle.refusal.specs.Refusal.{first, when}
use Rattle.refusal.specs.declared.Refusal.{Refusal}
use Rattle.walk.specs.State.{key_at}
use Rattle.walk.specs.declared.Walk.{Walk}

-- how many servers there are
abbrev pub servers_in : List ℕ → ℕ
servers_in keys = length keys / 32

-- key j is one of those before it; and one of the first n keys is
unfoldable pub met_before : List ℕ → ℕ → Bool
met_before keys j = somewhere (λ i. same (key_at keys i) (key_at keys j)) j

unfoldable pub twice : List ℕ → ℕ → Bool
twice keys n = somewhere (met_before keys) n

-- 31: fewer than 3 or more than 8 servers, or one key twice; ours: also where the bytes are no whole keys
unfoldable pub keys_bad : List ℕ → Bool
keys_bad keys =
    any
    (not (eqb (length keys % 32) 0)
    ∷ ltb (servers_in keys) 3
    ∷ ltb 8 (servers_in keys)
    ∷ twice keys (servers_in keys)
    ∷ [])

-- 31, then 19: the buffer, of room bytes, is under two records a server
unfoldable pub start_code : List ℕ → ℕ → Refusal
start_code keys room = first (when (keys_bad keys) 31 ∷ when (ltb room (2 * RECORD * servers_in keys)) 19 ∷ [])

-- a state of zeros, which no start has filled: it has no servers, so that every call on it is a call after the end
unfoldable pub blank_walk : Walk
blank_walk =
    record {
      keys = replicate 256 0;
      count = 0;
      step = 0;
      nonce = replicate 32 0;
      rand = replicate 32 0;
      last = 0;
      most = 0;
    }

-- a walk at its first step; the first rand is zero
unfoldable pub begun_walk : List ℕ → List ℕ → ℕ → Walk
begun_walk keys nonce most =
    record {
      keys = fronted keys (replicate 256 0);
      count = servers_in keys;
      step = 0;
      nonce = nonce;
      rand = replicate 32 0;
      last = 0;
      most = most;
    }

-- the answer, with a buffer of room bytes
unfoldable pub started_of : List ℕ → List ℕ → ℕ → ℕ → Result Walk Refusal
started_of keys nonce most room =
    cond (eqb (start_code keys room).code 0) (Ok (begun_walk keys nonce most)) (Err (start_code keys room))

-- its number: 0 with a walk
abbrev pub started_number : Result Walk Refusal → ℕ
started_number (Ok w) = 0
started_number (Err why) = why.code
