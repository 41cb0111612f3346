-- The state of a walk (draft 19, 8.2; request P10). Every definition here is total: the caller may hand in any state.
use Rattle.std.specs.Prelude.{ℕ, ◌*◌, ◌%◌, ◌≤◌, ◌<◌, Bool, List, [], ◌∷◌, leb, ltb, take, drop}
use Rattle.laws.specs.Any.{any}
use Rattle.wire_request.specs.Request.{request_bytes}
use Rattle.walk.specs.declared.Walk.{Walk}

-- the walk has ended: both rounds are done. A state that has not 3 to 8 servers, which no start hands out, counts as
-- ended; this is ours.
unfoldable pub over_of : Walk → Bool
over_of w = any (ltb w.count 3 ∷ ltb 8 w.count ∷ leb (2 * w.count) w.step ∷ [])

-- the same as facts, which private functions ask of their callers: the walk goes on
pub record Going (w : Walk) : Type 0 where
  pub from : 3 ≤ w.count
  pub to : w.count ≤ 8
  pub inside : w.step < 2 * w.count

-- key i of a row of keys, from 0
abbrev pub key_at : List ℕ → ℕ → List ℕ
key_at keys i = take 32 (drop (32 * i) keys)

-- the server that is asked: one after the other, and then again in the same order
abbrev pub server_of : Walk → ℕ
server_of w = w.step % w.count

unfoldable pub key_of : Walk → List ℕ
key_of w = key_at w.keys (server_of w)

-- how long our request is (document 01, "Our written request")
abbrev pub ASKED : ℕ
ASKED = 1036

-- the request that is asked is the one that we write
unfoldable pub request_now : Walk → List ℕ
request_now w = request_bytes (key_of w) w.nonce
