-- A walk among servers that sign with their own seeds (requests P10 and P11; draft 19, 8.2): who they are, what is said
-- at each step, when it is heard, and what comes of it.
use Rattle.refusal.specs.declared.Refusal.{Refusal}
use Rattle.std.specs.Prelude.{ℕ, ◌+◌, ◌-◌, ◌*◌, ◌%◌, ◌≤◌, ◌<◌, ◌≡◌, List, [], T, length, get_or, Ok, Result}
use Rattle.check_response.specs.Check.{window_in}
use Rattle.check_response.specs.declared.Window.{Window}
use Rattle.ed25519_sign.specs.Signing.{public_of}
use Rattle.laws.specs.Bytes.{Bytes}
use Rattle.pile_runs.specs.Clash.{clash}
use Rattle.server_response.specs.Response.{response_bytes}
use Rattle.server_signed_laws.specs.Signer.{Signer, InTime, alone_reply}
use Rattle.walk.specs.Starting.{servers_in}
use Rattle.walk.specs.State.{key_at, server_of, request_now}
use Rattle.walk.specs.Taking.{recorded, pile_of, Takes}
use Rattle.walk.specs.Trace.{Reached, heard}
use Rattle.walk.specs.Trace.Reached.{took}
use Rattle.walk.specs.declared.Heard.{Heard}
use Rattle.walk.specs.declared.Said.TheVariants.{Ended}
use Rattle.walk.specs.declared.Walk.{Walk}
use Rattle.walk_laws.specs.Verified.{AllVerify}
use Rattle.walk_laws.specs.Way.{Convicts}
use Rattle.walk_signed.specs.Heard.{own_heard}
use Rattle.wire_packet.specs.Packet.{body}

pub record Tour (keys : List ℕ) (most : ℕ) : Type 0 where
  -- server i has two seeds, and the walk has the public key of the first
  pub server : ℕ → Signer
  pub keyed : (i : ℕ) → i < servers_in keys → key_at keys i ≡ public_of (server i).long-term
  -- at step k it says a time and a radius, whatever they are, within its MINT and MAXT
  pub midp : ℕ → ℕ
  pub radi : ℕ → ℕ
  pub timed : (k : ℕ) → InTime (server (k % servers_in keys)) (midp k) (radi k)
  -- the host sent and received by its own clock, within the longest delay
  pub sent : ℕ → ℕ
  pub received : ℕ → ℕ
  pub order : (k : ℕ) → sent k ≤ received k
  pub later : (k : ℕ) → received k ≤ sent (k + 1)
  pub quick : (k : ℕ) → received k - sent k ≤ most
  -- and has a rand for the next
  pub rand : ℕ → List ℕ
  pub rand-long : (k : ℕ) → length (rand k) ≡ 32

-- the response x says what is said at step k
pub record Says {keys : List ℕ} {most : ℕ} (t : Tour keys most) (k : ℕ) (x : List ℕ) : Type 0 where
  pub midp : (window_in (body x)).midp ≡ t.midp k
  pub radi : (window_in (body x)).radi ≡ t.radi k

module _ {keys : List ℕ} {most : ℕ} (t : Tour keys most) where
  -- in a state: the answer of the server that is asked, to the request that is asked,
  abbrev pub answer_in : Walk → List ℕ
  answer_in w =
      response_bytes (alone_reply (t.server (server_of w)) (request_now w) (t.midp w.step) (t.radi w.step))

  -- and what is heard of it, with the answers of our own Ed25519
  abbrev pub heard_in : Walk → Heard
  heard_in w = own_heard w (t.sent w.step) (t.received w.step) (t.rand w.step) (answer_in w)

  -- There is a walk of such answers, from a start over these keys to the call that ends it: two for each server.
  pub record Toured (nonce : List ℕ) : Type 0 where
    pub w : Walk
    pub buffer : List ℕ
    pub way : Reached keys nonce most w buffer
    pub o : Window
    pub r : Result (ℕ × ℕ) (Refusal × ℕ)
    pub ends : Takes w (heard_in w) (answer_in w) buffer (Ok (Ended o r))
    pub full : w.step + 1 ≡ 2 * servers_in keys
    -- They say what is said at each step,
    pub said : (k : ℕ) → k < 2 * servers_in keys
        → Says t k
        (get_or (heard (took w buffer (heard_in w) (answer_in w) (Ok (Ended o r)) way (t.rand-long w.step) ends)) k [])
    -- every signature on it verifies,
    pub verified : AllVerify (took w buffer (heard_in w) (answer_in w) (Ok (Ended o r)) way (t.rand-long w.step) ends)
    -- and where a time that was said lies wholly after a later one, with their radii, the pile convicts.
    pub convicts : Bytes (recorded w (answer_in w) buffer) → (i j : ℕ) → i < j → j < 2 * servers_in keys
        → T (clash (t.midp i) (t.radi i) (t.midp j) (t.radi j))
        → Convicts (pile_of (2 * servers_in keys) (recorded w (answer_in w) buffer))
