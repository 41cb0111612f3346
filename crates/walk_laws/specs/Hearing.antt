-- Which states and piles a caller of take_signed can reach (requests P10 and P11). It is `Reached` of the walk, with
-- the answers of our own Ed25519 under the key of the server that was asked. Nothing is asked of signatures.
use Rattle.refusal.specs.declared.Refusal.{Refusal}
use Rattle.std.specs.Prelude.{ℕ, ◌≡◌, List, length, Result}
use Rattle.walk_signed.specs.Heard.{own_heard}
use Rattle.walk.specs.Starting.{start_code, begun_walk}
use Rattle.walk.specs.Taking.{Takes, walk_after, pile_after}
use Rattle.walk.specs.declared.Walk.{Walk}
use Rattle.walk.specs.declared.Said.{Said}

pub data ReachedAlone (keys nonce : List ℕ) (most : ℕ) : Walk → List ℕ → Type 0 where
  begun : (buffer : List ℕ) → (start_code keys (length buffer)).code ≡ 0
      → ReachedAlone keys nonce most (begun_walk keys nonce most) buffer
  took : (w : Walk) (buffer : List ℕ) (sent received : ℕ) (rand response : List ℕ) (s : Result Said Refusal)
      → ReachedAlone keys nonce most w buffer → length rand ≡ 32
      → Takes w (own_heard w sent received rand response) response buffer s
      → ReachedAlone keys nonce most (walk_after s w (own_heard w sent received rand response) response)
      (pile_after s w response buffer)
