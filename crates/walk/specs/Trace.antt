-- Where a caller can come to: from a start, each call given the state that the call before handed back and the same
-- buffer, unaltered between calls. Refused calls are calls as well. Asking changes nothing, so that it is no step.
use Rattle.refusal.specs.declared.Refusal.{Refusal}
use Rattle.std.specs.Prelude.{ℕ, ◌≡◌, List, [], ◌∷◌, ◌++◌, length, Err, Ok, Result}
use Rattle.walk.specs.Starting.{start_code, begun_walk}
use Rattle.walk.specs.Taking.{record_now, Takes, walk_after, pile_after}
use Rattle.walk.specs.declared.Walk.{Walk}
use Rattle.walk.specs.declared.Heard.{Heard}
use Rattle.walk.specs.declared.Said.{Said}
use Rattle.walk.specs.declared.Said.TheVariants.{Next, Ended}

-- a state and a buffer that a start over these keys, with this nonce and longest delay, leads to
pub data Reached (keys nonce : List ℕ) (most : ℕ) : Walk → List ℕ → Type 0 where
  begun : (buffer : List ℕ) → (start_code keys (length buffer)).code ≡ 0
      → Reached keys nonce most (begun_walk keys nonce most) buffer
  took : (w : Walk) (buffer : List ℕ) (h : Heard) (response : List ℕ) (s : Result Said Refusal) → Reached keys nonce most w buffer
      → length h.rand ≡ 32 → Takes w h response buffer s
      → Reached keys nonce most (walk_after s w h response) (pile_after s w response buffer)

-- the responses that were accepted on the way, in their order
unfoldable pub heard : {keys nonce : List ℕ} {most : ℕ} {w : Walk} {buffer : List ℕ} → Reached keys nonce most w buffer
    → List (List ℕ)
heard (begun buffer e) = []
heard (took w buffer h response (Ok (Next v)) way l t) = heard way ++ (response ∷ [])
heard (took w buffer h response (Ok (Ended v r)) way l t) = heard way ++ (response ∷ [])
heard (took w buffer h response (Err why) way l t) = heard way

-- their records, one after the other
unfoldable pub records : {keys nonce : List ℕ} {most : ℕ} {w : Walk} {buffer : List ℕ}
    → Reached keys nonce most w buffer → List ℕ
records (begun buffer e) = []
records (took w buffer h response (Ok (Next v)) way l t) = records way ++ record_now w response
records (took w buffer h response (Ok (Ended v r)) way l t) = records way ++ record_now w response
records (took w buffer h response (Err why) way l t) = records way
