-- H, and what it is taken of: a server's SRV value (draft 19, 5.1.4), leaves and parents (5.3), an empty place
-- (document 01, house) and links (8.2); and H of pieces (P5).
-- A contract cannot use the name `H`, so it is `H32` here.
use Rattle.std.specs.Prelude.{List, [], ◌∷◌, ◌++◌, ℕ, take}
use Rattle.sha512.specs.Computation.{Sha512}
use Rattle.sha512.specs.State.{state_digest}
use Rattle.sha512.specs.declared.Running.{Running}

-- the first 32 bytes of SHA-512
unfoldable pub H32 : List ℕ → List ℕ
H32 m = take 32 (Sha512 m)

-- a leaf, over a whole request packet
unfoldable pub leaf_of : List ℕ → List ℕ
leaf_of packet = H32 (0x00 ∷ packet)

-- a parent, over its two children
unfoldable pub parent_of : List ℕ → List ℕ → List ℕ
parent_of left right = H32 (0x01 ∷ (left ++ right))

-- what an empty place of a tree holds
unfoldable pub empty_place : List ℕ
empty_place = H32 (0x00 ∷ [])

-- the SRV value of the server with this long-term key
unfoldable pub srv_of : List ℕ → List ℕ
srv_of key = H32 (0xff ∷ key)

-- the nonce that links a request to the response before it, with the request's own rand
unfoldable pub link_of : List ℕ → List ℕ → List ℕ
link_of response rand = H32 (response ++ rand)

-- the first 32 bytes of what finishing answers
unfoldable pub hash_of : Running → List ℕ
hash_of r = take 32 (state_digest r)
