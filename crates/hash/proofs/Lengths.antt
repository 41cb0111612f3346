-- Each of these hashes has 32 bytes. Callers never look further into them.
use mathlib.Core.Path.{◌≡◌}
use mathlib.Core.List.{List}
use Prim.Native.Nat.{ℕ}
use native.Mathlib.Omega.{arith}
use lib.ListN.{length}
use lib.Seq.{length-take-le}
use Rattle.sha512.specs.Computation.{Sha512}
use Rattle.sha512.proofs.Digested.{Sha512-long}
use Rattle.hash.specs.Hashes.{H32, leaf_of, parent_of, empty_place, srv_of, link_of}

pub length-H32 : (m : List ℕ) → length (H32 m) ≡ 32
unfolding H32
length-H32 m = length-take-le 32 (Sha512 m) (omega (arith, Sha512-long m))

pub length-leaf : (packet : List ℕ) → length (leaf_of packet) ≡ 32
unfolding leaf_of
length-leaf packet = length-H32 _

pub length-parent : (left right : List ℕ) → length (parent_of left right) ≡ 32
unfolding parent_of
length-parent left right = length-H32 _

pub length-empty : length empty_place ≡ 32
unfolding empty_place
length-empty = length-H32 _

pub length-srv : (key : List ℕ) → length (srv_of key) ≡ 32
unfolding srv_of
length-srv key = length-H32 _

pub length-link : (response rand : List ℕ) → length (link_of response rand) ≡ 32
unfolding link_of
length-link response rand = length-H32 _
