-- What is decoded stands for itself.
use mathlib.Core.Path.{◌≡◌}
use mathlib.Core.Bool.{true}
use mathlib.Core.List.{List}
use Prim.Native.Nat.{ℕ}
use Rattle.ed25519_point.specs.Decoding.{decode_of}
use Rattle.ed25519_point.proofs.OnCurve.{decoded}
use Rattle.ed25519_group_laws.specs.Affine.{point_of}
use Rattle.ed25519_group_laws.specs.Standing.{StandsFor}
use Rattle.ed25519_group_laws.proofs.Multiples.{affine-stands}

pub decoded-stands : (s : List ℕ) → (decode_of s).ok ≡ true → StandsFor (decode_of s).point (point_of (decode_of s).point)
decoded-stands s ok =
    let h = decoded s ok in
    rw h.is (affine-stands _ (record { x_below = h.x_below; y-below = h.y-below; on-curve = h.on-curve }))
