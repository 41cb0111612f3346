-- The definitions' answers, of the code's. For contracts of helpers.
use Rattle.std.specs.Prelude.{ℕ, true, List, Option, None, Some}
use Rattle.ed25519_field.specs.Limbs.{num}
use Rattle.ed25519_curve.specs.Coords.{pt_of}
use Rattle.ed25519_curve.specs.declared.Point.{Point}
use Rattle.ed25519_point.specs.Decoding.{Root, some, none, Decoding, no_point}

abbrev pub root_in : Option (List ℕ) → Root
root_in None = none
root_in (Some x) = some (num x)

abbrev pub decoding_in : Option Point → Decoding
decoding_in None = no_point
decoding_in (Some q) = record { ok = true; point = pt_of q }
