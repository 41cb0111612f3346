-- The signature of a text in two parts is that of the text, and verifies as such; it has 64 bytes whatever the text.
use Prim.Native.Nat.{ℕ, ◌+◌, ◌^◌, ◌<◌}
use mathlib.Core.Path.{◌≡◌, refl}
use mathlib.Core.Bool.{Bool, true, false, cond}
use mathlib.Core.List.{List, ◌++◌}
use borrow.Author.Tests.{lt-ltb}
use lib.Dec.{ltb}
use lib.ListN.{length, replicate}
use Rattle.ed25519.specs.Verification.{verifies_parts}
use Rattle.ed25519_sign.specs.Signing.{public_of, signature_of, signature_parts}
use Rattle.ed25519_sign.proofs.Steps.{parts_whole}
use Rattle.ed25519_sign_laws.specs.Signed.{SignedParts}
use Rattle.ed25519_sign_laws.proofs.Verifying.{signature-long, signed-verifies}

module _ (seed context value : List ℕ) where
  pub parts-long : length (signature_parts seed context value) ≡ 64
  unfolding signature_parts
  parts-long = by (ltb (64 + (length context + length value)) (2 ^ 64))
    where
      by : (b : Bool) → length (cond b (signature_of seed (context ++ value)) (replicate 64 0)) ≡ 64
      by true = signature-long seed (context ++ value)
      by false = refl

  module _ (few : 64 + (length context + length value) < 2 ^ 64) where
    within : ltb (64 + (length context + length value)) (2 ^ 64) ≡ true
    within = lt-ltb _ (2 ^ 64) few

    verified : verifies_parts (public_of seed) context value (signature_parts seed context value) ≡ true
    unfolding verifies_parts
    verified = rw (parts_whole seed context value few, within) (signed-verifies seed (context ++ value))

    pub signed_parts : SignedParts seed context value
    signed_parts = record { whole = parts_whole seed context value few; verified = verified }
