-- What verifies satisfies RFC 8032's own equation, too, in which both sides are taken eight times. The k of it is
-- modulo L here, as section 6 has it.
use Prim.Native.Nat.{ℕ}
use mathlib.Core.Path.{◌≡◌, ap, ◌∙◌}
use mathlib.Core.Bool.{true}
use mathlib.Core.List.{List}
use lib.ListN.{take, drop}
use Rattle.laws.specs.Numbers.{le}
use Rattle.ed25519.specs.Verification.{k_of, verifies}
use Rattle.ed25519_group_laws.specs.Affine.{times_of}
use Rattle.ed25519_laws.specs.AffineEquation.{EightfoldOf}
use Rattle.ed25519_group_laws.proofs.Times.{times-point, times-sum}
use Rattle.ed25519_laws.proofs.Accepted.{of_bytes, verified}

pub verifies-eightfold : (key text signature : List ℕ) → verifies key text signature ≡ true
    → EightfoldOf (of_bytes key) (of_bytes (take 32 signature)) (le 32 (drop 32 signature) 0)
    (k_of (take 32 signature) key text)
verifies-eightfold key text signature v =
    let h = (verified key text signature v).1 in
    let k = k_of (take 32 signature) key text in
    ap (times_of 8) h.is ∙ times-sum 8 _ (times_of k (of_bytes key)) h.r (times-point k (of_bytes key) h.a)
