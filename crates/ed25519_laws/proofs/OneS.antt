-- Of a key, a text and an R at most one S verifies: [S]B is R + [k]A' with a k that S has no part in, and S is below L.
-- So nobody makes of a signature another one with the same R.
use Prim.Native.Nat.{ℕ}
use mathlib.Core.Path.{◌≡◌, sym, ap, ◌∙◌}
use mathlib.Core.Bool.{true}
use mathlib.Core.List.{List, ◌++◌}
use native.Mathlib.Omega.{arith}
use native.Mathlib.Nat.{mod-eq_of_lt}
use lib.ListN.{length, length-append}
use lib.Seq.{take_all, take_at, drop_at}
use Rattle.laws.specs.Bytes.{Bytes}
use Rattle.laws.specs.Numbers.{le, le_bytes}
use Rattle.laws.proofs.Numbers.{le_bytes-le}
use Rattle.ed25519.specs.Verification.{verifies}
use Rattle.ed25519_group_laws.proofs.Order.{times-exactly}
use Rattle.ed25519_laws.proofs.Accepted.{Accepted, verified}

-- a signature of two halves that verifies: the second has 32 bytes and is accepted
halves : (key text R S : List ℕ) → length R ≡ 32 → verifies key text (R ++ S) ≡ true
    → (length S ≡ 32) × Accepted key text R S
halves key text R S r e =
    let h = verified key text (R ++ S) e in
    (omega (arith, sym (length-append R S) ∙ h.0, r), rw (take_at R S 32 r, drop_at R S 32 r) at h.1)

-- the bytes are those of their number
written : (S : List ℕ) → Bytes S → length S ≡ 32 → le_bytes 32 (le 32 S 0) ≡ S
written S bytes l = le_bytes-le S bytes 32 0 (omega arith) ∙ take_all 32 S (omega arith)

pub one-s : (key text R S1 S2 : List ℕ) → length R ≡ 32 → Bytes S1 → Bytes S2
    → verifies key text (R ++ S1) ≡ true → verifies key text (R ++ S2) ≡ true → S1 ≡ S2
one-s key text R S1 S2 r bytes1 bytes2 e1 e2 =
    let h1 = halves key text R S1 r e1 in
    let h2 = halves key text R S2 r e2 in
    let rest = (times-exactly (le 32 S1 0) (le 32 S2 0)).0 (h1.1.is ∙ sym h2.1.is) in
    let number : le 32 S1 0 ≡ le 32 S2 0 =
    sym (mod-eq_of_lt h1.1.low) ∙ rest ∙ mod-eq_of_lt h2.1.low in
    sym (written S1 bytes1 h1.0) ∙ ap (le_bytes 32) number ∙ written S2 bytes2 h2.0
