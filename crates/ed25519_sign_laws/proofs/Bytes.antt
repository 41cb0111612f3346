-- Numbers that are written are bytes, and so are digests, and bytes behind bytes.
use Prim.Native.Nat.{ℕ, zero, suc, ◌/◌}
use mathlib.Core.List.{List, [], ◌∷◌, ◌++◌}
use native.Mathlib.Omega.{arith}
use Rattle.laws.specs.Bytes.{Bytes}
use Rattle.laws.specs.Numbers.{le_bytes, be_bytes}
use Rattle.sha512.specs.Computation.{digest, Sha512}

pub bytes-append : (s t : List ℕ) → Bytes s → Bytes t → Bytes (s ++ t)
bytes-append [] t a b k = b k
bytes-append (x ∷ s) t a b zero = a zero
bytes-append (x ∷ s) t a b (suc k) = bytes-append s t (λ m. a (suc m)) b k

pub bytes-number : (m n : ℕ) → Bytes (le_bytes m n)
unfolding le_bytes
bytes-number zero n k = omega arith
bytes-number (suc m) n zero = omega arith
bytes-number (suc m) n (suc k) = bytes-number m (n / 256) k

bytes-upper : (m n : ℕ) → Bytes (be_bytes m n)
unfolding be_bytes
bytes-upper zero n k = omega arith
bytes-upper (suc m) n zero = omega arith
bytes-upper (suc m) n (suc k) = bytes-upper m n k

bytes-digest : (h : List ℕ) → Bytes (digest h)
unfolding digest
bytes-digest [] k = omega arith
bytes-digest (x ∷ h) k = bytes-append (be_bytes 8 x) (digest h) (bytes-upper 8 x) (bytes-digest h) k

pub bytes-sha512 : (m : List ℕ) → Bytes (Sha512 m)
unfolding Sha512
bytes-sha512 m = bytes-digest _
