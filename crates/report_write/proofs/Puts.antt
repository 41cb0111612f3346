-- Room for the next piece, and base64 put into a part of a buffer.
use Prim.Native.Nat.{ℕ, ◌+◌, ◌-◌, ◌≤◌}
use mathlib.Core.Path.{◌≡◌, ◌∙◌}
use mathlib.Core.List.{List, ◌++◌, append-nil}
use native.Mathlib.Omega.{arith}
use lib.ListN.{length, take, drop, length-append, drop_of_length-le}
use Rattle.laws.specs.Pasted.{pasted, fronted}
use Rattle.laws.specs.Written.{Puts}
use Rattle.laws.proofs.Pasted.{part-back, length_part}
use Rattle.laws.proofs.Written.{puts-length}
use Rattle.base64_strict.specs.Encode.{encode64}

-- a piece fits where it and the next one do
pub left-fits : {n : ℕ} (at : ℕ) (x y : List ℕ) → at + length (x ++ y) ≤ n → at + length x ≤ n
left-fits at x y h = omega (arith, length-append x y)

-- and then the next one does, behind it
pub right-fits : {o d : List ℕ} {at k : ℕ} (x y : List ℕ) → Puts o at x d k → at + length (x ++ y) ≤ length o
    → k + length y ≤ length d
right-fits x y p h = omega (arith, length-append x y, p.ends, puts-length p)

-- base64 in a part that is as long
pub code-back : {y : List ℕ} (x d : List ℕ) (at n : ℕ) → n ≡ length (encode64 x) → at + n ≤ length d
    → y ≡ fronted (encode64 x) (take (at + n - at) (drop at d))
    → take at d ++ (y ++ drop (at + n - at) (drop at d)) ≡ pasted d at (encode64 x)
code-back {y} x d at n q h e = part-back d at (at + n - at) (e ∙ whole) (omega arith)
  where
    short : length (take (at + n - at) (drop at d)) ≤ length (encode64 x)
    short = omega (arith, length_part d at (at + n) (omega arith) h)

    whole : fronted (encode64 x) (take (at + n - at) (drop at d)) ≡ encode64 x
    whole = rw (drop_of_length-le (take (at + n - at) (drop at d)) short) (append-nil (encode64 x))
