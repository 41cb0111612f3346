-- Pieces of one size, as the library cuts them off a list.
use Prim.Native.Nat.{ℕ, zero, suc, ◌+◌, ◌*◌, ◌<◌}
use mathlib.Core.Path.{◌≡◌, refl, sym, ap, ◌∙◌}
use mathlib.Core.List.{List}
use native.Mathlib.Nat.{mul-zero, mul-suc, add_comm}
use native.Mathlib.Omega.{arith}
use lib.ListN.{take, drop, get_or}
use lib.Seq.{drop-drop}
use Rattle.std.specs.Simd.{first_chunks}

pub chunk_at : (c n : ℕ) (s : List ℕ) (k : ℕ) (d : List ℕ) → k < n
    → get_or (first_chunks c n s) k d ≡ take c (drop (c * k) s)
chunk_at c zero s k d h = elim h [ ]
chunk_at c (suc n) s zero d h = ap (λ i. take c (drop i s)) (sym (mul-zero c))
chunk_at c (suc n) s (suc k) d h =
    let e : c + c * k ≡ c * suc k = add_comm c (c * k) ∙ sym (mul-suc c k) in
    chunk_at c n (drop c s) k d (omega arith) ∙ ap (take c) (drop-drop (c * k) c s ∙ ap (λ i. drop i s) e)
