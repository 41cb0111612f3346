-- `clash` is document 01's comparison in whole numbers.
use mathlib.Core.Path.{◌≡◌, refl, sym}
use mathlib.Core.Bool.{Bool, true, false, cond}
use Prim.Native.Nat.{ℕ, zero, suc, ◌+◌, ◌-◌}
use native.Mathlib.Omega.{arith}
use native.Mathlib.Nat.{add-zero}
use lib.Dec.{ltb}
use lib.IntN.{pos, negsuc, ◌-ℤ◌, ◌+ℤ◌}
use lib.Signed.{lt_z}
use borrow.Author.Tests.{ltb-true, le-ltb}
use Rattle.pile_runs.proofs.Told.{ltb-same}
use Rattle.pile_runs.specs.Clash.{clash}

-- t < m - r in whole numbers is t + r < m
below : (t m r : ℕ) → lt_z (pos t) (pos m -ℤ pos r) ≡ ltb (t + r) m
below t m zero = simp add-zero
below t m (suc r) = go (ltb m (suc r)) refl
  where
    go : (b : Bool) → ltb m (suc r) ≡ b
        → lt_z (pos t) (cond b (negsuc (suc r - suc m)) (pos (m - suc r))) ≡ ltb (t + suc r) m
    go true e = sym (le-ltb (t + suc r) m (omega (arith, ltb-true m (suc r) e)))
    go false e = ltb-same t (m - suc r) (t + suc r) m (λ l. omega arith) (λ l. omega arith)

-- MIDP - RADI, of the earlier, is above MIDP + RADI of the later
pub clash-whole : (midp radi later-midp later-radi : ℕ)
    → clash midp radi later-midp later-radi ≡ lt_z (pos later-midp +ℤ pos later-radi) (pos midp -ℤ pos radi)
clash-whole midp radi later-midp later-radi = sym (below (later-midp + later-radi) midp radi)
