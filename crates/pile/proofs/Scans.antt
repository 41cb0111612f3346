-- A scan of a list that says whether a test holds somewhere in it.
use mathlib.Core.Path.{◌≡◌, refl, sym}
use mathlib.Core.Bool.{Bool, true, false}
use Prim.Native.Nat.{ℕ, ◌<◌}
use Rattle.laws.specs.Least.{somewhere}
use Rattle.laws.proofs.Least.{somewhere-here, nowhere}

pub scanned : (p : ℕ → Bool) (n : ℕ) (b : Bool) → (b ≡ true → (k : ℕ) × (k < n) × (p k ≡ true))
    → (b ≡ false → (k : ℕ) → k < n → p k ≡ false) → b ≡ somewhere p n
scanned p n true f g = let h = f refl in sym (somewhere-here p n h.0 h.1 h.2)
scanned p n false f g = sym (nowhere p n (g refl))
